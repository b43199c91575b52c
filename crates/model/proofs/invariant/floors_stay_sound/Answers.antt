use Rattle.model.proofs.invariant.floors_stay_sound.Goals as goal
use Rattle.model.proofs.Making.{made-floors-are-sound}
use Rattle.model.proofs.Soundness.{calls-keep-sound, always-sound, always-within}

pub returns : goal.returns
returns c = record { made = made-floors-are-sound; kept = calls-keep-sound; always = always-sound; within = always-within }
