use Rattle.model.proofs.invariant.numbers_fit.Goals as goal
use Rattle.model.proofs.Soundness.{strips-suffice, sums-fit}

pub returns : goal.returns
returns c = record { strips = strips-suffice; sums = sums-fit }
