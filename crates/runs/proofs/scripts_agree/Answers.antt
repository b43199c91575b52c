use Rattle.model.specs.Words.{refl}
use Rattle.runs.proofs.scripts_agree.Goals as goal
use Rattle.runs.proofs.Computed.{every-script-agrees}

pub returns : goal.returns
returns c = record { agree = every-script-agrees; calls = refl }
