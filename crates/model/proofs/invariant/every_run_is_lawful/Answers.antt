use Rattle.model.proofs.invariant.every_run_is_lawful.Goals as goal
use Rattle.model.proofs.Tying.{every-run, going_on}

pub returns : goal.returns
returns c = record { run = every-run; step = going_on }
