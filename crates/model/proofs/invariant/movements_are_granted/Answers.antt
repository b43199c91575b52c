use Rattle.model.proofs.invariant.movements_are_granted.Goals as goal
use Rattle.model.proofs.Soundness.{movements-are-granted, movements-name-accounts}

pub returns : goal.returns
returns c = record { granted = movements-are-granted; accounts = movements-name-accounts }
