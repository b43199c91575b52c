use Rattle.model.proofs.invariant.accounts_come_out.Goals as goal
use Rattle.model.proofs.Balances.{accounts-come-out}

pub returns : goal.returns
returns c = accounts-come-out
