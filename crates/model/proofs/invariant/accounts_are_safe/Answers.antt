use Rattle.model.proofs.invariant.accounts_are_safe.Goals as goal
use Rattle.model.proofs.Following.{accounts-stay-within, totals-change, nothing-blocked, numbers-rise}
use Rattle.model.proofs.Apart.{floors-give-all-back}

pub returns : goal.returns
returns c = record { within = accounts-stay-within; totals = totals-change; ends = nothing-blocked; numbers = numbers-rise; apart = floors-give-all-back }
