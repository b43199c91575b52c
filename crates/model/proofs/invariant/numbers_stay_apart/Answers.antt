use Rattle.model.proofs.invariant.numbers_stay_apart.Goals as goal
use Rattle.model.proofs.Days.{numbers_apart}

pub returns : goal.returns
returns c = numbers_apart
