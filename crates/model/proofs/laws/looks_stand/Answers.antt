use Rattle.model.proofs.laws.looks_stand.Goals as goal
use Rattle.model.proofs.Looking.{looks-are-right}

pub returns : goal.returns
returns c = looks-are-right
