use Rattle.model.proofs.laws.average_stands.Goals as goal
use Rattle.model.proofs.Rounding.{average-laws, rounded-down}

pub returns : goal.returns
returns c = record { bounds = average-laws; rounded = rounded-down }
