use Rattle.std.proofs.Common.{rules}
use Rattle.model.proofs.Rounding.{average-quotient}
use Rattle.model.proofs.averages.average_price.Goals as goal

pub returns : goal.returns
returns c = average-quotient c.args.worth c.args.lots _ (search rules)
