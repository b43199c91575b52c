use Rattle.std.proofs.Common.{arith}
use Rattle.rules.proofs.Obligations.{something, bounded}
use Rattle.rules.proofs.laws.obligation_stands.Goals as goal

pub returns : goal.returns
returns c = record { something = something; bounded = λ side price lots p n. omega (arith, bounded side price lots p n) }
