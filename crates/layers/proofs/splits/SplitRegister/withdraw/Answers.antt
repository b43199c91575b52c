use Rattle.std.proofs.Common.{true, false}
use Rattle.register.specs.Moves.{Withdraw}
use Rattle.layers.specs.Splitting.{whole-after}
use Rattle.layers.proofs.splits.SplitRegister.withdraw.Goals as goal

pub returns-then-in_first-clause-after : goal.returns-then-in_first-clause-after
returns-then-in_first-clause-after g c =
    let p = g.P.Register.means c.args.self.now.first in
    let q = g.Q.Register.means c.args.self.now.second in
    whole-after true p q (Withdraw c.args.holder c.args.asset c.args.amount) c.if-in_first.ensures _ c.withdraw.ensures.after

pub returns-else-in_first-clause-after : goal.returns-else-in_first-clause-after
returns-else-in_first-clause-after g c =
    let p = g.P.Register.means c.args.self.now.first in
    let q = g.Q.Register.means c.args.self.now.second in
    whole-after false q p (Withdraw c.args.holder c.args.asset c.args.amount) c.if-in_first.ensures _ c.withdraw-else-in_first.ensures.after
