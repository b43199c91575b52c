use Rattle.std.proofs.Common.{ℕ, true, false, ltb, ap, ◌∙◌}
use Rattle.register.specs.Moves.{Release}
use Rattle.layers.specs.Splitting.{whole-after}
use Rattle.layers.proofs.splits.SplitRegister.release.Goals as goal

pub returns-then-in_first-clause-after : goal.returns-then-in_first-clause-after
returns-then-in_first-clause-after g c =
    let p = g.P.Register.means c.args.self.now.first in
    let q = g.Q.Register.means c.args.self.now.second in
    let slip = c.args.slip in
    whole-after true p q (Release slip.holder slip.asset slip.amount) (c.if-in_first.ensures ∙ ap (λ (a : ℕ). ltb a 4) c.asset.ensures) _ c.release.ensures.after

pub returns-else-in_first-clause-after : goal.returns-else-in_first-clause-after
returns-else-in_first-clause-after g c =
    let p = g.P.Register.means c.args.self.now.first in
    let q = g.Q.Register.means c.args.self.now.second in
    let slip = c.args.slip in
    whole-after false q p (Release slip.holder slip.asset slip.amount) (c.if-in_first.ensures ∙ ap (λ (a : ℕ). ltb a 4) c.asset.ensures) _ c.release-else-in_first.ensures.after
