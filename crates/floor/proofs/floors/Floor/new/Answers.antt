use Rattle.std.proofs.Common.{sym, refl, subst}
use Rattle.model.specs.Sound.{Sound}
use Rattle.model.proofs.Making.{made-floors-are-sound}
use Rattle.floor.proofs.floors.Floor.new.Goals as goal

pub returns : goal.returns
returns g c = record { world = c.closed.ensures (g.R.Register.means c.args.register); rule = refl }

pub invariant_of-result : goal.invariant_of-result
invariant_of-result g c =
    let r = g.M.MarketRule.means c.args.rule in
    let k = g.R.Register.means c.args.register in
    record { sound = subst (Sound r.step) (sym (c.closed.ensures k)) (made-floors-are-sound r k) }
