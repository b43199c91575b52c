use Rattle.std.proofs.Common.{length, sym, subst}
use Rattle.model.specs.declared.words.Session.{Session}
use Rattle.model.specs.declared.calls.Call.TheVariants.{Place}
use Rattle.floor.specs.Making.{Made}
use Rattle.floor.proofs.Running.{no-pass-bid}
use Rattle.floor.proofs.runner.place.Goals as goal

pub returns-in-Closed : goal.returns-in-Closed
returns-in-Closed g c =
    let a = c.args in
    subst (λ (s : Session). Made g.R.Register.means g.M.MarketRule.means (Place s a.bid (length a.strip.now)) a.floor.now.state a.floor.now.state a.strip.now a.strip.now c.no_pass.result) (sym c.in-Closed.is)
    (no-pass-bid g.R.Register.means g.M.MarketRule.means a.floor.now.state a.strip.now a.bid (length a.strip.now) c.no_pass.result c.no_pass.ensures)
