use Rattle.std.proofs.Common.{rules, ◌≡◌, sym, refl, ◌∙◌, subst}
use Rattle.model.specs.declared.words.Session.{Session}
use Rattle.model.specs.declared.words.Session.TheVariants.{PreTrading, Trading, PostTrading}
use Rattle.model.specs.declared.calls.Call.TheVariants.{Cancel}
use Rattle.floor.specs.Replies.{cancelled}
use Rattle.floor.specs.Making.{Made}
use Rattle.floor.proofs.Running.{no-pass-cancel, quiet-made}
use Rattle.floor.proofs.runner.cancel.Goals as goal

pub returns-in-Closed : goal.returns-in-Closed
returns-in-Closed g c =
    let a = c.args in
    subst (λ (s : Session). Made g.R.Register.means g.M.MarketRule.means (Cancel s a.holder a.ticker a.number) a.floor.now.state a.floor.now.state a.strip.now a.strip.now c.no_pass.result) (sym c.in-Closed.is)
    (no-pass-cancel g.R.Register.means g.M.MarketRule.means a.floor.now.state a.strip.now a.holder a.ticker a.number c.no_pass.result c.no_pass.ensures)

pub returns-in-PreTrading : goal.returns-in-PreTrading
returns-in-PreTrading g c =
    let a = c.args in
    let e = c.cancel-cancelled.ensures in
    let told : c.map_or_else.result ≡ cancelled c.cancel-cancelled.result = search rules in
    subst (λ (s : Session). Made g.R.Register.means g.M.MarketRule.means (Cancel s a.holder a.ticker a.number) a.floor.now.state c.cancel-cancelled.new.self.state a.strip.now a.strip.now c.map_or_else.result) (sym c.in-PreTrading.is)
    (quiet-made g.R.Register.means g.M.MarketRule.means a.floor.now.state a.strip.now (Cancel PreTrading a.holder a.ticker a.number) refl c.cancel-cancelled.new.self.state c.map_or_else.result (told ∙ e.answer) e.leaves.world e.leaves.rule)

pub returns-in-Trading : goal.returns-in-Trading
returns-in-Trading g c =
    let a = c.args in
    let e = c.cancel-cancelled-in-Trading.ensures in
    let told : c.map_or_else-in-Trading.result ≡ cancelled c.cancel-cancelled-in-Trading.result = search rules in
    subst (λ (s : Session). Made g.R.Register.means g.M.MarketRule.means (Cancel s a.holder a.ticker a.number) a.floor.now.state c.cancel-cancelled-in-Trading.new.self.state a.strip.now a.strip.now c.map_or_else-in-Trading.result) (sym c.in-Trading.is)
    (quiet-made g.R.Register.means g.M.MarketRule.means a.floor.now.state a.strip.now (Cancel Trading a.holder a.ticker a.number) refl c.cancel-cancelled-in-Trading.new.self.state c.map_or_else-in-Trading.result (told ∙ e.answer) e.leaves.world e.leaves.rule)

pub returns-in-PostTrading : goal.returns-in-PostTrading
returns-in-PostTrading g c =
    let a = c.args in
    let e = c.cancel-cancelled-in-PostTrading.ensures in
    let told : c.map_or_else-in-PostTrading.result ≡ cancelled c.cancel-cancelled-in-PostTrading.result = search rules in
    subst (λ (s : Session). Made g.R.Register.means g.M.MarketRule.means (Cancel s a.holder a.ticker a.number) a.floor.now.state c.cancel-cancelled-in-PostTrading.new.self.state a.strip.now a.strip.now c.map_or_else-in-PostTrading.result) (sym c.in-PostTrading.is)
    (quiet-made g.R.Register.means g.M.MarketRule.means a.floor.now.state a.strip.now (Cancel PostTrading a.holder a.ticker a.number) refl c.cancel-cancelled-in-PostTrading.new.self.state c.map_or_else-in-PostTrading.result (told ∙ e.answer) e.leaves.world e.leaves.rule)
