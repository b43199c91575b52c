use Rattle.std.proofs.Common.{rules, ◌≡◌, length, sym, refl, ◌∙◌, subst}
use Rattle.model.specs.declared.calls.Call.{Call}
use Rattle.model.specs.declared.calls.Call.TheVariants.{Start, Deposit, Withdraw, EndTrading, EndPostTrading}
use Rattle.floor.specs.Replies.{done, changed}
use Rattle.floor.specs.Lists.{lent}
use Rattle.floor.specs.Making.{Made}
use Rattle.floor.proofs.Running.{quiet-made}
use Rattle.floor.proofs.runner.make_call.Goals as goal

pub returns-in-Start : goal.returns-in-Start
returns-in-Start g c =
    let a = c.args in
    let e = c.start.ensures in
    let told : c.map_or_else.result ≡ done c.start.result = search rules in
    subst (λ (x : Call). Made g.R.Register.means g.M.MarketRule.means (lent (length a.strip.now) x) a.floor.now.state c.start.new.self.state a.strip.now a.strip.now c.map_or_else.result) (sym c.in-Start.is)
    (quiet-made g.R.Register.means g.M.MarketRule.means a.floor.now.state a.strip.now (Start c.in-Start.listing) refl c.start.new.self.state c.map_or_else.result (told ∙ e.answer) e.leaves.world e.leaves.rule)

pub returns-in-Deposit : goal.returns-in-Deposit
returns-in-Deposit g c =
    let a = c.args in
    let e = c.deposit.ensures in
    let told : c.map_or_else-in-Deposit.result ≡ done c.deposit.result = search rules in
    subst (λ (x : Call). Made g.R.Register.means g.M.MarketRule.means (lent (length a.strip.now) x) a.floor.now.state c.deposit.new.self.state a.strip.now a.strip.now c.map_or_else-in-Deposit.result) (sym c.in-Deposit.is)
    (quiet-made g.R.Register.means g.M.MarketRule.means a.floor.now.state a.strip.now (Deposit c.in-Deposit.holder c.in-Deposit.asset c.in-Deposit.amount) refl c.deposit.new.self.state c.map_or_else-in-Deposit.result (told ∙ e.answer) e.leaves.world e.leaves.rule)

pub returns-in-Withdraw : goal.returns-in-Withdraw
returns-in-Withdraw g c =
    let a = c.args in
    let e = c.withdraw.ensures in
    let told : c.map_or_else-in-Withdraw.result ≡ done c.withdraw.result = search rules in
    subst (λ (x : Call). Made g.R.Register.means g.M.MarketRule.means (lent (length a.strip.now) x) a.floor.now.state c.withdraw.new.self.state a.strip.now a.strip.now c.map_or_else-in-Withdraw.result) (sym c.in-Withdraw.is)
    (quiet-made g.R.Register.means g.M.MarketRule.means a.floor.now.state a.strip.now (Withdraw c.in-Withdraw.holder c.in-Withdraw.asset c.in-Withdraw.amount) refl c.withdraw.new.self.state c.map_or_else-in-Withdraw.result (told ∙ e.answer) e.leaves.world e.leaves.rule)

pub returns-in-EndTrading : goal.returns-in-EndTrading
returns-in-EndTrading g c =
    let a = c.args in
    let e = c.end_trading.ensures in
    let told : c.map_or_else-in-EndTrading.result ≡ changed c.end_trading.result = search rules in
    subst (λ (x : Call). Made g.R.Register.means g.M.MarketRule.means (lent (length a.strip.now) x) a.floor.now.state c.end_trading.new.self.state a.strip.now a.strip.now c.map_or_else-in-EndTrading.result) (sym c.in-EndTrading.is)
    (quiet-made g.R.Register.means g.M.MarketRule.means a.floor.now.state a.strip.now (EndTrading) refl c.end_trading.new.self.state c.map_or_else-in-EndTrading.result (told ∙ e.answer) e.leaves.world e.leaves.rule)

pub returns-in-EndPostTrading : goal.returns-in-EndPostTrading
returns-in-EndPostTrading g c =
    let a = c.args in
    let e = c.end_post_trading-ended.ensures in
    let told : c.map_or_else-in-EndPostTrading.result ≡ changed c.end_post_trading-ended.result = search rules in
    subst (λ (x : Call). Made g.R.Register.means g.M.MarketRule.means (lent (length a.strip.now) x) a.floor.now.state c.end_post_trading-ended.new.self.state a.strip.now a.strip.now c.map_or_else-in-EndPostTrading.result) (sym c.in-EndPostTrading.is)
    (quiet-made g.R.Register.means g.M.MarketRule.means a.floor.now.state a.strip.now (EndPostTrading) refl c.end_post_trading-ended.new.self.state c.map_or_else-in-EndPostTrading.result (told ∙ e.answer) e.leaves.world e.leaves.rule)
