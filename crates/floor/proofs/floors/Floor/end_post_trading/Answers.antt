use Rattle.std.proofs.Common.{sym, refl, ap, ◌∙◌, subst}
use Rattle.model.specs.declared.calls.Call.TheVariants.{EndPostTrading}
use Rattle.floor.specs.declared.events.Event.TheVariants as event
use Rattle.floor.specs.Floors.{seen}
use Rattle.floor.specs.Replies.{done, unless}
use Rattle.floor.specs.Ends.{NothingStands}
use Rattle.floor.proofs.Called.{raised-answer, still-sound}
use Rattle.floor.proofs.Ending.{ends-post-trading, end-why, end_after, end-empties}
use Rattle.floor.proofs.floors.Floor.end_post_trading.Goals as goal

pub returns-in-Ok : goal.returns-in-Ok
returns-in-Ok g c =
    let a = c.args in
    let r = g.M.MarketRule.means a.self.now.state.rule in
    let w = seen g.R.Register.means a.self.now.state in
    let b = c.end-ended.ensures in
    let world = b.leaves.world ∙ end_after event.EndPostTrading EndPostTrading ends-post-trading r w in
    let said = ap done (sym c.in-Ok.is ∙ c.raise.ensures) ∙ raised-answer r w EndPostTrading done (λ f. refl) tt c.end-ended.result refl (b.answer ∙ ap (λ o. unless o tt) (sym (end-why event.EndPostTrading EndPostTrading ends-post-trading r w))) in
    record {
      answer = said;
      leaves = record { world = world; rule = b.leaves.rule };
      ended = λ e. subst NothingStands (sym world) (end-empties event.EndPostTrading EndPostTrading ends-post-trading r w r.step a.self.now.sound (sym said ∙ e));
    }

pub returns-in-Err : goal.returns-in-Err
returns-in-Err g c =
    let a = c.args in
    let r = g.M.MarketRule.means a.self.now.state.rule in
    let w = seen g.R.Register.means a.self.now.state in
    let b = c.end-ended.ensures in
    let world = b.leaves.world ∙ end_after event.EndPostTrading EndPostTrading ends-post-trading r w in
    let said = ap done (sym c.in-Err.is ∙ c.raise.ensures) ∙ raised-answer r w EndPostTrading done (λ f. refl) tt c.end-ended.result refl (b.answer ∙ ap (λ o. unless o tt) (sym (end-why event.EndPostTrading EndPostTrading ends-post-trading r w))) in
    record {
      answer = said;
      leaves = record { world = world; rule = b.leaves.rule };
      ended = λ e. subst NothingStands (sym world) (end-empties event.EndPostTrading EndPostTrading ends-post-trading r w r.step a.self.now.sound (sym said ∙ e));
    }

pub invariant_of-self : goal.invariant_of-self
invariant_of-self g c =
    let a = c.args in
    let b = c.end-ended.ensures in
    let world = b.leaves.world ∙ end_after event.EndPostTrading EndPostTrading ends-post-trading (g.M.MarketRule.means a.self.now.state.rule) (seen g.R.Register.means a.self.now.state) in
    record { sound = still-sound g.R.Register.means g.M.MarketRule.means a.self.now.state c.end-ended.new.self EndPostTrading (g.met.M.MarketRule.lawful a.self.now.state.rule) a.self.now.sound world b.leaves.rule }
