use Rattle.std.proofs.Common.{refl, ap, ◌∙◌}
use Rattle.model.specs.declared.words.Session.{Session}
use Rattle.model.specs.declared.calls.Call.{Call}
use Rattle.model.specs.declared.calls.Call.TheVariants.{Cancel}
use Rattle.model.specs.Calls.{answer, after, cancelled_lots}
use Rattle.floor.specs.Floors.{seen}
use Rattle.floor.specs.Replies.{cancelled}
use Rattle.floor.proofs.Called.{raised-answer, still-sound}
use Rattle.floor.proofs.floors.Floor.cancel.Goals as goal

pub returns : goal.returns
returns g c =
    let a = c.args in
    let r = g.M.MarketRule.means a.self.now.state.rule in
    let w = seen g.R.Register.means a.self.now.state in
    let k : Session → Call = λ s. Cancel s a.holder a.ticker a.number in
    let p = c.take_back-taken.ensures in
    let s = c.session.ensures in
    let world = p.leaves.world ∙ ap (λ (x : Session). after r w (k x)) s in
    record {
      answer = ap cancelled c.raise.ensures ∙ raised-answer r w (k c.session.result) cancelled (λ f. refl) (cancelled_lots w a.holder a.ticker a.number) c.take_back-taken.result refl p.answer ∙ ap (λ (x : Session). answer r w (k x)) s;
      leaves = record { world = world; rule = p.leaves.rule };
    }

pub invariant_of-self : goal.invariant_of-self
invariant_of-self g c =
    let a = c.args in
    let p = c.take_back-taken.ensures in
    record { sound = still-sound g.R.Register.means g.M.MarketRule.means a.self.now.state c.take_back-taken.new.self (Cancel c.session.result a.holder a.ticker a.number) (g.met.M.MarketRule.lawful a.self.now.state.rule) a.self.now.sound p.leaves.world p.leaves.rule }
