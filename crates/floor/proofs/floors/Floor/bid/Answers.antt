use Rattle.std.proofs.Common.{◌++◌, length, drop, refl, ap, ◌∙◌}
use Rattle.model.specs.declared.words.Session.{Session}
use Rattle.model.specs.declared.calls.Call.{Call}
use Rattle.model.specs.declared.calls.Call.TheVariants.{Place}
use Rattle.model.specs.Calls.{answer, after, trades, receipt}
use Rattle.floor.specs.Floors.{seen}
use Rattle.floor.specs.Replies.{placed}
use Rattle.floor.proofs.Called.{raised-answer, still-sound}
use Rattle.floor.proofs.Bargained.{bargained}
use Rattle.floor.proofs.floors.Floor.bid.Goals as goal

pub returns : goal.returns
returns g c =
    let a = c.args in
    let r = g.M.MarketRule.means a.self.now.state.rule in
    let w = seen g.R.Register.means a.self.now.state in
    let k : Session → Call = λ s. Place s a.bid (length a.strip.now) in
    let p = c.place-placed.ensures in
    let s = c.session.ensures in
    let world = p.leaves.world ∙ ap (λ (x : Session). after r w (k x)) s in
    let said = ap placed c.raise.ensures ∙ raised-answer r w (k c.session.result) placed (λ f. refl) (receipt w a.bid) c.place-placed.result refl p.answer ∙ ap (λ (x : Session). answer r w (k x)) s in
    let strip = p.strip ∙ ap (λ (x : Session). trades r w (k x) ++ drop (length (trades r w (k x))) a.strip.now) s in
    record {
      answer = said;
      leaves = record { world = world; rule = p.leaves.rule };
      strip = strip;
      bargain = bargained r (g.met.M.MarketRule.lawful a.self.now.state.rule) w (seen g.R.Register.means c.place-placed.new.self) g.P.Pass.serving a.bid (length a.strip.now) a.strip.now c.place-placed.new.strip a.self.now.sound world c.raise.result said strip;
    }

pub invariant_of-self : goal.invariant_of-self
invariant_of-self g c =
    let a = c.args in
    let p = c.place-placed.ensures in
    record { sound = still-sound g.R.Register.means g.M.MarketRule.means a.self.now.state c.place-placed.new.self (Place c.session.result a.bid (length a.strip.now)) (g.met.M.MarketRule.lawful a.self.now.state.rule) a.self.now.sound p.leaves.world p.leaves.rule }
