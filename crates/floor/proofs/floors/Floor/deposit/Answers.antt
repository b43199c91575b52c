use Rattle.std.proofs.Common.{rules, ◌≡◌, sym, refl, ap, ◌∙◌}
use Rattle.register.specs.Moves as move
use Rattle.register.specs.Moves.{refusal}
use Rattle.model.specs.Checks.{by_register}
use Rattle.model.specs.declared.calls.Call.TheVariants.{Deposit}
use Rattle.floor.specs.Desks.{world_of}
use Rattle.floor.specs.Floors.{seen}
use Rattle.floor.specs.Replies.{done, unless}
use Rattle.floor.proofs.Called.{raised-answer, deposit-why, deposit-after, still-sound}
use Rattle.floor.proofs.floors.Floor.deposit.Goals as goal

pub returns : goal.returns
returns g c =
    let a = c.args in
    let r = g.M.MarketRule.means a.self.now.state.rule in
    let w = seen g.R.Register.means a.self.now.state in
    let up : c.map_err.result ≡ unless (by_register (refusal w.book (move.Deposit a.holder a.asset a.amount))) tt = search rules in
    record {
      answer = ap done c.raise.ensures ∙ raised-answer r w (Deposit a.holder a.asset a.amount) done (λ f. refl) tt c.map_err.result refl (up ∙ ap (λ o. unless o tt) (sym (deposit-why r w a.holder a.asset a.amount)));
      leaves = record { world = (λ i. world_of (c.deposit-kept.ensures.after i) a.self.now.state.desk) ∙ sym (deposit-after r w a.holder a.asset a.amount); rule = refl };
    }

pub invariant_of-self : goal.invariant_of-self
invariant_of-self g c =
    let a = c.args in
    let s = a.self.now.state in
    let world = (λ i. world_of (c.deposit-kept.ensures.after i) s.desk) ∙ sym (deposit-after (g.M.MarketRule.means s.rule) (seen g.R.Register.means s) a.holder a.asset a.amount) in
    record { sound = still-sound g.R.Register.means g.M.MarketRule.means a.self.now.state (record { register = c.deposit-kept.new.self; rule = s.rule; desk = s.desk }) (Deposit a.holder a.asset a.amount) (g.met.M.MarketRule.lawful a.self.now.state.rule) a.self.now.sound world refl }
