use Rattle.std.proofs.Common.{ℕ, length, Result, sym, refl, ap, ◌∙◌, subst}
use Rattle.model.specs.declared.calls.Call.TheVariants.{Open}
use Rattle.model.specs.declared.faults.Cause.{Cause}
use Rattle.model.specs.declared.faults.CallKind.TheVariants.{Open as Open'}
use Rattle.model.specs.Calls.{trades_made}
use Rattle.floor.specs.Floors.{seen}
use Rattle.floor.specs.Fairness.{FairOpening}
use Rattle.floor.proofs.Called.{raised-answer, still-sound}
use Rattle.floor.proofs.OpenedFloor.{opening, raised-ok}
use Rattle.floor.proofs.floors.Floor.open.Goals as goal

pub returns-in-Ok : goal.returns-in-Ok
returns-in-Ok g c =
    let a = c.args in
    let r = g.M.MarketRule.means a.self.now.state.rule in
    let w = seen g.R.Register.means a.self.now.state in
    let b = c.auction-opened.ensures in
    record {
      answer = ap opening (sym c.in-Ok.is ∙ c.raise.ensures) ∙ raised-answer r w (Open (length a.strip.now)) opening (λ f. refl) (length (trades_made w (Open (length a.strip.now)))) c.auction-opened.result refl b.answer;
      leaves = record { world = b.leaves.world; rule = b.leaves.rule };
      strip = b.strip;
      fair = subst (λ (z : Result ℕ Cause). FairOpening w z c.auction-opened.new.strip) (raised-ok Open' 0 c.auction-opened.result c.in-Ok.count (sym c.in-Ok.is ∙ c.raise.ensures)) b.fair;
    }

pub returns-in-Err : goal.returns-in-Err
returns-in-Err g c =
    let a = c.args in
    let r = g.M.MarketRule.means a.self.now.state.rule in
    let w = seen g.R.Register.means a.self.now.state in
    let b = c.auction-opened.ensures in
    record {
      answer = ap opening (sym c.in-Err.is ∙ c.raise.ensures) ∙ raised-answer r w (Open (length a.strip.now)) opening (λ f. refl) (length (trades_made w (Open (length a.strip.now)))) c.auction-opened.result refl b.answer;
      leaves = record { world = b.leaves.world; rule = b.leaves.rule };
      strip = b.strip;
      fair = tt;
    }

pub invariant_of-self : goal.invariant_of-self
invariant_of-self g c =
    let a = c.args in
    let b = c.auction-opened.ensures in
    record { sound = still-sound g.R.Register.means g.M.MarketRule.means a.self.now.state c.auction-opened.new.self (Open (length a.strip.now)) (g.met.M.MarketRule.lawful a.self.now.state.rule) a.self.now.sound b.leaves.world b.leaves.rule }
