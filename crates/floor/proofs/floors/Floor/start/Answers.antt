use Rattle.std.proofs.Common.{Err, sym, refl, ap, ◌∙◌}
use Rattle.std.proofs.lemmas.Result.{err_from_is_err_and}
use Rattle.model.specs.declared.calls.Call.TheVariants.{Start}
use Rattle.floor.specs.Floors.{seen}
use Rattle.floor.specs.Replies.{done}
use Rattle.floor.proofs.Called.{raised-answer, still-sound}
use Rattle.floor.proofs.floors.Floor.start.Goals as goal

pub returns-in_err-raise : goal.returns-in_err-raise
returns-in_err-raise g c =
    let a = c.args in
    let r = g.M.MarketRule.means a.self.now.state.rule in
    let w = seen g.R.Register.means a.self.now.state in
    let b = c.begin-begun.ensures in
    let p = err_from_is_err_and c.from_residual.result c.from_residual.ensures.1 in
    record {
      answer = ap done (p.1 ∙ ap Err p.2) ∙ ap done (sym c.in_err-raise.was) ∙ ap done c.raise.ensures ∙ raised-answer r w (Start a.listing) done (λ f. refl) tt c.begin-begun.result refl b.answer;
      leaves = record { world = b.leaves.world; rule = b.leaves.rule };
    }

pub returns : goal.returns
returns g c =
    let a = c.args in
    let r = g.M.MarketRule.means a.self.now.state.rule in
    let w = seen g.R.Register.means a.self.now.state in
    let b = c.begin-begun.ensures in
    record {
      answer = ap done (sym c.in_ok-raise.was) ∙ ap done c.raise.ensures ∙ raised-answer r w (Start a.listing) done (λ f. refl) tt c.begin-begun.result refl b.answer;
      leaves = record { world = b.leaves.world; rule = b.leaves.rule };
    }

pub invariant_of-self : goal.invariant_of-self
invariant_of-self g c =
    let a = c.args in
    let b = c.begin-begun.ensures in
    record { sound = still-sound g.R.Register.means g.M.MarketRule.means a.self.now.state c.begin-begun.new.self (Start a.listing) (g.met.M.MarketRule.lawful a.self.now.state.rule) a.self.now.sound b.leaves.world b.leaves.rule }
