use Rattle.std.proofs.Common.{sym, refl, ap, ◌∙◌}
use Rattle.std.proofs.lemmas.Result.{err_from_is_err_and}
use Rattle.model.specs.declared.calls.Call.TheVariants.{Start}
use Rattle.model.specs.declared.faults.Cause.TheVariants.{Floor as ByFloor}
use Rattle.model.specs.declared.faults.FloorRefusal.{FloorRefusal}
use Rattle.model.specs.declared.faults.FloorRefusal.TheVariants.{WrongSession, BadListing, SomethingBlocked}
use Rattle.floor.specs.declared.events.Event.TheVariants as event
use Rattle.floor.specs.Floors.{seen}
use Rattle.floor.proofs.Passing.{kept-met, kept-not, allowed-met, allowed-not}
use Rattle.floor.proofs.Called.{after-refused, after-taken, refused-result, taken-result}
use Rattle.floor.proofs.Starting.{open-refuses, listing-refuses, blocked-refuses, start-taken}
use Rattle.floor.proofs.state.State.begin.Goals as goal

pub returns-in_err-pre_trading : goal.returns-in_err-pre_trading
returns-in_err-pre_trading g c =
    let a = c.args in
    let r = g.M.MarketRule.means a.self.now.rule in
    let w = seen g.R.Register.means a.self.now in
    let p = err_from_is_err_and c.from_residual.result c.from_residual.ensures.1 in
    let not = allowed-not w.session event.Start c.in_err-pre_trading.field-0.0 c.in_err-pre_trading.ensures in
    let no = open-refuses r w a.listing not.0 in
    record {
      answer = refused-result r w (Start a.listing) tt c.from_residual.result p.0 (ByFloor WrongSession) no p.1 (p.2 ∙ ap (λ (e : FloorRefusal). ByFloor e) not.1);
      leaves = record { world = sym (after-refused r w (Start a.listing) (ByFloor WrongSession) no); rule = refl };
    }

pub returns-in_err-check : goal.returns-in_err-check
returns-in_err-check g c =
    let a = c.args in
    let r = g.M.MarketRule.means a.self.now.rule in
    let w = seen g.R.Register.means a.self.now in
    let p = err_from_is_err_and c.from_residual-in_err-check.result c.from_residual-in_err-check.ensures.1 in
    let ok = allowed-met w.session event.Start _ c.in_ok-pre_trading.ensures in
    let not = kept-not c.are_valid.result BadListing c.in_err-check.field-0.0 c.in_err-check.ensures in
    let no = listing-refuses r w a.listing ok.0 (sym c.are_valid.ensures ∙ not.0) in
    record {
      answer = refused-result r w (Start a.listing) tt c.from_residual-in_err-check.result p.0 (ByFloor BadListing) no p.1 (p.2 ∙ ap (λ (e : FloorRefusal). ByFloor e) not.1);
      leaves = record { world = sym (after-refused r w (Start a.listing) (ByFloor BadListing) no); rule = refl };
    }

pub returns-in_err-check-2 : goal.returns-in_err-check-2
returns-in_err-check-2 g c =
    let a = c.args in
    let r = g.M.MarketRule.means a.self.now.rule in
    let w = seen g.R.Register.means a.self.now in
    let p = err_from_is_err_and c.from_residual-in_err-check-2.result c.from_residual-in_err-check-2.ensures.1 in
    let ok = allowed-met w.session event.Start _ c.in_ok-pre_trading.ensures in
    let valid = sym c.are_valid.ensures ∙ kept-met _ _ _ c.in_ok-check.ensures in
    let not = kept-not c.is_quiet.result SomethingBlocked c.in_err-check-2.field-0.0 c.in_err-check-2.ensures in
    let no = blocked-refuses r w a.listing ok.0 valid (sym c.is_quiet.ensures ∙ not.0) in
    record {
      answer = refused-result r w (Start a.listing) tt c.from_residual-in_err-check-2.result p.0 (ByFloor SomethingBlocked) no p.1 (p.2 ∙ ap (λ (e : FloorRefusal). ByFloor e) not.1);
      leaves = record { world = sym (after-refused r w (Start a.listing) (ByFloor SomethingBlocked) no); rule = refl };
    }

pub returns : goal.returns
returns g c =
    let a = c.args in
    let r = g.M.MarketRule.means a.self.now.rule in
    let w = seen g.R.Register.means a.self.now in
    let ok = allowed-met w.session event.Start _ c.in_ok-pre_trading.ensures in
    let valid = sym c.are_valid.ensures ∙ kept-met _ _ _ c.in_ok-check.ensures in
    let quiet = sym c.is_quiet.ensures ∙ kept-met _ _ _ c.in_ok-check-2.ensures in
    let yes = start-taken r w a.listing ok.0 valid quiet in
    record {
      answer = taken-result r w (Start a.listing) tt tt yes refl;
      leaves = record { world = (λ i. record { book = w.book; session = ok.1 i; listing = a.listing; given = 0; sheets = c.start_books.ensures i }) ∙ sym (after-taken r w (Start a.listing) yes); rule = refl };
    }
