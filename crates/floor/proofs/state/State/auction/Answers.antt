use Rattle.std.proofs.Common.{◌≡◌, true, leb, length, sym, refl, ap, ◌∙◌, arith}
use Rattle.std.proofs.lemmas.Bool.Decides.{nat_tests}
use Rattle.std.proofs.lemmas.Result.{err_from_is_err_and}
use Rattle.model.specs.declared.calls.Call.TheVariants.{Open}
use Rattle.model.specs.declared.faults.Cause.TheVariants.{Floor as ByFloor}
use Rattle.model.specs.declared.faults.FloorRefusal.{FloorRefusal}
use Rattle.model.specs.declared.faults.FloorRefusal.TheVariants.{WrongSession, ShortStrip}
use Rattle.model.specs.Market.{opening_room}
use Rattle.model.specs.Calls.{trades_made}
use Rattle.model.proofs.Auction.{is-pre}
use Rattle.auction.proofs.Readying.{ready-to-open}
use Rattle.floor.specs.declared.events.Event.TheVariants as event
use Rattle.floor.specs.Floors.{seen}
use Rattle.floor.proofs.Passing.{kept-met, kept-not, allowed-met, allowed-not}
use Rattle.floor.proofs.Called.{after-refused, after-taken, refused-result, taken-result, refused-strip, taken-strip}
use Rattle.floor.proofs.OpenedFloor.{session-refuses, strip-refuses, open-taken, none-fair}
use Rattle.floor.proofs.state.State.auction.Goals as goal

pub returns-in_err-session : goal.returns-in_err-session
returns-in_err-session g c =
    let a = c.args in
    let r = g.M.MarketRule.means a.self.now.rule in
    let w = seen g.R.Register.means a.self.now in
    let room = length a.strip.now in
    let p = err_from_is_err_and c.from_residual.result c.from_residual.ensures.1 in
    let not = allowed-not w.session event.Open c.in_err-session.field-0.0 c.in_err-session.ensures in
    let no = session-refuses r w room not.0 in
    record {
      answer = refused-result r w (Open room) (length (trades_made w (Open room))) c.from_residual.result p.0 (ByFloor WrongSession) no p.1 (p.2 ∙ ap (λ (e : FloorRefusal). ByFloor e) not.1);
      leaves = record { world = sym (after-refused r w (Open room) (ByFloor WrongSession) no); rule = refl };
      strip = refused-strip r w (Open room) (ByFloor WrongSession) a.strip.now no;
      fair = none-fair w c.from_residual.result p.0 a.strip.now p.1;
    }

pub returns-in_err-check : goal.returns-in_err-check
returns-in_err-check g c =
    let a = c.args in
    let r = g.M.MarketRule.means a.self.now.rule in
    let w = seen g.R.Register.means a.self.now in
    let room = length a.strip.now in
    let p = err_from_is_err_and c.from_residual-in_err-check.result c.from_residual-in_err-check.ensures.1 in
    let ok = allowed-met w.session event.Open _ c.in_ok-session.ensures in
    let not = kept-not _ ShortStrip c.in_err-check.field-0.0 c.in_err-check.ensures in
    let no = strip-refuses r w room ok.0 not.0 in
    record {
      answer = refused-result r w (Open room) (length (trades_made w (Open room))) c.from_residual-in_err-check.result p.0 (ByFloor ShortStrip) no p.1 (p.2 ∙ ap (λ (e : FloorRefusal). ByFloor e) not.1);
      leaves = record { world = sym (after-refused r w (Open room) (ByFloor ShortStrip) no); rule = refl };
      strip = refused-strip r w (Open room) (ByFloor ShortStrip) a.strip.now no;
      fair = none-fair w c.from_residual-in_err-check.result p.0 a.strip.now p.1;
    }

pub open_books-count-requires : goal.open_books-count-requires
open_books-count-requires g c =
    let a = c.args in
    let r = g.M.MarketRule.means a.self.now.rule in
    let w = seen g.R.Register.means a.self.now in
    let room = length a.strip.now in
    let ok = allowed-met w.session event.Open _ c.in_ok-session.ensures in
    let long : leb opening_room room ≡ true = kept-met _ _ _ c.in_ok-check.ensures in
    let yes = open-taken r w room ok.0 long in
    record { eight = c.args.self.now.desk.eight; room = grind (arith, nat_tests); ready = ready-to-open r w c.requires (is-pre r w room yes) }

pub returns : goal.returns
returns g c =
    let a = c.args in
    let r = g.M.MarketRule.means a.self.now.rule in
    let w = seen g.R.Register.means a.self.now in
    let room = length a.strip.now in
    let ok = allowed-met w.session event.Open _ c.in_ok-session.ensures in
    let yes = open-taken r w room ok.0 (kept-met _ _ _ c.in_ok-check.ensures) in
    let e = c.open_books-count.ensures in
    record {
      answer = taken-result r w (Open room) (length (trades_made w (Open room))) c.open_books-count.result yes e.count;
      leaves = record { world = (λ i. record { book = e.book i; session = ok.1 i; listing = w.listing; given = w.given; sheets = e.sheets i }) ∙ sym (after-taken r w (Open room) yes); rule = refl };
      strip = taken-strip r w (Open room) a.strip.now c.open_books-count.new.strip yes e.strip;
      fair = e.fair;
    }
