use Rattle.std.proofs.Common.{List, sym, refl, ap, ◌∙◌, subst}
use Rattle.std.proofs.lemmas.Bool.{and_parts}
use Rattle.std.proofs.lemmas.Result.{err_from_is_err_and}
use Rattle.register.specs.Moves.{Move, refusal, moved}
use Rattle.model.specs.declared.calls.Call.{Call}
use Rattle.model.specs.declared.calls.Call.TheVariants.{Cancel}
use Rattle.model.specs.declared.faults.Cause.TheVariants.{Floor as ByFloor}
use Rattle.model.specs.declared.faults.FloorRefusal.{FloorRefusal}
use Rattle.model.specs.declared.faults.FloorRefusal.TheVariants.{WrongSession, NoHolderOrTicker, NoSuchBid}
use Rattle.model.specs.Movements.{Granted, moved_all}
use Rattle.model.specs.Calls.{cancelled_lots, with_sheet}
use Rattle.model.proofs.Soundness.{next-granted}
use Rattle.queues.specs.Sheets.{sheets_of}
use Rattle.floor.specs.declared.events.Event.TheVariants as event
use Rattle.floor.specs.Floors.{seen}
use Rattle.floor.proofs.Passing.{kept-met, kept-not, allowed-met, allowed-not}
use Rattle.floor.proofs.Called.{after-refused, after-taken, refused-result, taken-result}
use Rattle.model.specs.World.{World}
use Rattle.model.specs.Listings.{asset_of_lem}
use Rattle.floor.proofs.TakenBack.{found, missed, session-refuses, unknown-refuses, missing-refuses, cancel-taken, with-same, freeing-is, nothing-named}
use Rattle.floor.proofs.state.State.take_back.Goals as goal

pub returns-in_err-allowed : goal.returns-in_err-allowed
returns-in_err-allowed g c =
    let a = c.args in
    let r = g.M.MarketRule.means a.self.now.rule in
    let w = seen g.R.Register.means a.self.now in
    let k : Call = Cancel a.shown a.holder a.ticker a.number in
    let p = err_from_is_err_and c.from_residual.result c.from_residual.ensures.1 in
    let not = allowed-not w.session (event.Cancel a.shown) c.in_err-allowed.field-0.0 c.in_err-allowed.ensures in
    let no = session-refuses r w a.shown a.holder a.ticker a.number not.0 in
    record {
      answer = refused-result r w k (cancelled_lots w a.holder a.ticker a.number) c.from_residual.result p.0 (ByFloor WrongSession) no p.1 (p.2 ∙ ap (λ (e : FloorRefusal). ByFloor e) not.1);
      leaves = record { world = sym (after-refused r w k (ByFloor WrongSession) no); rule = refl };
    }

pub returns-in_err-check : goal.returns-in_err-check
returns-in_err-check g c =
    let a = c.args in
    let r = g.M.MarketRule.means a.self.now.rule in
    let w = seen g.R.Register.means a.self.now in
    let k : Call = Cancel a.shown a.holder a.ticker a.number in
    let p = err_from_is_err_and c.from_residual-in_err-check.result c.from_residual-in_err-check.ensures.1 in
    let ok = allowed-met w.session (event.Cancel a.shown) _ c.in_ok-allowed.ensures in
    let not = kept-not c.is_known.result NoHolderOrTicker c.in_err-check.field-0.0 c.in_err-check.ensures in
    let no = unknown-refuses r w a.shown a.holder a.ticker a.number ok.0 (sym c.is_known.ensures ∙ not.0) in
    record {
      answer = refused-result r w k (cancelled_lots w a.holder a.ticker a.number) c.from_residual-in_err-check.result p.0 (ByFloor NoHolderOrTicker) no p.1 (p.2 ∙ ap (λ (e : FloorRefusal). ByFloor e) not.1);
      leaves = record { world = sym (after-refused r w k (ByFloor NoHolderOrTicker) no); rule = refl };
    }

pub returns-in_err-side : goal.returns-in_err-side
returns-in_err-side g c =
    let a = c.args in
    let r = g.M.MarketRule.means a.self.now.rule in
    let w = seen g.R.Register.means a.self.now in
    let k : Call = Cancel a.shown a.holder a.ticker a.number in
    let p = err_from_is_err_and c.from_residual-in_err-side.result c.from_residual-in_err-side.ensures.1 in
    let ok = allowed-met w.session (event.Cancel a.shown) _ c.in_ok-allowed.ensures in
    let both = sym c.is_known.ensures ∙ kept-met _ _ _ c.in_ok-check.ensures in
    let known = (and_parts _ _ both).1 in
    let books = a.self.now.desk.books in
    let none = nothing-named c.take_named-named.result c.in_err-side.field-0.0 NoSuchBid c.in_err-side.ensures.value in
    let m = missed r.step w a.holder a.ticker a.number c.requires known (sym none.0 ∙ c.take_named-named.ensures.taken) in
    let no = missing-refuses r w a.shown a.holder a.ticker a.number ok.0 both m.stands in
    let sheets = ap (with_sheet (sheets_of books) a.ticker) m.sheet ∙ with-same (sheets_of books) a.ticker in
    record {
      answer = refused-result r w k (cancelled_lots w a.holder a.ticker a.number) c.from_residual-in_err-side.result p.0 (ByFloor NoSuchBid) no p.1 (p.2 ∙ ap (λ (e : FloorRefusal). ByFloor e) none.1);
      leaves = record { world = c.take_named-named.ensures.left w.book ∙ (λ i. record { book = w.book; session = w.session; listing = w.listing; given = w.given; sheets = sheets i }) ∙ sym (after-refused r w k (ByFloor NoSuchBid) no); rule = refl };
    }

pub release-requires : goal.release-requires
release-requires g c =
    let a = c.args in
    let r = g.M.MarketRule.means a.self.now.rule in
    let w = seen g.R.Register.means a.self.now in
    let ok = allowed-met w.session (event.Cancel a.shown) _ c.in_ok-allowed.ensures in
    let both = sym c.is_known.ensures ∙ kept-met _ _ _ c.in_ok-check.ensures in
    let known = (and_parts _ _ both).1 in
    let f = found r.step w a.holder a.ticker a.number c.requires known c.in_ok-side.side c.in_ok-side.bid (sym c.in_ok-side.ensures.ok_part ∙ c.take_named-named.ensures.taken) in
    let yes = cancel-taken r w a.shown a.holder a.ticker a.number ok.0 both f.stands in
    let move = freeing-is w.listing a.ticker c.in_ok-side.side c.in_ok-side.bid c.asset_of-asset.result c.slip_of.result (c.asset_of-asset.ensures ∙ ap (λ (v : World). asset_of_lem v.listing a.ticker c.in_ok-side.side) (c.take_named-named.ensures.left w.book)) c.slip_of.ensures in
    ap (λ (m : Move). refusal w.book m) move
    ∙ (subst (λ (ms : List Move). Granted ms w.book) f.moves (next-granted r (g.met.M.MarketRule.lawful a.self.now.rule) w (Cancel a.shown a.holder a.ticker a.number) yes c.requires)).0

pub returns : goal.returns
returns g c =
    let a = c.args in
    let r = g.M.MarketRule.means a.self.now.rule in
    let w = seen g.R.Register.means a.self.now in
    let k : Call = Cancel a.shown a.holder a.ticker a.number in
    let ok = allowed-met w.session (event.Cancel a.shown) _ c.in_ok-allowed.ensures in
    let both = sym c.is_known.ensures ∙ kept-met _ _ _ c.in_ok-check.ensures in
    let known = (and_parts _ _ both).1 in
    let books = a.self.now.desk.books in
    let f = found r.step w a.holder a.ticker a.number c.requires known c.in_ok-side.side c.in_ok-side.bid (sym c.in_ok-side.ensures.ok_part ∙ c.take_named-named.ensures.taken) in
    let yes = cancel-taken r w a.shown a.holder a.ticker a.number ok.0 both f.stands in
    let move = freeing-is w.listing a.ticker c.in_ok-side.side c.in_ok-side.bid c.asset_of-asset.result c.slip_of.result (c.asset_of-asset.ensures ∙ ap (λ (v : World). asset_of_lem v.listing a.ticker c.in_ok-side.side) (c.take_named-named.ensures.left w.book)) c.slip_of.ensures in
    let book = c.release.ensures ∙ ap (moved w.book) move ∙ ap (λ (ms : List Move). moved_all ms w.book) (sym f.moves) in
    let sheets = ap (with_sheet (sheets_of books) a.ticker) f.sheet in
    record {
      answer = taken-result r w k (cancelled_lots w a.holder a.ticker a.number) c.in_ok-side.bid.lots yes (sym f.lots);
      leaves = record { world = c.take_named-named.ensures.left (g.R.Register.means c.release.new.register) ∙ (λ i. record { book = book i; session = w.session; listing = w.listing; given = w.given; sheets = sheets i }) ∙ sym (after-taken r w k yes); rule = refl };
    }
