use Rattle.std.proofs.Common.{length, sym, refl, ap, ◌∙◌, subst, arith}
use Rattle.std.proofs.lemmas.Bool.Decides.{nat_tests}
use Rattle.std.proofs.lemmas.Bool.{and_parts}
use Rattle.std.proofs.lemmas.Result.{err_from_is_err_and}
use Rattle.register.specs.Books.{empty_book}
use Rattle.model.specs.declared.calls.Call.{Call}
use Rattle.model.specs.declared.calls.Call.TheVariants.{Place}
use Rattle.model.specs.declared.faults.Cause.TheVariants.{Floor as ByFloor, Rule as ByRule}
use Rattle.model.specs.Market.{ticker_known}
use Rattle.model.specs.Bidding.{question}
use Rattle.model.specs.Calls.{receipt}
use Rattle.model.proofs.Sheets.{must-true}
use Rattle.rules.specs.declared.bid.Question.{Question}
use Rattle.rules.specs.Rules.{answered}
use Rattle.model.specs.Checks.{must, has_place_lem}
use Rattle.model.specs.declared.faults.FloorRefusal.TheVariants.{QueueFull}
use Rattle.matching.specs.declared.newcomers.Newcomer.{Newcomer}
use Rattle.matching.specs.Dealing.{mine_of}
use Rattle.floor.specs.Asking.{newcomer_of, Outlined}
use Rattle.floor.specs.Desks.{world_of}
use Rattle.floor.specs.Floors.{seen}
use Rattle.floor.proofs.Called.{after-refused, after-taken, refused-result, taken-result, refused-strip, taken-strip, unless-refused, unless-taken, rule-refused, rule-admits}
use Rattle.floor.proofs.Outlined.{outlined-same}
use Rattle.floor.proofs.Bidden.{form-refuses, rule-refuses, place-refuses, funds-decide, formed, fault-same, book-same, slip-same, not_blocked, enters, enters-there, admitted-there, next-world, next-receipt, next-strip}
use Rattle.floor.proofs.state.State.place.Goals as goal

pub returns-in_err-check_form : goal.returns-in_err-check_form
returns-in_err-check_form g c =
    let a = c.args in
    let r = g.M.MarketRule.means a.self.now.rule in
    let w = seen g.R.Register.means a.self.now in
    let k : Call = Place a.shown a.bid (length a.strip.now) in
    let p = err_from_is_err_and c.from_residual.result c.from_residual.ensures.1 in
    let e = ByFloor c.in_err-check_form.field-0.0 in
    let no = form-refuses r w a.shown a.bid (length a.strip.now) e c.in_err-check_form.ensures in
    record {
      answer = refused-result r w k (receipt w a.bid) c.from_residual.result p.0 e no p.1 p.2;
      leaves = record { world = sym (after-refused r w k e no); rule = refl };
      strip = refused-strip r w k e a.strip.now no;
    }

pub newcomer-newcomer-requires : goal.newcomer-newcomer-requires
newcomer-newcomer-requires g c =
    let a = c.args in
    let r = g.M.MarketRule.means a.self.now.rule in
    let w = seen g.R.Register.means a.self.now in
    let f = formed r w a.shown a.bid (length a.strip.now) c.in_ok-check_form.ensures in
    let n = f.numbers in
    record {
      askable = record { known = (and_parts _ _ f.holder_ticker).1; dearest = c.requires.dearest a.bid.ticker };
      numbers = grind (arith, nat_tests);
    }

pub question-requires : goal.question-requires
question-requires g c =
    let a = c.args in
    let r = g.M.MarketRule.means a.self.now.rule in
    let w = seen g.R.Register.means a.self.now in
    let f = formed r w a.shown a.bid (length a.strip.now) c.in_ok-check_form.ensures in
    (and_parts _ _ f.holder_ticker).1

pub returns-in_err-on_bid : goal.returns-in_err-on_bid
returns-in_err-on_bid g c =
    let a = c.args in
    let r = g.M.MarketRule.means a.self.now.rule in
    let w = seen g.R.Register.means a.self.now in
    let k : Call = Place a.shown a.bid (length a.strip.now) in
    let p = err_from_is_err_and c.from_residual-in_err-on_bid.result c.from_residual-in_err-on_bid.ensures.1 in
    let x = c.in_err-on_bid.field-0.0 in
    let e = ByRule x in
    let said = rule-refused (r.on_bid (question w a.bid)) x (c.in_err-on_bid.ensures ∙ ap (λ (q : Question). answered (r.on_bid q)) c.question.ensures) in
    let no = rule-refuses r w a.shown a.bid (length a.strip.now) e c.in_ok-check_form.ensures said in
    record {
      answer = refused-result r w k (receipt w a.bid) c.from_residual-in_err-on_bid.result p.0 e no p.1 p.2;
      leaves = record { world = sym (after-refused r w k e no); rule = refl };
      strip = refused-strip r w k e a.strip.now no;
    }

pub outlook-requires : goal.outlook-requires
outlook-requires g c =
    let a = c.args in
    let r = g.M.MarketRule.means a.self.now.rule in
    let w = seen g.R.Register.means a.self.now in
    let f = formed r w a.shown a.bid (length a.strip.now) c.in_ok-check_form.ensures in
    let n = c.newcomer-newcomer in
    record {
      known = ap (λ (z : Newcomer). ticker_known z.bid.ticker) n.ensures ∙ (and_parts _ _ f.holder_ticker).1;
      newcomer = n.ensures ∙ ap (λ (z : Newcomer). newcomer_of w z.bid) (sym n.ensures);
    }

pub returns-in_err-outlook : goal.returns-in_err-outlook
returns-in_err-outlook g c =
    let a = c.args in
    let r = g.M.MarketRule.means a.self.now.rule in
    let w = seen g.R.Register.means a.self.now in
    let k : Call = Place a.shown a.bid (length a.strip.now) in
    let p = err_from_is_err_and c.from_residual-in_err-outlook.result c.from_residual-in_err-outlook.ensures.1 in
    let e = ByFloor c.in_err-outlook.field-0.0 in
    let ruled = rule-admits (r.on_bid (question w a.bid)) _ (c.in_ok-on_bid.ensures ∙ ap (λ (q : Question). answered (r.on_bid q)) c.question.ensures) in
    let no = place-refuses r w a.shown a.bid (length a.strip.now) e c.in_ok-check_form.ensures ruled (c.in_err-outlook.ensures.full ∙ ap (λ (z : Newcomer). must (has_place_lem w z.bid) QueueFull) c.newcomer-newcomer.ensures) in
    record {
      answer = refused-result r w k (receipt w a.bid) c.from_residual-in_err-outlook.result p.0 e no p.1 p.2;
      leaves = record { world = sym (after-refused r w k e no); rule = refl };
      strip = refused-strip r w k e a.strip.now no;
    }

pub returns-in_err-slip : goal.returns-in_err-slip
returns-in_err-slip g c =
    let a = c.args in
    let r = g.M.MarketRule.means a.self.now.rule in
    let w = seen g.R.Register.means a.self.now in
    let k : Call = Place a.shown a.bid (length a.strip.now) in
    let n = c.newcomer-newcomer in
    let o = c.in_ok-outlook.outlook in
    let p = err_from_is_err_and c.from_residual-in_err-slip.result c.from_residual-in_err-slip.ensures.1 in
    let e = c.in_err-slip.field-0.0 in
    let b = c.in_err-slip.ensures in
    let ruled = rule-admits (r.on_bid (question w a.bid)) _ (c.in_ok-on_bid.ensures ∙ ap (λ (q : Question). answered (r.on_bid q)) c.question.ensures) in
    let full = c.in_ok-outlook.ensures.full ∙ ap (λ (z : Newcomer). must (has_place_lem w z.bid) QueueFull) n.ensures in
    let out = subst (λ (z : Newcomer). Outlined w z.bid o) n.ensures (outlined-same empty_book w.book a.self.now.desk n.result.bid o c.in_ok-outlook.ensures.outlook) in
    let fault = unless-refused _ _ e b.answer in
    let no = funds-decide r w a.shown a.bid (length a.strip.now) c.in_ok-check_form.ensures ruled full ∙ sym (fault-same w a.bid o n.result c.owed.result n.ensures c.owed.ensures out) ∙ fault in
    record {
      answer = refused-result r w k (receipt w a.bid) c.from_residual-in_err-slip.result p.0 e no p.1 p.2;
      leaves = record { world = (λ i. world_of ((b.book ∙ not_blocked w.book (mine_of n.result c.owed.result) e fault) i) a.self.now.desk) ∙ sym (after-refused r w k e no); rule = refl };
      strip = refused-strip r w k e a.strip.now no;
    }

pub admit-requires : goal.admit-requires
admit-requires g c =
    let a = c.args in
    let r = g.M.MarketRule.means a.self.now.rule in
    let w = seen g.R.Register.means a.self.now in
    let n = c.newcomer-newcomer in
    let o = c.in_ok-outlook.outlook in
    let b = c.in_ok-slip.ensures in
    let room = length a.strip.now in
    let fm = formed r w a.shown a.bid room c.in_ok-check_form.ensures in
    let ruled = rule-admits (r.on_bid (question w a.bid)) _ (c.in_ok-on_bid.ensures ∙ ap (λ (q : Question). answered (r.on_bid q)) c.question.ensures) in
    let full = c.in_ok-outlook.ensures.full ∙ ap (λ (z : Newcomer). must (has_place_lem w z.bid) QueueFull) n.ensures in
    let out = subst (λ (z : Newcomer). Outlined w z.bid o) n.ensures (outlined-same empty_book w.book a.self.now.desk n.result.bid o c.in_ok-outlook.ensures.outlook) in
    let taken = unless-taken _ _ c.in_ok-slip.slip b.answer in
    let fu = sym (fault-same w a.bid o n.result c.owed.result n.ensures c.owed.ensures out) ∙ taken.0 in
    let ok = funds-decide r w a.shown a.bid room c.in_ok-check_form.ensures ruled full ∙ fu in
    let en = enters w a.bid o out r (g.met.M.MarketRule.lawful a.self.now.rule) a.shown room c.requires ok fm (must-true _ _ (sym full)) fu
    (g.R.Register.means c.block.new.register) c.in_ok-slip.slip
    (book-same w a.bid o n.result c.owed.result n.ensures c.owed.ensures _ b.book)
    (taken.1 ∙ slip-same w a.bid o n.result c.owed.result n.ensures c.owed.ensures) in
    record {
      known = ap (λ (z : Newcomer). ticker_known z.bid.ticker) n.ensures ∙ (and_parts _ _ fm.holder_ticker).1;
      enters = enters-there w a.bid o n.result c.owed.result n.ensures c.owed.ensures a.self.now.desk (g.R.Register.means c.block.new.register) c.in_ok-slip.slip room refl en;
    }

pub returns : goal.returns
returns g c =
    let a = c.args in
    let r = g.M.MarketRule.means a.self.now.rule in
    let w = seen g.R.Register.means a.self.now in
    let k : Call = Place a.shown a.bid (length a.strip.now) in
    let n = c.newcomer-newcomer in
    let o = c.in_ok-outlook.outlook in
    let b = c.in_ok-slip.ensures in
    let room = length a.strip.now in
    let law = g.met.M.MarketRule.lawful a.self.now.rule in
    let fm = formed r w a.shown a.bid room c.in_ok-check_form.ensures in
    let ruled = rule-admits (r.on_bid (question w a.bid)) _ (c.in_ok-on_bid.ensures ∙ ap (λ (q : Question). answered (r.on_bid q)) c.question.ensures) in
    let full = c.in_ok-outlook.ensures.full ∙ ap (λ (z : Newcomer). must (has_place_lem w z.bid) QueueFull) n.ensures in
    let out = subst (λ (z : Newcomer). Outlined w z.bid o) n.ensures (outlined-same empty_book w.book a.self.now.desk n.result.bid o c.in_ok-outlook.ensures.outlook) in
    let taken = unless-taken _ _ c.in_ok-slip.slip b.answer in
    let fu = sym (fault-same w a.bid o n.result c.owed.result n.ensures c.owed.ensures out) ∙ taken.0 in
    let ok = funds-decide r w a.shown a.bid room c.in_ok-check_form.ensures ruled full ∙ fu in
    let pl = must-true _ _ (sym full) in
    let t = admitted-there w a.bid o n.result c.owed.result n.ensures c.owed.ensures (g.R.Register.means c.block.new.register) a.self.now.desk (g.R.Register.means c.admit.new.register) c.admit.new.self a.strip.now c.admit.new.strip c.admit.result refl c.admit.ensures in
    record {
      answer = taken-result r w k (receipt w a.bid) c.admit.result ok (t.0 ∙ next-receipt w a.bid o out r law a.shown room c.requires ok fm pl fu);
      leaves = record { world = t.2 ∙ next-world w a.bid o out r law a.shown room c.requires ok fm pl fu (g.R.Register.means c.block.new.register) (book-same w a.bid o n.result c.owed.result n.ensures c.owed.ensures _ b.book) ∙ sym (after-taken r w k ok); rule = refl };
      strip = taken-strip r w k a.strip.now c.admit.new.strip ok (next-strip w a.bid o out r law a.shown room c.requires ok fm pl fu a.strip.now c.admit.new.strip t.1);
    }
