use Rattle.std.proofs.Common.{length, sym, ap, subst, arith}
use Rattle.model.specs.Opening.{Opened}
use Rattle.queues.specs.Sheets.{sheet_of}
use Rattle.auction.specs.Openings.{Openable, Made}
use Rattle.auction.proofs.Turning.{priced-opening, no-opening}
use Rattle.auction.proofs.tickers.open_ticker.Goals as goal

pub returns-in_default : goal.returns-in_default
returns-in_default g c =
    let a = c.args in
    let p = c.in_default.ensures in
    no-opening a.ticker a.currency (sheet_of a.book.now) (g.R.Register.means a.register.now) a.strip.now (cc)

pub run-requires : goal.run-requires
run-requires g c =
    let a = c.args in
    let s = sheet_of a.book.now in
    let p = c.in-Some.ensures in
    let e = priced-opening a.ticker c.in-Some.price s (cc) in
    record {
      ready = subst (λ (o : Opened). Openable a.currency s o (g.R.Register.means a.register.now)) e c.requires.ready;
      room = omega (arith, c.requires.room, ap (λ (o : Opened). length o.deals) e);
    }

pub returns : goal.returns
returns g c =
    let a = c.args in
    let s = sheet_of a.book.now in
    let means = g.R.Register.means in
    let p = c.in-Some.ensures in
    subst
    (λ (o : Opened). Made a.currency o s (means a.register.now) a.strip.now (sheet_of c.run.new.book) (means c.run.new.register) c.run.new.strip c.run.result)
    (sym (priced-opening a.ticker c.in-Some.price s (cc))) c.run.ensures
