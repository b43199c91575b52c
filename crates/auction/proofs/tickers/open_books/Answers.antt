use Rattle.std.proofs.Common.{◌≡◌, ◌+◌, ◌-◌, List, length, ap, arith}
use Rattle.model.specs.declared.words.Trade.{Trade}
use Rattle.auction.proofs.Strips.{whole-behind, back-behind}
use Rattle.auction.proofs.Rounds.{ticker-known, first_round, asks-ready, asks-room, fits_count, next-round, finished}
use Rattle.auction.proofs.tickers.open_books.Goals as goal

pub loop-i-init : goal.loop-i-init
loop-i-init g c = let a = c.args in first_round a.books.now c.requires.ready a.strip.now

pub open_ticker-count-requires : goal.open_ticker-count-requires
open_ticker-count-requires g c =
    let a = c.args in
    let l = c.loop-i in
    let known = ticker-known (4 + l.i) (omega arith) (omega (arith, c.requires.eight)) in
    let eight : length l.books ≡ 8 = omega (arith, l.auto.books, c.requires.eight) in
    let at : (4 + l.i) - 4 ≡ l.i = omega arith in
    record {
      ready = asks-ready a.books.now c.requires.ready known l.invariant eight l.i at c.asset_of-currency.result c.index-books-i.result c.asset_of-currency.ensures;
      room = omega (
        arith,
        asks-room a.books.now c.requires.ready known l.invariant eight l.i at c.index-books-i.result (omega (arith, c.requires.room, l.auto.strip)),
        ap (λ (z : List Trade). length z) (whole-behind l.count l.strip),
      );
    }

pub overflow_add-count : goal.overflow_add-count
overflow_add-count g c =
    let a = c.args in
    let l = c.loop-i in
    let known = ticker-known (4 + l.i) (omega arith) (omega (arith, c.requires.eight)) in
    let eight : length l.books ≡ 8 = omega (arith, l.auto.books, c.requires.eight) in
    let at : (4 + l.i) - 4 ≡ l.i = omega arith in
    omega (
      arith,
      fits_count a.books.now c.requires.ready known l.invariant eight l.i at c.asset_of-currency.result c.index-books-i.result c.open_ticker-count.new.book
          (g.R.Register.means c.open_ticker-count.new.register) _ c.open_ticker-count.new.strip c.open_ticker-count.result c.asset_of-currency.ensures (whole-behind l.count l.strip) c.open_ticker-count.ensures (omega (arith, c.requires.room, l.auto.strip)),
      l.auto.strip,
    )

pub loop-i-preserved : goal.loop-i-preserved
loop-i-preserved g c =
    let a = c.args in
    let l = c.loop-i in
    let known = ticker-known (4 + l.i) (omega arith) (omega (arith, c.requires.eight)) in
    let eight : length l.books ≡ 8 = omega (arith, l.auto.books, c.requires.eight) in
    let at : (4 + l.i) - 4 ≡ l.i = omega arith in
    let further : 4 + l.i + 1 ≡ 4 + (l.i + 1) = omega arith in
    next-round a.books.now c.requires.ready known l.invariant eight l.i at c.asset_of-currency.result c.index-books-i.result c.open_ticker-count.new.book
    (g.R.Register.means c.open_ticker-count.new.register) _ c.open_ticker-count.new.strip c.open_ticker-count.result c.asset_of-currency.ensures (whole-behind l.count l.strip) c.open_ticker-count.ensures
    _ _ further (back-behind l.count l.strip c.open_ticker-count.new.strip) (omega (arith, c.requires.room, l.auto.strip))

pub returns : goal.returns
returns g c =
    let a = c.args in
    let l = c.loop-i in
    finished a.books.now c.requires.ready a.strip.now (4 + l.i) l.books (g.R.Register.means l.register) l.strip l.count l.invariant (omega (arith, c.requires.eight, l.auto.i-end))
