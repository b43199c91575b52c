use Rattle.std.proofs.Common.{arith}
use Rattle.queues.specs.Sheets.{sheet_of}
use Rattle.auction.proofs.Turning.{starts, asks-grant, asks-sums, some_left, turned, ended}
use Rattle.auction.proofs.pairs.Auction.run.Goals as goal

pub loop-trade-init : goal.loop-trade-init
loop-trade-init g c =
    let a = c.args in
    starts a.self.now.ticker a.self.now.price a.self.now.currency (sheet_of a.book.now) (g.R.Register.means a.register.now) a.strip.now c.requires.ready

pub next_trade-requires : goal.next_trade-requires
next_trade-requires g c = record { granted = asks-grant c.loop-trade.invariant; sums = asks-sums c.loop-trade.invariant c.requires.ready.sums }

pub bounds-strip-count : goal.bounds-strip-count
bounds-strip-count g c = omega (arith, some_left c.loop-trade.invariant c.in-Some.trade c.in-Some.ensures.trade, c.requires.room)

pub loop-trade-smaller : goal.loop-trade-smaller
loop-trade-smaller g c = omega (arith, some_left c.loop-trade.invariant c.in-Some.trade c.in-Some.ensures.trade)

pub loop-trade-preserved : goal.loop-trade-preserved
loop-trade-preserved g c =
    let e = c.in-Some.ensures in
    turned c.loop-trade.invariant c.in-Some.trade (sheet_of c.next_trade.new.book) (g.R.Register.means c.next_trade.new.register)
    (omega (arith, some_left c.loop-trade.invariant c.in-Some.trade e.trade, c.requires.room)) e.trade e.book e.sheet

pub returns : goal.returns
returns g c =
    let e = c.in_default.ensures in
    ended c.loop-trade.invariant (sheet_of c.next_trade.new.book) (g.R.Register.means c.next_trade.new.register) e.trade e.book e.sheet
