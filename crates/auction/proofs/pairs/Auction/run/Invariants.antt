use Rattle.std.proofs.Common.{◌-◌, length}
use Rattle.queues.specs.Sheets.{sheet_of}
use Rattle.auction.specs.Openings.{opening_at_price}
use Rattle.auction.proofs.Turning.{Turn}
use Rattle.auction.proofs.pairs.Auction.run.Given as goal

abbrev pub invariant-loop-trade : goal.invariant-loop-trade
invariant-loop-trade g l =
    let means = g.R.Register.means in
    Turn l.self.ticker l.self.price l.self.currency (sheet_of l.initial.book) (means l.initial.register) l.initial.strip (sheet_of l.book) (means l.register) l.strip l.count

abbrev pub decreases-loop-trade : goal.decreases-loop-trade
decreases-loop-trade g l = length (opening_at_price l.self.ticker l.self.price (sheet_of l.initial.book)).deals - l.count
