use Rattle.std.proofs.Common.{◌+◌}
use Rattle.queues.specs.Sheets.{sheets_of}
use Rattle.auction.specs.Openings.{opening_world}
use Rattle.auction.proofs.Rounds.{Round}
use Rattle.auction.proofs.tickers.open_books.Given as goal

abbrev pub invariant-loop-i : goal.invariant-loop-i
invariant-loop-i g l =
    let means = g.R.Register.means in
    Round (opening_world (means l.initial.register) l.listing (sheets_of l.initial.books)) l.initial.strip (4 + l.i) l.books (means l.register) l.strip l.count
