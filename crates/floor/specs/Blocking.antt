-- What is blocked for a bid, and what its admission leaves.
use Rattle.std.specs.Prelude.{◌≡◌, ◌-◌, cond, List, ◌++◌, length, drop, None, ◌==◌}
use Rattle.register.specs.Books.{Book}
use Rattle.register.specs.Moves.{Block, refusal, after_move}
use Rattle.register.specs.declared.slips.Slip.{Slip}
use Rattle.model.specs.declared.words.Receipt.{Receipt}
use Rattle.model.specs.declared.words.Trade.{Trade}
use Rattle.model.specs.Market.{other}
use Rattle.model.specs.Matching.{Met, trades_of}
use Rattle.model.specs.Movements.{moved_all}
use Rattle.model.specs.World.{queue_of}
use Rattle.model.specs.Checks.{Check, by_register}
use Rattle.model.specs.Calls.{with_sheet}
use Rattle.queues.specs.Sheets.{sheets_of}
use Rattle.matching.specs.declared.newcomers.Newcomer.{Newcomer}
use Rattle.matching.specs.declared.entering.Outlook.{Outlook}
use Rattle.matching.specs.Enterings.{foreseen, rest_of, entering_moves, entered_sheet}
use Rattle.floor.specs.declared.desk.Desk.{Desk}
use Rattle.floor.specs.Desks.{world_of}

-- the block that a slip is given for; none for 0
abbrev pub block_fault : Book → Slip → Check
block_fault k s = cond (s.amount == 0) None (by_register (refusal k (Block s.holder s.asset s.amount)))

abbrev pub blocked_by : Book → Slip → Book
blocked_by k s = cond (s.amount == 0) k (after_move k (Block s.holder s.asset s.amount))

-- what a newcomer makes of the queue it faces
abbrev pub foreseen_on : Newcomer → Outlook → Desk → Met
foreseen_on c o desk = foreseen o.trades c (queue_of (sheets_of desk.books c.bid.ticker) (other c.bid.side))

-- the books of the register and the desks before and after a bid is taken, with its receipt and the strip
pub record Admitted (c : Newcomer) (o : Outlook) (b : Book) (desk : Desk) (b' : Book) (desk' : Desk) (strip strip' : List Trade) (r : Receipt) : Type 0 where
  pub receipt : r ≡ record { number = c.number; traded = c.bid.lots - o.left; standing = rest_of c o.left; count = length (foreseen_on c o desk).deals }
  pub written : strip' ≡ trades_of (foreseen_on c o desk).deals ++ drop (length (foreseen_on c o desk).deals) strip
  pub world : world_of b' desk' ≡ record {
    book = moved_all (entering_moves c (foreseen_on c o desk)) b;
    session = desk.session;
    listing = desk.listing;
    given = c.number;
    sheets = with_sheet (sheets_of desk.books) c.bid.ticker (entered_sheet desk.session c (foreseen_on c o desk) (sheets_of desk.books c.bid.ticker));
  }
