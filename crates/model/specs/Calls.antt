-- The calls: what each answers, the trades on its strip, the movements at the register, and the world after it.
use Rattle.std.specs.Prelude.{◌+◌, ◌++◌}
use Rattle.model.specs.Words.{ℕ, cond, eqb, List, [], joined, length, Option, Some, None, sum_of}
use Rattle.model.specs.Market.{Buy, Sell, Session, Closed, PreTrading, Trading, PostTrading, is_trading, tickers, Bid, Standing, Trade, Listing, Receipt}
use Rattle.model.specs.Market.{Call, Start, Deposit, Withdraw, Place, Cancel, Open, EndTrading, EndPostTrading}
use Rattle.model.specs.Market.{Answer, Done, Placed, Cancelled, Opened, Refused, Fault, Cause, CallKind}
use Rattle.model.specs.declared.faults.CallKind.TheVariants as kind
use Rattle.model.specs.Queues.{before, without}
use Rattle.model.specs.Average.{cost_of, lots_of}
use Rattle.model.specs.Matching.{trades_of}
use Rattle.model.specs.World.{World, Sheet, sheet_by, queue}
use Rattle.model.specs.Bidding.{next_number, met, bid_trades, rest, newcomer}
use Rattle.model.specs.Movements.{moved_all, moves_made, cancelled, opened_at}
use Rattle.model.specs.Checks.{why}
use Rattle.ranking.specs.Ranks.{insert_ranked}
use Rattle.register.specs.Moves.{Move}
use Rattle.rules.specs.Rules.{Rule}

-- ---- refused: the cause, with the kind of call and the ticker it states, 0 where it has none
abbrev pub kind_of : Call → CallKind
kind_of (Start listing) = kind.Start
kind_of (Deposit holder asset amount) = kind.Deposit
kind_of (Withdraw holder asset amount) = kind.Withdraw
kind_of (Place shown b room) = kind.Bid
kind_of (Cancel shown holder t number) = kind.Cancel
kind_of (Open room) = kind.Open
kind_of EndTrading = kind.EndTrading
kind_of EndPostTrading = kind.EndPostTrading

abbrev pub ticker_of : Call → ℕ
ticker_of (Start listing) = 0
ticker_of (Deposit holder asset amount) = 0
ticker_of (Withdraw holder asset amount) = 0
ticker_of (Place shown b room) = b.ticker
ticker_of (Cancel shown holder t number) = t
ticker_of (Open room) = 0
ticker_of EndTrading = 0
ticker_of EndPostTrading = 0

abbrev pub fault_of_lem : Call → Cause → Fault
fault_of_lem c e = record { cause = e; call = kind_of c; ticker = ticker_of c }

-- ---- accepted: the trades, in their order
abbrev pub trades_made : World → Call → List Trade
trades_made w (Start listing) = []
trades_made w (Deposit holder asset amount) = []
trades_made w (Withdraw holder asset amount) = []
trades_made w (Place shown b room) = bid_trades w b
trades_made w (Cancel shown holder t number) = []
trades_made w (Open room) = joined (λ t. trades_of (opened_at w t).deals) tickers
trades_made w EndTrading = []
trades_made w EndPostTrading = []

-- ---- accepted: the answer
abbrev pub receipt : World → Bid → Receipt
receipt w b = record { number = next_number w; traded = lots_of (bid_trades w b); standing = rest w b; count = length (bid_trades w b) }

abbrev pub cancelled_lots : World → ℕ → ℕ → ℕ → ℕ
cancelled_lots w holder t number = sum_of (λ x. x.lots) (cancelled w holder t number Buy ++ cancelled w holder t number Sell)

abbrev pub accepted : World → Call → Answer
accepted w (Start listing) = Done
accepted w (Deposit holder asset amount) = Done
accepted w (Withdraw holder asset amount) = Done
accepted w (Place shown b room) = Placed (receipt w b)
accepted w (Cancel shown holder t number) = Cancelled (cancelled_lots w holder t number)
accepted w (Open room) = Opened (length (trades_made w (Open room)))
accepted w EndTrading = Done
accepted w EndPostTrading = Done

-- ---- accepted: the sheets
-- one ticker's sheet is another now
abbrev pub with_sheet : (ℕ → Sheet) → ℕ → Sheet → ℕ → Sheet
with_sheet sheets t sheet = λ u. cond (eqb u t) sheet (sheets u)

-- a new day: no trade counts yet
abbrev pub new_day : Sheet → Sheet
new_day s = record { buys = s.buys; sells = s.sells; worth = 0; traded = 0 }

-- the bid's own queue, with its rest behind all that it is not before
abbrev pub entered : World → Bid → List Standing
entered w b =
    let own = queue w b.ticker b.side in
    cond (eqb (rest w b) 0) own (insert_ranked (before w.session b.side) (newcomer w b) own)

-- for the average only the trades of the opening and of trading count
abbrev pub counted : Session → ℕ → ℕ
counted session n = cond (is_trading session) n 0

abbrev pub bid_sheet : World → Bid → Sheet
bid_sheet w b =
    let s = w.sheets b.ticker in
    let xs = bid_trades w b in
    sheet_by b.side (entered w b) (met w b).queue (s.worth + counted w.session (cost_of xs)) (s.traded + counted w.session (lots_of xs))

abbrev pub cancel_sheet : Sheet → ℕ → ℕ → Sheet
cancel_sheet s holder number =
    record { buys = without holder number s.buys; sells = without holder number s.sells; worth = s.worth; traded = s.traded }

abbrev pub open_sheet : World → ℕ → Sheet
open_sheet w t =
    let s = w.sheets t in
    let o = opened_at w t in
    let xs = trades_of o.deals in
    record { buys = o.buys; sells = o.sells; worth = s.worth + cost_of xs; traded = s.traded + lots_of xs }

-- every standing bid is void
abbrev pub void_sheet : Sheet → Sheet
void_sheet s = record { buys = []; sells = []; worth = s.worth; traded = s.traded }

-- ---- accepted: the world after some movements, with this session, this listing, so many numbers given, and these sheets
abbrev pub becomes : World → List Move → Session → Listing → ℕ → (ℕ → Sheet) → World
becomes w moves session listing given sheets =
    record { book = moved_all moves w.book; session = session; listing = listing; given = given; sheets = sheets }

abbrev pub next : World → Call → World
next w (Start listing) = becomes w [] PreTrading listing 0 (λ t. new_day (w.sheets t))
next w (Deposit holder asset amount) = becomes w (moves_made w (Deposit holder asset amount)) w.session w.listing w.given w.sheets
next w (Withdraw holder asset amount) = becomes w (moves_made w (Withdraw holder asset amount)) w.session w.listing w.given w.sheets
next w (Place shown b room) =
    becomes w (moves_made w (Place shown b room)) w.session w.listing (next_number w) (with_sheet w.sheets b.ticker (bid_sheet w b))
next w (Cancel shown holder t number) =
    becomes w (moves_made w (Cancel shown holder t number)) w.session w.listing w.given (with_sheet w.sheets t (cancel_sheet (w.sheets t) holder number))
next w (Open room) = becomes w (moves_made w (Open room)) Trading w.listing w.given (open_sheet w)
next w EndTrading = becomes w (moves_made w EndTrading) PostTrading w.listing w.given (λ t. void_sheet (w.sheets t))
next w EndPostTrading = becomes w (moves_made w EndPostTrading) Closed w.listing w.given (λ t. void_sheet (w.sheets t))

-- ---- a call, accepted or refused
-- the first where nothing refuses, the second, of the cause, where something does
abbrev pub decided : {X : Type 0} → Option Cause → X → (Cause → X) → X
decided None x y = x
decided (Some e) x y = y e

unfoldable pub answer : Rule → World → Call → Answer
answer r w c = decided (why r w c) (accepted w c) (λ e. Refused (fault_of_lem c e))

-- a refused call makes no trades and no movements, and alters nothing
unfoldable pub trades : Rule → World → Call → List Trade
trades r w c = decided (why r w c) (trades_made w c) (λ e. [])

unfoldable pub moves : Rule → World → Call → List Move
moves r w c = decided (why r w c) (moves_made w c) (λ e. [])

unfoldable pub after : Rule → World → Call → World
after r w c = decided (why r w c) (next w c) (λ e. w)
