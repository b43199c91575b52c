-- A bid and the books of its ticker.
use Rattle.std.specs.Prelude.{◌≡◌, ℕ, ◌+◌, ◌^◌, ◌<◌, ◌≤◌, Bool, cond, not, ◌&&◌, ◌⊎◌, List, ◌++◌, length, drop, Some, None, Option, ◌==◌}
use Rattle.register.specs.Books.{Book}
use Rattle.register.specs.Moves.{Move, Release}
use Rattle.register.specs.declared.slips.Slip.{Slip}
use Rattle.ranking.specs.Ranks.{insert_ranked}
use Rattle.rules.specs.declared.bid.Side.{Side}
use Rattle.rules.specs.declared.bid.Side.TheVariants.{Buy, Sell}
use Rattle.rules.specs.Bids.{obligation_of}
use Rattle.model.specs.declared.words.Session.{Session}
use Rattle.model.specs.declared.words.Standing.{Standing}
use Rattle.model.specs.declared.words.Trade.{Trade}
use Rattle.model.specs.Words.{is_some, or_else, only}
use Rattle.model.specs.Market.{other}
use Rattle.model.specs.Queues.{before}
use Rattle.model.specs.Average.{cost_of, lots_of}
use Rattle.model.specs.Matching.{Met, trades_of, untouched, encounter}
use Rattle.model.specs.Movements.{Granted, moved_all}
use Rattle.model.specs.World.{Sheet, queue_of, sheet_by}
use Rattle.model.specs.Calls.{counted}
use Rattle.matching.specs.declared.newcomers.Newcomer.{Newcomer}
use Rattle.matching.specs.declared.entering.Outlook.{Outlook}
use Rattle.matching.specs.Dealing.{mine_of, met_by, asset_by}
use Rattle.matching.specs.Meetings.{Swept, settling, slip_for}

-- what it makes of the queue it faces, in a session
abbrev pub encounter_by : Session → Newcomer → List Standing → Met
encounter_by session c queue = encounter session c.number c.bid c.limit queue

-- whether it trades, told beforehand
abbrev pub foreseen : Bool → Newcomer → List Standing → Met
foreseen trades c queue = cond trades (met_by c c.bid.lots queue) (untouched c.bid.lots queue)

-- the lots that stand, where so many are left
abbrev pub rest_of : Newcomer → ℕ → ℕ
rest_of c left = cond (is_some c.limit && not c.bid.entire && c.bid.keep) left 0

-- what is blocked, where the trades cost so much
abbrev pub owed_in : Side → Option ℕ → ℕ → ℕ → ℕ
owed_in Buy (Some limit) lots cost = obligation_of Buy (Some limit) lots
owed_in Buy None lots cost = cost
owed_in Sell limit lots cost = obligation_of Sell limit lots

abbrev pub owed_by : Newcomer → ℕ → ℕ
owed_by c cost = owed_in c.bid.side c.limit c.bid.lots cost

-- its record in a queue, and the queue with it, if any lots stand
abbrev pub record_of : Newcomer → ℕ → Standing
record_of c lots = record { number = c.number; holder = c.bid.holder; price = or_else c.limit 0; lots = lots }

abbrev pub ranked_in : Session → Newcomer → ℕ → List Standing → List Standing
ranked_in session c lots own = cond (lots == 0) own (insert_ranked (before session c.bid.side) (record_of c lots) own)

-- ---- once it has traded: its own queue and the sums are as they were
pub record Faced (c : Newcomer) (m : Met) (sheet sheet' : Sheet) (k k' : Book) (strip strip' : List Trade) (s' : Slip) (size : ℕ) : Type 0 where
  pub swept : Swept c m (queue_of sheet' (other c.bid.side)) k k' strip strip' s' size
  pub sheet_is : sheet' ≡ sheet_by c.bid.side (queue_of sheet c.bid.side) m.queue sheet.worth sheet.traded

-- ---- the whole of it
-- the movements: its deals, and the release of what was blocked for lots that neither trade nor stand
abbrev pub entering_moves : Newcomer → Met → List Move
entering_moves c m =
    settling c m.deals
    ++ only (rest_of c m.left == 0) (Release c.bid.holder (asset_by c.currency c.bid.ticker c.bid.side) (obligation_of c.bid.side c.limit m.left))

-- the sheet after it: the trades count for the average in trading alone
abbrev pub entered_sheet : Session → Newcomer → Met → Sheet → Sheet
entered_sheet session c m sheet =
    sheet_by c.bid.side (ranked_in session c (rest_of c m.left) (queue_of sheet c.bid.side)) m.queue
    (sheet.worth + counted session (cost_of (trades_of m.deals))) (sheet.traded + counted session (lots_of (trades_of m.deals)))

-- what it asks: the register grants the movements, the slip is just what was blocked, and there is room for trades, rest and sums
pub record Enters (session : Session) (c : Newcomer) (m : Met) (o : Outlook) (sheet : Sheet) (k : Book) (s : Slip) (room : ℕ) : Type 0 where
  pub granted : Granted (entering_moves c m) k
  pub slip : s ≡ mine_of c (slip_for c m)
  pub trades : m ≡ foreseen o.trades c (queue_of sheet (other c.bid.side))
  pub left : o.left ≡ m.left
  pub cost : o.cost ≡ cost_of (trades_of m.deals)
  pub strip : length (queue_of sheet (other c.bid.side)) ≤ room
  pub place : (rest_of c m.left ≡ 0) ⊎ (length (queue_of sheet c.bid.side) < 64)
  pub worth : sheet.worth + counted session (cost_of (trades_of m.deals)) < 2 ^ 64
  pub traded : sheet.traded + counted session (lots_of (trades_of m.deals)) < 2 ^ 64

-- what it leaves
pub record Entered (session : Session) (c : Newcomer) (m : Met) (sheet sheet' : Sheet) (k k' : Book) (strip strip' : List Trade) (size : ℕ) : Type 0 where
  pub count : size ≡ length m.deals
  pub written : strip' ≡ trades_of m.deals ++ drop (length m.deals) strip
  pub book : k' ≡ moved_all (entering_moves c m) k
  pub sheet_is : sheet' ≡ entered_sheet session c m sheet
