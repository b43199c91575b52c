-- What one trade of a newcomer asks and leaves, and what a whole meeting does.
use Rattle.std.specs.Prelude.{◌≡◌, ℕ, ◌+◌, ◌-◌, ◌≤◌, true, List, ◌++◌, length, drop, Some, None, Option}
use Rattle.std.specs.List.{flat_map}
use Rattle.register.specs.Books.{Book}
use Rattle.register.specs.Moves.{Move}
use Rattle.register.specs.declared.slips.Slip.{Slip}
use Rattle.rules.specs.declared.bid.Side.{Side}
use Rattle.rules.specs.declared.bid.Side.TheVariants.{Buy, Sell}
use Rattle.rules.specs.Bids.{obligation_of}
use Rattle.model.specs.declared.words.Standing.{Standing}
use Rattle.model.specs.declared.words.Trade.{Trade}
use Rattle.model.specs.Words.{sum_of}
use Rattle.model.specs.Matching.{Deal, Met, trades_of, crosses}
use Rattle.model.specs.Movements.{Granted, moved_all, settlement}
use Rattle.model.specs.BidLaws.{used}
use Rattle.queues.specs.Entries.{lots_taken}
use Rattle.matching.specs.declared.newcomers.Newcomer.{Newcomer}
use Rattle.matching.specs.Exchanges.{exchange_by}
use Rattle.matching.specs.Dealing.{mine_of, deal_with, used_of}

-- the cash of two slips is that of the buying side
abbrev pub cash_of : Side → Slip → Slip → Slip
cash_of Buy mine theirs = mine
cash_of Sell mine theirs = theirs

-- the register grants the exchange of two slips, and the cash covers the worth
pub record Payable (side : Side) (mine theirs : Slip) (worth : ℕ) (k : Book) : Type 0 where
  pub granted : Granted (exchange_by side mine theirs worth) k
  pub enough : worth ≤ (cash_of side mine theirs).amount

-- one trade of n lots with x: the register grants it, and the newcomer's slip has what it takes
pub record Settles (c : Newcomer) (x : Standing) (n : ℕ) (k : Book) (s : Slip) : Type 0 where
  pub slip : s ≡ mine_of c s.amount
  pub enough : used_of c x.price n ≤ s.amount
  pub crossed : crosses c.bid.side c.limit x.price ≡ true
  pub granted : Granted (settlement c.currency (deal_with c x n)) k

-- the movements of deals
abbrev pub settling : Newcomer → List Deal → List Move
settling c deals = flat_map (settlement c.currency) deals

-- what the slip must have for deals and for the lots left behind them
abbrev pub slip_for : Newcomer → Met → ℕ
slip_for c m = sum_of (used c.bid.side) m.deals + obligation_of c.bid.side c.limit m.left

-- a newcomer is ready for what it is to make of a queue: the register grants the settlements, and its slip is just what they and the
-- lots left take
pub record Ready (c : Newcomer) (m : Met) (k : Book) (s : Slip) : Type 0 where
  pub granted : Granted (settling c m.deals) k
  pub slip : s ≡ mine_of c (slip_for c m)

-- ---- after the first deal, if there is one
abbrev pub trade_of : Option Deal → Option Trade
trade_of None = None
trade_of (Some d) = Some d.trade

abbrev pub book_after : Newcomer → Book → Option Deal → Book
book_after c k None = k
book_after c k (Some d) = moved_all (settlement c.currency d) k

abbrev pub queue_after : List Standing → Option Deal → List Standing
queue_after q None = q
queue_after q (Some d) = lots_taken d.trade.lots q

abbrev pub amount_after : Newcomer → ℕ → Option Deal → ℕ
amount_after c n None = n
amount_after c n (Some d) = n - used c.bid.side d

-- ---- afterwards: the count of the trades, the strip before and after, queue, book and slip
pub record Swept (c : Newcomer) (m : Met) (q' : List Standing) (k k' : Book) (strip strip' : List Trade) (s' : Slip) (size : ℕ) : Type 0 where
  pub count : size ≡ length m.deals
  pub written : strip' ≡ trades_of m.deals ++ drop (length m.deals) strip
  pub queue : q' ≡ m.queue
  pub book : k' ≡ moved_all (settling c m.deals) k
  pub slip : s' ≡ mine_of c (obligation_of c.bid.side c.limit m.left)
