-- The law of a floor over every list of calls: its accounts and its queues are those that the tally of the calls gives by itself.
use Rattle.std.specs.Prelude.{◌+◌, ◌%◌, ◌≤◌, ◌<◌, ◌≡◌}
use Rattle.model.specs.Words.{ℕ, true, not, eqb, List, AllByRecursion, Permᴰ, kept, is_some, sum_of}
use Rattle.model.specs.Market.{Side, is_trading, is_post_trading, ticker_known, Call}
use Rattle.model.specs.Queues.{before}
use Rattle.model.specs.Average.{cost_of, lots_of}
use Rattle.model.specs.World.{World, queue, made}
use Rattle.model.specs.Runs.{run, log}
use Rattle.model.specs.Tally.{Tally, blank, tally_of, obliges, standing_of}
use Rattle.model.specs.Sound.{Sound, Uncrossed, all_owing}
use Rattle.register.specs.Books.{Book, total, most_amount}
use Rattle.ranking.specs.Ranks.{Ranked}
use Rattle.rules.specs.Rules.{Rule, Lawful}

pub record Law (r : Rule) (w : World) (y : Tally) : Type 0 where
  -- what a holder has, free and blocked together, is what deposits, withdrawals and trades left to him
  pub totals : (h a : ℕ) → h < 16 → a < 12 → w.book.free h a + w.book.blocked h a ≡ y.sums h a
  -- what he has blocked is what his standing bids oblige him to, no more and no less
  pub obliged : (h a : ℕ) → h < 16 → a < 12 → w.book.blocked h a ≡ sum_of (λ k. obliges y k h a) y.standing
  -- each queue holds exactly the standing bids of its ticker and side, in ranking order
  pub queues : (t : ℕ) (side : Side) → Permᴰ (standing_of y t side) (queue w t side)
  pub ranked : (t : ℕ) (side : Side) → Ranked (before w.session side) (queue w t side)
  -- each standing bid is in whole steps of the rule
  pub steps : (t : ℕ) (side : Side) → AllByRecursion (λ x. x.lots % r.step ≡ 0) (standing_of y t side)
  -- while trading runs, every standing buy is priced below every standing sell of its ticker
  pub uncrossed : y.running ≡ true → (t : ℕ) → Uncrossed w t

-- a register that a floor may be made over: nothing is blocked, and no asset's total passes the limit
pub record Ready (b : Book) : Type 0 where
  pub quiet : (h a : ℕ) → h < 16 → a < 12 → b.blocked h a ≡ 0
  pub bounded : (a : ℕ) → a < 12 → total b a ≤ most_amount

-- for every rule that keeps its law, every ready register and every list of calls, the empty one too
abbrev pub EveryRun : Type 0
EveryRun =
    (r : Rule) → Lawful r → (b : Book) → Ready b → (cs : List Call)
    → Law r (run r (made b) cs) (tally_of (blank b) (log r (made b) cs))

-- ---- the accounts alone, with what is blocked read off the queues
pub record Accounts (w : World) (y : Tally) : Type 0 where
  pub totals : (h a : ℕ) → h < 16 → a < 12 → w.book.free h a + w.book.blocked h a ≡ y.sums h a
  pub obliged : (h a : ℕ) → h < 16 → a < 12 → w.book.blocked h a ≡ all_owing w h a

abbrev pub AccountsComeOut : Type 0
AccountsComeOut =
    (r : Rule) → Lawful r → (b : Book) → Ready b → (cs : List Call)
    → Accounts (run r (made b) cs) (tally_of (blank b) (log r (made b) cs))

-- ---- the same as a step
-- how a tally is tied to a world: from this the law follows, and every call keeps it
pub record Tied (w : World) (y : Tally) : Type 0 where
  pub sums : (h a : ℕ) → h < 16 → a < 12 → w.book.free h a + w.book.blocked h a ≡ y.sums h a
  pub blocked : (h a : ℕ) → h < 16 → a < 12 → w.book.blocked h a ≡ all_owing w h a
  pub listing : y.listing ≡ w.listing
  pub running : y.running ≡ is_trading w.session
  -- the day's trades of each ticker are those that its average counts
  pub worth : (t : ℕ) → cost_of (kept (λ x. eqb x.ticker t) y.trades) ≡ (w.sheets t).worth
  pub traded : (t : ℕ) → lots_of (kept (λ x. eqb x.ticker t) y.trades) ≡ (w.sheets t).traded
  pub queues : (t : ℕ) (side : Side) → Permᴰ (standing_of y t side) (queue w t side)
  -- standing bids are of known tickers, and have a price of their own but for post-trading, where none has
  pub known : AllByRecursion (λ k. ticker_known k.bid.ticker ≡ true) y.standing
  pub form : AllByRecursion (λ k. is_some k.bid.price ≡ not (is_post_trading w.session)) y.standing

-- a floor and the tally of its calls so far go on together, whatever is called next
pub record Together (r : Rule) (w : World) (y : Tally) : Type 0 where
  pub sound : Sound r.step w
  pub tied : Tied w y

pub record GoingOn : Type 0 where
  pub starts : (r : Rule) (b : Book) → Ready b → Together r (made b) (blank b)
  pub goes_on : (r : Rule) → Lawful r → (w : World) (y : Tally) → Together r w y → (cs : List Call) → Together r (run r w cs) (tally_of y (log r w cs))
  pub lawful : (r : Rule) (w : World) (y : Tally) → Together r w y → Law r w y
