-- What is claimed of matching.
use Rattle.std.specs.Prelude.{◌+◌, ◌≤◌, ◌<◌, ◌≡◌}
use Rattle.model.specs.Words.{ℕ, true, false, List, [], length, AllByRecursion, map, Memᴰ, Option}
use Rattle.model.specs.Market.{Side, other, Session, Bid, Standing, Trade}
use Rattle.model.specs.Queues.{by_price, before}
use Rattle.model.specs.Average.{lots_of}
use Rattle.model.specs.Matching.{Met, trades_of, crosses, taking, meet, whole_or_none}
use Rattle.model.specs.World.{World, queue}
use Rattle.model.specs.Bidding.{met}
use Rattle.model.specs.Calls.{entered}
use Rattle.model.specs.Serving.{Served, Along, number_in, holder_in, traded_by, left_of, numbers_of}
use Rattle.ranking.specs.Ranks.{OrderLaws, Ranked}

-- each ranking keeps the order laws
abbrev pub RankingsAreLawful : Type 0
RankingsAreLawful = (session : Session) (side : Side) → OrderLaws (before session side)

-- the newcomer's own side of a trade
pub record Own (own : ℕ) (b : Bid) (x : Trade) : Type 0 where
  pub ticker : x.ticker ≡ b.ticker
  pub number : number_in b.side x ≡ own
  pub holder : holder_in b.side x ≡ b.holder

-- a trade with a bid that stood in the queue, at its price, which the newcomer's limit allows
pub record Fair (side : Side) (limit : Option ℕ) (queue : List Standing) (x : Trade) : Type 0 where
  pub maker : Standing
  pub stood : Memᴰ maker queue
  pub number : number_in (other side) x ≡ maker.number
  pub holder : holder_in (other side) x ≡ maker.holder
  pub price : x.price ≡ maker.price
  pub allowed : crosses side limit x.price ≡ true

-- what a newcomer with this number, limit and queue before it meets
abbrev pub meeting : ℕ → Bid → Option ℕ → List Standing → Met
meeting number b limit queue = meet (crosses b.side limit) (taking number b limit b.side) b.lots queue

pub record Matched (least number : ℕ) (b : Bid) (limit : Option ℕ) (queue : List Standing) (m : Met) : Type 0 where
  -- lots are conserved, the newcomer's and those of each standing bid
  pub own : lots_of (trades_of m.deals) + m.left ≡ b.lots
  pub theirs : (k : ℕ) → left_of k queue ≡ traded_by (other b.side) k (trades_of m.deals) + left_of k m.queue
  -- no trade is worse than either side's price, and each is the newcomer's
  pub fair : AllByRecursion (Fair b.side limit queue) (trades_of m.deals)
  pub mine : AllByRecursion (Own number b) (trades_of m.deals)
  -- the buyer has blocked at least the price
  pub covered : AllByRecursion (λ d. d.trade.price ≤ d.held) m.deals
  -- price and time: the trades go along the queue and never back, and it is served from the front
  pub order : Along (map (number_in (other b.side)) (trades_of m.deals)) (numbers_of queue)
  pub served : Served queue m.queue
  -- at most one trade with each standing bid
  pub few : length m.deals ≤ length queue
  -- a ranked queue stays ranked, and where the newcomer has at least so many lots left nothing that it crosses is left
  pub ranked : (session : Session) (side : Side) → Ranked (before session side) queue → Ranked (before session side) m.queue
  pub done : Ranked (by_price (other b.side)) queue → least ≤ m.left → AllByRecursion (λ x. crosses b.side limit x.price ≡ false) m.queue

abbrev pub MatchingIsRight : ℕ → Type 0
MatchingIsRight least = (number : ℕ) (b : Bid) (limit : Option ℕ) (queue : List Standing) → Matched least number b limit queue (meeting number b limit queue)

-- an entire bid is filled whole, or trades nothing and leaves the queue as it was; a partial bid is matched as above
pub data EntireOrNone (b : Bid) (queue : List Standing) (m : Met) : Met → Type 0 where
  matched : (b.entire ≡ true → m.left ≡ 0) → EntireOrNone b queue m m
  nothing : b.entire ≡ true → 0 < m.left → EntireOrNone b queue m (record { deals = []; queue = queue; left = b.lots })

abbrev pub EntireIsWhole : Type 0
EntireIsWhole = (b : Bid) (queue : List Standing) (m : Met) → EntireOrNone b queue m (whole_or_none b queue m)

-- both queues of a bid's ticker stay ranked, whatever becomes of the bid
pub record StaysRanked (w : World) (b : Bid) : Type 0 where
  pub own : Ranked (before w.session b.side) (queue w b.ticker b.side) → Ranked (before w.session b.side) (entered w b)
  pub others : Ranked (before w.session (other b.side)) (queue w b.ticker (other b.side))
      → Ranked (before w.session (other b.side)) (met w b).queue

abbrev pub QueuesStayRanked : Type 0
QueuesStayRanked = (w : World) (b : Bid) → StaysRanked w b
