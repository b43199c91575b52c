-- What holds of the world between any two calls: the queues, the book and the numbers of the day.
use Rattle.std.specs.Prelude.{◌+◌, ◌*◌, ◌%◌, ◌≤◌, ◌<◌, ◌≡◌}
use Rattle.model.specs.Words.{ℕ, true, false, cond, eqb, List, [], length, AllByRecursion, Some, sum_of}
use Rattle.model.specs.Market.{Side, Buy, Sell, Standing, Listing, is_closed, is_trading, is_post_trading, most_numbers, queue_places, ticker_known, tickers}
use Rattle.model.specs.Queues.{before}
use Rattle.model.specs.Listings.{asset_of_lem}
use Rattle.model.specs.World.{Sheet, World, queue, average_of, made}
use Rattle.model.specs.Checks.{valid_listing}
use Rattle.register.specs.Books.{Book, Sums, at}
use Rattle.ranking.specs.Ranks.{Ranked}
use Rattle.rules.specs.Bids.{most_price, most_lots, obligation_of}
use Rattle.rules.specs.Rules.{Rule}

-- ---- a record of a queue, under a rule's step and the numbers given so far
pub record Fit (step given : ℕ) (x : Standing) : Type 0 where
  pub holder : x.holder < 16
  pub first : 1 ≤ x.number
  pub last : x.number ≤ given
  pub cheapest : 1 ≤ x.price
  pub highest : x.price ≤ most_price
  pub fewest : 1 ≤ x.lots
  pub most : x.lots ≤ most_lots
  pub whole : x.lots % step ≡ 0

-- ---- sums over standing bids
-- what a standing bid obliges its holder to: the whole of a buy's price and lots in the currency, a sell's lots of the ticker
abbrev pub obliges : Listing → ℕ → Side → Standing → Sums
obliges listing t side x = at x.holder (asset_of_lem listing t side) (obligation_of side (Some x.price) x.lots)

-- the bids of a queue together
abbrev pub owing : Listing → ℕ → Side → List Standing → Sums
owing listing t side queue = λ h a. sum_of (λ x. obliges listing t side x h a) queue

abbrev pub sheet_owing : Listing → ℕ → Sheet → Sums
sheet_owing listing t s = λ h a. owing listing t Buy s.buys h a + owing listing t Sell s.sells h a

-- all standing bids of the floor together
abbrev pub all_owing : World → Sums
all_owing w = λ h a. sum_of (λ t. sheet_owing w.listing t (w.sheets t) h a) tickers

-- how many bids with this number stand, in a queue, on a sheet, on the floor
abbrev pub times_in : ℕ → List Standing → ℕ
times_in number queue = sum_of (λ x. cond (eqb x.number number) 1 0) queue

abbrev pub times_on : ℕ → Sheet → ℕ
times_on number s = times_in number s.buys + times_in number s.sells

abbrev pub times : World → ℕ → ℕ
times w number = sum_of (λ t. times_on number (w.sheets t)) tickers

abbrev pub standing_lots : List Standing → ℕ
standing_lots queue = sum_of (λ x. x.lots) queue

-- every buy of a ticker is priced below every sell of it
abbrev pub Uncrossed : World → ℕ → Type 0
Uncrossed w t = AllByRecursion (λ b. AllByRecursion (λ s. b.price < s.price) (queue w t Sell)) (queue w t Buy)

-- ---- the invariant, under a rule's step
pub record Sound (step : ℕ) (w : World) : Type 0 where
  -- the queues: fit records, at most 64, ranked, each number standing once at most; none of an unknown ticker
  pub fit : (t : ℕ) (side : Side) → AllByRecursion (Fit step w.given) (queue w t side)
  pub places : (t : ℕ) (side : Side) → length (queue w t side) ≤ queue_places
  pub ranked : (t : ℕ) (side : Side) → Ranked (before w.session side) (queue w t side)
  pub once : (number : ℕ) → times w number ≤ 1
  pub strange : (t : ℕ) (side : Side) → ticker_known t ≡ false → queue w t side ≡ []
  -- a closed floor has no standing bid, and nothing is said of its book
  pub shut : is_closed w.session ≡ true → (t : ℕ) (side : Side) → queue w t side ≡ []
  -- else the listing is valid, and what is blocked is what the standing bids oblige to
  pub listing : is_closed w.session ≡ false → valid_listing w.listing ≡ true
  pub backed : is_closed w.session ≡ false → (h a : ℕ) → h < 16 → a < 12 → w.book.blocked h a ≡ all_owing w h a
  -- in trading nothing that could trade is left standing; in post-trading all stand at the average
  pub uncrossed : is_trading w.session ≡ true → (t : ℕ) → Uncrossed w t
  pub averaged : is_post_trading w.session ≡ true → (t : ℕ) (side : Side) → AllByRecursion (λ x. average_of (w.sheets t) ≡ Some x.price) (queue w t side)
  -- the numbers of the day; each lot bought or still wanted came with a number
  pub given : w.given ≤ most_numbers
  pub cheapest : (t : ℕ) → (w.sheets t).traded ≤ (w.sheets t).worth
  pub dearest : (t : ℕ) → (w.sheets t).worth ≤ most_price * (w.sheets t).traded
  pub bought : (t : ℕ) → (w.sheets t).traded + standing_lots (queue w t Buy) ≤ most_lots * w.given

-- a floor made over any register, also one with something blocked, under any rule
abbrev pub MadeFloorsAreSound : Type 0
MadeFloorsAreSound = (r : Rule) (b : Book) → Sound r.step (made b)
