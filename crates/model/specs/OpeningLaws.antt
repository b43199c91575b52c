-- What is claimed of the opening.
use Rattle.std.specs.Prelude.{◌+◌, ◌≤◌, ◌<◌, ◌≡◌}
use Rattle.model.specs.Words.{ℕ, List, length, AllByRecursion, map, Memᴰ, Some}
use Rattle.model.specs.Market.{Side, Buy, Sell, Standing, Trade, Open}
use Rattle.model.specs.Queues.{by_price}
use Rattle.model.specs.Average.{lots_of}
use Rattle.model.specs.Matching.{Deal, trades_of}
use Rattle.model.specs.Opening.{Opened, tradable, gap, standing_prices, opening_price_lem, opening}
use Rattle.model.specs.Serving.{Served, Along, traded_by, left_of, numbers_of}
use Rattle.model.specs.World.{World}
use Rattle.model.specs.Calls.{trades_made}
use Rattle.ranking.specs.Ranks.{Pairwise, Ranked}

-- the price is one that a bid stands at; at no whole price whatsoever would more lots trade; and of the standing prices at which as
-- many would trade, none has a smaller difference of demand and supply, and none with the same difference is lower
pub record Best (buys sells : List Standing) (o : ℕ) : Type 0 where
  pub stands : Memᴰ o (standing_prices buys sells)
  pub most : (p : ℕ) → tradable buys sells p ≤ tradable buys sells o
  pub nearest : (p : ℕ) → Memᴰ p (standing_prices buys sells) → tradable buys sells p ≡ tradable buys sells o → gap buys sells o ≤ gap buys sells p
  pub lowest : (p : ℕ)
      → Memᴰ p (standing_prices buys sells)
      → tradable buys sells p ≡ tradable buys sells o
      → gap buys sells p ≡ gap buys sells o
      → o ≤ p

abbrev pub OpeningPriceIsBest : Type 0
OpeningPriceIsBest = (buys sells : List Standing) (o : ℕ) → opening_price_lem buys sells ≡ Some o → Best buys sells o

-- ---- the trades
-- a deal of a standing buy at or above the price with a standing sell at or below it; the buyer has blocked his own price
pub record Reached (o : ℕ) (buys sells : List Standing) (d : Deal) : Type 0 where
  pub bid : Standing
  pub offer : Standing
  pub bids : Memᴰ bid buys
  pub offers : Memᴰ offer sells
  pub above : o ≤ bid.price
  pub below : offer.price ≤ o
  pub buyer : (d.trade.buyer ≡ bid.holder) × (d.trade.buy ≡ bid.number)
  pub seller : (d.trade.seller ≡ offer.holder) × (d.trade.sell ≡ offer.number)
  pub held : d.held ≡ bid.price

-- of each bid, what it traded and what is left of it are what it had
abbrev pub Conserved : Side → List Trade → List Standing → List Standing → Type 0
Conserved side trades before after = (k : ℕ) → left_of k before ≡ traded_by side k trades + left_of k after

pub record OpenedWell (t o : ℕ) (buys sells : List Standing) (r : Opened) : Type 0 where
  -- exactly the smaller of demand and supply is traded, all of this ticker and at this price
  pub smaller : lots_of (trades_of r.deals) ≡ tradable buys sells o
  pub price : AllByRecursion (λ x. (x.ticker ≡ t) × (x.price ≡ o)) (trades_of r.deals)
  -- between buys at or above it and sells at or below it
  pub reached : AllByRecursion (Reached o buys sells) r.deals
  -- in ranking order: the trades go along both queues and never back, and both are served from the front
  pub buys_order : Along (map (λ x. x.buy) (trades_of r.deals)) (numbers_of buys)
  pub sells_order : Along (map (λ x. x.sell) (trades_of r.deals)) (numbers_of sells)
  pub buys_served : Served buys r.buys
  pub sells_served : Served sells r.sells
  -- at most as many trades as bids stood
  pub few : length r.deals ≤ length buys + length sells
  -- no lot is lost or made
  pub buys_conserved : Conserved Buy (trades_of r.deals) buys r.buys
  pub sells_conserved : Conserved Sell (trades_of r.deals) sells r.sells
  -- afterwards every buy is priced below every sell
  pub apart : AllByRecursion (λ b. AllByRecursion (λ s. b.price < s.price) r.sells) r.buys

-- of ranked queues of bids that have at least so many lots
abbrev pub OpeningClears : ℕ → Type 0
OpeningClears least =
    (t o : ℕ) (buys sells : List Standing)
    → Ranked (by_price Buy) buys
    → Ranked (by_price Sell) sells
    → AllByRecursion (λ x. least ≤ x.lots) buys
    → AllByRecursion (λ x. least ≤ x.lots) sells
    → opening_price_lem buys sells ≡ Some o
    → OpenedWell t o buys sells (opening t buys sells)

-- ---- the opening of the whole floor: tickers follow in rising order
abbrev pub TickersRise : Type 0
TickersRise = (w : World) (room : ℕ) → Pairwise (λ x y. x.ticker ≤ y.ticker) (trades_made w (Open room))
