-- The opening auction of one ticker.
use Rattle.std.specs.Prelude.{◌+◌, ◌-◌, ◌&&◌, ◌||◌, ◌∷◌, ◌++◌}
use Rattle.model.specs.Words.{ℕ, Bool, cond, leb, ltb, eqb, List, [], map, Option, Some, None, only, sum_of, min}
use Rattle.model.specs.Market.{Standing}
use Rattle.model.specs.Queues.{with_lots}
use Rattle.model.specs.Matching.{Deal, meet}

-- ---- the opening price
-- the lots of the bids whose price passes a test
abbrev pub lots_where : (ℕ → Bool) → List Standing → ℕ
lots_where test queue = sum_of (λ x. cond (test x.price) x.lots 0) queue

-- at a price, demand is the lots of buys at or above it and supply the lots of sells at or below it
unfoldable pub demand : List Standing → ℕ → ℕ
demand buys price = lots_where (λ p. leb price p) buys

unfoldable pub supply : List Standing → ℕ → ℕ
supply sells price = lots_where (λ p. leb p price) sells

-- the smaller of the two, which could trade there, and their difference
unfoldable pub tradable : List Standing → List Standing → ℕ → ℕ
tradable buys sells price = min (demand buys price) (supply sells price)

unfoldable pub gap : List Standing → List Standing → ℕ → ℕ
gap buys sells price = (demand buys price - supply sells price) + (supply sells price - demand buys price)

-- one price is better than another where more could trade; or as much, with less difference; or both the same, and it is lower
unfoldable pub better : List Standing → List Standing → ℕ → ℕ → Bool
better buys sells p q =
    ltb (tradable buys sells q) (tradable buys sells p)
    || (eqb (tradable buys sells q) (tradable buys sells p)
    && (ltb (gap buys sells p) (gap buys sells q)
    || (eqb (gap buys sells p) (gap buys sells q) && ltb p q)))

-- the best of a price and a list of prices
abbrev pub best_from : (ℕ → ℕ → Bool) → ℕ → List ℕ → ℕ
best_from beats p [] = p
best_from beats p (q ∷ qs) = best_from beats (cond (beats q p) q p) qs

abbrev pub best_of : (ℕ → ℕ → Bool) → List ℕ → Option ℕ
best_of beats [] = None
best_of beats (p ∷ ps) = Some (best_from beats p ps)

abbrev pub prices_of : List Standing → List ℕ
prices_of queue = map (λ x. x.price) queue

abbrev pub standing_prices : List Standing → List Standing → List ℕ
standing_prices buys sells = prices_of buys ++ prices_of sells

-- the best of the standing prices; none where no bid stands
unfoldable pub opening_price_lem : List Standing → List Standing → Option ℕ
opening_price_lem buys sells = best_of (better buys sells) (standing_prices buys sells)

-- ---- the opening's trades: the deals made, and the two queues that are left
pub record Opened : Type 0 where
  pub deals : List Deal
  pub buys : List Standing
  pub sells : List Standing

abbrev pub unopened : List Standing → List Standing → Opened
unopened buys sells = record { deals = []; buys = buys; sells = sells }

-- a buy takes n lots of a sell at the opening price; it has blocked its own price
abbrev pub auctioned : ℕ → ℕ → Standing → Standing → ℕ → Deal
auctioned ticker price b s n = record {
  trade = record { ticker = ticker; buyer = b.holder; seller = s.holder; buy = b.number; sell = s.number; price = price; lots = n };
  held = b.price;
}

-- the best remaining buy meets the best remaining sell, as long as both reach the price
unfoldable pub uncross : ℕ → ℕ → List Standing → List Standing → Opened
uncross ticker price [] sells = unopened [] sells
uncross ticker price (b ∷ buys) sells =
    let m = meet (λ p. leb p price) (auctioned ticker price b) b.lots sells in
    let r = uncross ticker price buys m.queue in
    cond
    (leb price b.price)
    (record { deals = m.deals ++ r.deals; buys = only (ltb 0 m.left) (with_lots b m.left) ++ r.buys; sells = r.sells })
    (unopened (b ∷ buys) sells)

-- at the opening price, where there is one
abbrev pub opening_at : ℕ → Option ℕ → List Standing → List Standing → Opened
opening_at ticker None buys sells = unopened buys sells
opening_at ticker (Some price) buys sells = uncross ticker price buys sells

unfoldable pub opening : ℕ → List Standing → List Standing → Opened
opening ticker buys sells = opening_at ticker (opening_price_lem buys sells) buys sells
