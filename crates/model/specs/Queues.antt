-- Queues: who is served first, the best price, and the bid that a holder names.
use Rattle.std.specs.Prelude.{◌&&◌, ◌||◌, ◌∷◌}
use Rattle.model.specs.Words.{ℕ, Bool, not, ltb, eqb, List, [], Option, Some, None, kept}
use Rattle.model.specs.Market.{Side, Buy, Sell, Session, by_session, Standing}

-- ---- the rankings: whether the first of two bids is served before the second
abbrev pub by_number : Standing → Standing → Bool
by_number x y = ltb x.number y.number

-- buys rank by higher price, sells by lower price; at one price the lower number is first
abbrev pub by_price : Side → Standing → Standing → Bool
by_price Buy x y = ltb y.price x.price || (eqb x.price y.price && by_number x y)
by_price Sell x y = ltb x.price y.price || (eqb x.price y.price && by_number x y)

-- post-trading bids rank by number alone
abbrev pub before : Session → Side → Standing → Standing → Bool
before session side = by_session (by_price side) (by_price side) (by_price side) by_number session

-- ---- in a queue
-- the best price is that of the first bid
abbrev pub best_price_lem : List Standing → Option ℕ
best_price_lem [] = None
best_price_lem (x ∷ xs) = Some x.price

-- a bid with other lots left
abbrev pub with_lots : Standing → ℕ → Standing
with_lots x n = record { number = x.number; holder = x.holder; price = x.price; lots = n }

-- the bid of this holder and number, and the queue without it
abbrev pub named : ℕ → ℕ → Standing → Bool
named holder number x = eqb x.holder holder && eqb x.number number

abbrev pub without : ℕ → ℕ → List Standing → List Standing
without holder number queue = kept (λ x. not (named holder number x)) queue
