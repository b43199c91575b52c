-- The average price of a ticker's trades. How it is rounded stands here alone: no proof but that of its own laws opens `average_price_lem`.
use Rattle.std.specs.Prelude.{◌*◌, ◌/◌}
use Rattle.model.specs.Words.{ℕ, cond, eqb, List, Option, Some, None, sum_of}
use Rattle.model.specs.Market.{Trade}

-- what trades cost together, and their lots
abbrev pub cost_of : List Trade → ℕ
cost_of trades = sum_of (λ x. x.price * x.lots) trades

abbrev pub lots_of : List Trade → ℕ
lots_of trades = sum_of (λ x. x.lots) trades

-- the price of a lot, where so many lots cost so much together, rounded down
unfoldable pub average_price_lem : ℕ → ℕ → ℕ
average_price_lem worth lots = worth / lots

-- there is none where nothing was traded
abbrev pub average : ℕ → ℕ → Option ℕ
average worth lots = cond (eqb lots 0) None (Some (average_price_lem worth lots))
