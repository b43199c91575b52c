-- What is claimed of the average. Proofs elsewhere use these laws and never how it is rounded.
use Rattle.std.specs.Prelude.{◌+◌, ◌*◌, ◌≤◌, ◌<◌, ◌≡◌}
use Rattle.model.specs.Words.{ℕ, List, AllByRecursion}
use Rattle.model.specs.Market.{Trade}
use Rattle.model.specs.Average.{average_price_lem, cost_of, lots_of}

pub record AverageLaws : Type 0 where
  -- it lies between any bounds that the prices have
  pub least : (worth lots low : ℕ) → 1 ≤ lots → low * lots ≤ worth → low ≤ average_price_lem worth lots
  pub most : (worth lots high : ℕ) → 1 ≤ lots → worth ≤ high * lots → average_price_lem worth lots ≤ high
  pub between : (trades : List Trade) (low high : ℕ)
      → 1 ≤ lots_of trades
      → AllByRecursion (λ x. low ≤ x.price) trades
      → AllByRecursion (λ x. x.price ≤ high) trades
      → (low ≤ average_price_lem (cost_of trades) (lots_of trades)) × (average_price_lem (cost_of trades) (lots_of trades) ≤ high)
  -- prices are at least 1, and so is it
  pub positive : (worth lots : ℕ) → 1 ≤ lots → lots ≤ worth → 1 ≤ average_price_lem worth lots
  -- a further trade at the average leaves it as it is
  pub steady : (worth lots n : ℕ) → 1 ≤ lots → average_price_lem (worth + average_price_lem worth lots * n) (lots + n) ≡ average_price_lem worth lots

-- the rounding itself: it is not above the exact average, and less than so many units below it
pub record RoundedDown (units : ℕ) : Type 0 where
  pub below : (worth lots : ℕ) → 1 ≤ lots → average_price_lem worth lots * lots ≤ worth
  pub near : (worth lots : ℕ) → 1 ≤ lots → worth < (average_price_lem worth lots + units) * lots
