-- What an opening promises those who bid, read off the trades on its strip.
use Rattle.std.specs.Prelude.{◌≡◌, ℕ, ◌≤◌, min, List, [], Some, None, nat_eq}
use Rattle.std.specs.List.{AllByRecursion}
use Rattle.rules.specs.declared.bid.Side.TheVariants.{Buy, Sell}
use Rattle.model.specs.declared.words.Standing.{Standing}
use Rattle.model.specs.declared.words.Trade.{Trade}
use Rattle.model.specs.Words.{kept}
use Rattle.model.specs.Average.{lots_of}
use Rattle.model.specs.Opening.{demand, supply, opening_price_lem}
use Rattle.model.specs.World.{World, queue}

-- the trades of one ticker
abbrev pub of_ticker : ℕ → List Trade → List Trade
of_ticker t xs = kept (λ x. nat_eq x.ticker t) xs

-- the trades of a ticker, of which these buys and sells stood
pub record Fair (buys sells : List Standing) (xs : List Trade) : Type 0 where
  -- at no whole price would more lots have traded
  pub most : (p : ℕ) → min (demand buys p) (supply sells p) ≤ lots_of xs
  -- the smaller of demand and supply at the opening price has traded, all at that price
  pub smaller : (o : ℕ) → opening_price_lem buys sells ≡ Some o → lots_of xs ≡ min (demand buys o) (supply sells o)
  pub price : (o : ℕ) → opening_price_lem buys sells ≡ Some o → AllByRecursion (λ x. x.price ≡ o) xs
  -- where there is no opening price, nothing has traded
  pub none : opening_price_lem buys sells ≡ None → xs ≡ []

-- of the world before the opening, a ticker, and the trades of all tickers
abbrev pub OpenedFairly : World → ℕ → List Trade → Type 0
OpenedFairly w t xs = Fair (queue w t Buy) (queue w t Sell) (of_ticker t xs)
