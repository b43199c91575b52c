-- The limits of a bid, and what it obliges its holder to.
use Rattle.std.specs.Prelude.{◌*◌, ◌&&◌}
use Rattle.rules.specs.Words.{ℕ, Bool, leb, Option, Some, None, Side, Buy, Sell}

-- the highest price of a lot, in minor units of the currency
abbrev pub most_price : ℕ
most_price = 10000000

-- the most lots of one bid
abbrev pub most_lots : ℕ
most_lots = 1000000

abbrev pub is_price_lem : ℕ → Bool
is_price_lem n = leb 1 n && leb n most_price

abbrev pub is_lots_lem : ℕ → Bool
is_lots_lem n = leb 1 n && leb n most_lots

abbrev pub other : Side → Side
other Buy = Sell
other Sell = Buy

-- side, price or none, lots: a sell obliges to its lots, a priced buy to price × lots of the currency; a buy without a price obliges to
-- nothing by itself
abbrev pub obligation_of : Side → Option ℕ → ℕ → ℕ
obligation_of Sell price lots = lots
obligation_of Buy (Some price) lots = price * lots
obligation_of Buy None lots = 0
