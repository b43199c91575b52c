-- What a queue has at a price, whichever side it is of.
use Rattle.std.specs.Prelude.{ℕ, Bool, List, nat_le}
use Rattle.rules.specs.declared.bid.Side.{Side}
use Rattle.rules.specs.declared.bid.Side.TheVariants.{Buy, Sell}
use Rattle.model.specs.declared.words.Standing.{Standing}
use Rattle.model.specs.Opening.{demand, supply}

-- a bid would trade at this price: a buy priced at or above it, a sell at or below it
abbrev pub reaches_at : Side → ℕ → Standing → Bool
reaches_at Buy price x = nat_le price x.price
reaches_at Sell price x = nat_le x.price price

-- the demand of buys, the supply of sells
abbrev pub volume_of : Side → List Standing → ℕ → ℕ
volume_of Buy queue price = demand queue price
volume_of Sell queue price = supply queue price
