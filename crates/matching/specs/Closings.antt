-- What the standing bids of queues, tickers and the whole floor release when they are void.
use Rattle.std.specs.Prelude.{ℕ, List, ◌++◌, map, Some}
use Rattle.std.specs.List.{flat_map}
use Rattle.register.specs.Moves.{Move, Release}
use Rattle.rules.specs.declared.bid.Side.{Side}
use Rattle.rules.specs.declared.bid.Side.TheVariants.{Buy, Sell}
use Rattle.rules.specs.Bids.{obligation_of}
use Rattle.model.specs.declared.words.Standing.{Standing}
use Rattle.model.specs.declared.words.Listing.{Listing}
use Rattle.model.specs.Market.{tickers}
use Rattle.model.specs.Movements.{freeing}
use Rattle.model.specs.World.{Sheet}

-- a bid that is paid with this asset
abbrev pub freeing_by : Side → ℕ → Standing → Move
freeing_by side asset x = Release x.holder asset (obligation_of side (Some x.price) x.lots)

-- the bids of a ticker
abbrev pub sheet_freed : Listing → ℕ → Sheet → List Move
sheet_freed listing t s = map (freeing listing t Buy) s.buys ++ map (freeing listing t Sell) s.sells

-- the bids of all tickers, in rising order
abbrev pub all_freed : Listing → (ℕ → Sheet) → List Move
all_freed listing sheets = flat_map (λ t. sheet_freed listing t (sheets t)) tickers
