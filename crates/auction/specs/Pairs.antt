-- The next trade of an opening at a price: the first buy and the first sell, where both reach it.
use Rattle.std.specs.Prelude.{ℕ, ◌+◌, ◌*◌, ◌^◌, ◌<◌, min, cond, ◌&&◌, List, [], Some, None, Option}
use Rattle.rules.specs.declared.bid.Side.TheVariants.{Buy, Sell}
use Rattle.register.specs.Moves.{Move}
use Rattle.model.specs.declared.words.Standing.{Standing}
use Rattle.model.specs.declared.words.Trade.{Trade}
use Rattle.model.specs.Matching.{Deal}
use Rattle.model.specs.Opening.{auctioned}
use Rattle.model.specs.Movements.{settlement}
use Rattle.model.specs.World.{Sheet}
use Rattle.queues.specs.Entries.{first_of, lots_taken}
use Rattle.auction.specs.Volumes.{reaches_at}

-- two bids, where both are there and both reach the price
abbrev pub pair_of : ℕ → Option Standing → Option Standing → Option (Standing × Standing)
pair_of price None sell = None
pair_of price (Some b) None = None
pair_of price (Some b) (Some s) = cond (reaches_at Buy price b && reaches_at Sell price s) (Some (b, s)) None

-- their deal: as many lots as both have
abbrev pub pair_deal : ℕ → ℕ → Standing → Standing → Deal
pair_deal t price b s = auctioned t price b s (min b.lots s.lots)

abbrev pub deal_of : ℕ → ℕ → Option (Standing × Standing) → Option Deal
deal_of t price None = None
deal_of t price (Some (b, s)) = Some (pair_deal t price b s)

-- the next deal on a sheet, if there is one
abbrev pub next_deal : ℕ → ℕ → Sheet → Option Deal
next_deal t price s = deal_of t price (pair_of price (first_of s.buys) (first_of s.sells))

-- its trade, and what it moves at the register
abbrev pub trade_in : Option Deal → Option Trade
trade_in None = None
trade_in (Some d) = Some d.trade

abbrev pub deal_moves : ℕ → Option Deal → List Move
deal_moves currency None = []
deal_moves currency (Some d) = settlement currency d

-- a sheet after a trade of its first two bids
abbrev pub traded_on : Trade → Sheet → Sheet
traded_on x s = record { buys = lots_taken x.lots s.buys; sells = lots_taken x.lots s.sells; worth = s.worth + x.price * x.lots; traded = s.traded + x.lots }

abbrev pub after_trade : Option Trade → Sheet → Sheet
after_trade None s = s
after_trade (Some x) s = traded_on x s

-- the sums of a sheet fit 64 bits
pub record SumsHeld (s : Sheet) : Type 0 where
  pub worth : s.worth < 2 ^ 64
  pub traded : s.traded < 2 ^ 64
