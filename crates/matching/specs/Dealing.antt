-- A newcomer and the queue that it meets, in the words of the market's definitions.
use Rattle.std.specs.Prelude.{ℕ, ◌*◌, min, Bool, cond, ◌&&◌, List, [], ◌∷◌, Some, None, Option, nat_lt}
use Rattle.register.specs.declared.slips.Slip.{Slip}
use Rattle.rules.specs.declared.bid.Side.{Side}
use Rattle.rules.specs.declared.bid.Side.TheVariants.{Buy, Sell}
use Rattle.model.specs.declared.words.Standing.{Standing}
use Rattle.model.specs.Words.{or_else}
use Rattle.model.specs.Matching.{Deal, Met, crosses, taking, meet}
use Rattle.matching.specs.declared.newcomers.Newcomer.{Newcomer}

-- what bids of a side are paid with: currency, ticker
abbrev pub asset_by : ℕ → ℕ → Side → ℕ
asset_by currency t Buy = currency
asset_by currency t Sell = t

-- a slip of the newcomer for an amount
abbrev pub mine_of : Newcomer → ℕ → Slip
mine_of c n = record { holder = c.bid.holder; asset = asset_by c.currency c.bid.ticker c.bid.side; amount = n }

-- with so many lots left it trades at a standing price
abbrev pub meets : Newcomer → ℕ → ℕ → Bool
meets c left price = nat_lt 0 left && crosses c.bid.side c.limit price

-- its deal with a standing bid
abbrev pub deal_with : Newcomer → Standing → ℕ → Deal
deal_with c x n = taking c.number c.bid c.limit c.bid.side x n

-- what a deal at a price takes from its slip
abbrev pub used_by : Side → Option ℕ → ℕ → ℕ → ℕ
used_by Buy limit price n = or_else limit price * n
used_by Sell limit price n = n

abbrev pub used_of : Newcomer → ℕ → ℕ → ℕ
used_of c price n = used_by c.bid.side c.limit price n

-- what becomes of n lots of it
abbrev pub met_by : Newcomer → ℕ → List Standing → Met
met_by c n queue = meet (crosses c.bid.side c.limit) (taking c.number c.bid c.limit c.bid.side) n queue

-- its deal with the first of the queue, if it makes one
abbrev pub first_deal : Newcomer → ℕ → List Standing → Option Deal
first_deal c n [] = None
first_deal c n (x ∷ xs) = cond (meets c n x.price) (Some (deal_with c x (min n x.lots))) None
