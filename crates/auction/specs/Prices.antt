-- The choice of the opening price, with the numbers of each price at hand.
use Rattle.std.specs.Prelude.{ℕ, ◌≤◌, Bool, cond, ◌&&◌, ◌||◌, List, [], ◌∷◌, length, Some, None, Option, ◌==◌, nat_lt}
use Rattle.rules.specs.declared.bid.Side.TheVariants.{Buy, Sell}
use Rattle.model.specs.declared.words.Standing.{Standing}
use Rattle.model.specs.Queues.{by_price}
use Rattle.model.specs.Opening.{tradable, gap}
use Rattle.std.specs.Coded.{×_prop, Unit-prop, le_prop}
use Rattle.std.specs.List.{AllByRecursion-prop}
use Rattle.std.proofs.Props.{props}
use Rattle.ranking.specs.Ranks.{Pairwise, Ranked}
use Rattle.auction.specs.declared.prices.Candidate.{Candidate}

-- the two queues of a ticker: ranked, with at most 64 bids each
pub record RankedQueues (buys sells : List Standing) : Type 0 where
  pub buys_ranked : Ranked (by_price Buy) buys
  pub sells_ranked : Ranked (by_price Sell) sells
  pub buys_few : length buys ≤ 64
  pub sells_few : length sells ≤ 64

-- there is one proof of it at most, so that a struct can hold it
pub Pairwise-prop : {E : Type 0} (R : E → E → Type 0) → ((x y : E) → IsProp (R x y)) → (xs : List E) → IsProp (Pairwise R xs)
Pairwise-prop R p [] = Unit-prop
Pairwise-prop R p (x ∷ xs) = ×_prop (AllByRecursion-prop (R x) (p x) xs) (Pairwise-prop R p xs)

pub RankedQueues-prop : (buys sells : List Standing) → IsProp (RankedQueues buys sells)
RankedQueues-prop buys sells = hlevel (props, le_prop, Pairwise-prop)

-- a price with its numbers
abbrev pub candidate_at : List Standing → List Standing → ℕ → Candidate
candidate_at buys sells p = record { price = p; lots = tradable buys sells p; apart = gap buys sells p }

-- more lots; or as many, with less difference; or both the same, and lower
abbrev pub better_than : Candidate → Candidate → Bool
better_than x y =
    nat_lt y.lots x.lots || (y.lots == x.lots && (nat_lt x.apart y.apart || (x.apart == y.apart && nat_lt x.price y.price)))

-- the best so far, if there is one, or the next
abbrev pub better_of_lem : Option Candidate → Candidate → Candidate
better_of_lem None next = next
better_of_lem (Some best) next = cond (better_than next best) next best

-- the best so far, if there is one, or one of the further prices
abbrev pub best_among_lem : List Standing → List Standing → Option Candidate → List ℕ → Option Candidate
best_among_lem buys sells best [] = best
best_among_lem buys sells best (p ∷ ps) = best_among_lem buys sells (Some (better_of_lem best (candidate_at buys sells p))) ps
