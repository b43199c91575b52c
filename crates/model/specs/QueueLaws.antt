-- What is claimed of the queues of a sound floor, and of a cancellation, as a holder would ask it.
use Rattle.std.specs.Prelude.{◌+◌, ◌≤◌, ◌≡◌, ◌≢◌, ◌∷◌, ◌++◌}
use Rattle.model.specs.Words.{ℕ, List}
use Rattle.model.specs.Market.{Side, Buy, Sell, other, Session, Standing, Cancel, Cancelled}
use Rattle.model.specs.World.{World, queue}
use Rattle.model.specs.Calls.{answer, after}
use Rattle.model.specs.Sound.{Sound}
use Rattle.ranking.specs.Ranks.{Pairwise}
use Rattle.rules.specs.Rules.{Rule}

-- ---- price, then time
-- the first of two prices is no worse than the second: of buys the higher, of sells the lower
abbrev pub NoWorse : Side → ℕ → ℕ → Type 0
NoWorse Buy p q = q ≤ p
NoWorse Sell p q = p ≤ q

-- no bid has a better price than one in front of it, and of two at one price the one in front came first: its number is lower, by at
-- least so much
pub record InOrder (least : ℕ) (side : Side) (queue : List Standing) : Type 0 where
  pub price : Pairwise (λ x y. NoWorse side x.price y.price) queue
  pub time : Pairwise (λ x y. x.price ≡ y.price → x.number + least ≤ y.number) queue

-- in every session: in post-trading all stand at one price
abbrev pub PriceThenTime : ℕ → Type 0
PriceThenTime least = (step : ℕ) (w : World) → Sound step w → (t : ℕ) (side : Side) → InOrder least side (queue w t side)

-- ---- a cancellation: from a floor to the next one
pub record TakenOut (w w' : World) (holder t number lots : ℕ) : Type 0 where
  -- one bid leaves its queue, and those in front of it and behind it stay as they are
  pub side : Side
  pub bid : Standing
  pub front : List Standing
  pub behind : List Standing
  pub stood : queue w t side ≡ front ++ bid ∷ behind
  pub stay : queue w' t side ≡ front ++ behind
  -- it is the holder's own, of this number, with the lots that are answered
  pub own : bid.holder ≡ holder
  pub named : bid.number ≡ number
  pub left : bid.lots ≡ lots
  -- every other queue is as it was
  pub other_side : queue w' t (other side) ≡ queue w t (other side)
  pub other_tickers : (u : ℕ) (d : Side) → u ≢ t → queue w' u d ≡ queue w u d

abbrev pub CancelsTakeOwn : Type 0
CancelsTakeOwn =
    (r : Rule) (w : World) (shown : Session) (holder t number lots : ℕ)
    → Sound r.step w
    → answer r w (Cancel shown holder t number) ≡ Cancelled lots
    → TakenOut w (after r w (Cancel shown holder t number)) holder t number lots
