-- What is claimed of looking at a floor: what there is is answered as it is, and what there is not is refused.
use Rattle.model.specs.Words.{ℕ}
use Rattle.model.specs.Market.{Side, Fault}
use Rattle.model.specs.Numbers.{number_of}
use Rattle.model.specs.World.{World, queue, average_of}
use Rattle.model.specs.Looks.{look_account, look_queue, look_average}
use Rattle.std.specs.Prelude.{◌≤◌, ◌<◌, ◌≡◌, Ok, Err, Result}

-- refused by a number, with the ticker as it was given
abbrev pub RefusedBy : {X : Type 0} → ℕ → ℕ → Result X Fault → Type 0
RefusedBy number t (Ok x) = ⊥
RefusedBy number t (Err f) = (number_of f.cause ≡ number) × (f.ticker ≡ t)

-- the two numbers: of no such account, and of no such ticker
pub record LooksAreRight (account ticker : ℕ) : Type 0 where
  pub accounts : (w : World) (h a : ℕ) → h < 16 → a < 12
      → look_account w h a ≡ Ok (record { free = w.book.free h a; blocked = w.book.blocked h a; limit = w.book.limit h a })
  pub no_account : (w : World) (h a : ℕ) → (h < 16 → a < 12 → ⊥) → RefusedBy account 0 (look_account w h a)
  pub queues : (w : World) (t : ℕ) (side : Side) → 4 ≤ t → t ≤ 11 → look_queue w t side ≡ Ok (queue w t side)
  pub no_queue : (w : World) (t : ℕ) (side : Side) → (4 ≤ t → t ≤ 11 → ⊥) → RefusedBy ticker t (look_queue w t side)
  pub averages : (w : World) (t : ℕ) → 4 ≤ t → t ≤ 11 → look_average w t ≡ Ok (average_of (w.sheets t))
  pub no_average : (w : World) (t : ℕ) → (4 ≤ t → t ≤ 11 → ⊥) → RefusedBy ticker t (look_average w t)
