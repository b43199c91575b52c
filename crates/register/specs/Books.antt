-- What a register means: a number for each holder and asset of what is free, of what is blocked, and of the cap.
use Rattle.std.specs.Prelude.{ℕ, zero, suc, ◌+◌, ◌-◌, Bool, cond, ◌&&◌, ◌==◌, nat_lt}

-- all holders together never have more of an asset, free and blocked
abbrev pub most_amount : ℕ
most_amount = 10000000000000000

-- holders are 0 to 15, assets 0 to 11
abbrev pub holder_known_lem : ℕ → Bool
holder_known_lem h = nat_lt h 16

abbrev pub asset_known : ℕ → Bool
asset_known a = nat_lt a 12

-- a number for each holder and asset
abbrev pub Sums : Type 0
Sums = ℕ → ℕ → ℕ

-- `limit` is the cap on what may be blocked; `tag` names, for a holder, an asset and a blocked sum above the
-- cap, the layer that refuses it
pub record Book : Type 0 where
  pub free : Sums
  pub blocked : Sums
  pub limit : Sums
  pub tag : ℕ → ℕ → ℕ → ℕ

-- n at one holder and asset, and 0 at every other
unfoldable pub at : ℕ → ℕ → ℕ → Sums
at h a n = λ x y. cond (x == h && y == a) n 0

-- f with n more, and with n less, at one holder and asset
abbrev pub plus : Sums → ℕ → ℕ → ℕ → Sums
plus f h a n = λ x y. f x y + at h a n x y

abbrev pub minus : Sums → ℕ → ℕ → ℕ → Sums
minus f h a n = λ x y. f x y - at h a n x y

-- the sum of f at each number below n
unfoldable pub sum_to : ℕ → (ℕ → ℕ) → ℕ
sum_to zero f = 0
sum_to (suc n) f = sum_to n f + f n

-- what all holders have of an asset, free and blocked
abbrev pub total : Book → ℕ → ℕ
total b a = sum_to 16 (λ h. b.free h a + b.blocked h a)

-- nothing free, nothing blocked, and every cap at the most
abbrev pub empty_book : Book
empty_book = record { free = λ h a. 0; blocked = λ h a. 0; limit = λ h a. most_amount; tag = λ h a n. 0 }
