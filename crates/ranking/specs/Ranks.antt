-- Ranked lists: what a ranking owes, where an entry goes, and when a list is ranked. Assumes nothing.
use Rattle.std.specs.Prelude.{◌≡◌, ℕ, suc, Bool, true, false, cond, not, ◌&&◌, List, [], ◌∷◌, length, Some, None, Option, nat_lt}
use Rattle.std.specs.List.{AllByRecursion, list_all}

-- The order laws. They leave ties free: two entries of which neither is before the other.
pub record OrderLaws {E : Type 0} (before : E → E → Bool) : Type 0 where
  pub irreflexive : (a : E) → before a a ≡ false
  pub transitive : (a b c : E) → before a b ≡ true → before b c ≡ true → before a c ≡ true
  pub negative : (a b c : E) → before a b ≡ false → before b c ≡ false → before a c ≡ false

-- The first place, counted from 0, whose entry passes the test; the length of the list where none does.
abbrev pub first_place : {E : Type 0} → (E → Bool) → List E → ℕ
first_place test [] = 0
first_place test (x ∷ xs) = cond (test x) 0 (suc (first_place test xs))

-- The first entry that passes the test; d where none does.
abbrev pub first_entry : {E : Type 0} → (E → Bool) → E → List E → E
first_entry test d [] = d
first_entry test d (x ∷ xs) = cond (test x) x (first_entry test d xs)

-- Where an entry goes: the first place whose entry it is before, so behind all in front, which it is not before.
abbrev pub place_of : {E : Type 0} → (E → E → Bool) → E → List E → ℕ
place_of before e xs = first_place (before e) xs

-- The list with the entry at that place, and the entries from there on one place later.
abbrev pub insert_ranked : {E : Type 0} → (E → E → Bool) → E → List E → List E
insert_ranked before e [] = e ∷ []
insert_ranked before e (x ∷ xs) = cond (before e x) (e ∷ x ∷ xs) (x ∷ insert_ranked before e xs)

-- Neither is before the other.
abbrev pub ties : {E : Type 0} → (E → E → Bool) → E → E → Bool
ties before a b = not (before a b) && not (before b a)

-- The first place whose entry ties with e, if there is one.
abbrev pub tie_place : {E : Type 0} → (E → E → Bool) → E → List E → Option ℕ
tie_place before e xs = cond (nat_lt (first_place (ties before e) xs) (length xs)) (Some (first_place (ties before e) xs)) None

-- Each entry stands in the relation to each one behind it.
abbrev pub Pairwise : {E : Type 0} → (E → E → Type 0) → List E → Type 0
Pairwise R [] = Unit {0}
Pairwise R (x ∷ xs) = AllByRecursion (R x) xs × Pairwise R xs

-- A list is ranked when no entry is before one that stands in front of it.
abbrev pub Ranked : {E : Type 0} → (E → E → Bool) → List E → Type 0
Ranked before xs = Pairwise (λ x y. before y x ≡ false) xs

-- The same as a test, which a ghost field can hold.
abbrev pub is_ranked : {E : Type 0} → (E → E → Bool) → List E → Bool
is_ranked before [] = true
is_ranked before (x ∷ xs) = list_all (λ y. not (before y x)) xs && is_ranked before xs

-- No two entries of the list are the same for the test, each compared with those behind it.
abbrev pub is_distinct : {E : Type 0} → (E → E → Bool) → List E → Bool
is_distinct same [] = true
is_distinct same (x ∷ xs) = list_all (λ y. not (same x y)) xs && is_distinct same xs
