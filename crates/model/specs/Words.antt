-- Library words that the other files use, and some small ones on lists and options.
pub use Rattle.std.specs.Prelude.{◌≡◌, refl, Bool, true, false, cond, not, ◌&&◌, ◌||◌, ◌≢◌, ℕ, zero, suc, ◌+◌, ◌-◌, ◌*◌, ◌/◌, ◌%◌, ◌≤◌, ◌<◌, min, leb, ltb, eqb, length, get_or, replicate}
pub use mathlib.Core.List.{List, [], ◌∷◌, ◌++◌, map, Memᴰ, Permᴰ}
pub use Rattle.std.specs.List.{flat_map as joined, AllByRecursion}
pub use Rattle.std.specs.declared.option.Option.{Option}
pub use Rattle.std.specs.declared.option.Option.TheVariants.{Some, None}

-- x, or nothing
abbrev pub only : {X : Type 0} → Bool → X → List X
only true x = x ∷ []
only false x = []

-- those that pass a test
abbrev pub kept : {X : Type 0} → (X → Bool) → List X → List X
kept p xs = joined (λ x. only (p x) x) xs

abbrev pub sum_of : {X : Type 0} → (X → ℕ) → List X → ℕ
sum_of f [] = 0
sum_of f (x ∷ xs) = f x + sum_of f xs

abbrev pub all_of : {X : Type 0} → (X → Bool) → List X → Bool
all_of p [] = true
all_of p (x ∷ xs) = p x && all_of p xs

abbrev pub any_of : {X : Type 0} → (X → Bool) → List X → Bool
any_of p [] = false
any_of p (x ∷ xs) = p x || any_of p xs

abbrev pub is_some : {X : Type 0} → Option X → Bool
is_some (Some x) = true
is_some None = false

abbrev pub or_else : {X : Type 0} → Option X → X → X
or_else (Some x) y = x
or_else None y = y
