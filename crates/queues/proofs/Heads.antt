-- An element of the first places of a list, and whether any passes a test. Assumes nothing.
use Rattle.std.proofs.Common.{◌≡◌, ℕ, ◌<◌, ◌≤◌, Bool, eqb, ◌||◌, List, [], ◌∷◌, length, get_or, take, sym, refl, ap, ◌∙◌, arith}
use Rattle.std.specs.List.{list_any}
use Rattle.std.proofs.lemmas.List.{get_or-take, get_or_default}
use Rattle.model.specs.declared.words.Standing.{Standing}
use Rattle.model.specs.Words.{any_of}

-- an element of the first n places
pub read-front : {X : Type 0} (xs : List X) (n i : ℕ) (d : X) → n ≤ length xs → i < n → (e : X) → get_or xs i d ≡ get_or (take n xs) i e
read-front xs n i d short h e = get_or_default xs i d e (omega arith) ∙ sym (get_or-take n xs i e h)

abbrev pub of_holder : ℕ → Standing → Bool
of_holder holder x = eqb x.holder holder

-- what the library's search tells
pub list_any-any_of : {X : Type 0} (p : X → Bool) (xs : List X) → list_any p xs ≡ any_of p xs
list_any-any_of p [] = refl
list_any-any_of p (x ∷ xs) = ap (λ b. p x || b) (list_any-any_of p xs)
