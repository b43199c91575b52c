-- Words that are compared byte for byte, and tables of them.
use Rattle.std.proofs.Common.{◌≡◌, ℕ, Bool, true, false, cond, List, [], ◌∷◌, Some, None, Ok, Err, Option, Result, Bor, refl, eqb, rules}
use Rattle.std.specs.Cmp.Lexicographic.{pointwise}
use Rattle.std.specs.List.{find}
use Rattle.std.specs.Str.{bytes_eq}
use Rattle.std.proofs.lemmas.Slice.Eq.{slice_eq-Decides, bytes_eq-Decides}
use Rattle.std.proofs.lemmas.Bool.Decides.{Decides-eqb}
use Rattle.script.specs.Lines.{same_word, one_of_lem}

-- what `==` says of two words
pub same_is : (v w : List ℕ) (r : Bool) → r ≡ pointwise eqb v w → r ≡ same_word v w
unfolding same_word
same_is v w r e =
    let d = slice_eq-Decides Decides-eqb v w r e in
    let s = bytes_eq-Decides v w in
    search rules

-- what an entry that was found gives
abbrev pub given : {A E : Type 0} → E → Option (Bor (List ℕ) × A) → Result A E
given e (Some p) = Ok p.1
given e None = Err e

-- the first entry of a table with a word
pub first_named : {A E : Type 0} (w : List ℕ) (t : List (Bor (List ℕ) × A)) (e : E) → one_of_lem w t e ≡ given e (find (λ p. bytes_eq w p.0.now) t)
unfolding same_word
first_named w [] e = refl
first_named w (p ∷ ps) e = either (bytes_eq w p.0.now) (first_named w ps e)
  where
    either : (t : Bool) → one_of_lem w ps e ≡ given e (find (λ q. bytes_eq w q.0.now) ps) → cond t (Ok p.1) (one_of_lem w ps e) ≡ given e (cond t (Some p) (find (λ q. bytes_eq w q.0.now) ps))
    either true more = refl
    either false more = more
