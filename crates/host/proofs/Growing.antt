-- Texts that grow.
use Rattle.std.proofs.Common.{◌≡◌, ℕ, ◌+◌, ◌<◌, ◌≤◌, List, ◌++◌, Some, Option, length, get_or, drop, sym, ap, ◌∙◌, subst, append_assoc, append-nil, add-one}
use Rattle.std.specs.Fmt.{AppendsText, with_newline}
use Rattle.std.proofs.lemmas.List.{at_drop_more, at_drop_all}
use Rattle.host.specs.Answering.{told, told_each, below}

-- what a text gets where something is written with its newline, whose printed form is known
pub shown-line : {X : Type 0} (text text' : List ℕ) (line : X → List ℕ) (shows : X → Option (List ℕ)) (x y : X)
    → ((z : X) → shows z ≡ Some (line z)) → x ≡ y → AppendsText text text' (with_newline (shows x)) → text' ≡ text ++ told (line y)
shown-line text text' line shows x y tells e a =
    subst (λ o. AppendsText text text' (with_newline o)) (ap shows e ∙ tells y) a

-- ---- a line for each of some things: the text so far with the lines to come is the whole
module _ {X : Type 0} (line : X → List ℕ) (xs : List X) (text all : List ℕ) (i : ℕ) (inv : text ++ told_each line (drop i xs) ≡ all) where
  pub each_more : (d : X) (text' : List ℕ) → i < length xs → text' ≡ text ++ told (line (get_or xs i d)) → text' ++ told_each line (drop (i + 1) xs) ≡ all
  each_more d text' l e =
      ap (λ t. t ++ told_each line (drop (i + 1) xs)) e ∙ append_assoc text (told (line (get_or xs i d))) (told_each line (drop (i + 1) xs))
      ∙ ap (λ t. text ++ t) (sym (at_drop_more (told_each line) xs i d l)) ∙ inv

  pub each_all : length xs ≤ i → text ≡ all
  each_all l = sym (append-nil text) ∙ ap (λ t. text ++ t) (sym (at_drop_all (told_each line) xs i l)) ∙ inv

-- ---- the same for the numbers below n
pub below_none : (text : List ℕ) (of : ℕ → List ℕ) → text ≡ text ++ below 0 of
unfolding below
below_none text of = sym (append-nil text)

pub below_more : (text : List ℕ) (of : ℕ → List ℕ) (n : ℕ) (text' text'' : List ℕ) → text' ≡ text ++ below n of → text'' ≡ text' ++ of n → text'' ≡ text ++ below (n + 1) of
unfolding below
below_more text of n text' text'' e f =
    f ∙ ap (λ t. t ++ of n) e ∙ append_assoc text (below n of) (of n) ∙ ap (λ (m : ℕ). text ++ below m of) (sym (add-one n))
