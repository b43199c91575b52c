-- Slots of which the first n hold a list: what an insertion and a removal leave of them. Assumes nothing.
use Rattle.std.proofs.Common.{◌≡◌, ℕ, ◌+◌, ◌<◌, ◌≤◌, Bool, true, List, ◌∷◌, ◌++◌, length, get_or, take, drop, sym, ap, ◌∙◌, subst, arith}
use mathlib.Core.List.{Permᴰ}
use Rattle.std.specs.List.{insert, remove}
use Rattle.std.proofs.lemmas.List.{take_at, drop_at, get_or_read, get_or-take, length-take-le}
use Rattle.ranking.specs.Ranks.{place_of, insert_ranked, Ranked, is_ranked, OrderLaws}
use Rattle.ranking.proofs.Places.{inserted-at-place}
use Rattle.ranking.proofs.Perms.{insert_ranked-perm, length-insert_ranked, removed-perm}
use Rattle.ranking.proofs.Ranked.{insert_ranked-ranked, insert_ranked-tested, removed-ranked, removed-tested}

module _ {E : Type 0} (before : E → E → Bool) (e : E) (slots exit : List E) (n at : ℕ) (room : n < length slots) (is : at ≡ place_of before e (take n slots)) (left : exit ≡ insert (take n slots) at e ++ drop (n + 1) slots) where
  whole : exit ≡ insert_ranked before e (take n slots) ++ drop (n + 1) slots
  whole = left ∙ ap (λ i. insert (take n slots) i e ++ drop (n + 1) slots) is ∙ ap (λ l. l ++ drop (n + 1) slots) (inserted-at-place before e (take n slots))

  long : length (insert_ranked before e (take n slots)) ≡ n + 1
  long = omega (arith, length-insert_ranked before e (take n slots), length-take-le n slots (omega arith))

  pub insert-front : take (n + 1) exit ≡ insert_ranked before e (take n slots)
  insert-front = ap (take (n + 1)) whole ∙ take_at _ (drop (n + 1) slots) _ long

  pub insert-behind : drop (n + 1) exit ≡ drop (n + 1) slots
  insert-behind = ap (drop (n + 1)) whole ∙ drop_at _ (drop (n + 1) slots) _ long

-- what follows where ys is the list after an insertion
module _ {E : Type 0} (before : E → E → Bool) (e : E) (xs ys : List E) (is : ys ≡ insert_ranked before e xs) where
  pub insert-same : Permᴰ (e ∷ xs) ys
  insert-same = subst (Permᴰ (e ∷ xs)) (sym is) (insert_ranked-perm before e xs)

  pub insert-ranked : OrderLaws before → Ranked before xs → Ranked before ys
  insert-ranked laws r = subst (Ranked before) (sym is) (insert_ranked-ranked before laws e xs r)

  pub insert-tested : OrderLaws before → is_ranked before xs ≡ true → is_ranked before ys ≡ true
  insert-tested laws t = ap (is_ranked before) is ∙ insert_ranked-tested before laws e xs t

-- what was read at a place of the list
pub read-front : {E : Type 0} (slots : List E) (n at : ℕ) (r : E) → n ≤ length slots → at < n → r ≡ get_or slots at r → (d : E) → r ≡ get_or (take n slots) at d
read-front slots n at r h l e d = get_or_read slots at r (omega arith) e d ∙ sym (get_or-take n slots at d l)

-- what follows where ys is the list after a removal
module _ {E : Type 0} (before : E → E → Bool) (xs ys : List E) (at : ℕ) (is : ys ≡ remove xs at) where
  pub remove-same : (r : E) → at < length xs → r ≡ get_or xs at r → Permᴰ xs (r ∷ ys)
  remove-same r h e =
      subst (λ l. Permᴰ xs (r ∷ l)) (sym is) (subst (λ x. Permᴰ xs (x ∷ remove xs at)) (sym e) (removed-perm xs at r h))

  pub remove-ranked : Ranked before xs → Ranked before ys
  remove-ranked r = subst (Ranked before) (sym is) (removed-ranked before xs at r)

  pub remove-tested : is_ranked before xs ≡ true → is_ranked before ys ≡ true
  remove-tested t = ap (is_ranked before) is ∙ removed-tested before xs at t
