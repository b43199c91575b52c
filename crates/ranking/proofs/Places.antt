-- The first place that passes a test, step by step and as a whole, and insertion as insertion at a place. Assumes nothing.
use Rattle.std.proofs.Common.{◌≡◌, ℕ, zero, suc, ◌+◌, ◌<◌, ◌≤◌, Bool, true, false, cond, ltb, List, [], ◌∷◌, ◌++◌, length, get_or, take, drop, Some, None, Option, unwrap_or, sym, refl, ap, ◌∙◌, ⊎_elim, arith}
use Rattle.std.specs.List.{insert, position, position_or_len, AllByRecursion}
use Rattle.std.proofs.lemmas.List.{at_drop_more, at_drop_all}
use Rattle.std.proofs.lemmas.List.Recursion.{is_position_or_len}
use Rattle.std.proofs.lemmas.Bool.{cond-true, cond-false, cond_both, cases_lt, lt-ltb, le-ltb}
use Rattle.ranking.specs.Ranks.{first_place, place_of, insert_ranked}

module _ {E : Type 0} (test : E → Bool) where
  -- one turn of a search from place i on
  pub first-no : (xs : List E) (i : ℕ) (d : E) → i < length xs → test (get_or xs i d) ≡ false → first_place test (drop i xs) ≡ suc (first_place test (drop (i + 1) xs))
  first-no xs i d h f = at_drop_more (first_place test) xs i d h ∙ cond-false _ _ _ f

  pub first-yes : (xs : List E) (i : ℕ) (d : E) → i < length xs → test (get_or xs i d) ≡ true → first_place test (drop i xs) ≡ 0
  first-yes xs i d h t = at_drop_more (first_place test) xs i d h ∙ cond-true _ _ _ t

  pub first-end : (xs : List E) (i : ℕ) → length xs ≤ i → first_place test (drop i xs) ≡ 0
  first-end xs i h = at_drop_all (first_place test) xs i h

  pub first-le : (xs : List E) → first_place test xs ≤ length xs
  first-le [] = omega arith
  first-le (x ∷ xs) = let r = first-le xs in cond_both (test x) _ _ (λ n. n ≤ suc (length xs)) (λ _. omega arith) (λ _. omega arith)

  -- none in front passes, and the one there does
  pub first-front : (xs : List E) → AllByRecursion (λ x. test x ≡ false) (take (first_place test xs) xs)
  first-front [] = tt
  first-front (x ∷ xs) =
      cond_both (test x) 0 (suc (first_place test xs)) (λ n. AllByRecursion (λ y. test y ≡ false) (take n (x ∷ xs))) (λ _. tt) (λ f. (f, first-front xs))

  pub first-here : (xs : List E) (d : E) → first_place test xs < length xs → test (get_or xs (first_place test xs) d) ≡ true
  first-here [] d = λ h. absurd (omega arith)
  first-here (x ∷ xs) d =
      cond_both (test x) 0 (suc (first_place test xs)) (λ n. n < suc (length xs) → test (get_or (x ∷ xs) n d) ≡ true) (λ t _. t) (λ _ h. first-here xs d (omega arith))

  -- and no other place is so
  pub first-is : (xs : List E) (i : ℕ) (d : E) → i ≤ length xs → ((k : ℕ) → k < i → test (get_or xs k d) ≡ false) → (i < length xs → test (get_or xs i d) ≡ true) → i ≡ first_place test xs
  first-is [] zero d l low here = refl
  first-is [] (suc i) d l low here = absurd (omega arith)
  first-is (x ∷ xs) zero d l low here = sym (cond-true _ _ _ (here (omega arith)))
  first-is (x ∷ xs) (suc i) d l low here =
      ap suc (first-is xs i d (omega arith) (λ k h. low (suc k) (omega arith)) (λ h. here (omega arith))) ∙ sym (cond-false _ _ _ (low zero (omega arith)))

  -- a test that none passes
  pub first-none : (xs : List E) → length xs ≤ first_place test xs → AllByRecursion (λ x. test x ≡ false) xs
  first-none [] = λ h. tt
  first-none (x ∷ xs) =
      cond_both (test x) 0 (suc (first_place test xs)) (λ n. suc (length xs) ≤ n → AllByRecursion (λ y. test y ≡ false) (x ∷ xs)) (λ _ h. absurd (omega arith)) (λ f h. (f, first-none xs (omega arith)))

  -- what the library's search finds
  first-position : (xs : List E) → first_place test xs ≡ position_or_len test xs
  first-position xs = is_position_or_len (first_place test) test refl (λ y ys. ap (cond (test y) 0) (omega arith)) xs

  pub position-first : (xs : List E) → position test xs ≡ cond (ltb (first_place test xs) (length xs)) (Some (first_place test xs)) None
  position-first xs = ap (λ n. cond (ltb n (length xs)) (Some n) None) (sym (first-position xs))

  pub position-or-end : (xs : List E) → unwrap_or (position test xs) (length xs) ≡ first_place test xs
  position-or-end xs =
      ap (λ (o : Option ℕ). unwrap_or o (length xs)) (position-first xs) ∙
      (⊎_elim (λ l. ap (λ (o : Option ℕ). unwrap_or o (length xs)) (cond-true _ (Some (first_place test xs)) None (lt-ltb _ _ l)))
      (λ g. ap (λ (o : Option ℕ). unwrap_or o (length xs)) (cond-false _ (Some (first_place test xs)) None (le-ltb _ _ g)) ∙ omega (arith, first-le xs)) (cases_lt (first_place test xs) (length xs)))

module _ {E : Type 0} (before : E → E → Bool) (e : E) where
  pub inserted-at-place : (xs : List E) → insert xs (place_of before e xs) e ≡ insert_ranked before e xs
  inserted-at-place [] = refl
  inserted-at-place (x ∷ xs) =
      let r = inserted-at-place xs in
      elim (before e x) as (λ b. insert (x ∷ xs) (cond b 0 (suc (place_of before e xs))) e ≡ cond b (e ∷ x ∷ xs) (x ∷ insert_ranked before e xs))
      [ true ↦ refl | false ↦ ap (λ l. x ∷ l) r ]

  -- before none: at the end
  pub insert_ranked-last : (xs : List E) → AllByRecursion (λ x. before e x ≡ false) xs → insert_ranked before e xs ≡ xs ++ e ∷ []
  insert_ranked-last [] a = refl
  insert_ranked-last (x ∷ xs) a = cond-false _ _ _ a.0 ∙ ap (λ l. x ∷ l) (insert_ranked-last xs a.1)
