-- Ranked lists: the test, the places, and that insertion and removal keep them. Assumes nothing.
use Rattle.std.proofs.Common.{◌≡◌, ℕ, zero, suc, ◌<◌, Bool, true, false, not, List, [], ◌∷◌, length, get_or, set, refl, ◌∙◌, ⊎_elim, arith}
use Rattle.std.specs.List.{remove, AllByRecursion, list_all}
use Rattle.std.proofs.ByRecursion.{All-weaker, All-get_or, All-from_get_or}
use Rattle.std.proofs.lemmas.Bool.{cond_both, both_ways, cases_Bool, and_parts, and_from, not-true, not_from_false}
use Rattle.ranking.specs.Ranks.{insert_ranked, Ranked, is_ranked, OrderLaws}
use Rattle.ranking.proofs.Perms.{all-insert_ranked, pairwise-removed, pairwise-set}

-- the test says what it should
module _ {E : Type 0} where
  pub none_passes : (p : E → Bool) (xs : List E) → list_all (λ y. not (p y)) xs ≡ true → AllByRecursion (λ y. p y ≡ false) xs
  none_passes p [] h = tt
  none_passes p (x ∷ xs) h = let b = and_parts _ _ h in (not-true _ b.0, none_passes p xs b.1)

  pub passes_none : (p : E → Bool) (xs : List E) → AllByRecursion (λ y. p y ≡ false) xs → list_all (λ y. not (p y)) xs ≡ true
  passes_none p [] a = refl
  passes_none p (x ∷ xs) a = and_from _ _ (not_from_false _ a.0) (passes_none p xs a.1)

module _ {E : Type 0} (before : E → E → Bool) where
  pub ranked-from-test : (xs : List E) → is_ranked before xs ≡ true → Ranked before xs
  ranked-from-test [] h = tt
  ranked-from-test (x ∷ xs) h = let b = and_parts _ _ h in (none_passes (λ y. before y x) xs b.0, ranked-from-test xs b.1)

  pub test-from-ranked : (xs : List E) → Ranked before xs → is_ranked before xs ≡ true
  test-from-ranked [] r = refl
  test-from-ranked (x ∷ xs) r = and_from _ _ (passes_none (λ y. before y x) xs r.0) (test-from-ranked xs r.1)

  -- by places: of two entries, the later is not before the earlier
  pub ranked-at : (xs : List E) (i j : ℕ) (d : E) → Ranked before xs → i < j → j < length xs → before (get_or xs j d) (get_or xs i d) ≡ false
  ranked-at [] i j d r h l = absurd (omega arith)
  ranked-at (x ∷ xs) i zero d r h l = absurd (omega arith)
  ranked-at (x ∷ xs) zero (suc j) d r h l = All-get_or _ xs j d (omega arith) r.0
  ranked-at (x ∷ xs) (suc i) (suc j) d r h l = ranked-at xs i j d r.1 (omega arith) (omega arith)

  pub ranked-from-places : (xs : List E) → ((i j : ℕ) (d : E) → i < j → j < length xs → before (get_or xs j d) (get_or xs i d) ≡ false) → Ranked before xs
  ranked-from-places [] h = tt
  ranked-from-places (x ∷ xs) h =
      (All-from_get_or (λ y. before y x ≡ false) xs x (λ k l. h 0 (suc k) x (omega arith) (omega arith)), ranked-from-places xs (λ i j d l m. h (suc i) (suc j) d (omega arith) (omega arith)))

  pub removed-ranked : (xs : List E) (i : ℕ) → Ranked before xs → Ranked before (remove xs i)
  removed-ranked xs i r = pairwise-removed (λ x y. before y x ≡ false) xs i r

  pub removed-tested : (xs : List E) (i : ℕ) → is_ranked before xs ≡ true → is_ranked before (remove xs i) ≡ true
  removed-tested xs i t = test-from-ranked _ (removed-ranked xs i (ranked-from-test xs t))

  -- an entry changed in place to one that ranks the same
  pub set-ranked : (xs : List E) (i : ℕ) (y d : E) → i < length xs → ((z : E) → before y z ≡ before (get_or xs i d) z) → ((z : E) → before z y ≡ before z (get_or xs i d)) → Ranked before xs → Ranked before (set xs i y)
  set-ranked xs i y d h from to r = pairwise-set (λ a b. before b a ≡ false) xs i y d h (λ z f. to z ∙ f) (λ z f. from z ∙ f) r

  pub set_tested : (xs : List E) (i : ℕ) (y d : E) → i < length xs → ((z : E) → before y z ≡ before (get_or xs i d) z) → ((z : E) → before z y ≡ before z (get_or xs i d)) → is_ranked before xs ≡ true → is_ranked before (set xs i y) ≡ true
  set_tested xs i y d h from to t = test-from-ranked _ (set-ranked xs i y d h from to (ranked-from-test xs t))

-- the one place that uses the order laws
module _ {E : Type 0} (before : E → E → Bool) (laws : OrderLaws before) where
  pub asymmetric : (a b : E) → before a b ≡ true → before b a ≡ false
  asymmetric a b h = ⊎_elim (λ t. absurd (both_ways _ (laws.irreflexive a) (laws.transitive a b a h t))) (λ f. f) (cases_Bool (before b a))

  pub insert_ranked-ranked : (e : E) (xs : List E) → Ranked before xs → Ranked before (insert_ranked before e xs)
  insert_ranked-ranked e [] r = (tt, tt)
  insert_ranked-ranked e (x ∷ xs) r =
      cond_both (before e x) _ _ (Ranked before)
      (λ t. ((asymmetric e x t, All-weaker _ _ (λ y h. laws.negative y x e h (asymmetric e x t)) xs r.0), r))
      (λ f. (all-insert_ranked before e (λ y. before y x ≡ false) xs f r.0, insert_ranked-ranked e xs r.1))

  pub insert_ranked-tested : (e : E) (xs : List E) → is_ranked before xs ≡ true → is_ranked before (insert_ranked before e xs) ≡ true
  insert_ranked-tested e xs t = test-from-ranked before _ (insert_ranked-ranked e xs (ranked-from-test before xs t))
