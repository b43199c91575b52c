-- The first entry that passes a test, after an insertion, a removal or a change of one entry. Assumes nothing.
use Rattle.std.proofs.Common.{◌≡◌, ℕ, zero, suc, ◌<◌, Bool, true, false, cond, List, [], ◌∷◌, length, get_or, set, sym, refl, ap, ◌∙◌, ⊎_elim, arith}
use Rattle.std.specs.List.{remove, AllByRecursion}
use Rattle.std.proofs.ByRecursion.{All-weaker, All-get_or}
use Rattle.std.proofs.lemmas.Bool.{cond-true, cond-false, cond_both, both_ways, cases_Bool}
use Rattle.ranking.specs.Ranks.{first_place, first_entry, insert_ranked, Pairwise}

module _ {E : Type 0} (test : E → Bool) (d : E) where
  pub first_entry-at : (xs : List E) → first_entry test d xs ≡ get_or xs (first_place test xs) d
  first_entry-at [] = refl
  first_entry-at (x ∷ xs) =
      let r = first_entry-at xs in
      elim (test x) as (λ b. cond b x (first_entry test d xs) ≡ get_or (x ∷ xs) (cond b 0 (suc (first_place test xs))) d) [ true ↦ refl | false ↦ r ]

  pub first_entry-none : (xs : List E) → AllByRecursion (λ x. test x ≡ false) xs → first_entry test d xs ≡ d
  first_entry-none [] a = refl
  first_entry-none (x ∷ xs) a = cond-false _ _ _ a.0 ∙ first_entry-none xs a.1

  -- an entry that fails the test changes nothing
  pub first_entry-insert-other : (before : E → E → Bool) (e : E) (xs : List E) → test e ≡ false → first_entry test d (insert_ranked before e xs) ≡ first_entry test d xs
  first_entry-insert-other before e [] f = cond-false _ _ _ f
  first_entry-insert-other before e (x ∷ xs) f =
      cond_both (before e x) _ _ (λ l. first_entry test d l ≡ first_entry test d (x ∷ xs)) (λ _. cond-false _ _ _ f)
      (λ _. ap (cond (test x) x) (first_entry-insert-other before e xs f))

  -- the only one that passes it is found
  pub first_entry-insert-new : (before : E → E → Bool) (e : E) (xs : List E) → test e ≡ true → AllByRecursion (λ x. test x ≡ false) xs → first_entry test d (insert_ranked before e xs) ≡ e
  first_entry-insert-new before e [] t a = cond-true _ _ _ t
  first_entry-insert-new before e (x ∷ xs) t a =
      cond_both (before e x) _ _ (λ l. first_entry test d l ≡ e) (λ _. cond-true _ _ _ t)
      (λ _. cond-false _ _ _ a.0 ∙ first_entry-insert-new before e xs t a.1)

  pub first_entry-removed-other : (xs : List E) (i : ℕ) (z : E) → i < length xs → test (get_or xs i z) ≡ false → first_entry test d (remove xs i) ≡ first_entry test d xs
  first_entry-removed-other [] i z h f = absurd (omega arith)
  first_entry-removed-other (x ∷ xs) zero z h f = sym (cond-false _ _ _ f)
  first_entry-removed-other (x ∷ xs) (suc i) z h f = ap (cond (test x) x) (first_entry-removed-other xs i z (omega arith) f)

  pub first_entry-set-other : (xs : List E) (i : ℕ) (y z : E) → i < length xs → test (get_or xs i z) ≡ false → test y ≡ false → first_entry test d (set xs i y) ≡ first_entry test d xs
  first_entry-set-other [] i y z h f g = absurd (omega arith)
  first_entry-set-other (x ∷ xs) zero y z h f g = cond-false _ _ _ g ∙ sym (cond-false _ _ _ f)
  first_entry-set-other (x ∷ xs) (suc i) y z h f g = ap (cond (test x) x) (first_entry-set-other xs i y z (omega arith) f g)

  -- no two pass the test
  abbrev pub Once : List E → Type 0
  Once xs = Pairwise (λ x y. test x ≡ true → test y ≡ false) xs

  others-fail : (x : E) (ys : List E) → test x ≡ true → AllByRecursion (λ y. test x ≡ true → test y ≡ false) ys → AllByRecursion (λ y. test y ≡ false) ys
  others-fail x ys t a = All-weaker _ _ (λ y f. f t) ys a

  earlier-fails : (x : E) (ys : List E) (i : ℕ) (z : E) → i < length ys → test (get_or ys i z) ≡ true → AllByRecursion (λ y. test x ≡ true → test y ≡ false) ys → test x ≡ false
  earlier-fails x ys i z h t a =
      ⊎_elim (λ s. absurd (both_ways _ (All-get_or _ ys i z h a s) t)) (λ f. f) (cases_Bool (test x))

  pub first_entry-once : (xs : List E) (i : ℕ) (z : E) → i < length xs → Once xs → test (get_or xs i z) ≡ true → first_entry test d xs ≡ get_or xs i z
  first_entry-once [] i z h o t = absurd (omega arith)
  first_entry-once (x ∷ xs) zero z h o t = cond-true _ _ _ t
  first_entry-once (x ∷ xs) (suc i) z h o t = cond-false _ _ _ (earlier-fails x xs i z (omega arith) t o.0) ∙ first_entry-once xs i z (omega arith) o.1 t

  pub first_entry-removed-once : (xs : List E) (i : ℕ) (z : E) → i < length xs → Once xs → test (get_or xs i z) ≡ true → first_entry test d (remove xs i) ≡ d
  first_entry-removed-once [] i z h o t = absurd (omega arith)
  first_entry-removed-once (x ∷ xs) zero z h o t = first_entry-none xs (others-fail x xs t o.0)
  first_entry-removed-once (x ∷ xs) (suc i) z h o t = cond-false _ _ _ (earlier-fails x xs i z (omega arith) t o.0) ∙ first_entry-removed-once xs i z (omega arith) o.1 t

  pub first_entry-set-once : (xs : List E) (i : ℕ) (y z : E) → i < length xs → Once xs → test (get_or xs i z) ≡ true → test y ≡ true → first_entry test d (set xs i y) ≡ y
  first_entry-set-once [] i y z h o t u = absurd (omega arith)
  first_entry-set-once (x ∷ xs) zero y z h o t u = cond-true _ _ _ u
  first_entry-set-once (x ∷ xs) (suc i) y z h o t u = cond-false _ _ _ (earlier-fails x xs i z (omega arith) t o.0) ∙ first_entry-set-once xs i y z (omega arith) o.1 t u
