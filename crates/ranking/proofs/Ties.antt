-- Lists in which no two entries tie, and what a search for a tie tells. Assumes nothing.
use Rattle.std.proofs.Common.{◌≡◌, ℕ, ◌<◌, ◌≤◌, Bool, true, false, not, ◌&&◌, List, [], ◌∷◌, length, get_or, set, Some, None, sym, refl, ◌∙◌, subst, ap₂, ⊎_elim, arith}
use Rattle.std.specs.List.{remove, AllByRecursion}
use Rattle.std.proofs.lemmas.Bool.{cond-true, cond-false, cases_lt, lt-ltb, le-ltb, both_ways, and_parts, and_from}
use Rattle.ranking.specs.Ranks.{is_distinct, first_place, insert_ranked, ties, tie_place, Pairwise, Ranked}
use Rattle.ranking.proofs.Places.{first-here, first-none}
use Rattle.ranking.proofs.Perms.{pairwise-insert_ranked, pairwise-removed, pairwise-set}
use Rattle.ranking.proofs.Ranked.{none_passes, passes_none}

module _ {E : Type 0} (before : E → E → Bool) where
  pub ties-sym : (a b : E) → ties before a b ≡ ties before b a
  ties-sym a b = step (before a b) (before b a)
    where
      step : (s t : Bool) → (not s && not t) ≡ (not t && not s)
      step true true = refl
      step true false = refl
      step false true = refl
      step false false = refl

  -- no two tie
  abbrev pub Untied : List E → Type 0
  Untied xs = Pairwise (λ x y. ties before x y ≡ false) xs

  pub untied-from-test : (xs : List E) → is_distinct (ties before) xs ≡ true → Untied xs
  untied-from-test [] h = tt
  untied-from-test (x ∷ xs) h = let b = and_parts _ _ h in (none_passes (ties before x) xs b.0, untied-from-test xs b.1)

  pub test-from-untied : (xs : List E) → Untied xs → is_distinct (ties before) xs ≡ true
  test-from-untied [] u = refl
  test-from-untied (x ∷ xs) u = and_from _ _ (passes_none (ties before x) xs u.0) (test-from-untied xs u.1)

  -- nothing found: e ties with none
  pub none-ties : (e : E) (xs : List E) → tie_place before e xs ≡ None → AllByRecursion (λ x. ties before e x ≡ false) xs
  none-ties e xs h = first-none (ties before e) xs (⊎_elim (λ l. absurd (found l)) (λ g. g) (cases_lt (first_place (ties before e) xs) (length xs)))
    where
      found : first_place (ties before e) xs < length xs → ⊥
      found l =
          let t = cond-true _ (Some (first_place (ties before e) xs)) None (lt-ltb _ _ l) in
          let z : ◌≡◌ {A = ℕ} 0 1 = cc in
          omega arith

  -- a place found: the entry there ties with e
  pub tie-found : (e : E) (xs : List E) (i : ℕ) → tie_place before e xs ≡ Some i → (i < length xs) × ((d : E) → ties before e (get_or xs i d) ≡ true)
  tie-found e xs i h = ⊎_elim here (λ g. absurd (nowhere g)) (cases_lt (first_place (ties before e) xs) (length xs))
    where
      nowhere : length xs ≤ first_place (ties before e) xs → ⊥
      nowhere g =
          let t = cond-false _ (Some (first_place (ties before e) xs)) None (le-ltb _ _ g) in
          let z : ◌≡◌ {A = ℕ} 0 1 = cc in
          omega arith

      here : first_place (ties before e) xs < length xs → (i < length xs) × ((d : E) → ties before e (get_or xs i d) ≡ true)
      here l =
          let t = cond-true _ (Some (first_place (ties before e) xs)) None (lt-ltb _ _ l) in
          let is : first_place (ties before e) xs ≡ i = cc in
          (omega arith, λ d. subst (λ k. ties before e (get_or xs k d) ≡ true) is (first-here (ties before e) xs d l))

  pub untied-inserted : (e : E) (xs : List E) → tie_place before e xs ≡ None → Untied xs → Untied (insert_ranked before e xs)
  untied-inserted e xs h u = pairwise-insert_ranked before e (λ x y. ties before x y ≡ false) (λ x y t. ties-sym y x ∙ t) xs (none-ties e xs h) u

  pub untied-removed : (xs : List E) (i : ℕ) → Untied xs → Untied (remove xs i)
  untied-removed xs i u = pairwise-removed (λ x y. ties before x y ≡ false) xs i u

  pub untied-inserted-tested : (e : E) (xs : List E) → tie_place before e xs ≡ None → is_distinct (ties before) xs ≡ true → is_distinct (ties before) (insert_ranked before e xs) ≡ true
  untied-inserted-tested e xs h t = test-from-untied _ (untied-inserted e xs h (untied-from-test xs t))

  pub untied-removed-tested : (xs : List E) (i : ℕ) → is_distinct (ties before) xs ≡ true → is_distinct (ties before) (remove xs i) ≡ true
  untied-removed-tested xs i t = test-from-untied _ (untied-removed xs i (untied-from-test xs t))

  -- an entry changed in place to one that ranks the same
  module _ (xs : List E) (i : ℕ) (y d : E) (h : i < length xs) (from : (z : E) → before y z ≡ before (get_or xs i d) z) (to : (z : E) → before z y ≡ before z (get_or xs i d)) where
    same-ties : (z : E) → ties before y z ≡ ties before (get_or xs i d) z
    same-ties z = ap₂ (λ s t. not s && not t) (from z) (to z)

    pub untied-set : Untied xs → Untied (set xs i y)
    untied-set u =
        pairwise-set (λ a b. ties before a b ≡ false) xs i y d h (λ z f. same-ties z ∙ f) (λ z f. ties-sym z y ∙ same-ties z ∙ ties-sym (get_or xs i d) z ∙ f) u

    pub untied-set-tested : is_distinct (ties before) xs ≡ true → is_distinct (ties before) (set xs i y) ≡ true
    untied-set-tested t = test-from-untied _ (untied-set (untied-from-test xs t))

  -- ranked, and no two tie: each is before each one behind it
  pub before-from-untied : (a b : E) → before b a ≡ false → ties before a b ≡ false → before a b ≡ true
  before-from-untied a b f t = step (before a b) (before b a) f t
    where
      step : (s u : Bool) → u ≡ false → (not s && not u) ≡ false → s ≡ true
      step true u f t = refl
      step false true f t = absurd (both_ways true f refl)
      step false false f t = sym t

  pub strictly-ranked : (xs : List E) → Ranked before xs → Untied xs → Pairwise (λ x y. before x y ≡ true) xs
  strictly-ranked [] r u = tt
  strictly-ranked (x ∷ xs) r u = (each xs r.0 u.0, strictly-ranked xs r.1 u.1)
    where
      each : (ys : List E) → AllByRecursion (λ y. before y x ≡ false) ys → AllByRecursion (λ y. ties before x y ≡ false) ys → AllByRecursion (λ y. before x y ≡ true) ys
      each [] a t = tt
      each (y ∷ ys) a t = (before-from-untied x y a.0 t.0, each ys a.1 t.1)
