-- Lists with the same entries: what they share; that insertion, removal and a change in place touch one entry alone. Assumes nothing.
use Rattle.std.proofs.Common.{◌≡◌, ℕ, zero, suc, ◌+◌, ◌<◌, Bool, List, [], ◌∷◌, length, get_or, set, sum_by, sym, refl, ap, ◌∙◌, subst, subst₂, arith}
use mathlib.Core.List.Permᴰ
use mathlib.Core.List.{Memᴰ, Permᴰ}
use Rattle.std.specs.List.{remove, AllByRecursion}
use Rattle.std.proofs.ByRecursion.{All-weaker, All-get_or, All-set}
use Rattle.std.proofs.lemmas.List.Sums.{sum_by-cons}
use Rattle.std.proofs.lemmas.Bool.{cond_both}
use Rattle.ranking.specs.Ranks.{insert_ranked, Pairwise}

module _ {E : Type 0} where
  pub length-perm : {xs ys : List E} → Permᴰ xs ys → length xs ≡ length ys
  length-perm Permᴰ.nil = refl
  length-perm (Permᴰ.cons e p) = ap suc (length-perm p)
  length-perm (Permᴰ.swap e d) = refl
  length-perm (Permᴰ.trans p q) = length-perm p ∙ length-perm q

  pub mem-perm : {x : E} {xs ys : List E} → Permᴰ xs ys → Memᴰ x xs → Memᴰ x ys
  mem-perm Permᴰ.nil m = m
  mem-perm (Permᴰ.cons e p) (Memᴰ.head w) = Memᴰ.head (w ∙ e)
  mem-perm (Permᴰ.cons e p) (Memᴰ.tail m) = Memᴰ.tail (mem-perm p m)
  mem-perm (Permᴰ.swap e d) (Memᴰ.head w) = Memᴰ.tail (Memᴰ.head (w ∙ e))
  mem-perm (Permᴰ.swap e d) (Memᴰ.tail (Memᴰ.head w)) = Memᴰ.head (w ∙ d)
  mem-perm (Permᴰ.swap e d) (Memᴰ.tail (Memᴰ.tail m)) = Memᴰ.tail (Memᴰ.tail m)
  mem-perm (Permᴰ.trans p q) m = mem-perm q (mem-perm p m)

  pub all-perm : (P : E → Type 0) {xs ys : List E} → Permᴰ xs ys → AllByRecursion P xs → AllByRecursion P ys
  all-perm P Permᴰ.nil a = tt
  all-perm P (Permᴰ.cons e p) a = (subst P e a.0, all-perm P p a.1)
  all-perm P (Permᴰ.swap e d) a = (subst P d a.1.0, (subst P e a.0, a.1.1))
  all-perm P (Permᴰ.trans p q) a = all-perm P q (all-perm P p a)

  pub sum_by-perm : (f : E → ℕ) {xs ys : List E} → Permᴰ xs ys → sum_by f xs ≡ sum_by f ys
  sum_by-perm f Permᴰ.nil = refl
  sum_by-perm f (Permᴰ.cons {a = x} {b = y} {l₁ = l} {l₂ = m} e p) =
      let ih = sum_by-perm f p in let h = ap f e in omega (arith, sum_by-cons f x l, sum_by-cons f y m)
  sum_by-perm f (Permᴰ.swap {a = x} {b = y} {a' = x'} {b' = y'} {l = l} e d) =
      let h = ap f e in let k = ap f d in omega (arith, sum_by-cons f x (y ∷ l), sum_by-cons f y l, sum_by-cons f x' (y' ∷ l), sum_by-cons f y' l)
  sum_by-perm f (Permᴰ.trans p q) = sum_by-perm f p ∙ sum_by-perm f q

  pub pairwise-perm : (R : E → E → Type 0) → ((x y : E) → R x y → R y x) → {xs ys : List E} → Permᴰ xs ys → Pairwise R xs → Pairwise R ys
  pairwise-perm R s Permᴰ.nil a = tt
  pairwise-perm R s (Permᴰ.cons {a = x} {b = y} {l₁ = l} {l₂ = m} e p) a =
      (subst (λ z. AllByRecursion (R z) m) e (all-perm (R x) p a.0), pairwise-perm R s p a.1)
  pairwise-perm R s (Permᴰ.swap {a = x} {b = y} {l = l} e d) a =
      subst₂ (λ u v. Pairwise R (u ∷ (v ∷ l))) d e ((s x y a.0.0, a.1.0), (a.0.1, a.1.1))
  pairwise-perm R s (Permᴰ.trans p q) a = pairwise-perm R s q (pairwise-perm R s p a)

-- insertion
module _ {E : Type 0} (before : E → E → Bool) (e : E) where
  pub insert_ranked-perm : (xs : List E) → Permᴰ (e ∷ xs) (insert_ranked before e xs)
  insert_ranked-perm [] = Permᴰ.refl (e ∷ [])
  insert_ranked-perm (x ∷ xs) =
      cond_both (before e x) _ _ (Permᴰ (e ∷ x ∷ xs)) (λ _. Permᴰ.refl (e ∷ x ∷ xs))
      (λ _. Permᴰ.trans (Permᴰ.swap refl refl) (Permᴰ.cons refl (insert_ranked-perm xs)))

  pub length-insert_ranked : (xs : List E) → length (insert_ranked before e xs) ≡ suc (length xs)
  length-insert_ranked xs = sym (length-perm (insert_ranked-perm xs))

  pub all-insert_ranked : (P : E → Type 0) (xs : List E) → P e → AllByRecursion P xs → AllByRecursion P (insert_ranked before e xs)
  all-insert_ranked P xs p a = all-perm P (insert_ranked-perm xs) (p, a)

  pub all-from-insert_ranked : (P : E → Type 0) (xs : List E) → AllByRecursion P (insert_ranked before e xs) → P e × AllByRecursion P xs
  all-from-insert_ranked P xs a = all-perm P (Permᴰ.symm (insert_ranked-perm xs)) a

  pub sum_by-insert_ranked : (f : E → ℕ) (xs : List E) → sum_by f (insert_ranked before e xs) ≡ f e + sum_by f xs
  sum_by-insert_ranked f xs = sym (sum_by-perm f (insert_ranked-perm xs)) ∙ sum_by-cons f e xs

  pub pairwise-insert_ranked : (R : E → E → Type 0) → ((x y : E) → R x y → R y x) → (xs : List E) → AllByRecursion (R e) xs → Pairwise R xs → Pairwise R (insert_ranked before e xs)
  pairwise-insert_ranked R s xs a p = pairwise-perm R s (insert_ranked-perm xs) (a, p)

-- removal
module _ {E : Type 0} where
  pub removed-perm : (xs : List E) (i : ℕ) (d : E) → i < length xs → Permᴰ xs (get_or xs i d ∷ remove xs i)
  removed-perm [] i d h = absurd (omega arith)
  removed-perm (x ∷ xs) zero d h = Permᴰ.refl (x ∷ xs)
  removed-perm (x ∷ xs) (suc i) d h = Permᴰ.trans (Permᴰ.cons refl (removed-perm xs i d (omega arith))) (Permᴰ.swap refl refl)

  pub sum_by-removed : (f : E → ℕ) (xs : List E) (i : ℕ) (d : E) → i < length xs → sum_by f (remove xs i) + f (get_or xs i d) ≡ sum_by f xs
  sum_by-removed f xs i d h = omega (arith, sum_by-perm f (removed-perm xs i d h), sum_by-cons f (get_or xs i d) (remove xs i))

  pub all-removed : (P : E → Type 0) (xs : List E) (i : ℕ) → AllByRecursion P xs → AllByRecursion P (remove xs i)
  all-removed P [] zero a = tt
  all-removed P [] (suc i) a = tt
  all-removed P (x ∷ xs) zero a = a.1
  all-removed P (x ∷ xs) (suc i) a = (a.0, all-removed P xs i a.1)

  pub pairwise-removed : (R : E → E → Type 0) (xs : List E) (i : ℕ) → Pairwise R xs → Pairwise R (remove xs i)
  pairwise-removed R [] zero p = tt
  pairwise-removed R [] (suc i) p = tt
  pairwise-removed R (x ∷ xs) zero p = p.1
  pairwise-removed R (x ∷ xs) (suc i) p = (all-removed (R x) xs i p.0, pairwise-removed R xs i p.1)

  -- one entry changed in place
  pub pairwise-set : (R : E → E → Type 0) (xs : List E) (i : ℕ) (y d : E) → i < length xs → ((z : E) → R (get_or xs i d) z → R y z) → ((z : E) → R z (get_or xs i d) → R z y) → Pairwise R xs → Pairwise R (set xs i y)
  pairwise-set R [] i y d h from to p = absurd (omega arith)
  pairwise-set R (x ∷ xs) zero y d h from to p = (All-weaker (R x) (R y) from xs p.0, p.1)
  pairwise-set R (x ∷ xs) (suc i) y d h from to p =
      (All-set (R x) xs i y (to x (All-get_or (R x) xs i d (omega arith) p.0)) p.0, pairwise-set R xs i y d (omega arith) from to p.1)
