-- Sums over lists and over the tickers.
use Rattle.model.specs.Words.{ℕ, refl, Bool, true, false, cond, not, eqb, leb, List, [], AllByRecursion, length, kept, only, sum_of}
use Rattle.std.proofs.Common.{◌+◌, ◌≤◌, ◌≡◌, ◌∷◌, ◌++◌, ap, subst, inl, inr, arith}
use Rattle.std.proofs.lemmas.Bool.Decides.{nat_tests}
use Rattle.std.proofs.lemmas.Bool.{cases_eq, and_parts, leb-true}
use Rattle.model.specs.Market.{Side, Buy, Sell, tickers, ticker_known}
use Rattle.ranking.specs.Ranks.{Pairwise}

pub by_side : (P : Side → Type 0) → P Buy → P Sell → (side : Side) → P side
by_side P p q Buy = p
by_side P p q Sell = q

module _ {X : Type 0} (f : X → ℕ) where
  pub sum-join : (xs ys : List X) → sum_of f (xs ++ ys) ≡ sum_of f xs + sum_of f ys
  sum-join [] ys = omega arith
  sum-join (x ∷ xs) ys = omega (arith, sum-join xs ys)

  pub sum_kept : (p : X → Bool) (xs : List X) → sum_of f (kept p xs) + sum_of f (kept (λ x. not (p x)) xs) ≡ sum_of f xs
  sum_kept p [] = refl
  sum_kept p (x ∷ xs) = step (p x) (sum_kept p xs)
    where
      step : (b : Bool) → sum_of f (kept p xs) + sum_of f (kept (λ x. not (p x)) xs) ≡ sum_of f xs → sum_of f (only b x ++ kept p xs) + sum_of f (only (not b) x ++ kept (λ x. not (p x)) xs) ≡ f x + sum_of f xs
      step true ih = omega (arith, ih)
      step false ih = omega (arith, ih)

pub sum_same : {X : Type 0} (f g : X → ℕ) (xs : List X) → AllByRecursion (λ x. f x ≡ g x) xs → sum_of f xs ≡ sum_of g xs
sum_same f g [] e = refl
sum_same f g (x ∷ xs) e = omega (arith, sum_same f g xs e.1, e.0)

pub sum-most : {X : Type 0} (f g : X → ℕ) (xs : List X) → AllByRecursion (λ x. f x ≤ g x) xs → sum_of f xs ≤ sum_of g xs
sum-most f g [] e = omega arith
sum-most f g (x ∷ xs) e = omega (arith, sum-most f g xs e.1, e.0)

pub each_of : {X : Type 0} (P : X → Type 0) → ((x : X) → P x) → (xs : List X) → AllByRecursion P xs
each_of P h [] = tt
each_of P h (x ∷ xs) = (h x, each_of P h xs)

-- ---- those that pass a test
module _ {X : Type 0} (p : X → Bool) where
  pub all-kept : (P : X → Type 0) (xs : List X) → AllByRecursion P xs → AllByRecursion P (kept p xs)
  all-kept P [] a = tt
  all-kept P (x ∷ xs) a = step (p x) (all-kept P xs a.1)
    where
      step : (b : Bool) → AllByRecursion P (kept p xs) → AllByRecursion P (only b x ++ kept p xs)
      step true ih = (a.0, ih)
      step false ih = ih

  pub length-kept : (xs : List X) → length (kept p xs) ≤ length xs
  length-kept [] = omega arith
  length-kept (x ∷ xs) = step (p x) (length-kept xs)
    where
      step : (b : Bool) → length (kept p xs) ≤ length xs → length (only b x ++ kept p xs) ≤ length (x ∷ xs)
      step true ih = omega (arith, ih)
      step false ih = omega (arith, ih)

  pub pairwise-kept : (R : X → X → Type 0) (xs : List X) → Pairwise R xs → Pairwise R (kept p xs)
  pairwise-kept R [] a = tt
  pairwise-kept R (x ∷ xs) a = step (p x) (pairwise-kept R xs a.1)
    where
      step : (b : Bool) → Pairwise R (kept p xs) → Pairwise R (only b x ++ kept p xs)
      step true ih = (all-kept (R x) xs a.0, ih)
      step false ih = ih

-- ---- over the tickers
-- a list in which one number stands n times
spread : (ts : List ℕ) (f g : ℕ → ℕ) (t : ℕ) → ((u : ℕ) → (u ≡ t → ⊥) → g u ≡ f u)
    → sum_of g ts + sum_of (λ u. cond (eqb u t) (f t) 0) ts ≡ sum_of f ts + sum_of (λ u. cond (eqb u t) (g t) 0) ts
spread [] f g t h = refl
spread (u ∷ ts) f g t h = elim (cases_eq u t) [ inl e ↦ here e (spread ts f g t h) | inr ne ↦ there ne (spread ts f g t h) ]
  where
    here : u ≡ t → sum_of g ts + sum_of (λ u. cond (eqb u t) (f t) 0) ts ≡ sum_of f ts + sum_of (λ u. cond (eqb u t) (g t) 0) ts → sum_of g (u ∷ ts) + sum_of (λ u. cond (eqb u t) (f t) 0) (u ∷ ts) ≡ sum_of f (u ∷ ts) + sum_of (λ u. cond (eqb u t) (g t) 0) (u ∷ ts)
    here e i = let p : f u ≡ f t = ap f e in let q : g u ≡ g t = ap g e in grind (arith, nat_tests)

    there : (u ≡ t → ⊥) → sum_of g ts + sum_of (λ u. cond (eqb u t) (f t) 0) ts ≡ sum_of f ts + sum_of (λ u. cond (eqb u t) (g t) 0) ts → sum_of g (u ∷ ts) + sum_of (λ u. cond (eqb u t) (f t) 0) (u ∷ ts) ≡ sum_of f (u ∷ ts) + sum_of (λ u. cond (eqb u t) (g t) 0) (u ∷ ts)
    there ne i = let p = h u ne in grind (arith, nat_tests)

pub by-ticker : (P : ℕ → Type 0) → P 4 → P 5 → P 6 → P 7 → P 8 → P 9 → P 10 → P 11 → (t : ℕ) → ticker_known t ≡ true → P t
by-ticker P p4 p5 p6 p7 p8 p9 p10 p11 t k =
    let ps = and_parts (leb 4 t) (leb t 11) k in
    let lo = leb-true 4 t ps.0 in
    let hi = leb-true t 11 ps.1 in
    elim (cases_eq 4 t) [
      | inl e ↦ subst P e p4
      | inr n4 ↦
          elim (cases_eq 5 t) [
            | inl e ↦ subst P e p5
            | inr n5 ↦
                elim (cases_eq 6 t) [
                  | inl e ↦ subst P e p6
                  | inr n6 ↦
                      elim (cases_eq 7 t) [
                        | inl e ↦ subst P e p7
                        | inr n7 ↦
                            elim (cases_eq 8 t) [
                              | inl e ↦ subst P e p8
                              | inr n8 ↦
                                  elim (cases_eq 9 t) [
                                    | inl e ↦ subst P e p9
                                    | inr n9 ↦
                                        elim (cases_eq 10 t) [
                                          | inl e ↦ subst P e p10
                                          | inr n10 ↦
                                              elim (cases_eq 11 t) [ inl e ↦ subst P e p11 | inr n11 ↦ absurd (omega arith) ]
                                        ]
                                  ]
                            ]
                      ]
                ]
          ]
    ]

pub alone : (n t : ℕ) → ticker_known t ≡ true → sum_of (λ u. cond (eqb u t) n 0) tickers ≡ n
alone n = by-ticker (λ t. sum_of (λ u. cond (eqb u t) n 0) tickers ≡ n) (omega arith) (omega arith) (omega arith) (omega arith) (omega arith) (omega arith) (omega arith) (omega arith)

-- where one ticker alone differs, the sums differ by its parts
pub sum-changed : (f g : ℕ → ℕ) (t : ℕ) → ticker_known t ≡ true → ((u : ℕ) → (u ≡ t → ⊥) → g u ≡ f u) → sum_of g tickers + f t ≡ sum_of f tickers + g t
sum-changed f g t k h = omega (arith, spread tickers f g t h, alone (f t) t k, alone (g t) t k)

pub sum-part : (f : ℕ → ℕ) (t : ℕ) → ticker_known t ≡ true → f t ≤ sum_of f tickers
sum-part f = by-ticker (λ t. f t ≤ sum_of f tickers) (omega arith) (omega arith) (omega arith) (omega arith) (omega arith) (omega arith) (omega arith) (omega arith)
