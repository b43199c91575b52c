-- Sums of a function over the numbers below a bound.
use Rattle.std.proofs.Common.{◌≡◌, ℕ, zero, suc, ◌+◌, ◌<◌, ◌≤◌, map, sum_by, refl, ap, ◌∙◌, inl, inr, arith}
use mathlib.Core.List.{map-id}
use Rattle.std.specs.List.{range_with_len}
use Rattle.std.proofs.lemmas.List.FromFn.{sum_by-map-range_with_len_more}
use Rattle.std.proofs.lemmas.Bool.{cases_eq}
use Rattle.register.specs.Books.{sum_to}

-- each part is at most the sum
pub part-sum_to : (n : ℕ) (f : ℕ → ℕ) (i : ℕ) → i < n → f i ≤ sum_to n f
unfolding sum_to
part-sum_to zero f i h = omega arith
part-sum_to (suc n) f i h =
    elim (cases_eq i n) [
      | inl e ↦ let p : f i ≡ f n = ap f e in omega arith
      | inr ne ↦ omega (arith, part-sum_to n f i (omega arith))
    ]

-- where the parts balance, so do the sums
pub sum_to-balance : (n : ℕ) (f g p q : ℕ → ℕ) → ((i : ℕ) → i < n → f i + p i ≡ g i + q i) → sum_to n f + sum_to n p ≡ sum_to n g + sum_to n q
unfolding sum_to
sum_to-balance zero f g p q e = refl
sum_to-balance (suc n) f g p q e = omega (arith, sum_to-balance n f g p q (λ i h. e i (omega arith)), e n (omega arith))

pub sum_to-same : (n : ℕ) (f g : ℕ → ℕ) → ((i : ℕ) → i < n → f i ≡ g i) → sum_to n f ≡ sum_to n g
unfolding sum_to
sum_to-same zero f g e = refl
sum_to-same (suc n) f g e = omega (arith, sum_to-same n f g (λ i h. e i (omega arith)), e n (omega arith))

pub sum_to-none : (n : ℕ) (f : ℕ → ℕ) → ((i : ℕ) → i < n → f i ≡ 0) → sum_to n f ≡ 0
unfolding sum_to
sum_to-none zero f e = refl
sum_to-none (suc n) f e = omega (arith, sum_to-none n f (λ i h. e i (omega arith)), e n (omega arith))

-- one part alone
pub sum_to-one : (n : ℕ) (f : ℕ → ℕ) (i : ℕ) → i < n → ((k : ℕ) → (k ≡ i → ⊥) → f k ≡ 0) → sum_to n f ≡ f i
unfolding sum_to
sum_to-one zero f i h e = omega arith
sum_to-one (suc n) f i h e =
    elim (cases_eq i n) [
      | inl q ↦ let p : f i ≡ f n = ap f q in omega (arith, sum_to-none n f (λ k l. e k (omega arith)))
      | inr ne ↦ omega (arith, sum_to-one n f i (omega arith) e, e n (omega arith))
    ]

-- a sum so far with its next part is within the whole
pub sum_to-within : (m n : ℕ) (f : ℕ → ℕ) → n < m → sum_to n f + f n ≤ sum_to m f
unfolding sum_to
sum_to-within zero n f h = omega arith
sum_to-within (suc m) n f h =
    elim (cases_eq n m) [
      | inl e ↦ rw e (omega arith)
      | inr ne ↦ omega (arith, sum_to-within m n f (omega arith))
    ]

-- the sum as that of a list of the numbers
sum_to-numbers : (n : ℕ) (f : ℕ → ℕ) → sum_to n f ≡ sum_by f (map (λ k. k) (range_with_len 0 n))
unfolding sum_to
sum_to-numbers zero f = refl
sum_to-numbers (suc n) f =
    let next : n + 1 ≡ suc n = omega arith in
    omega (arith, sum_to-numbers n f, sum_by-map-range_with_len_more f (λ k. k) 0 n n (omega arith), ap (λ m. sum_by f (map (λ k. k) (range_with_len 0 m))) next)

pub sum_to-range : (n : ℕ) (f : ℕ → ℕ) → sum_to n f ≡ sum_by f (range_with_len 0 n)
sum_to-range n f = sum_to-numbers n f ∙ ap (sum_by f) (map-id (range_with_len 0 n))
