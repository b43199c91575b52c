-- The laws of the average. This file alone opens how it is rounded.
use Rattle.std.specs.Prelude.{SomeIff}
use Rattle.model.specs.Words.{ℕ, eqb, List, [], AllByRecursion, Option, Some, None}
use Rattle.std.proofs.Common.{◌+◌, ◌*◌, ◌/◌, ◌≤◌, ◌<◌, ◌≡◌, ◌∷◌, ◌⊎◌, refl, sym, ap, ◌∙◌, inl, inr, mul-le-mul_right, mod-lt, le_of_mul-le-mul_right, arith}
use native.Mathlib.Nat.{mod-add-div}
use Rattle.std.proofs.lemmas.Bool.{cases_lt, cond-false, ne_eqb}
use Rattle.model.specs.Market.{Trade}
use Rattle.model.specs.Average.{average, average_price_lem, cost_of, lots_of}
use Rattle.model.specs.AverageLaws.{AverageLaws, RoundedDown}

-- ---- how it is worked out
pub average-quotient : (worth lots : ℕ) (r : Option ℕ) → SomeIff r (0 < lots) (worth / lots) → r ≡ average worth lots
unfolding average_price_lem
average-quotient worth lots None e = let z : lots ≡ 0 = omega (arith, e) in rw z refl
average-quotient worth lots (Some x) e = ap (λ (y : ℕ). Some y) e.1 ∙ sym (cond-false (eqb lots 0) None (Some (worth / lots)) (ne_eqb lots 0 (omega (arith, e.0))))

-- ---- the rounding
below : (worth lots : ℕ) → 1 ≤ lots → average_price_lem worth lots * lots ≤ worth
unfolding average_price_lem
below worth lots h = let e = mod-add-div worth lots in omega arith

near : (worth lots : ℕ) → 1 ≤ lots → worth < (average_price_lem worth lots + 1) * lots
unfolding average_price_lem
near worth lots h = let e = mod-add-div worth lots in let l = mod-lt worth h in omega arith

pub rounded-down : RoundedDown 1
rounded-down = record { below = below; near = near }

-- ---- bounds, from the rounding alone
least : (worth lots low : ℕ) → 1 ≤ lots → low * lots ≤ worth → low ≤ average_price_lem worth lots
least worth lots low h l = step (cases_lt (average_price_lem worth lots) low)
  where
    step : (average_price_lem worth lots < low) ⊎ (low ≤ average_price_lem worth lots) → low ≤ average_price_lem worth lots
    step (inl g) = let n = near worth lots h in let k : (average_price_lem worth lots + 1) * lots ≤ low * lots = mul-le-mul_right lots (omega arith) in absurd (omega arith)
    step (inr g) = g

most : (worth lots high : ℕ) → 1 ≤ lots → worth ≤ high * lots → average_price_lem worth lots ≤ high
most worth lots high h l = let b = below worth lots h in le_of_mul-le-mul_right {k = lots} (omega arith) h

cost-least : (xs : List Trade) (low : ℕ) → AllByRecursion (λ x. low ≤ x.price) xs → low * lots_of xs ≤ cost_of xs
cost-least [] low a = omega arith
cost-least (x ∷ xs) low a = let ih = cost-least xs low a.1 in let h = mul-le-mul_right x.lots a.0 in omega arith

pub cost-most : (xs : List Trade) (high : ℕ) → AllByRecursion (λ x. x.price ≤ high) xs → cost_of xs ≤ high * lots_of xs
cost-most [] high a = omega arith
cost-most (x ∷ xs) high a = let ih = cost-most xs high a.1 in let h = mul-le-mul_right x.lots a.0 in omega arith

-- so many lots more at the average neither raise it nor lower it
not_more : (worth lots n : ℕ) → 1 ≤ lots → average_price_lem (worth + average_price_lem worth lots * n) (lots + n) ≤ average_price_lem worth lots
not_more worth lots n h = step (cases_lt (average_price_lem worth lots) (average_price_lem (worth + average_price_lem worth lots * n) (lots + n)))
  where
    step : (average_price_lem worth lots < average_price_lem (worth + average_price_lem worth lots * n) (lots + n))
        ⊎ (average_price_lem (worth + average_price_lem worth lots * n) (lots + n) ≤ average_price_lem worth lots)
        → average_price_lem (worth + average_price_lem worth lots * n) (lots + n) ≤ average_price_lem worth lots
    step (inl g) =
        let k : (average_price_lem worth lots + 1) * (lots + n) ≤ average_price_lem (worth + average_price_lem worth lots * n) (lots + n) * (lots + n) = mul-le-mul_right (lots + n) (omega arith) in
        let b = below (worth + average_price_lem worth lots * n) (lots + n) (omega arith) in
        let m = near worth lots h in
        absurd (omega arith)
    step (inr g) = g

steady : (worth lots n : ℕ) → 1 ≤ lots → average_price_lem (worth + average_price_lem worth lots * n) (lots + n) ≡ average_price_lem worth lots
steady worth lots n h =
    let b = below worth lots h in
    let l = least (worth + average_price_lem worth lots * n) (lots + n) (average_price_lem worth lots) (omega arith) (omega arith) in
    let m = not_more worth lots n h in
    omega arith

pub average-laws : AverageLaws
average-laws = record {
  least = least;
  most = most;
  between = λ xs low high h a b. (least (cost_of xs) (lots_of xs) low h (cost-least xs low a), most (cost_of xs) (lots_of xs) high h (cost-most xs high b));
  positive = λ worth lots h l. least worth lots 1 h (omega arith);
  steady = steady;
}
