-- The lots of the first places of a queue, and how far a ranked queue reaches a price.
use Rattle.std.proofs.Common.{◌≡◌, ℕ, zero, suc, ◌+◌, ◌-◌, ◌<◌, Bool, true, false, cond, not, List, [], ◌∷◌, length, get_or, take, sym, refl, ap, ◌∙◌, arith}
use Rattle.std.specs.List.{between, AllByRecursion}
use Rattle.std.proofs.lemmas.List.{take_all}
use Rattle.std.proofs.ByRecursion.{All-weaker}
use Rattle.std.proofs.lemmas.Bool.Decides.{nat_tests}
use Rattle.rules.specs.declared.bid.Side.{Side}
use Rattle.rules.specs.declared.bid.Side.TheVariants.{Buy, Sell}
use Rattle.model.specs.declared.words.Standing.{Standing}
use Rattle.model.specs.Words.{sum_of}
use Rattle.model.specs.Queues.{by_price}
use Rattle.model.specs.Opening.{demand, supply}
use Rattle.ranking.specs.Ranks.{first_place, Ranked}
use Rattle.auction.specs.Volumes.{reaches_at, volume_of}

pub lots-none : (xs : List Standing) (place : ℕ) → length xs ≡ 0 → 0 ≡ sum_of (λ x. x.lots) (take place xs)
lots-none [] zero e = refl
lots-none [] (suc n) e = refl
lots-none (x ∷ xs) place e = absurd (omega arith)

-- the lots of the first place and those of the places behind it
pub lots-first : (xs : List Standing) (d : Standing) (place r : ℕ) → 0 < place → 0 < length xs
    → r ≡ sum_of (λ x. x.lots) (take (place - 1) (between 1 (length xs) xs)) → (get_or xs 0 d).lots + r ≡ sum_of (λ x. x.lots) (take place xs)
lots-first [] d place r h l e = absurd (omega arith)
lots-first (x ∷ xs) d zero r h l e = absurd (omega arith)
lots-first (x ∷ xs) d (suc n) r h l e =
    let p : suc n - 1 ≡ n = omega arith in
    let q : between 1 (length (x ∷ xs)) (x ∷ xs) ≡ xs = take_all (length (x ∷ xs) - 1) xs (omega arith) in
    ap (λ k. x.lots + k) (e ∙ ap (λ ys. sum_of (λ y. y.lots) (take (suc n - 1) ys)) q ∙ ap (λ k. sum_of (λ y. y.lots) (take k xs)) p)

-- ---- a queue at a price
volume-more : (side : Side) (p : ℕ) (x : Standing) (xs : List Standing) → volume_of side (x ∷ xs) p ≡ cond (reaches_at side p x) x.lots 0 + volume_of side xs p
unfolding demand supply
volume-more Buy p x xs = refl
volume-more Sell p x xs = refl

volume-none : (side : Side) (p : ℕ) (xs : List Standing) → AllByRecursion (λ x. reaches_at side p x ≡ false) xs → volume_of side xs p ≡ 0
unfolding demand supply
volume-none Buy p [] a = refl
volume-none Sell p [] a = refl
volume-none side p (x ∷ xs) a = volume-more side p x xs ∙ ap (λ b. cond b x.lots 0 + volume_of side xs p) a.0 ∙ (let ih = volume-none side p xs a.1 in omega arith)

-- what is served later reaches no further
behind : (side : Side) (p : ℕ) (x y : Standing) → by_price side y x ≡ false → reaches_at side p x ≡ false → reaches_at side p y ≡ false
behind Buy p x y r e = grind (arith, nat_tests)
behind Sell p x y r e = grind (arith, nat_tests)

-- so the lots in front of the first that does not reach the price are all that do
pub volume-front : (side : Side) (p : ℕ) (xs : List Standing) → Ranked (by_price side) xs
    → sum_of (λ x. x.lots) (take (first_place (λ x. not (reaches_at side p x)) xs) xs) ≡ volume_of side xs p
volume-front side p [] r = sym (volume-none side p [] tt)
volume-front side p (x ∷ xs) r = step (reaches_at side p x) refl (volume-front side p xs r.1) ∙ sym (volume-more side p x xs)
  where
    step : (b : Bool) → reaches_at side p x ≡ b → sum_of (λ x. x.lots) (take (first_place (λ x. not (reaches_at side p x)) xs) xs) ≡ volume_of side xs p
        → sum_of (λ x. x.lots) (take (cond (not b) 0 (suc (first_place (λ x. not (reaches_at side p x)) xs))) (x ∷ xs)) ≡ cond b x.lots 0 + volume_of side xs p
    step true e ih = ap (λ n. x.lots + n) ih
    step false e ih =
        let none = volume-none side p xs (All-weaker (λ y. by_price side y x ≡ false) (λ y. reaches_at side p y ≡ false) (λ y f. behind side p x y f e) xs r.0) in
        omega arith
