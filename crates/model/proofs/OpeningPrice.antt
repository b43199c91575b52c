-- The opening price is the best of the standing prices, and no whole price whatsoever does better: below any price there is a standing
-- one at which as much is for sale, and no less is asked for.
use Rattle.std.proofs.Common.{◌≡◌, ℕ, ◌+◌, ◌<◌, ◌≤◌, Bool, true, false, cond, leb, ◌⊎◌, List, [], ◌∷◌, Some, refl, inl, inr, arith}
use mathlib.Core.List.Memᴰ
use mathlib.Core.List.{Memᴰ}
use Rattle.std.proofs.lemmas.Bool.Decides.{nat_tests}
use Rattle.std.proofs.lemmas.Bool.{cases_lt}
use Rattle.model.specs.declared.words.Standing.{Standing}
use Rattle.model.specs.Opening.{lots_where, demand, supply, tradable, gap, prices_of, better, best_from, best_of, standing_prices, opening_price_lem}
use Rattle.model.specs.OpeningLaws.{OpeningPriceIsBest}

-- ---- sums
lots-mono : (p q : ℕ → Bool) → ((x : ℕ) → p x ≡ true → q x ≡ true) → (bs : List Standing) → lots_where p bs ≤ lots_where q bs
lots-mono p q h [] = omega arith
lots-mono p q h (b ∷ bs) = let ih = lots-mono p q h bs in let k = h b.price in grind arith

demand-falls : (bs : List Standing) (p q : ℕ) → p ≤ q → demand bs q ≤ demand bs p
unfolding demand
demand-falls bs p q h = lots-mono (λ x. leb q x) (λ x. leb p x) (λ x t. grind (arith, nat_tests)) bs

supply-rises : (bs : List Standing) (p q : ℕ) → p ≤ q → supply bs p ≤ supply bs q
unfolding supply
supply-rises bs p q h = lots-mono (λ x. leb x p) (λ x. leb x q) (λ x t. grind (arith, nat_tests)) bs

-- ---- the highest standing price that is at most p
record Level (bs : List Standing) (p q : ℕ) : Type 0 where
  stands : Memᴰ q (prices_of bs)
  at_most : q ≤ p
  same : supply bs p ≤ supply bs q

pub demand-more : (b : Standing) (bs : List Standing) (p : ℕ) → demand (b ∷ bs) p ≡ cond (leb p b.price) b.lots 0 + demand bs p
unfolding demand
demand-more b bs p = refl

pub supply-more : (b : Standing) (bs : List Standing) (p : ℕ) → supply (b ∷ bs) p ≡ cond (leb b.price p) b.lots 0 + supply bs p
unfolding supply
supply-more b bs p = refl

Levelled : List Standing → ℕ → Type 0
Levelled bs p = (supply bs p ≡ 0) ⊎ ((q : ℕ) × Level bs p q)

level-more : (b : Standing) (bs : List Standing) (p : ℕ) → Levelled bs p → (b.price ≤ p) ⊎ (p < b.price) → Levelled (b ∷ bs) p
unfolding Levelled
level-more b bs p (inl e) (inl h) =
    let m = supply-more b bs p in
    let n = supply-more b bs b.price in
    inr (b.price, record { stands = Memᴰ.head refl; at_most = h; same = grind (arith, nat_tests) })
level-more b bs p (inl e) (inr h) = let m = supply-more b bs p in inl (grind (arith, nat_tests))
level-more b bs p (inr (q, f)) (inl h) = rise (cases_lt q b.price)
  where
    rise : (q < b.price) ⊎ (b.price ≤ q) → Levelled (b ∷ bs) p
    rise (inl k) =
        let m = supply-more b bs p in
        let n = supply-more b bs b.price in
        let r = supply-rises bs q b.price (omega arith) in
        inr (b.price, record { stands = Memᴰ.head refl; at_most = h; same = grind (arith, nat_tests) })
    rise (inr k) =
        let m = supply-more b bs p in
        let n = supply-more b bs q in
        inr (q, record { stands = Memᴰ.tail f.stands; at_most = f.at_most; same = grind (arith, nat_tests) })
level-more b bs p (inr (q, f)) (inr h) =
    let m = supply-more b bs p in
    let n = supply-more b bs q in
    inr (q, record { stands = Memᴰ.tail f.stands; at_most = f.at_most; same = grind (arith, nat_tests) })

cases-le : (m n : ℕ) → (m ≤ n) ⊎ (n < m)
cases-le m n = flip (cases_lt n m)
  where
    flip : (n < m) ⊎ (m ≤ n) → (m ≤ n) ⊎ (n < m)
    flip (inl h) = inr h
    flip (inr h) = inl h

level : (bs : List Standing) (p : ℕ) → Levelled bs p
unfolding supply Levelled
level [] p = inl refl
level (b ∷ bs) p = level-more b bs p (level bs p) (cases-le b.price p)

record NoBetter (buys sells : List Standing) (p q : ℕ) : Type 0 where
  most : tradable buys sells p ≤ tradable buys sells q
  nearest : tradable buys sells p ≡ tradable buys sells q → gap buys sells q ≤ gap buys sells p
  lowest : tradable buys sells p ≡ tradable buys sells q → gap buys sells p ≡ gap buys sells q → q ≤ p

beats-not : (buys sells : List Standing) (p q : ℕ) → better buys sells p q ≡ false → NoBetter buys sells p q
unfolding better
beats-not buys sells p q e = record { most = grind (arith, nat_tests); nearest = λ h. grind (arith, nat_tests); lowest = λ h k. grind (arith, nat_tests) }

beats-yes : (buys sells : List Standing) (p q : ℕ) → better buys sells p q ≡ true → NoBetter buys sells q p
unfolding better
beats-yes buys sells p q e = record { most = grind (arith, nat_tests); nearest = λ h. grind (arith, nat_tests); lowest = λ h k. grind (arith, nat_tests) }

no-better-trans : (buys sells : List Standing) (p q r : ℕ) → NoBetter buys sells p q → NoBetter buys sells q r → NoBetter buys sells p r
no-better-trans buys sells p q r h k = record { most = omega arith; nearest = λ e. grind arith; lowest = λ e f. grind arith }

-- ---- the best of a list, under a test whose failure is a relation that chains
module _ (beats : ℕ → ℕ → Bool) (NB : ℕ → ℕ → Type 0) (self : (p : ℕ) → NB p p)
    (yes : (p q : ℕ) → beats p q ≡ true → NB q p) (no : (p q : ℕ) → beats p q ≡ false → NB p q)
    (chain : (p q r : ℕ) → NB p q → NB q r → NB p r) where
  keeps : (p : ℕ) (ps : List ℕ) → NB p (best_from beats p ps)
  keeps p [] = self p
  keeps p (q ∷ ps) = step (beats q p) refl (λ k. keeps k ps)
    where
      step : (t : Bool) → beats q p ≡ t → ((k : ℕ) → NB k (best_from beats k ps)) → NB p (best_from beats (cond t q p) ps)
      step true e ih = chain p q (best_from beats q ps) (yes q p e) (ih q)
      step false e ih = ih p

  heads : (p q : ℕ) (ps : List ℕ) → NB q (best_from beats (cond (beats q p) q p) ps)
  heads p q ps = step (beats q p) refl
    where
      step : (t : Bool) → beats q p ≡ t → NB q (best_from beats (cond t q p) ps)
      step true e = keeps q ps
      step false e = chain q p (best_from beats p ps) (no q p e) (keeps p ps)

  over : (p : ℕ) (ps : List ℕ) (q : ℕ) → Memᴰ q ps → NB q (best_from beats p ps)
  over p [] q m = elim m [ ]
  over p (x ∷ ps) q (Memᴰ.head e) = rw e (heads p x ps)
  over p (x ∷ ps) q (Memᴰ.tail m) = over (cond (beats x p) x p) ps q m

  within : (p : ℕ) (ps : List ℕ) → (best_from beats p ps ≡ p) ⊎ Memᴰ (best_from beats p ps) ps
  within p [] = inl refl
  within p (q ∷ ps) = step (beats q p) (λ k. within k ps)
    where
      step : (t : Bool) → ((k : ℕ) → (best_from beats k ps ≡ k) ⊎ Memᴰ (best_from beats k ps) ps)
          → (best_from beats (cond t q p) ps ≡ p) ⊎ Memᴰ (best_from beats (cond t q p) ps) (q ∷ ps)
      step true ih = elim (ih q) [ inl e ↦ inr (Memᴰ.head e) | inr m ↦ inr (Memᴰ.tail m) ]
      step false ih = elim (ih p) [ inl e ↦ inl e | inr m ↦ inr (Memᴰ.tail m) ]

  chosen : (ps : List ℕ) (o : ℕ) → best_of beats ps ≡ Some o → Memᴰ o ps × ((q : ℕ) → Memᴰ q ps → NB q o)
  chosen [] o e = absurd (let z : ◌≡◌ {A = ℕ} 0 1 = cc in omega arith)
  chosen (p ∷ ps) o e = rw (← is) (elim (within p ps) [ inl w ↦ Memᴰ.head w | inr m ↦ Memᴰ.tail m ], all)
    where
      is : best_from beats p ps ≡ o
      is = cc

      all : (q : ℕ) → Memᴰ q (p ∷ ps) → NB q (best_from beats p ps)
      all q (Memᴰ.head w) = rw w (keeps p ps)
      all q (Memᴰ.tail m) = over p ps q m

pub opening-price-is-best : OpeningPriceIsBest
unfolding opening_price_lem Levelled tradable
opening-price-is-best buys sells o e =
    let c = chosen (better buys sells) (NoBetter buys sells) (λ p. record { most = omega arith; nearest = λ _. omega arith; lowest = λ _ _. omega arith })
    (beats-yes buys sells) (beats-not buys sells) (no-better-trans buys sells) (standing_prices buys sells) o e in
    record { stands = c.0; most = λ p. any (level sells p) c.1; nearest = λ p m. (c.1 p m).nearest; lowest = λ p m. (c.1 p m).lowest }
  where
    any : {p : ℕ} → Levelled sells p → ((q : ℕ) → Memᴰ q (standing_prices buys sells) → NoBetter buys sells q o) → tradable buys sells p ≤ tradable buys sells o
    any (inl z) all = omega arith
    any {p} (inr (q, f)) all =
        let m = (all q (Memᴰ.append_right (prices_of buys) f.stands)).most in
        let d = demand-falls buys q p f.at_most in
        omega arith
