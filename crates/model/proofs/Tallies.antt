-- The tally's standing bids and the queues: words on what a tally shows, and that each number stands in one queue alone.
use Rattle.model.specs.Words.{ℕ, refl, Bool, true, false, cond, eqb, List, [], joined, AllByRecursion, sum_of, kept, only, Option, Some, None, is_some, or_else, Memᴰ}
use Rattle.std.proofs.Common.{◌+◌, ◌≤◌, ◌<◌, ◌≡◌, ◌∷◌, ◌++◌, sym, ap, ◌∙◌, subst, arith}
use Rattle.std.proofs.lemmas.Bool.Decides.{nat_tests}
use Rattle.std.proofs.ByRecursion.{All-weaker, All-append}
use Rattle.std.proofs.lemmas.Bool.{cond-false, true≢false}
use Rattle.model.specs.Market.{Side, Buy, Sell, other, Bid, Standing, Trade, tickers, ticker_known}
use Rattle.model.specs.World.{World, queue}
use Rattle.model.specs.Tally.{Tally, Kept, reduced_by, takings, held_to, standing_of}
use Rattle.model.specs.Sound.{Fit, Sound, times_on, times_in}
use Rattle.model.proofs.Sums.{sum-changed, sum-part}
use Rattle.model.proofs.Takings.{listed, as-listed, here, belongs, Absent, absent, kept_as, kept_leaves, leaves}

-- ---- prices that bids are held to
held_by : (o a b : Option ℕ) → is_some o ≡ true → ◌≡◌ {A = Option ℕ} (elim o [ Some p ↦ Some p | None ↦ a ]) (elim o [ Some p ↦ Some p | None ↦ b ])
held_by (Some p) a b e = refl
held_by None a b e = absurd (true≢false (sym e))

pub held-priced : (y y' : Tally) (b : Bid) → is_some b.price ≡ true → held_to y b ≡ held_to y' b
held-priced y y' b e = held_by b.price _ _ e

pub held-trades : (y y' : Tally) (b : Bid) → y.trades ≡ y'.trades → held_to y b ≡ held_to y' b
held-trades y y' b e = ap (λ (xs : List Trade). held_to (record { sums = y.sums; listing = y.listing; trades = xs; standing = y.standing; running = y.running }) b) e

pub same-listed : (held held' : Bid → Option ℕ) (t : ℕ) (side : Side) (ks : List Kept) → AllByRecursion (λ k. held k.bid ≡ held' k.bid) ks → listed held t side ks ≡ listed held' t side ks
same-listed held held' t side [] a = refl
same-listed held held' t side (k ∷ ks) a =
    ap (λ (p : Option ℕ). only (belongs held t side k) (record { number = k.number; holder = k.bid.holder; price = or_else p 0; lots = k.lots }) ++ listed held t side ks) a.0
    ∙ ap (λ z. here held' t side k ++ z) (same-listed held held' t side ks a.1)

pub standing-listed : (y : Tally) (t : ℕ) (side : Side) → standing_of y t side ≡ listed (held_to y) t side y.standing
standing-listed y t side = as-listed (held_to y) t side y.standing

-- ---- what is said of bids stays with those that are left
all-kept_as : (P : Bid → Type 0) (k : Kept) (o : Option ℕ) → P k.bid → AllByRecursion (λ z. P z.bid) (kept_as k o)
all-kept_as P k (Some n) p = (p, tt)
all-kept_as P k None p = tt

all-reduced : (P : Bid → Type 0) (x : Trade) (ks : List Kept) → AllByRecursion (λ z. P z.bid) ks → AllByRecursion (λ z. P z.bid) (joined (reduced_by x) ks)
all-reduced P x [] a = tt
all-reduced P x (k ∷ ks) a =
    All-append (λ z. P z.bid) (reduced_by x k) (joined (reduced_by x) ks)
    (subst (AllByRecursion (λ z. P z.bid)) (sym (kept_leaves x k)) (all-kept_as P k (leaves x k.number k.lots) a.0)) (all-reduced P x ks a.1)

pub all-takings : (P : Bid → Type 0) (xs : List Trade) (ks : List Kept) → AllByRecursion (λ z. P z.bid) ks → AllByRecursion (λ z. P z.bid) (takings xs ks)
all-takings P [] ks a = a
all-takings P (x ∷ xs) ks a = all-takings P xs (joined (reduced_by x) ks) (all-reduced P x ks a)

-- ---- the day's trades of a ticker
pub kept_append : {X : Type 0} (p : X → Bool) (f : X → ℕ) (xs ys : List X) → sum_of f (kept p (xs ++ ys)) ≡ sum_of f (kept p xs) + sum_of f (kept p ys)
kept_append p f [] ys = omega arith
kept_append p f (x ∷ xs) ys = by (p x) (kept_append p f xs ys)
  where
    by : (b : Bool) → sum_of f (kept p (xs ++ ys)) ≡ sum_of f (kept p xs) + sum_of f (kept p ys) → sum_of f (only b x ++ kept p (xs ++ ys)) ≡ sum_of f (only b x ++ kept p xs) + sum_of f (kept p ys)
    by true ih = omega (arith, ih)
    by false ih = ih

pub ticker-sum : (f : Trade → ℕ) (t u : ℕ) (xs : List Trade) → AllByRecursion (λ x. x.ticker ≡ t) xs → sum_of f (kept (λ x. eqb x.ticker u) xs) ≡ cond (eqb u t) (sum_of f xs) 0
ticker-sum f t u [] a = by (eqb u t)
  where
    by : (b : Bool) → ◌≡◌ {A = ℕ} 0 (cond b 0 0)
    by true = refl
    by false = refl
ticker-sum f t u (x ∷ xs) a = by (eqb x.ticker u) (eqb u t) refl refl (ticker-sum f t u xs a.1)
  where
    by : (b c : Bool) → eqb x.ticker u ≡ b → eqb u t ≡ c → sum_of f (kept (λ x. eqb x.ticker u) xs) ≡ cond c (sum_of f xs) 0 → sum_of f (only b x ++ kept (λ x. eqb x.ticker u) xs) ≡ cond c (f x + sum_of f xs) 0
    by true true e g ih = omega (arith, ih)
    by true false e g ih = let s = a.0 in absurd (grind (arith, nat_tests))
    by false true e g ih = let s = a.0 in absurd (grind (arith, nat_tests))
    by false false e g ih = ih

-- ---- each number stands in one queue alone
pub all_from : {X : Type 0} (P : X → Type 0) (xs : List X) → ((x : X) → Memᴰ x xs → P x) → AllByRecursion P xs
all_from P [] h = tt
all_from P (x ∷ xs) h = (h x (Memᴰ.head refl), all_from P xs (λ y m. h y (Memᴰ.tail m)))

pub mem-times : {x : Standing} {q : List Standing} → Memᴰ x q → 1 ≤ times_in x.number q
mem-times {x} (Memᴰ.head {x = y} e) = let n = ap (λ (z : Standing). z.number) e in grind (arith, nat_tests)
mem-times {x} (Memᴰ.tail m) = omega (arith, mem-times m)

-- two different tickers together are within the sum
two-parts : (f : ℕ → ℕ) (u v : ℕ) → ticker_known u ≡ true → ticker_known v ≡ true → (u ≡ v → ⊥) → f u + f v ≤ sum_of f tickers
two-parts f u v ku kv ne =
    let g : ℕ → ℕ = λ z. cond (eqb z u) 0 (f z) in
    let s = sum-changed f (λ z. cond (eqb z u) 0 (f z)) u ku (λ z nz. cond-false (eqb z u) 0 (f z) (off z nz)) in
    let p = sum-part (λ z. cond (eqb z u) 0 (f z)) v kv in
    omega (arith, s, p, here-zero, there)
  where
    off : (z : ℕ) → (z ≡ u → ⊥) → eqb z u ≡ false
    off z nz = grind (arith, nat_tests)

    here-zero : cond (eqb u u) 0 (f u) ≡ 0
    here-zero = grind (arith, nat_tests)

    there : cond (eqb v u) 0 (f v) ≡ f v
    there = grind (arith, nat_tests)

module _ (step : ℕ) (w : World) (s : Sound step w) where
  -- in one queue
  in-sheet : (n u : ℕ) → times_on n (w.sheets u) ≤ 1
  in-sheet n u = by (ticker_known u) refl
    where
      by : (b : Bool) → ticker_known u ≡ b → times_on n (w.sheets u) ≤ 1
      by true e = omega (arith, s.once n, sum-part (λ t. times_on n (w.sheets t)) u e)
      by false e = omega (arith, ap (times_in n) (s.strange u Buy e), ap (times_in n) (s.strange u Sell e))

  pub in_queue : (n u : ℕ) (d : Side) → times_in n (queue w u d) ≤ 1
  in_queue n u Buy = omega (arith, in-sheet n u)
  in_queue n u Sell = omega (arith, in-sheet n u)

  pub in_both : (n u : ℕ) (d : Side) → times_in n (queue w u d) + times_in n (queue w u (other d)) ≤ 1
  in_both n u Buy = in-sheet n u
  in_both n u Sell = omega (arith, in-sheet n u)

  pub in_two : (n u v : ℕ) (d e : Side) → (u ≡ v → ⊥) → times_in n (queue w u d) + times_in n (queue w v e) ≤ 1
  in_two n u v d e ne = by (ticker_known u) (ticker_known v) refl refl
    where
      part : (z : ℕ) (d : Side) → times_in n (queue w z d) ≤ times_on n (w.sheets z)
      part z Buy = omega arith
      part z Sell = omega arith

      by : (b c : Bool) → ticker_known u ≡ b → ticker_known v ≡ c → times_in n (queue w u d) + times_in n (queue w v e) ≤ 1
      by true true p q = omega (arith, s.once n, two-parts (λ t. times_on n (w.sheets t)) u v p q ne, part u d, part v e)
      by true false p q = omega (arith, in_queue n u d, ap (times_in n) (s.strange v e q))
      by false c p q = omega (arith, in_queue n v e, ap (times_in n) (s.strange u d p))

  -- so the numbers of one queue are absent from every other
  pub absent-here : (u : ℕ) (d : Side) → AllByRecursion (λ x. Absent x.number (queue w u d)) (queue w u (other d))
  absent-here u d = all_from (λ x. Absent x.number (queue w u d)) (queue w u (other d)) (λ x m. absent x.number (queue w u d) (omega (arith, in_both x.number u d, mem-times m)))

  pub absent-there : (u v : ℕ) (d e : Side) → (u ≡ v → ⊥) → AllByRecursion (λ x. Absent x.number (queue w u d)) (queue w v e)
  absent-there u v d e ne = all_from (λ x. Absent x.number (queue w u d)) (queue w v e) (λ x m. absent x.number (queue w u d) (omega (arith, in_two x.number u v d e ne, mem-times m)))

  -- and a number not given yet is nowhere
  pub not_yet : (n u : ℕ) (d : Side) → w.given < n → Absent n (queue w u d)
  not_yet n u d l = All-weaker (Fit step w.given) (λ x. x.number ≡ n → ⊥) (λ x f e. absurd (late x f e)) (queue w u d) (s.fit u d)
    where
      late : (x : Standing) → Fit step w.given x → x.number ≡ n → ⊥
      late x f e = let q = f.last in omega arith
