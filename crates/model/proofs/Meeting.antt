-- What a newcomer makes of a queue: the graph of `meet`, and the laws of matching as recursions on it.
use Rattle.model.specs.Words.{ℕ, refl, Bool, true, false, cond, leb, ltb, List, [], map, length, AllByRecursion, Memᴰ}
use Rattle.std.proofs.Common.{◌+◌, ◌-◌, ◌≤◌, ◌<◌, ◌≡◌, ◌&&◌, ◌∷◌, ◌++◌, sym, subst, arith}
use Rattle.std.proofs.lemmas.Bool.Decides.{nat_tests}
use Rattle.model.specs.Market.{Side, Standing}
use Rattle.model.specs.Queues.{with_lots}
use Rattle.model.specs.Average.{lots_of}
use Rattle.model.specs.Matching.{Deal, Met, trades_of, meet, untouched}
use Rattle.model.specs.Serving.{Served, Along, number_in, traded_by, left_of, numbers_of}
use Rattle.model.specs.Serving.Served.{none, part, whole}
use Rattle.model.specs.Serving.Along.{here, later}

-- ---- the graph
pub data Meets (test : ℕ → Bool) (deal : Standing → ℕ → Deal) : ℕ → List Standing → Met → Type 0 where
  empty : {n : ℕ} → Meets test deal n [] (untouched n [])
  enough : {n : ℕ} {x : Standing} {q : List Standing} → n ≡ 0 → Meets test deal n (x ∷ q) (untouched n (x ∷ q))
  stopped : {n : ℕ} {x : Standing} {q : List Standing} → test x.price ≡ false → Meets test deal n (x ∷ q) (untouched n (x ∷ q))
  some : {n : ℕ} {x : Standing} {q : List Standing} → test x.price ≡ true → 0 < n → n < x.lots
      → Meets test deal n (x ∷ q) (record { deals = deal x n ∷ []; queue = with_lots x (x.lots - n) ∷ q; left = 0 })
  every : {n : ℕ} {x : Standing} {q : List Standing} {r : Met} → test x.price ≡ true → 0 < n → x.lots ≤ n → Meets test deal (n - x.lots) q r
      → Meets test deal n (x ∷ q) (record { deals = deal x x.lots ∷ r.deals; queue = r.queue; left = r.left })

pub meet-graph : (test : ℕ → Bool) (deal : Standing → ℕ → Deal) (n : ℕ) (q : List Standing) → Meets test deal n q (meet test deal n q)
unfolding meet
meet-graph test deal n [] = empty
meet-graph test deal n (x ∷ q) = step (ltb 0 n) (test x.price) (leb x.lots n) refl refl refl (meet-graph test deal (n - x.lots) q)
  where
    step : (p t z : Bool) → ltb 0 n ≡ p → test x.price ≡ t → leb x.lots n ≡ z → Meets test deal (n - x.lots) q (meet test deal (n - x.lots) q)
        → let r = meet test deal (n - x.lots) q in
        Meets test deal n (x ∷ q)
        (cond (p && t)
        (cond z
        (record { deals = deal x x.lots ∷ r.deals; queue = r.queue; left = r.left })
        (record { deals = deal x n ∷ []; queue = with_lots x (x.lots - n) ∷ q; left = 0 }))
        (untouched n (x ∷ q)))
    step false t z e f g ih = enough (grind (arith, nat_tests))
    step true false z e f g ih = stopped f
    step true true false e f g ih = some f (grind (arith, nat_tests)) (grind (arith, nat_tests))
    step true true true e f g ih = every f (grind (arith, nat_tests)) (grind (arith, nat_tests)) ih

-- ---- of any deals
module _ {test : ℕ → Bool} {deal : Standing → ℕ → Deal} where
  pub meets-served : {n : ℕ} {q : List Standing} {m : Met} → Meets test deal n q m → Served q m.queue
  meets-served empty = none
  meets-served (enough e) = none
  meets-served (stopped e) = none
  meets-served (some {n} {x = x} e h l) = part (x.lots - n) (omega arith) (omega arith)
  meets-served (every e h l g) = whole (meets-served g)

  -- each deal but the last uses up a bid
  pub meets-few : {n : ℕ} {q : List Standing} {m : Met} → Meets test deal n q m → (length m.deals ≤ length q) × (length m.deals + length m.queue ≤ length q + 1)
  meets-few empty = (omega arith, omega arith)
  meets-few (enough e) = (omega arith, omega arith)
  meets-few (stopped e) = (omega arith, omega arith)
  meets-few (some e h l) = (omega arith, omega arith)
  meets-few (every e h l g) = let ih = meets-few g in let a = ih.0 in let b = ih.1 in (omega arith, omega arith)

  -- each deal is made with a bid of the queue whose price passes the test, for some of its lots
  pub meets-made : (P : Deal → Type 0) {n : ℕ} {q : List Standing} {m : Met} → Meets test deal n q m
      → ((x : Standing) (k : ℕ) → Memᴰ x q → test x.price ≡ true → P (deal x k)) → AllByRecursion P m.deals
  meets-made P empty h = tt
  meets-made P (enough e) h = tt
  meets-made P (stopped e) h = tt
  meets-made P (some {n} {x = x} e z l) h = (h x n (Memᴰ.head refl) e, tt)
  meets-made P (every {x = x} e z l g) h = (h x x.lots (Memᴰ.head refl) e, meets-made P g (λ y k m. h y k (Memᴰ.tail m)))

  -- where lots are left, the front of the queue does not pass the test
  pub meets-done : {n : ℕ} {q : List Standing} {m : Met} → Meets test deal n q m → 0 < m.left → (P : Standing → Type 0)
      → ((x : Standing) → test x.price ≡ false → P x)
      → ((x : Standing) (xs : List Standing) → Served q (x ∷ xs) → P x → AllByRecursion P xs) → AllByRecursion P m.queue
  meets-done empty p P h k = tt
  meets-done (enough e) p P h k = absurd (omega arith)
  meets-done (stopped {x = x} {q = q} e) p P h k = (h x e, k x q none (h x e))
  meets-done (some e z l) p P h k = absurd (omega arith)
  meets-done (every e z l g) p P h k = meets-done g p P h (λ y ys s. k y ys (whole s))

-- ---- of deals whose trade has the lots asked for
abbrev pub HasLots : (Standing → ℕ → Deal) → Type 0
HasLots deal = (x : Standing) (k : ℕ) → (deal x k).trade.lots ≡ k

module _ {test : ℕ → Bool} {deal : Standing → ℕ → Deal} (lots : HasLots deal) where
  pub meets-own : {n : ℕ} {q : List Standing} {m : Met} → Meets test deal n q m → lots_of (trades_of m.deals) + m.left ≡ n
  meets-own empty = omega arith
  meets-own (enough e) = omega arith
  meets-own (stopped e) = omega arith
  meets-own (some {n} {x = x} e h l) = let k = lots x n in omega arith
  meets-own (every {x = x} e h l g) = let ih = meets-own g in let k = lots x x.lots in omega arith

  -- of deals that name the standing bid by its number, on one side
  module _ (side : Side) (names : (x : Standing) (k : ℕ) → number_in side (deal x k).trade ≡ x.number) where
    pub meets-theirs : {n : ℕ} {q : List Standing} {m : Met} (k : ℕ) → Meets test deal n q m → left_of k q ≡ traded_by side k (trades_of m.deals) + left_of k m.queue
    meets-theirs k empty = omega arith
    meets-theirs k (enough e) = omega arith
    meets-theirs k (stopped e) = omega arith
    meets-theirs k (some {n} {x = x} e h l) = let u = lots x n in let v = names x n in grind (arith, nat_tests)
    meets-theirs k (every {x = x} e h l g) = let ih = meets-theirs k g in let u = lots x x.lots in let v = names x x.lots in grind (arith, nat_tests)

    -- and whatever goes on along what is left goes on along the queue
    pub meets-along : {n : ℕ} {q : List Standing} {m : Met} → Meets test deal n q m → (ks : List ℕ) → Along ks (numbers_of m.queue)
        → Along (map (number_in side) (trades_of m.deals) ++ ks) (numbers_of q)
    meets-along empty ks a = a
    meets-along (enough e) ks a = a
    meets-along (stopped e) ks a = a
    meets-along (some {n} {x = x} {q = q} e h l) ks a = subst (λ z. Along (z ∷ ks) (numbers_of (x ∷ q))) (sym (names x n)) (here a)
    meets-along (every {x = x} {q = q} {r = r} e h l g) ks a =
        subst (λ z. Along (z ∷ map (number_in side) (trades_of r.deals) ++ ks) (numbers_of (x ∷ q))) (sym (names x x.lots)) (here (later (meets-along g ks a)))
