-- One buy of the opening meets the sells: what is traded, what is left for sale at each price, and what stays as it was.
use Rattle.model.specs.Words.{ℕ, refl, Bool, true, false, cond, leb, ltb, eqb, List, [], map, AllByRecursion, min, Memᴰ}
use Rattle.std.proofs.Common.{◌+◌, ◌-◌, ◌≤◌, ◌<◌, ◌≡◌, ◌&&◌, ◌∷◌, ◌++◌, sym, ap, ◌∙◌, subst, arith}
use Rattle.std.proofs.lemmas.Bool.Decides.{nat_tests}
use Rattle.std.proofs.ByRecursion.{All-weaker}
use Rattle.model.specs.Market.{Side, Buy, Sell, Standing}
use Rattle.model.specs.Queues.{with_lots, by_price}
use Rattle.model.specs.Average.{lots_of}
use Rattle.model.specs.Matching.{Deal, Met, trades_of, meet, untouched}
use Rattle.model.specs.Opening.{demand, supply, auctioned}
use Rattle.model.specs.Serving.{Served, Along, number_in, traded_by}
use Rattle.model.specs.Serving.Served.{none, part, whole}
use Rattle.model.specs.Serving.Along.{here, later}
use Rattle.model.specs.OpeningLaws.{Reached}
use Rattle.model.proofs.Meeting.{Meets}
use Rattle.model.proofs.Meeting.Meets.{empty, enough, stopped, some, every}
use Rattle.model.proofs.OpeningPrice.{supply-more}
use Rattle.ranking.specs.Ranks.{Ranked}

-- ---- lists of deals
abbrev pub traded : List Deal → ℕ
traded ds = lots_of (trades_of ds)

pub traded-append : (xs ys : List Deal) → traded (xs ++ ys) ≡ traded xs + traded ys
traded-append [] ys = omega arith
traded-append (x ∷ xs) ys = let ih = traded-append xs ys in omega arith

pub traded_by-append : (side : Side) (k : ℕ) (xs ys : List Deal) → traded_by side k (trades_of (xs ++ ys)) ≡ traded_by side k (trades_of xs) + traded_by side k (trades_of ys)
traded_by-append side k [] ys = omega arith
traded_by-append side k (x ∷ xs) ys = let ih = traded_by-append side k xs ys in omega arith

pub names-append : (side : Side) (xs ys : List Deal) → map (number_in side) (trades_of (xs ++ ys)) ≡ map (number_in side) (trades_of xs) ++ map (number_in side) (trades_of ys)
names-append side [] ys = refl
names-append side (x ∷ xs) ys = ap (λ z. number_in side x.trade ∷ z) (names-append side xs ys)

-- all deals of one buy
pub along_one : (k : ℕ) (ds rs : List Deal) (places : List ℕ) → AllByRecursion (λ d. d.trade.buy ≡ k) ds → Along (map (number_in Buy) (trades_of rs)) places
    → Along (map (number_in Buy) (trades_of (ds ++ rs))) (k ∷ places)
along_one k [] rs places a h = later h
along_one k (d ∷ ds) rs places a h =
    subst (λ z. Along (z ∷ map (number_in Buy) (trades_of (ds ++ rs))) (k ∷ places)) (sym a.0) (here (along_one k ds rs places a.1 h))

pub traded_by-one : (n k : ℕ) (ds : List Deal) → AllByRecursion (λ d. d.trade.buy ≡ n) ds → traded_by Buy k (trades_of ds) ≡ cond (eqb n k) (traded ds) 0
traded_by-one n k [] a = grind (arith, nat_tests)
traded_by-one n k (d ∷ ds) a = let ih = traded_by-one n k ds a.1 in let h = a.0 in grind (arith, nat_tests)

-- ---- demand and supply of ranked queues
supply-none : (p : ℕ) (q : List Standing) → AllByRecursion (λ x. p < x.price) q → supply q p ≡ 0
unfolding supply
supply-none p [] a = refl
supply-none p (x ∷ q) a = let ih = supply-none p q a.1 in let h = a.0 in grind (arith, nat_tests)

above : (p : ℕ) (x : Standing) (q : List Standing) → Ranked (by_price Sell) (x ∷ q) → p < x.price → supply q p ≡ 0
above p x q r h = supply-none p q (All-weaker (λ y. by_price Sell y x ≡ false) (λ y. p < y.price) (λ y e. grind (arith, nat_tests)) q r.0)

demand-none : (p : ℕ) (q : List Standing) → AllByRecursion (λ x. x.price < p) q → demand q p ≡ 0
unfolding demand
demand-none p [] a = refl
demand-none p (x ∷ q) a = let ih = demand-none p q a.1 in let h = a.0 in grind (arith, nat_tests)

pub beneath : (p : ℕ) (x : Standing) (q : List Standing) → Ranked (by_price Buy) (x ∷ q) → x.price < p → demand q p ≡ 0
beneath p x q r h = demand-none p q (All-weaker (λ y. by_price Buy y x ≡ false) (λ y. y.price < p) (λ y e. grind (arith, nat_tests)) q r.0)

-- ---- one buy meets the sells
module _ (t o : ℕ) (b : Standing) where
  abbrev MeetsSells : ℕ → List Standing → Met → Type 0
  MeetsSells n q m = Meets (λ p. leb p o) (auctioned t o b) n q m

  pub left-supply : {n : ℕ} {q : List Standing} {m : Met} (p : ℕ) → MeetsSells n q m → Ranked (by_price Sell) q → supply m.queue p ≡ supply q p - traded m.deals
  left-supply p empty s = omega arith
  left-supply p (enough e) s = omega arith
  left-supply p (stopped e) s = omega arith
  left-supply p (some {n} {x = x} {q = q} e h l) s =
      let u = supply-more x q p in
      let v = supply-more (with_lots x (x.lots - n)) q p in
      let z = above p x q s in
      grind (arith, nat_tests)
  left-supply p (every {n} {x = x} {q = q} {r = r} e h l g) s =
      let ih = left-supply p g s.1 in
      let u = supply-more x q p in
      let z = above p x q s in
      grind (arith, nat_tests)

  pub met-lots : {n : ℕ} {q : List Standing} {m : Met} → MeetsSells n q m → Ranked (by_price Sell) q → traded m.deals ≡ min n (supply q o)
  unfolding supply
  met-lots empty s = omega arith
  met-lots (enough e) s = omega arith
  met-lots (stopped {x = x} {q = q} e) s = let z = above o x q s in grind (arith, nat_tests)
  met-lots (some {n} {x = x} {q = q} e h l) s = grind (arith, nat_tests)
  met-lots (every {n} {x = x} {q = q} {r = r} e h l g) s = let ih = met-lots g s.1 in grind (arith, nat_tests)

pub served-pos : {q r : List Standing} → Served q r → AllByRecursion (λ x. 1 ≤ x.lots) q → AllByRecursion (λ x. 1 ≤ x.lots) r
served-pos none a = a
served-pos (part n z l) a = (omega arith, a.1)
served-pos (whole s) a = served-pos s a.1

-- a bid that is left is one that stood, perhaps with fewer lots
record Stood (q : List Standing) (y : Standing) : Type 0 where
  was : Standing
  in_queue : Memᴰ was q
  number : was.number ≡ y.number
  holder : was.holder ≡ y.holder
  price : was.price ≡ y.price

stood : {q r : List Standing} → Served q r → {y : Standing} → Memᴰ y r → Stood q y
stood none {y} m = record { was = y; in_queue = m; number = refl; holder = refl; price = refl }
stood (part {x = x} n z l) (Memᴰ.head e) =
    record { was = x; in_queue = Memᴰ.head refl; number = ap (λ (v : Standing). v.number) (sym e); holder = ap (λ (v : Standing). v.holder) (sym e); price = ap (λ (v : Standing). v.price) (sym e) }
stood (part n z l) {y} (Memᴰ.tail m) = record { was = y; in_queue = Memᴰ.tail m; number = refl; holder = refl; price = refl }
stood (whole s) m = let i = stood s m in record { was = i.was; in_queue = Memᴰ.tail i.in_queue; number = i.number; holder = i.holder; price = i.price }

pub reached-more : (o : ℕ) (b : Standing) (buys sells left : List Standing) → Served sells left → (d : Deal) → Reached o buys left d → Reached o (b ∷ buys) sells d
reached-more o b buys sells left s d h =
    let i = stood s h.offers in
    record {
      bid = h.bid;
      offer = i.was;
      bids = Memᴰ.tail h.bids;
      offers = i.in_queue;
      above = h.above;
      below = let e = i.price in let l = h.below in omega arith;
      buyer = h.buyer;
      seller = (h.seller.0 ∙ sym i.holder, h.seller.1 ∙ sym i.number);
      held = h.held;
    }

-- ---- where no sell reaches the price, the buys stay as they are
pub meet-none : (o : ℕ) (deal : Standing → ℕ → Deal) (n : ℕ) (q : List Standing) → AllByRecursion (λ s. leb s.price o ≡ false) q → meet (λ p. leb p o) deal n q ≡ untouched n q
unfolding meet
meet-none o deal n [] a = refl
meet-none o deal n (x ∷ q) a = let e = a.0 in step (ltb 0 n) (leb x.price o) e
  where
    step : (p u : Bool) → u ≡ false → let r = meet (λ p. leb p o) deal (n - x.lots) q in
        ◌≡◌ {A = Met}
        (cond (p && u)
        (cond (leb x.lots n)
        (record { deals = deal x x.lots ∷ r.deals; queue = r.queue; left = r.left })
        (record { deals = deal x n ∷ []; queue = with_lots x (x.lots - n) ∷ q; left = 0 }))
        (untouched n (x ∷ q)))
        (untouched n (x ∷ q))
    step true true e = absurd (grind (arith, nat_tests))
    step true false e = refl
    step false u e = refl
