-- The opening's trades: one recursion over the buys, each of which meets the sells that are left.
use Rattle.model.specs.Words.{ℕ, refl, Bool, true, false, cond, leb, ltb, eqb, List, [], map, length, AllByRecursion, only}
use Rattle.std.proofs.Common.{◌+◌, ◌≤◌, ◌<◌, ◌≡◌, ◌∷◌, ◌++◌, ◌⊎◌, sym, subst, inl, inr, arith}
use mathlib.Core.List.Memᴰ
use Rattle.std.proofs.lemmas.Bool.Decides.{nat_tests}
use Rattle.std.proofs.ByRecursion.{All-weaker, All-append}
use Rattle.std.proofs.lemmas.Bool.{cases_lt}
use Rattle.model.specs.Market.{Buy, Sell, Standing}
use Rattle.model.specs.Queues.{with_lots, by_price}
use Rattle.model.specs.Matching.{Met, trades_of, meet}
use Rattle.model.specs.Opening.{Opened, unopened, demand, auctioned, uncross}
use Rattle.model.specs.Serving.{Served, Along, number_in, left_of, numbers_of}
use Rattle.model.specs.Serving.Served.{none, part, whole}
use Rattle.model.specs.Serving.Along.{end}
use Rattle.model.specs.OpeningLaws.{Reached}
use Rattle.model.proofs.Meeting.{Meets, meet-graph, meets-served, meets-few, meets-made, meets-done, meets-own, meets-theirs, meets-along}
use Rattle.model.proofs.Matched.{served-ranked, price-blind}
use Rattle.model.proofs.OpeningPrice.{demand-more}
use Rattle.model.proofs.Uncrossing.{traded, traded-append, traded_by-append, names-append, along_one, traded_by-one, beneath, left-supply, met-lots, served-pos, reached-more}
use Rattle.ranking.specs.Ranks.{Ranked}
use Rattle.model.proofs.Clearing.{Lots, Clearing, still, served-on}

length-append : {X : Type 0} (xs ys : List X) → length (xs ++ ys) ≡ length xs + length ys
length-append [] ys = omega arith
length-append (x ∷ xs) ys = let ih = length-append xs ys in omega arith

-- ---- the best buy meets the sells, and the others go on
module _ (t o : ℕ) (b : Standing) (buys sells : List Standing) (rb : Ranked (by_price Buy) (b ∷ buys)) (rs : Ranked (by_price Sell) sells)
    (lb : Lots (b ∷ buys)) (ls : Lots sells) (m : Met) (g : Meets (λ p. leb p o) (auctioned t o b) b.lots sells m)
    (r : Opened) (c : Clearing t o buys m.queue r) (same : AllByRecursion (λ s. leb s.price o ≡ false) m.queue → r.buys ≡ buys) where
  joint : Opened
  joint = record { deals = m.deals ++ r.deals; buys = only (ltb 0 m.left) (with_lots b m.left) ++ r.buys; sells = r.sells }

  own : traded m.deals + m.left ≡ b.lots
  own = meets-own (λ x k. refl) g

  mine : AllByRecursion (λ d. d.trade.buy ≡ b.number) m.deals
  mine = meets-made (λ d. d.trade.buy ≡ b.number) g (λ x k i e. refl)

  rest-demand : (p : ℕ) → demand joint.buys p ≡ cond (leb p b.price) m.left 0 + demand r.buys p
  unfolding joint
  rest-demand p = split (ltb 0 m.left) refl
    where
      split : (u : Bool) → ltb 0 m.left ≡ u → demand (only u (with_lots b m.left) ++ r.buys) p ≡ cond (leb p b.price) m.left 0 + demand r.buys p
      split true e = grind (arith, nat_tests, demand-more)
      split false e = grind (arith, nat_tests)

  rest-left : (k : ℕ) → left_of k joint.buys ≡ cond (eqb b.number k) m.left 0 + left_of k r.buys
  unfolding joint
  rest-left k = split (ltb 0 m.left) refl
    where
      split : (u : Bool) → ltb 0 m.left ≡ u → left_of k (only u (with_lots b m.left) ++ r.buys) ≡ cond (eqb b.number k) m.left 0 + left_of k r.buys
      split true e = grind (arith, nat_tests)
      split false e = grind (arith, nat_tests)

  rest-lots : Lots joint.buys
  unfolding joint
  rest-lots = split (ltb 0 m.left) refl
    where
      split : (u : Bool) → ltb 0 m.left ≡ u → Lots (only u (with_lots b m.left) ++ r.buys)
      split true e = (grind (arith, nat_tests), c.buys_lots)
      split false e = c.buys_lots

  -- where the buy has lots left, no sell that reaches the price is left, and the other buys stay
  all-sold : 0 < m.left → r.buys ≡ buys
  all-sold h = same (meets-done g h (λ s. leb s.price o ≡ false) (λ s e. e)
      (λ s ss v e. All-weaker (λ y. by_price Sell y s ≡ false) (λ y. leb y.price o ≡ false) (λ y f. grind (arith, nat_tests)) ss
      (served-ranked (by_price Sell) (price-blind Sell) v rs).0))

  rest-served : Served (b ∷ buys) joint.buys
  unfolding joint
  rest-served = split (ltb 0 m.left) refl
    where
      some_left : 0 < m.left → (m.left < b.lots) ⊎ (b.lots ≤ m.left) → Served (b ∷ buys) (with_lots b m.left ∷ r.buys)
      some_left h (inl l) = subst (λ z. Served (b ∷ buys) (with_lots b m.left ∷ z)) (sym (all-sold h)) (part m.left h l)
      some_left h (inr l) =
          let e : b.lots ≡ m.left = let u = own in omega arith in
          subst (λ z. Served (b ∷ buys) (with_lots b z ∷ r.buys)) e (subst (λ z. Served (b ∷ buys) (b ∷ z)) (sym (all-sold h)) none)

      split : (u : Bool) → ltb 0 m.left ≡ u → Served (b ∷ buys) (only u (with_lots b m.left) ++ r.buys)
      split true e = some_left (grind (arith, nat_tests)) (cases_lt m.left b.lots)
      split false e = whole c.buys_served

  own-reached : leb o b.price ≡ true → AllByRecursion (Reached o (b ∷ buys) sells) m.deals
  own-reached e = meets-made (Reached o (b ∷ buys) sells) g (λ x k i f. record {
    bid = b;
    offer = x;
    bids = Memᴰ.head refl;
    offers = i;
    above = grind (arith, nat_tests);
    below = grind (arith, nat_tests);
    buyer = (refl, refl);
    seller = (refl, refl);
    held = refl;
  })

  takes : leb o b.price ≡ true → Clearing t o (b ∷ buys) sells joint
  unfolding joint
  takes e =
      let l = met-lots t o b g rs in
      let a = own in
      let w = traded-append m.deals r.deals in
      let i = left-supply t o b o g rs in
      let j = c.total in
      let d = demand-more b buys o in
      record {
        total = grind (arith, nat_tests);
        supplied = λ p. let x = left-supply t o b p g rs in let y = c.supplied p in grind (arith, nat_tests);
        demanded = λ p. let x = rest-demand p in let y = c.demanded p in let z = demand-more b buys p in let n = beneath p b buys rb in grind (arith, nat_tests);
        buys_lots = rest-lots;
        sells_lots = c.sells_lots;
        price = All-append _ m.deals r.deals (meets-made (λ d. (d.trade.ticker ≡ t) × (d.trade.price ≡ o)) g (λ x k z f. (refl, refl))) c.price;
        reached = All-append (Reached o (b ∷ buys) sells) m.deals r.deals (own-reached e)
            (All-weaker (Reached o buys m.queue) (Reached o (b ∷ buys) sells) (reached-more o b buys sells m.queue (meets-served g)) r.deals c.reached);
        buys_order = along_one b.number m.deals r.deals (numbers_of buys) mine c.buys_order;
        sells_order = subst (λ z. Along z (numbers_of sells)) (sym (names-append Sell m.deals r.deals))
            (meets-along (λ x k. refl) Sell (λ x k. refl) g (map (number_in Sell) (trades_of r.deals)) c.sells_order);
        buys_served = rest-served;
        sells_served = served-on (meets-served g) c.sells_served;
        few = let x = (meets-few g).1 in let y = c.few in let z = length-append m.deals r.deals in omega arith;
        buys_conserved = λ k. let x = traded_by-append Buy k m.deals r.deals in let y = traded_by-one b.number k m.deals mine in let z = rest-left k in let n = c.buys_conserved k in grind (arith, nat_tests);
        sells_conserved = λ k. let x = traded_by-append Sell k m.deals r.deals in let y = meets-theirs (λ x k. refl) Sell (λ x k. refl) k g in let n = c.sells_conserved k in grind (arith, nat_tests);
      }

-- nothing is bought at a price that the best buy does not reach
stops : (t o : ℕ) (b : Standing) (buys sells : List Standing) → Ranked (by_price Buy) (b ∷ buys) → Lots (b ∷ buys) → Lots sells → leb o b.price ≡ false
    → Clearing t o (b ∷ buys) sells (unopened (b ∷ buys) sells)
stops t o b buys sells rb lb ls e =
    let k = demand-more b buys o in
    let n = beneath o b buys rb in
    record {
      total = grind (arith, nat_tests);
      supplied = λ p. omega arith;
      demanded = λ p. omega arith;
      buys_lots = lb;
      sells_lots = ls;
      price = tt;
      reached = tt;
      buys_order = end;
      sells_order = end;
      buys_served = none;
      sells_served = none;
      few = omega arith;
      buys_conserved = λ k. omega arith;
      sells_conserved = λ k. omega arith;
    }

pub clearing : (t o : ℕ) (buys sells : List Standing) → Ranked (by_price Buy) buys → Ranked (by_price Sell) sells → Lots buys → Lots sells
    → Clearing t o buys sells (uncross t o buys sells)
unfolding uncross demand joint
clearing t o [] sells rb rs lb ls = record {
  total = omega arith;
  supplied = λ p. omega arith;
  demanded = λ p. omega arith;
  buys_lots = tt;
  sells_lots = ls;
  price = tt;
  reached = tt;
  buys_order = end;
  sells_order = end;
  buys_served = none;
  sells_served = none;
  few = omega arith;
  buys_conserved = λ k. omega arith;
  sells_conserved = λ k. omega arith;
}
clearing t o (b ∷ buys) sells rb rs lb ls =
    let m = meet (λ p. leb p o) (auctioned t o b) b.lots sells in
    let g = meet-graph (λ p. leb p o) (auctioned t o b) b.lots sells in
    step (leb o b.price) refl
    (clearing t o buys m.queue rb.1 (served-ranked (by_price Sell) (price-blind Sell) (meets-served g) rs) lb.1 (served-pos (meets-served g) ls))
  where
    step : (u : Bool) → leb o b.price ≡ u
        → let m = meet (λ p. leb p o) (auctioned t o b) b.lots sells in
        let r = uncross t o buys m.queue in
        Clearing t o buys m.queue r
        → Clearing t o (b ∷ buys) sells
        (cond u
        (record { deals = m.deals ++ r.deals; buys = only (ltb 0 m.left) (with_lots b m.left) ++ r.buys; sells = r.sells })
        (unopened (b ∷ buys) sells))
    step true e c =
        let m = meet (λ p. leb p o) (auctioned t o b) b.lots sells in
        takes t o b buys sells rb rs lb ls m (meet-graph (λ p. leb p o) (auctioned t o b) b.lots sells) (uncross t o buys m.queue) c (still t o buys m.queue lb.1) e
    step false e c = stops t o b buys sells rb lb ls e
