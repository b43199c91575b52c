-- The laws of the opening, from its price and its trades.
use Rattle.model.specs.Words.{ℕ, refl, List, [], AllByRecursion, Memᴰ}
use Rattle.std.proofs.Common.{◌≤◌, ◌<◌, ◌≡◌, ◌∷◌, ◌⊎◌, sym, ap, subst, inl, inr, arith}
use Rattle.std.proofs.lemmas.Bool.Decides.{nat_tests}
use Rattle.std.proofs.lemmas.Bool.{cases_lt}
use Rattle.model.specs.Market.{Standing}
use Rattle.model.specs.Opening.{Opened, demand, supply, tradable, uncross, opening_at, opening}
use Rattle.model.specs.OpeningLaws.{Best, OpenedWell, OpeningClears}
use Rattle.model.proofs.Matched.{all_map}
use Rattle.model.proofs.OpeningPrice.{opening-price-is-best}
use Rattle.model.proofs.Clearing.{Clearing}
use Rattle.model.proofs.Cleared.{clearing}

demand-at : {b : Standing} {q : List Standing} → Memᴰ b q → b.lots ≤ demand q b.price
unfolding demand
demand-at {b} (Memᴰ.head {x} e) = let p = ap (λ (z : Standing). z.price) e in let l = ap (λ (z : Standing). z.lots) e in grind (arith, nat_tests)
demand-at {b} (Memᴰ.tail {x} {xs} m) = let ih = demand-at m in grind (arith, nat_tests)

supply-at : {s : Standing} {q : List Standing} (p : ℕ) → s.price ≤ p → Memᴰ s q → s.lots ≤ supply q p
unfolding supply
supply-at {s} p h (Memᴰ.head {x} e) = let k = ap (λ (z : Standing). z.price) e in let l = ap (λ (z : Standing). z.lots) e in grind (arith, nat_tests)
supply-at {s} p h (Memᴰ.tail {x} {xs} m) = let ih = supply-at p h m in grind (arith, nat_tests)

all_from : {X : Type 0} (P : X → Type 0) (xs : List X) → ((x : X) → Memᴰ x xs → P x) → AllByRecursion P xs
all_from P [] h = tt
all_from P (x ∷ xs) h = (h x (Memᴰ.head refl), all_from P xs (λ y m. h y (Memᴰ.tail m)))

pub all-mem : {X : Type 0} (P : X → Type 0) {x : X} {xs : List X} → AllByRecursion P xs → Memᴰ x xs → P x
all-mem P a (Memᴰ.head e) = subst P (sym e) a.0
all-mem P a (Memᴰ.tail m) = all-mem P a.1 m

-- where nothing could trade at any price, each buy is below each sell
all_apart : (B S : List Standing) → ((p : ℕ) → tradable B S p ≡ 0) → AllByRecursion (λ x. 1 ≤ x.lots) B → AllByRecursion (λ x. 1 ≤ x.lots) S → AllByRecursion (λ b. AllByRecursion (λ s. b.price < s.price) S) B
unfolding tradable
all_apart B S h lb ls =
    all_from (λ b. AllByRecursion (λ s. b.price < s.price) S) B
    (λ b m. all_from (λ s. b.price < s.price) S (λ s n. one b s m n (cases_lt b.price s.price)))
  where
    one : (b s : Standing) → Memᴰ b B → Memᴰ s S → (b.price < s.price) ⊎ (s.price ≤ b.price) → b.price < s.price
    one b s m n (inl l) = l
    one b s m n (inr l) =
        let d = demand-at m in
        let u = supply-at b.price l n in
        let z = h b.price in
        let x = all-mem (λ x. 1 ≤ x.lots) lb m in
        let y = all-mem (λ x. 1 ≤ x.lots) ls n in
        absurd (omega arith)

nothing_left : (t o : ℕ) (buys sells : List Standing) (r : Opened) → Clearing t o buys sells r → Best buys sells o → (p : ℕ) → tradable r.buys r.sells p ≡ 0
unfolding tradable
nothing_left t o buys sells r c best p = let v = c.supplied p in let w = c.demanded p in let x = best.most p in let y = c.total in omega arith

pub opening-clears : OpeningClears 1
unfolding tradable opening
opening-clears t o buys sells rb rs lb ls e =
    let r = uncross t o buys sells in
    let c = clearing t o buys sells rb rs lb ls in
    let d = nothing_left t o buys sells r c (opening-price-is-best buys sells o e) in
    subst (λ z. OpenedWell t o buys sells (opening_at t z buys sells)) (sym e)
    (record {
      smaller = c.total;
      price = all_map (λ d. (d.trade.ticker ≡ t) × (d.trade.price ≡ o)) (λ x. (x.ticker ≡ t) × (x.price ≡ o)) (λ d. d.trade) (λ d h. h) r.deals c.price;
      reached = c.reached;
      buys_order = c.buys_order;
      sells_order = c.sells_order;
      buys_served = c.buys_served;
      sells_served = c.sells_served;
      few = c.few;
      buys_conserved = c.buys_conserved;
      sells_conserved = c.sells_conserved;
      apart = all_apart r.buys r.sells d c.buys_lots c.sells_lots;
    })
