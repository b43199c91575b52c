-- An opening at a price, trade by trade: with the next deal of a sheet it goes on from what the deal leaves, and without one it is over.
use Rattle.std.proofs.Common.{◌≡◌, ℕ, ◌-◌, ◌<◌, ◌≤◌, min, Bool, true, false, cond, ◌&&◌, ltb, leb, List, [], ◌∷◌, ◌++◌, Some, None, Option, sym, refl, ap, ◌∙◌, subst, inl, inr, arith}
use Rattle.std.specs.List.{AllByRecursion}
use Rattle.std.proofs.ByRecursion.{All-weaker}
use Rattle.std.proofs.lemmas.Bool.{cond-true, cond-false, and_from, lt-ltb, le-ltb, le-leb, lt-leb, cases_order}
use Rattle.std.proofs.lemmas.Bool.Decides.{nat_tests}
use Rattle.rules.specs.declared.bid.Side.TheVariants.{Sell}
use Rattle.model.specs.declared.words.Standing.{Standing}
use Rattle.model.specs.Words.{only}
use Rattle.model.specs.Queues.{with_lots, by_price}
use Rattle.model.specs.Matching.{Deal, Met, meet, untouched}
use Rattle.model.specs.Opening.{Opened, unopened, auctioned, uncross}
use Rattle.model.specs.World.{Sheet}
use Rattle.model.proofs.Uncrossing.{meet-none}
use Rattle.ranking.specs.Ranks.{Ranked}
use Rattle.queues.specs.Entries.{first_of, lots_taken}
use Rattle.auction.specs.Pairs.{pair_of, deal_of, next_deal, traded_on}

abbrev pub Lots : List Standing → Type 0
Lots q = AllByRecursion (λ x. 1 ≤ x.lots) q

-- a deal in front of others
abbrev pub in_front : Deal → Opened → Opened
in_front d o = record { deals = d ∷ o.deals; buys = o.buys; sells = o.sells }

-- ---- one newcomer and the first bid
module _ (test : ℕ → Bool) (deal : Standing → ℕ → Deal) where
  meet-part : (n : ℕ) (x : Standing) (q : List Standing) → test x.price ≡ true → 0 < n → n < x.lots
      → meet test deal n (x ∷ q) ≡ record { deals = deal x n ∷ []; queue = with_lots x (x.lots - n) ∷ q; left = 0 }
  unfolding meet
  meet-part n x q e h l = cond-true _ _ _ (and_from _ _ (lt-ltb 0 n h) e) ∙ cond-false _ _ _ (lt-leb x.lots n l)

  meet-whole : (n : ℕ) (x : Standing) (q : List Standing) → test x.price ≡ true → 0 < n → x.lots ≤ n
      → let r = meet test deal (n - x.lots) q in
      meet test deal n (x ∷ q) ≡ record { deals = deal x x.lots ∷ r.deals; queue = r.queue; left = r.left }
  unfolding meet
  meet-whole n x q e h l = cond-true _ _ _ (and_from _ _ (lt-ltb 0 n h) e) ∙ cond-true _ _ _ (le-leb x.lots n l)

  meet-zero : (q : List Standing) → meet test deal 0 q ≡ untouched 0 q
  unfolding meet
  meet-zero [] = refl
  meet-zero (x ∷ q) = refl

-- ---- the first buy, where it reaches the price
module _ (t p : ℕ) where
  -- what its meeting with the sells and the buys behind it leave
  abbrev after : Standing → List Standing → Met → Opened
  after b buys m =
      let r = uncross t p buys m.queue in
      record { deals = m.deals ++ r.deals; buys = only (ltb 0 m.left) (with_lots b m.left) ++ r.buys; sells = r.sells }

  reached : (b : Standing) (buys sells : List Standing) → leb p b.price ≡ true → uncross t p (b ∷ buys) sells ≡ after b buys (meet (λ q. leb q p) (auctioned t p b) b.lots sells)
  unfolding uncross
  reached b buys sells e = cond-true _ _ _ e

  unreached : (b : Standing) (buys sells : List Standing) → leb p b.price ≡ false → uncross t p (b ∷ buys) sells ≡ unopened (b ∷ buys) sells
  unfolding uncross
  unreached b buys sells e = cond-false _ _ _ e

  no-buys : (sells : List Standing) → uncross t p [] sells ≡ unopened [] sells
  unfolding uncross
  no-buys sells = refl

  -- a deal with the first sell, and what both leave
  module _ (b s : Standing) (buys sells : List Standing) (e : leb p b.price ≡ true) (f : leb s.price p ≡ true) (h : 1 ≤ b.lots) where
    abbrev goes_on : ℕ → Type 0
    goes_on n = uncross t p (b ∷ buys) (s ∷ sells) ≡ in_front (auctioned t p b s n) (uncross t p (lots_taken n (b ∷ buys)) (lots_taken n (s ∷ sells)))

    -- from the two queues as they are written out
    with-queues : (n : ℕ) (bs ss : List Standing) → lots_taken n (b ∷ buys) ≡ bs → lots_taken n (s ∷ sells) ≡ ss
        → uncross t p (b ∷ buys) (s ∷ sells) ≡ in_front (auctioned t p b s n) (uncross t p bs ss) → goes_on n
    with-queues n bs ss u v g =
        g
        ∙ ap (λ (z : List Standing). in_front (auctioned t p b s n) (uncross t p z ss)) (sym u)
        ∙ ap (λ (z : List Standing). in_front (auctioned t p b s n) (uncross t p (lots_taken n (b ∷ buys)) z)) (sym v)

    buy-filled : b.lots < s.lots → goes_on b.lots
    buy-filled l =
        with-queues b.lots buys (with_lots s (s.lots - b.lots) ∷ sells) (cond-false _ _ _ (le-ltb b.lots b.lots (omega arith))) (cond-true _ _ _ (lt-ltb b.lots s.lots l))
        (reached b buys (s ∷ sells) e ∙ ap (after b buys) (meet-part (λ q. leb q p) (auctioned t p b) b.lots s sells f (omega arith) l))

    whole-sell : s.lots ≤ b.lots → uncross t p (b ∷ buys) (s ∷ sells) ≡ in_front (auctioned t p b s s.lots) (after b buys (meet (λ q. leb q p) (auctioned t p b) (b.lots - s.lots) sells))
    whole-sell l = reached b buys (s ∷ sells) e ∙ ap (after b buys) (meet-whole (λ q. leb q p) (auctioned t p b) b.lots s sells f (omega arith) l)

    sell-filled : s.lots < b.lots → goes_on s.lots
    sell-filled l =
        with-queues s.lots (with_lots b (b.lots - s.lots) ∷ buys) sells (cond-true _ _ _ (lt-ltb s.lots b.lots l)) (cond-false _ _ _ (le-ltb s.lots s.lots (omega arith)))
        (whole-sell (omega arith) ∙ ap (in_front (auctioned t p b s s.lots)) (sym (reached (with_lots b (b.lots - s.lots)) buys sells e)))

    both-filled : b.lots ≡ s.lots → goes_on s.lots
    both-filled l =
        let z : b.lots - s.lots ≡ 0 = omega arith in
        let none = ap (λ (n : ℕ). meet (λ q. leb q p) (auctioned t p b) n sells) z ∙ meet-zero (λ q. leb q p) (auctioned t p b) sells in
        with-queues s.lots buys sells (cond-false _ _ _ (le-ltb s.lots b.lots (omega arith))) (cond-false _ _ _ (le-ltb s.lots s.lots (omega arith)))
        (whole-sell (omega arith) ∙ ap (λ (m : Met). in_front (auctioned t p b s s.lots) (after b buys m)) none)

    one_more : goes_on (min b.lots s.lots)
    one_more = elim (cases_order b.lots s.lots) [
      | inl l ↦ let n : s.lots ≡ min b.lots s.lots = omega arith in subst goes_on n (both-filled l)
      | inr u ↦
          elim u [
            | inl l ↦ let n : b.lots ≡ min b.lots s.lots = omega arith in subst goes_on n (buy-filled l)
            | inr l ↦ let n : s.lots ≡ min b.lots s.lots = omega arith in subst goes_on n (sell-filled l)
          ]
    ]

  -- ---- no sell reaches the price: nothing changes
  at_rest : (buys sells : List Standing) → Lots buys → AllByRecursion (λ s. leb s.price p ≡ false) sells → uncross t p buys sells ≡ unopened buys sells
  unfolding uncross
  at_rest [] sells a h = refl
  at_rest (b ∷ buys) sells a h = step (leb p b.price) (at_rest buys sells a.1 h)
    where
      step : (u : Bool) → uncross t p buys sells ≡ unopened buys sells → cond u (after b buys (meet (λ q. leb q p) (auctioned t p b) b.lots sells)) (unopened (b ∷ buys) sells) ≡ unopened (b ∷ buys) sells
      step false ih = refl
      step true ih =
          ap (after b buys) (meet-none p (auctioned t p b) b.lots sells h)
          ∙ ap (λ (o : Opened). record { deals = o.deals; buys = only (ltb 0 b.lots) b ++ o.buys; sells = o.sells }) ih
          ∙ ap (λ (u : Bool). unopened (only u b ++ buys) sells) (lt-ltb 0 b.lots a.0)

  -- ---- the next deal of a sheet
  -- what the opening is, by its next deal
  abbrev pub Next : Sheet → Option Deal → Type 0
  Next s None = uncross t p s.buys s.sells ≡ unopened s.buys s.sells
  Next s (Some d) = uncross t p s.buys s.sells ≡ in_front d (uncross t p (traded_on d.trade s).buys (traded_on d.trade s).sells)

  abbrev sheet_with : List Standing → List Standing → ℕ → ℕ → Sheet
  sheet_with buys sells w n = record { buys = buys; sells = sells; worth = w; traded = n }

  next_of : (buys sells : List Standing) (w n : ℕ) → Ranked (by_price Sell) sells → Lots buys
      → Next (sheet_with buys sells w n) (deal_of t p (pair_of p (first_of buys) (first_of sells)))
  next_of [] sells w n r lb = no-buys sells
  next_of (b ∷ buys) [] w n r lb = at_rest (b ∷ buys) [] lb tt
  next_of (b ∷ buys) (s ∷ sells) w n r lb = step (leb p b.price) (leb s.price p) refl refl
    where
      step : (u v : Bool) → leb p b.price ≡ u → leb s.price p ≡ v → Next (sheet_with (b ∷ buys) (s ∷ sells) w n) (deal_of t p (cond (u && v) (Some (b, s)) None))
      step true true e f = one_more b s buys sells e f lb.0
      step true false e f =
          at_rest (b ∷ buys) (s ∷ sells) lb (f, All-weaker (λ y. by_price Sell y s ≡ false) (λ y. leb y.price p ≡ false) (λ y z. grind (arith, nat_tests)) sells r.0)
      step false v e f = unreached b buys (s ∷ sells) e

  pub next-is : (s : Sheet) → Ranked (by_price Sell) s.sells → Lots s.buys → Next s (next_deal t p s)
  next-is s r lb = next_of s.buys s.sells s.worth s.traded r lb
