-- What an opening at a price owes; and that the buys stay as they are where no sell reaches the price.
use Rattle.model.specs.Words.{ℕ, refl, Bool, true, false, cond, leb, ltb, List, [], map, length, AllByRecursion, only, min}
use Rattle.std.proofs.Common.{◌+◌, ◌-◌, ◌≤◌, ◌≡◌, ◌∷◌, ◌++◌, sym, ap, ◌∙◌, subst, arith}
use Rattle.std.proofs.lemmas.Bool.Decides.{nat_tests}
use Rattle.model.specs.Market.{Buy, Sell, Standing}
use Rattle.model.specs.Queues.{with_lots}
use Rattle.model.specs.Matching.{Met, trades_of, meet}
use Rattle.model.specs.Opening.{Opened, unopened, demand, supply, auctioned, uncross}
use Rattle.model.specs.Serving.{Served, Along, number_in, numbers_of}
use Rattle.model.specs.Serving.Served.{none, part, whole}
use Rattle.model.specs.OpeningLaws.{Reached, Conserved}
use Rattle.model.proofs.Uncrossing.{traded, meet-none}

abbrev pub Lots : List Standing → Type 0
Lots q = AllByRecursion (λ x. 1 ≤ x.lots) q

-- where no sell reaches the price, the buys stay as they are
joined_back : (b : Standing) (buys : List Standing) → 1 ≤ b.lots → only (ltb 0 b.lots) (with_lots b b.lots) ++ buys ≡ b ∷ buys
joined_back b buys h = step (ltb 0 b.lots) refl
  where
    step : (t : Bool) → ltb 0 b.lots ≡ t → only t (with_lots b b.lots) ++ buys ≡ b ∷ buys
    step true e = refl
    step false e = absurd (grind (arith, nat_tests))

pub still : (t o : ℕ) (buys sells : List Standing) → Lots buys → AllByRecursion (λ s. leb s.price o ≡ false) sells → (uncross t o buys sells).buys ≡ buys
unfolding uncross
still t o [] sells a h = refl
still t o (b ∷ buys) sells a h = step (leb o b.price) (still t o buys sells a.1 h)
  where
    step : (u : Bool) → (uncross t o buys sells).buys ≡ buys
        → let m = meet (λ p. leb p o) (auctioned t o b) b.lots sells in
        let r = uncross t o buys m.queue in
        (cond u (record { deals = m.deals ++ r.deals; buys = only (ltb 0 m.left) (with_lots b m.left) ++ r.buys; sells = r.sells }) (unopened (b ∷ buys) sells)).buys ≡ b ∷ buys
    step false ih = refl
    step true ih =
        let e = meet-none o (auctioned t o b) b.lots sells h in
        subst (λ (m : Met). only (ltb 0 m.left) (with_lots b m.left) ++ (uncross t o buys m.queue).buys ≡ b ∷ buys) (sym e)
        (ap (λ z. only (ltb 0 b.lots) (with_lots b b.lots) ++ z) ih ∙ joined_back b buys a.0)

-- ---- all that an opening at the price o owes but for the last law
pub record Clearing (t o : ℕ) (buys sells : List Standing) (r : Opened) : Type 0 where
  pub total : traded r.deals ≡ min (demand buys o) (supply sells o)
  pub supplied : (p : ℕ) → supply r.sells p ≡ supply sells p - traded r.deals
  pub demanded : (p : ℕ) → demand r.buys p ≡ demand buys p - traded r.deals
  pub buys_lots : Lots r.buys
  pub sells_lots : Lots r.sells
  pub price : AllByRecursion (λ d. (d.trade.ticker ≡ t) × (d.trade.price ≡ o)) r.deals
  pub reached : AllByRecursion (Reached o buys sells) r.deals
  pub buys_order : Along (map (number_in Buy) (trades_of r.deals)) (numbers_of buys)
  pub sells_order : Along (map (number_in Sell) (trades_of r.deals)) (numbers_of sells)
  pub buys_served : Served buys r.buys
  pub sells_served : Served sells r.sells
  pub few : length r.deals ≤ length buys + length sells
  pub buys_conserved : Conserved Buy (trades_of r.deals) buys r.buys
  pub sells_conserved : Conserved Sell (trades_of r.deals) sells r.sells

pub served-on : {q r s : List Standing} → Served q r → Served r s → Served q s
served-on none h = h
served-on (part n z l) none = part n z l
served-on (part n z l) (part k y m) = part k y (omega arith)
served-on (part n z l) (whole h) = whole h
served-on (whole g) h = whole (served-on g h)
