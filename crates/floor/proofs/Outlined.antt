-- What is foreseen of a bid, read off the desk. Assumes nothing.
use Rattle.std.proofs.Common.{◌≡◌, ℕ, ◌*◌, ◌≤◌, Bool, true, false, cond, ◌||◌, eqb, ltb, List, length, Some, None, sym, refl, ◌∙◌, subst, arith}
use Rattle.std.proofs.lemmas.Bool.Decides.{nat_tests}
use Rattle.rules.specs.Bids.{most_price}
use Rattle.model.specs.declared.words.Bid.{Bid}
use Rattle.model.specs.declared.words.Standing.{Standing}
use Rattle.model.specs.Market.{other}
use Rattle.model.specs.Average.{average_price_lem, average, cost_of}
use Rattle.model.specs.Matching.{trades_of}
use Rattle.model.specs.World.{World, queue}
use Rattle.model.specs.Bidding.{met}
use Rattle.model.proofs.Rounding.{average-laws}
use Rattle.matching.specs.declared.newcomers.Newcomer.{Newcomer}
use Rattle.matching.specs.declared.entering.Outlook.{Outlook}
use Rattle.matching.specs.Enterings.{encounter_by, foreseen, rest_of}
use Rattle.model.specs.Checks.{has_place_lem}
use Rattle.register.specs.Books.{Book}
use Rattle.floor.specs.declared.desk.Desk.{Desk}
use Rattle.floor.specs.Desks.{world_of}
use Rattle.floor.specs.Asking.{newcomer_of, Outlined}

-- an average lies within the limits of a price
pub average-within : (worth lots p : ℕ) → Some p ≡ average worth lots → worth ≤ most_price * lots → p ≤ most_price
average-within worth lots p e h = by (eqb lots 0) refl e
  where
    by : (z : Bool) → eqb lots 0 ≡ z → Some p ≡ cond z None (Some (average_price_lem worth lots)) → p ≤ most_price
    by true z q = absurd (let x : ◌≡◌ {A = ℕ} 0 1 = cc in omega arith)
    by false z q =
        let same : p ≡ average_price_lem worth lots = cc in
        let some : 1 ≤ lots = grind (arith, nat_tests) in
        subst (λ (x : ℕ). x ≤ most_price) (sym same) (average-laws.most worth lots most_price some h)

pub outlined : (w : World) (c : Newcomer) (q : List Standing) (o : Outlook) → c ≡ newcomer_of w c.bid → q ≡ queue w c.bid.ticker (other c.bid.side)
    → encounter_by w.session c q ≡ foreseen o.trades c q → o.left ≡ (encounter_by w.session c q).left
    → o.cost ≡ cost_of (trades_of (encounter_by w.session c q).deals) → Outlined w c.bid o
outlined w c q o ec eq t l k = record {
  trades = sym (λ i. encounter_by w.session (ec i) (eq i)) ∙ t ∙ (λ i. foreseen o.trades (ec i) (eq i));
  left = l ∙ (λ i. (encounter_by w.session (ec i) (eq i)).left);
  cost = k ∙ (λ i. cost_of (trades_of (encounter_by w.session (ec i) (eq i)).deals));
}

-- the rest finds a place
pub place_found : (w : World) (c : Newcomer) (own : List Standing) (o : Outlook) (rest : ℕ) (b : Bool) → c ≡ newcomer_of w c.bid → own ≡ queue w c.bid.ticker c.bid.side
    → Outlined w c.bid o → rest ≡ rest_of c o.left → b ≡ (eqb rest 0 || ltb (length own) 64) → b ≡ has_place_lem w c.bid
place_found w c own o rest b ec eo out er eb = eb ∙ (λ i. eqb (same i) 0 || ltb (length (eo i)) 64)
  where
    same : rest ≡ rest_of (newcomer_of w c.bid) (met w c.bid).left
    same = er ∙ (λ i. rest_of (ec i) (out.left i))

-- what is foreseen does not depend on the register
pub outlined-same : (k k' : Book) (desk : Desk) (b : Bid) (o : Outlook) → Outlined (world_of k desk) b o → Outlined (world_of k' desk) b o
outlined-same k k' desk b o x = record { trades = x.trades; left = x.left; cost = x.cost }
