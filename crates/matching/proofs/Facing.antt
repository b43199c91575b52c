-- A newcomer, the queue it faces, and the books of its ticker. Assumes nothing.
use Rattle.std.proofs.Common.{◌≡◌, ℕ, ◌+◌, ◌-◌, ◌<◌, ◌≤◌, Bool, true, false, eqb, ◌⊎◌, List, length, sym, refl, ap, ◌∙◌, subst, inl, inr, arith}
use Rattle.register.specs.Books.{Book}
use Rattle.register.specs.Moves.{Move, Release}
use Rattle.register.specs.declared.slips.Slip.{Slip}
use Rattle.rules.specs.declared.bid.Side.{Side}
use Rattle.rules.specs.declared.bid.Side.TheVariants.{Buy, Sell}
use Rattle.rules.specs.Bids.{obligation_of}
use Rattle.model.specs.declared.words.Session.{Session}
use Rattle.model.specs.declared.words.Standing.{Standing}
use Rattle.model.specs.declared.words.Trade.{Trade}
use Rattle.model.specs.Words.{only}
use Rattle.model.specs.Market.{other}
use Rattle.model.specs.Average.{cost_of, lots_of}
use Rattle.model.specs.Matching.{Met, trades_of}
use Rattle.model.specs.Movements.{Granted, moved_all}
use Rattle.model.specs.World.{Sheet, queue_of, sheet_by}
use Rattle.model.specs.Calls.{counted}
use Rattle.model.proofs.Matched.{matching-is-right}
use Rattle.matching.specs.declared.newcomers.Newcomer.{Newcomer}
use Rattle.matching.specs.declared.entering.Outlook.{Outlook}
use Rattle.matching.specs.Dealing.{mine_of, met_by}
use Rattle.matching.specs.Meetings.{Ready, Swept, settling}
use Rattle.matching.specs.Enterings.{foreseen, rest_of, ranked_in, Faced, entered_sheet, Enters, Entered}
use Rattle.matching.proofs.Granting.{granted-front, granted-behind, moved-join}

-- ---- a sheet by the queues of a side and of the other
facing-is : (side : Side) (own others : List Standing) (w t : ℕ) → queue_of (sheet_by side own others w t) (other side) ≡ others
facing-is Buy own others w t = refl
facing-is Sell own others w t = refl

own_is : (side : Side) (own others : List Standing) (w t : ℕ) → queue_of (sheet_by side own others w t) side ≡ own
own_is Buy own others w t = refl
own_is Sell own others w t = refl

worth-is : (side : Side) (own others : List Standing) (w t : ℕ) → (sheet_by side own others w t).worth ≡ w
worth-is Buy own others w t = refl
worth-is Sell own others w t = refl

traded-is : (side : Side) (own others : List Standing) (w t : ℕ) → (sheet_by side own others w t).traded ≡ t
traded-is Buy own others w t = refl
traded-is Sell own others w t = refl

with-sums : (side : Side) (own others : List Standing) (w t w' t' : ℕ)
    → ◌≡◌ {A = Sheet} (record { buys = (sheet_by side own others w t).buys; sells = (sheet_by side own others w t).sells; worth = w'; traded = t' }) (sheet_by side own others w' t')
with-sums Buy own others w t w' t' = refl
with-sums Sell own others w t w' t' = refl

-- ---- facing the queue of the other side
module _ (c : Newcomer) (trades : Bool) (sheet : Sheet) (q' : List Standing) (k k' : Book) (strip strip' : List Trade) (s' : Slip) (size : ℕ) (t : trades ≡ true) where
  faced-own : Swept c (met_by c c.bid.lots (queue_of sheet (other c.bid.side))) q' k k' strip strip' s' size
      → Faced c (foreseen trades c (queue_of sheet (other c.bid.side))) sheet (sheet_by c.bid.side (queue_of sheet c.bid.side) q' sheet.worth sheet.traded) k k' strip strip' s' size
  faced-own sw =
      subst (λ (b : Bool). Faced c (foreseen b c (queue_of sheet (other c.bid.side))) sheet (sheet_by c.bid.side (queue_of sheet c.bid.side) q' sheet.worth sheet.traded) k k' strip strip' s' size) (sym t)
      (record {
        swept = subst (λ (z : List Standing). Swept c (met_by c c.bid.lots (queue_of sheet (other c.bid.side))) z k k' strip strip' s' size) (sym (facing-is c.bid.side (queue_of sheet c.bid.side) q' sheet.worth sheet.traded)) sw;
        sheet_is = ap (λ (z : List Standing). sheet_by c.bid.side (queue_of sheet c.bid.side) z sheet.worth sheet.traded) sw.queue;
      })

  pub faced : (d : Side) → c.bid.side ≡ d → Swept c (met_by c c.bid.lots (queue_of sheet (other d))) q' k k' strip strip' s' size
      → Faced c (foreseen trades c (queue_of sheet (other c.bid.side))) sheet (sheet_by d (queue_of sheet d) q' sheet.worth sheet.traded) k k' strip strip' s' size
  faced d e =
      subst (λ (z : Side). Swept c (met_by c c.bid.lots (queue_of sheet (other z))) q' k k' strip strip' s' size
      → Faced c (foreseen trades c (queue_of sheet (other c.bid.side))) sheet (sheet_by z (queue_of sheet z) q' sheet.worth sheet.traded) k k' strip strip' s' size) e faced-own

-- no lot is lost
pub conserved : (c : Newcomer) (trades : Bool) (q : List Standing) → lots_of (trades_of (foreseen trades c q).deals) + (foreseen trades c q).left ≡ c.bid.lots
conserved c true q = (matching-is-right c.number c.bid c.limit q).own
conserved c false q = omega arith

-- ---- the whole of it
module _ (session : Session) (c : Newcomer) (o : Outlook) (sheet : Sheet) (k : Book) (s : Slip) (room : ℕ) where
  abbrev m : Met
  m = foreseen o.trades c (queue_of sheet (other c.bid.side))

  module _ (e : Enters session c m o sheet k s room) where
    pub enters-ready : Ready c m k s
    enters-ready = record { granted = granted-front (settling c m.deals) _ k e.granted; slip = e.slip }

    pub left-within : o.left ≤ c.bid.lots
    left-within = let l = e.left in let n = conserved c o.trades (queue_of sheet (other c.bid.side)) in omega arith

    module _ (sheet1 : Sheet) (k1 : Book) (strip strip1 : List Trade) (s1 : Slip) (size : ℕ) (f : Faced c m sheet sheet1 k k1 strip strip1 s1 size) where
      pub worth-fits : sheet1.worth + counted session o.cost ≡ sheet.worth + counted session (cost_of (trades_of m.deals))
      worth-fits =
          let a : sheet1.worth ≡ sheet.worth = ap (λ (z : Sheet). z.worth) f.sheet_is ∙ worth-is c.bid.side _ _ sheet.worth sheet.traded in
          (λ i. a i + counted session (e.cost i))

      pub traded-fits : sheet1.traded + counted session (c.bid.lots - o.left) ≡ sheet.traded + counted session (lots_of (trades_of m.deals))
      traded-fits =
          let a : sheet1.traded ≡ sheet.traded = ap (λ (z : Sheet). z.traded) f.sheet_is ∙ traded-is c.bid.side _ _ sheet.worth sheet.traded in
          let l = e.left in
          let n = conserved c o.trades (queue_of sheet (other c.bid.side)) in
          let lots : c.bid.lots - o.left ≡ lots_of (trades_of m.deals) = omega arith in
          (λ i. a i + counted session (lots i))

      rest-moves : (r : ℕ) → r ≡ rest_of c o.left → only (eqb r 0) (Release s1.holder s1.asset s1.amount)
          ≡ only (eqb (rest_of c m.left) 0) (Release (mine_of c (obligation_of c.bid.side c.limit m.left)).holder (mine_of c (obligation_of c.bid.side c.limit m.left)).asset (obligation_of c.bid.side c.limit m.left))
      rest-moves r er =
          let er' : r ≡ rest_of c m.left = er ∙ ap (rest_of c) e.left in
          (λ i. only (eqb (er' i) 0) (Release (f.swept.slip i).holder (f.swept.slip i).asset (f.swept.slip i).amount))

      pub rest-granted : (r : ℕ) → r ≡ rest_of c o.left → Granted (only (eqb r 0) (Release s1.holder s1.asset s1.amount)) k1
      rest-granted r er =
          subst (λ (ms : List Move). Granted ms k1) (sym (rest-moves r er))
          (subst (Granted _) (sym f.swept.book) (granted-behind (settling c m.deals) _ k e.granted))

      -- the sheet with the trades counted
      summed : (sheet2 : Sheet)
          → sheet2 ≡ record { buys = sheet1.buys; sells = sheet1.sells; worth = sheet1.worth + counted session o.cost; traded = sheet1.traded + counted session (c.bid.lots - o.left) }
          → sheet2 ≡ sheet_by c.bid.side (queue_of sheet c.bid.side) m.queue (sheet.worth + counted session (cost_of (trades_of m.deals))) (sheet.traded + counted session (lots_of (trades_of m.deals)))
      summed sheet2 e2 =
          e2
          ∙ (λ i. record { buys = (f.sheet_is i).buys; sells = (f.sheet_is i).sells; worth = worth-fits i; traded = traded-fits i })
          ∙ with-sums c.bid.side (queue_of sheet c.bid.side) m.queue sheet.worth sheet.traded _ _

      pub own-kept : (sheet2 : Sheet)
          → sheet2 ≡ record { buys = sheet1.buys; sells = sheet1.sells; worth = sheet1.worth + counted session o.cost; traded = sheet1.traded + counted session (c.bid.lots - o.left) }
          → queue_of sheet2 c.bid.side ≡ queue_of sheet c.bid.side
      own-kept sheet2 e2 = ap (λ (z : Sheet). queue_of z c.bid.side) (summed sheet2 e2) ∙ own_is c.bid.side _ _ _ _

      refiled : (r : ℕ) (sheet2 : Sheet) → r ≡ rest_of c o.left
          → sheet2 ≡ record { buys = sheet1.buys; sells = sheet1.sells; worth = sheet1.worth + counted session o.cost; traded = sheet1.traded + counted session (c.bid.lots - o.left) }
          → sheet_by c.bid.side (ranked_in session c r (queue_of sheet2 c.bid.side)) (queue_of sheet2 (other c.bid.side)) sheet2.worth sheet2.traded ≡ entered_sheet session c m sheet
      refiled r sheet2 er e2 =
          let s2 = summed sheet2 e2 in
          let w = sheet.worth + counted session (cost_of (trades_of m.deals)) in
          let t = sheet.traded + counted session (lots_of (trades_of m.deals)) in
          let own = queue_of sheet c.bid.side in
          let er' : r ≡ rest_of c m.left = er ∙ ap (rest_of c) e.left in
          (λ i. sheet_by c.bid.side (ranked_in session c (er' i) (queue_of (s2 i) c.bid.side)) (queue_of (s2 i) (other c.bid.side)) (s2 i).worth (s2 i).traded)
          ∙ (λ i. sheet_by c.bid.side (ranked_in session c (rest_of c m.left) (own_is c.bid.side own m.queue w t i)) (facing-is c.bid.side own m.queue w t i) (worth-is c.bid.side own m.queue w t i) (traded-is c.bid.side own m.queue w t i))

      pub place-left : (r : ℕ) (sheet2 : Sheet) → r ≡ rest_of c o.left
          → sheet2 ≡ record { buys = sheet1.buys; sells = sheet1.sells; worth = sheet1.worth + counted session o.cost; traded = sheet1.traded + counted session (c.bid.lots - o.left) }
          → (r ≡ 0) ⊎ (length (queue_of sheet2 c.bid.side) < 64)
      place-left r sheet2 er e2 = by e.place
        where
          by : (rest_of c m.left ≡ 0) ⊎ (length (queue_of sheet c.bid.side) < 64) → (r ≡ 0) ⊎ (length (queue_of sheet2 c.bid.side) < 64)
          by (inl z) = inl (er ∙ ap (rest_of c) e.left ∙ z)
          by (inr l) = inr (let n = ap length (own-kept sheet2 e2) in omega arith)

      pub entered : (r : ℕ) (sheet2 sheet3 : Sheet) (k2 : Book) → r ≡ rest_of c o.left
          → sheet2 ≡ record { buys = sheet1.buys; sells = sheet1.sells; worth = sheet1.worth + counted session o.cost; traded = sheet1.traded + counted session (c.bid.lots - o.left) }
          → sheet3 ≡ sheet_by c.bid.side (ranked_in session c r (queue_of sheet2 c.bid.side)) (queue_of sheet2 (other c.bid.side)) sheet2.worth sheet2.traded
          → k2 ≡ moved_all (only (eqb r 0) (Release s1.holder s1.asset s1.amount)) k1
          → Entered session c m sheet sheet3 k k2 strip strip1 size
      entered r sheet2 sheet3 k2 er e2 e3 ek = record {
        count = f.swept.count;
        written = f.swept.written;
        book = ek ∙ (λ i. moved_all (rest-moves r er i) (f.swept.book i)) ∙ sym (moved-join (settling c m.deals) _ k);
        sheet_is = e3 ∙ refiled r sheet2 er e2;
      }
