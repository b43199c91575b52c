-- The invariant sheet by sheet.
use Rattle.model.specs.Words.{ℕ, zero, suc, refl, Bool, true, false, cond, not, eqb, leb, List, [], length, get_or, AllByRecursion, Option, Some, None, all_of, sum_of}
use Rattle.std.proofs.Common.{◌-◌, ◌+◌, ◌*◌, ◌≤◌, ◌<◌, ◌≡◌, ◌≢◌, ◌&&◌, ◌∷◌, sym, ap, ◌∙◌, subst, arith}
use Rattle.std.proofs.lemmas.Bool.Decides.{nat_tests}
use Rattle.std.proofs.lemmas.Bool.{cond_both, eqb-true, and_parts, leb-true}
use Rattle.std.proofs.ByRecursion.{All-weaker}
use Rattle.model.specs.Market.{Side, Buy, Sell, Session, Standing, Listing, Quote, FloorRefusal, RuleRefusal, RegisterFault, is_closed, is_trading, is_post_trading, most_numbers, queue_places, ticker_known, tickers}
use Rattle.model.specs.Queues.{before, named, without}
use Rattle.model.specs.Listings.{quote_of, asset_of_lem, no_quote}
use Rattle.model.specs.World.{Sheet, World, queue_of, average_of}
use Rattle.model.specs.Checks.{Check, valid_listing, first_failing, must, by_rule, by_register}
use Rattle.model.specs.Calls.{with_sheet, cancel_sheet, void_sheet}
use Rattle.model.specs.Sound.{Fit, Sound, all_owing, times, standing_lots}
use Rattle.model.proofs.Sums.{by_side, all-kept, length-kept, pairwise-kept, sum_kept, sum-changed}
use Rattle.ranking.specs.Ranks.{Ranked}
use Rattle.rules.specs.Bids.{most_price, most_lots}

-- ---- the checks of an accepted call
pub passed : (cs : List Check) → first_failing cs ≡ None → AllByRecursion (λ x. x ≡ None) cs
passed [] e = tt
passed (None ∷ cs) e = (refl, passed cs e)
passed (Some x ∷ cs) e = absurd (grind arith)

pub must-true : (b : Bool) (e : FloorRefusal) → must b e ≡ None → b ≡ true
must-true true e h = refl
must-true false e h = absurd (grind arith)

pub rule-none : (o : Option RuleRefusal) → by_rule o ≡ None → o ≡ None
rule-none None e = refl
rule-none (Some x) e = absurd (grind arith)

pub register-none : (o : Option RegisterFault) → by_register o ≡ None → o ≡ None
register-none None e = refl
register-none (Some x) e = absurd (grind arith)

-- ---- the listing
currencies : (qs : List Quote) (i : ℕ) → all_of (λ q. leb q.currency 3 && leb q.settlement most_price) qs ≡ true → (get_or qs i no_quote).currency ≤ 3
currencies [] i e = omega arith
currencies (q ∷ qs) zero e = leb-true _ _ (and_parts _ _ (and_parts _ _ e).0).0
currencies (q ∷ qs) (suc i) e = currencies qs i (and_parts _ _ e).1

pub currency-known : (l : Listing) (t : ℕ) → valid_listing l ≡ true → (quote_of l t).currency < 12
currency-known l t e = omega (arith, currencies l.quotes (t - 4) e)

pub ticker-within : (t : ℕ) → ticker_known t ≡ true → t < 12
ticker-within t e = grind (arith, nat_tests)

pub asset-known : (l : Listing) (t : ℕ) (side : Side) → valid_listing l ≡ true → ticker_known t ≡ true → asset_of_lem l t side < 12
asset-known l t Buy e k = currency-known l t e
asset-known l t Sell e k = ticker-within t k

-- a ticker is paid in another asset
pub currency-apart : (l : Listing) (t : ℕ) → valid_listing l ≡ true → ticker_known t ≡ true → (quote_of l t).currency ≢ t
currency-apart l t e k q = let h = currencies l.quotes (t - 4) e in absurd (grind (arith, nat_tests))

-- ---- what the invariant says of one sheet
pub record OnSheet (step : ℕ) (session : Session) (given t : ℕ) (s : Sheet) : Type 0 where
  pub fit : (side : Side) → AllByRecursion (Fit step given) (queue_of s side)
  pub places : (side : Side) → length (queue_of s side) ≤ queue_places
  pub ranked : (side : Side) → Ranked (before session side) (queue_of s side)
  pub strange : (side : Side) → ticker_known t ≡ false → queue_of s side ≡ []
  pub shut : is_closed session ≡ true → (side : Side) → queue_of s side ≡ []
  pub uncrossed : is_trading session ≡ true → AllByRecursion (λ b. AllByRecursion (λ x. b.price < x.price) s.sells) s.buys
  pub averaged : is_post_trading session ≡ true → (side : Side) → AllByRecursion (λ x. average_of s ≡ Some x.price) (queue_of s side)
  pub cheapest : s.traded ≤ s.worth
  pub dearest : s.worth ≤ most_price * s.traded
  pub bought : s.traded + standing_lots s.buys ≤ most_lots * given

pub on-sheet : (step : ℕ) (w : World) → Sound step w → (t : ℕ) → OnSheet step w.session w.given t (w.sheets t)
on-sheet step w s t = record {
  fit = s.fit t;
  places = s.places t;
  ranked = s.ranked t;
  strange = s.strange t;
  shut = λ e. s.shut e t;
  uncrossed = λ e. s.uncrossed e t;
  averaged = λ e. s.averaged e t;
  cheapest = s.cheapest t;
  dearest = s.dearest t;
  bought = s.bought t;
}

-- the rest of it
pub record Overall (w : World) : Type 0 where
  pub once : (number : ℕ) → times w number ≤ 1
  pub listing : is_closed w.session ≡ false → valid_listing w.listing ≡ true
  pub backed : is_closed w.session ≡ false → (h a : ℕ) → h < 16 → a < 12 → w.book.blocked h a ≡ all_owing w h a
  pub given : w.given ≤ most_numbers

pub sound-from : (step : ℕ) (w : World) → ((t : ℕ) → OnSheet step w.session w.given t (w.sheets t)) → Overall w → Sound step w
sound-from step w s o = record {
  fit = λ t. (s t).fit;
  places = λ t. (s t).places;
  ranked = λ t. (s t).ranked;
  once = o.once;
  strange = λ t. (s t).strange;
  shut = λ e t. (s t).shut e;
  listing = o.listing;
  backed = o.backed;
  uncrossed = λ e t. (s t).uncrossed e;
  averaged = λ e t. (s t).averaged e;
  given = o.given;
  cheapest = λ t. (s t).cheapest;
  dearest = λ t. (s t).dearest;
  bought = λ t. (s t).bought;
}

-- ---- one sheet changed
pub with-sheet : (P : ℕ → Sheet → Type 0) (sheets : ℕ → Sheet) (t : ℕ) (s : Sheet) → P t s → (u : ℕ) → P u (sheets u) → P u (with_sheet sheets t s u)
with-sheet P sheets t s p u q = cond_both (eqb u t) s (sheets u) (P u) (λ e. subst (λ (z : ℕ). P z s) (sym (eqb-true u t e)) p) (λ e. q)

pub sheet-here : (sheets : ℕ → Sheet) (t : ℕ) (s : Sheet) → with_sheet sheets t s t ≡ s
sheet-here sheets t s = let e : eqb t t ≡ true = grind (arith, nat_tests) in ap (λ (b : Bool). cond b s (sheets t)) e

pub sheet-there : (sheets : ℕ → Sheet) (t : ℕ) (s : Sheet) (u : ℕ) → (u ≡ t → ⊥) → with_sheet sheets t s u ≡ sheets u
sheet-there sheets t s u ne = let e : eqb u t ≡ false = grind (arith, nat_tests) in ap (λ (b : Bool). cond b s (sheets u)) e

-- a sum over the sheets changes by what the sheet changes
pub sheets-changed : (f : ℕ → Sheet → ℕ) (sheets : ℕ → Sheet) (t : ℕ) (s : Sheet) → ticker_known t ≡ true
    → sum_of (λ u. f u (with_sheet sheets t s u)) tickers + f t (sheets t) ≡ sum_of (λ u. f u (sheets u)) tickers + f t s
sheets-changed f sheets t s k =
    sum-changed (λ u. f u (sheets u)) (λ u. f u (with_sheet sheets t s u)) t k (λ u ne. ap (f u) (sheet-there sheets t s u ne))
    ∙ ap (λ (z : Sheet). sum_of (λ u. f u (sheets u)) tickers + f t z) (sheet-here sheets t s)

-- ---- an empty sheet, in any session
pub void-on : (step : ℕ) (session session' : Session) (given t : ℕ) (s : Sheet) → OnSheet step session given t s → OnSheet step session' given t (void_sheet s)
void-on step session session' given t s o = record {
  fit = by_side (λ side. AllByRecursion (Fit step given) (queue_of (void_sheet s) side)) tt tt;
  places = by_side (λ side. length (queue_of (void_sheet s) side) ≤ queue_places) (omega arith) (omega arith);
  ranked = by_side (λ side. Ranked (before session' side) (queue_of (void_sheet s) side)) tt tt;
  strange = λ side e. by_side (λ side. queue_of (void_sheet s) side ≡ []) refl refl side;
  shut = λ e. by_side (λ side. queue_of (void_sheet s) side ≡ []) refl refl;
  uncrossed = λ e. tt;
  averaged = λ e. by_side (λ side. AllByRecursion (λ x. average_of (void_sheet s) ≡ Some x.price) (queue_of (void_sheet s) side)) tt tt;
  cheapest = o.cheapest;
  dearest = o.dearest;
  bought = omega (arith, o.bought);
}

-- ---- without the bids that are named
abbrev unnamed : ℕ → ℕ → Standing → Bool
unnamed holder number = λ x. not (named holder number x)

pub cancel-on : (step : ℕ) (session : Session) (given t : ℕ) (s : Sheet) (holder number : ℕ) → OnSheet step session given t s → OnSheet step session given t (cancel_sheet s holder number)
cancel-on step session given t s holder number o = record {
  fit = by_side (λ side. AllByRecursion (Fit step given) (queue_of (cancel_sheet s holder number) side)) (all-kept (unnamed holder number) _ _ (o.fit Buy)) (all-kept (unnamed holder number) _ _ (o.fit Sell));
  places = by_side (λ side. length (queue_of (cancel_sheet s holder number) side) ≤ queue_places)
      (omega (arith, o.places Buy, length-kept (unnamed holder number) s.buys)) (omega (arith, o.places Sell, length-kept (unnamed holder number) s.sells));
  ranked = by_side (λ side. Ranked (before session side) (queue_of (cancel_sheet s holder number) side))
      (pairwise-kept (unnamed holder number) (λ x y. before session Buy y x ≡ false) _ (o.ranked Buy)) (pairwise-kept (unnamed holder number) (λ x y. before session Sell y x ≡ false) _ (o.ranked Sell));
  strange = λ side e. by_side (λ side. queue_of (cancel_sheet s holder number) side ≡ []) (ap (without holder number) (o.strange Buy e)) (ap (without holder number) (o.strange Sell e)) side;
  shut = λ e. by_side (λ side. queue_of (cancel_sheet s holder number) side ≡ []) (ap (without holder number) (o.shut e Buy)) (ap (without holder number) (o.shut e Sell));
  uncrossed = λ e.
      All-weaker (λ b. AllByRecursion (λ x. b.price < x.price) s.sells) (λ b. AllByRecursion (λ x. b.price < x.price) (without holder number s.sells))
      (λ b a. all-kept (unnamed holder number) (λ x. b.price < x.price) s.sells a) _
      (all-kept (unnamed holder number) (λ b. AllByRecursion (λ x. b.price < x.price) s.sells) s.buys (o.uncrossed e));
  averaged = λ e. by_side (λ side. AllByRecursion (λ x. average_of s ≡ Some x.price) (queue_of (cancel_sheet s holder number) side))
      (all-kept (unnamed holder number) _ _ (o.averaged e Buy)) (all-kept (unnamed holder number) _ _ (o.averaged e Sell));
  cheapest = o.cheapest;
  dearest = o.dearest;
  bought = omega (arith, o.bought, sum_kept (λ x. x.lots) (named holder number) s.buys);
}
