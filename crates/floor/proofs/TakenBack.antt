-- The bid that a cancellation names. Assumes nothing but that no number stands twice.
use Rattle.std.proofs.Common.{◌≡◌, ℕ, ◌+◌, ◌≤◌, Bool, true, false, cond, not, ◌&&◌, ◌||◌, eqb, ◌⊎◌, List, [], ◌∷◌, ◌++◌, map, Some, None, Option, Err, sym, refl, ap, ◌∙◌, subst, inl, inr, arith}
use mathlib.Core.Path.{fun_ext}
use Rattle.std.specs.Option.{ok_or}
use Rattle.std.proofs.lemmas.Bool.Decides.{nat_tests}
use Rattle.std.proofs.lemmas.Bool.{cond-true, cond-false, cases_Bool, eqb-true}
use Rattle.register.specs.Books.{holder_known_lem}
use Rattle.register.specs.Moves.{Release}
use Rattle.rules.specs.declared.bid.Side.{Side}
use Rattle.rules.specs.declared.bid.Side.TheVariants.{Buy, Sell}
use Rattle.rules.specs.Bids.{obligation_of}
use Rattle.rules.specs.Rules.{Rule}
use Rattle.register.specs.declared.slips.Slip.{Slip}
use Rattle.model.specs.Listings.{asset_of_lem}
use Rattle.model.specs.declared.words.Session.{Session}
use Rattle.model.specs.declared.words.Standing.{Standing}
use Rattle.model.specs.declared.words.Listing.{Listing}
use Rattle.model.specs.declared.calls.Call.TheVariants.{Cancel}
use Rattle.model.specs.declared.faults.Cause.TheVariants.{Floor as ByFloor}
use Rattle.model.specs.declared.faults.FloorRefusal.TheVariants.{WrongSession, NoHolderOrTicker, NoSuchBid}
use Rattle.model.specs.Words.{kept, only, any_of, sum_of, or_else}
use Rattle.model.specs.Market.{serves, ticker_known}
use Rattle.model.specs.Queues.{named, without}
use Rattle.model.specs.Movements.{freeing, cancel_moves}
use Rattle.model.specs.World.{World, Sheet}
use Rattle.model.specs.Checks.{why, is_standing}
use Rattle.model.specs.Calls.{cancel_sheet, cancelled_lots, with_sheet}
use Rattle.model.specs.Sound.{Sound, times_in, times_on}
use Rattle.model.proofs.Sums.{sum-part}
use Rattle.queues.specs.Entries.{entry_named, less_named}
use Rattle.queues.specs.Sheets.{or_sell, unless_buy, sheet_named, sheet_less}
use Rattle.floor.proofs.Passing.{pass, fail}

-- ---- along a queue
module _ (h n : ℕ) where
  -- no bid of this number
  pub record Absent (q : List Standing) : Type 0 where
    pub none : kept (named h n) q ≡ []
    pub all : without h n q ≡ q
    pub test : any_of (named h n) q ≡ false
    pub less : less_named h n q ≡ q

  -- where the bid in front is not so named, it stays
  passed_over : (y : Standing) (ys : List Standing) → named h n y ≡ false → Absent ys → Absent (y ∷ ys)
  passed_over y ys f r = record {
    none = ap (λ (b : Bool). only b y ++ kept (named h n) ys) f ∙ r.none;
    all = ap (λ (b : Bool). only (not b) y ++ without h n ys) f ∙ ap (λ (q : List Standing). y ∷ q) r.all;
    test = ap (λ (b : Bool). b || any_of (named h n) ys) f ∙ r.test;
    less = ap (λ (b : Bool). cond b ys (y ∷ less_named h n ys)) f ∙ ap (λ (q : List Standing). y ∷ q) r.less;
  }

  pub absent : (q : List Standing) → times_in n q ≡ 0 → Absent q
  absent [] e = record { none = refl; all = refl; test = refl; less = refl }
  absent (y ∷ ys) e =
      let r = absent ys (grind (arith, nat_tests)) in
      passed_over y ys (grind (arith, nat_tests)) r

  pub missing : (q : List Standing) → None ≡ entry_named h n q → Absent q
  missing [] e = record { none = refl; all = refl; test = refl; less = refl }
  missing (y ∷ ys) e = by (named h n y) refl e (missing ys)
    where
      by : (b : Bool) → named h n y ≡ b → None ≡ cond b (Some y) (entry_named h n ys) → (None ≡ entry_named h n ys → Absent ys) → Absent (y ∷ ys)
      by true t p ih = absurd (let z : ◌≡◌ {A = ℕ} 0 1 = cc in omega arith)
      by false f p ih = passed_over y ys f (ih p)

  -- the one bid of this holder and number
  pub record Present (q : List Standing) (x : Standing) : Type 0 where
    pub one : kept (named h n) q ≡ x ∷ []
    pub rest : without h n q ≡ less_named h n q
    pub test : any_of (named h n) q ≡ true
    pub counted : 1 ≤ times_in n q

  pub present : (q : List Standing) (x : Standing) → times_in n q ≤ 1 → Some x ≡ entry_named h n q → Present q x
  present [] x l e = absurd (let z : ◌≡◌ {A = ℕ} 0 1 = cc in omega arith)
  present (y ∷ ys) x l e = by (named h n y) refl e (present ys x)
    where
      by : (b : Bool) → named h n y ≡ b → Some x ≡ cond b (Some y) (entry_named h n ys) → (times_in n ys ≤ 1 → Some x ≡ entry_named h n ys → Present ys x) → Present (y ∷ ys) x
      by true t p ih =
          let same : y ≡ x = cc in
          let no : times_in n ys ≡ 0 = grind (arith, nat_tests) in
          let r = absent ys no in
          record {
            one = ap (λ (b : Bool). only b y ++ kept (named h n) ys) t ∙ ap (λ (q : List Standing). y ∷ q) r.none ∙ ap (λ (z : Standing). z ∷ []) same;
            rest = ap (λ (b : Bool). only (not b) y ++ without h n ys) t ∙ r.all ∙ sym (cond-true _ _ _ t);
            test = ap (λ (b : Bool). b || any_of (named h n) ys) t;
            counted = grind (arith, nat_tests);
          }
      by false f p ih =
          let r = ih (grind (arith, nat_tests)) p in
          let c = r.counted in
          record {
            one = ap (λ (b : Bool). only b y ++ kept (named h n) ys) f ∙ r.one;
            rest = ap (λ (b : Bool). only (not b) y ++ without h n ys) f ∙ ap (λ (q : List Standing). y ∷ q) r.rest ∙ sym (cond-false _ _ _ f);
            test = ap (λ (b : Bool). b || any_of (named h n) ys) f ∙ r.test;
            counted = grind (arith, nat_tests);
          }

any-join : (h n : ℕ) (xs ys : List Standing) → any_of (named h n) (xs ++ ys) ≡ (any_of (named h n) xs || any_of (named h n) ys)
any-join h n [] ys = refl
any-join h n (x ∷ xs) ys = ap (λ (b : Bool). named h n x || b) (any-join h n xs ys) ∙ assoc (named h n x) (any_of (named h n) xs) (any_of (named h n) ys)
  where
    assoc : (a b c : Bool) → (a || (b || c)) ≡ ((a || b) || c)
    assoc true b c = refl
    assoc false b c = refl

-- ---- on a sheet
-- what a cancellation does there, where it finds the bid x on a side
pub record Found (w : World) (h t n : ℕ) (side : Side) (x : Standing) : Type 0 where
  pub stands : is_standing w h t n ≡ true
  pub moves : cancel_moves w h t n ≡ freeing w.listing t side x ∷ []
  pub lots : cancelled_lots w h t n ≡ x.lots
  pub sheet : sheet_less h n (w.sheets t) ≡ cancel_sheet (w.sheets t) h n

pub record Missed (w : World) (h t n : ℕ) : Type 0 where
  pub stands : is_standing w h t n ≡ false
  pub sheet : sheet_less h n (w.sheets t) ≡ w.sheets t

or_some : (o p : Option Standing) (side : Side) (x : Standing) → Some (side, x) ≡ or_sell o p → ((o ≡ Some x) × (side ≡ Buy)) ⊎ ((o ≡ None) × (p ≡ Some x) × (side ≡ Sell))
or_some (Some y) p side x e =
    let both : (side, x) ≡ (Buy, y) = ap (λ (z : Option (Side × Standing)). or_else z (Buy, y)) e in
    inl (ap (λ (z : Side × Standing). Some z.1) (sym both), ap (λ (z : Side × Standing). z.0) both)
or_some None (Some y) side x e =
    let both : (side, x) ≡ (Sell, y) = ap (λ (z : Option (Side × Standing)). or_else z (Sell, y)) e in
    inr (refl, ap (λ (z : Side × Standing). Some z.1) (sym both), ap (λ (z : Side × Standing). z.0) both)
or_some None None side x e = absurd (let z : ◌≡◌ {A = ℕ} 0 1 = cc in omega arith)

or-none : (o p : Option Standing) → None ≡ or_sell o p → (o ≡ None) × (p ≡ None)
or-none (Some y) p e = absurd (let z : ◌≡◌ {A = ℕ} 0 1 = cc in omega arith)
or-none None (Some y) e = absurd (let z : ◌≡◌ {A = ℕ} 0 1 = cc in omega arith)
or-none None None e = (refl, refl)

module _ (step : ℕ) (w : World) (h t n : ℕ) (s : Sound step w) (known : ticker_known t ≡ true) where
  abbrev sh : Sheet
  sh = w.sheets t

  once : times_in n sh.buys + times_in n sh.sells ≤ 1
  once = let a = s.once n in let b = sum-part (λ u. times_on n (w.sheets u)) t known in omega arith

  bought : (x : Standing) → entry_named h n sh.buys ≡ Some x → Found w h t n Buy x
  bought x e =
      let o = once in
      let p = present h n sh.buys x (omega arith) (sym e) in
      let c = p.counted in
      let q = absent h n sh.sells (omega arith) in
      record {
        stands = any-join h n sh.buys sh.sells ∙ ap (λ (b : Bool). b || any_of (named h n) sh.sells) p.test;
        moves = λ i. map (freeing w.listing t Buy) (p.one i) ++ map (freeing w.listing t Sell) (q.none i);
        lots = (λ i. sum_of (λ z. z.lots) (p.one i ++ q.none i)) ∙ (let e : x.lots + 0 ≡ x.lots = omega arith in e);
        sheet = λ i. record {
          buys = sym p.rest i;
          sells = (ap (λ (z : Option Standing). unless_buy z sh.sells (less_named h n sh.sells)) e ∙ sym q.all) i;
          worth = sh.worth;
          traded = sh.traded;
        };
      }

  sold : (x : Standing) → entry_named h n sh.buys ≡ None → entry_named h n sh.sells ≡ Some x → Found w h t n Sell x
  sold x e f =
      let o = once in
      let q = missing h n sh.buys (sym e) in
      let p = present h n sh.sells x (omega arith) (sym f) in
      record {
        stands = any-join h n sh.buys sh.sells ∙ ap (λ (b : Bool). b || any_of (named h n) sh.sells) q.test ∙ p.test;
        moves = λ i. map (freeing w.listing t Buy) (q.none i) ++ map (freeing w.listing t Sell) (p.one i);
        lots = (λ i. sum_of (λ z. z.lots) (q.none i ++ p.one i)) ∙ (let e : x.lots + 0 ≡ x.lots = omega arith in e);
        sheet = λ i. record {
          buys = (q.less ∙ sym q.all) i;
          sells = (ap (λ (z : Option Standing). unless_buy z sh.sells (less_named h n sh.sells)) e ∙ sym p.rest) i;
          worth = sh.worth;
          traded = sh.traded;
        };
      }

  pub found : (side : Side) (x : Standing) → Some (side, x) ≡ sheet_named h n sh → Found w h t n side x
  found side x e = by (or_some (entry_named h n sh.buys) (entry_named h n sh.sells) side x e)
    where
      by : ((entry_named h n sh.buys ≡ Some x) × (side ≡ Buy)) ⊎ ((entry_named h n sh.buys ≡ None) × (entry_named h n sh.sells ≡ Some x) × (side ≡ Sell)) → Found w h t n side x
      by (inl p) = subst (λ (z : Side). Found w h t n z x) (sym p.1) (bought x p.0)
      by (inr p) = subst (λ (z : Side). Found w h t n z x) (sym p.2) (sold x p.0 p.1)

  pub missed : None ≡ sheet_named h n sh → Missed w h t n
  missed e =
      let p = or-none (entry_named h n sh.buys) (entry_named h n sh.sells) e in
      let a = missing h n sh.buys (sym p.0) in
      let b = missing h n sh.sells (sym p.1) in
      record {
        stands = any-join h n sh.buys sh.sells ∙ ap (λ (z : Bool). z || any_of (named h n) sh.sells) a.test ∙ b.test;
        sheet = λ i. record {
          buys = a.less i;
          sells = (ap (λ (z : Option Standing). unless_buy z sh.sells (less_named h n sh.sells)) p.0 ∙ b.less) i;
          worth = sh.worth;
          traded = sh.traded;
        };
      }

-- ---- the checks
module _ (r : Rule) (w : World) (shown : Session) (h t n : ℕ) where
  pub session-refuses : serves shown w.session ≡ false → why r w (Cancel shown h t n) ≡ Some (ByFloor WrongSession)
  session-refuses a = sym (fail _ WrongSession _ a)

  pub unknown-refuses : serves shown w.session ≡ true → (holder_known_lem h && ticker_known t) ≡ false → why r w (Cancel shown h t n) ≡ Some (ByFloor NoHolderOrTicker)
  unknown-refuses a b = sym (pass _ WrongSession _ _ a (fail _ NoHolderOrTicker _ b))

  pub missing-refuses : serves shown w.session ≡ true → (holder_known_lem h && ticker_known t) ≡ true → is_standing w h t n ≡ false → why r w (Cancel shown h t n) ≡ Some (ByFloor NoSuchBid)
  missing-refuses a b c = sym (pass _ WrongSession _ _ a (pass _ NoHolderOrTicker _ _ b (fail _ NoSuchBid _ c)))

  pub cancel-taken : serves shown w.session ≡ true → (holder_known_lem h && ticker_known t) ≡ true → is_standing w h t n ≡ true → why r w (Cancel shown h t n) ≡ None
  cancel-taken a b c = sym (pass _ WrongSession _ _ a (pass _ NoHolderOrTicker _ _ b (pass _ NoSuchBid _ _ c refl)))

-- ---- the world
pub with-same : (sheets : ℕ → Sheet) (t : ℕ) → with_sheet sheets t (sheets t) ≡ sheets
with-same sheets t = fun_ext (λ u. by u (cases_Bool (eqb u t)))
  where
    by : (u : ℕ) → (eqb u t ≡ true) ⊎ (eqb u t ≡ false) → with_sheet sheets t (sheets t) u ≡ sheets u
    by u (inl e) = cond-true _ _ _ e ∙ ap sheets (sym (eqb-true u t e))
    by u (inr e) = cond-false _ _ _ e

-- the slip of a standing bid is released just as the definitions free it
pub freeing-is : (l : Listing) (t : ℕ) (side : Side) (x : Standing) (asset : ℕ) (s : Slip) → asset ≡ asset_of_lem l t side
    → s ≡ record { holder = x.holder; asset = asset; amount = obligation_of side (Some x.price) x.lots } → Release s.holder s.asset s.amount ≡ freeing l t side x
freeing-is l t side x asset s ea es =
    (λ i. Release (es i).holder (es i).asset (es i).amount) ∙ (λ i. Release x.holder (ea i) (obligation_of side (Some x.price) x.lots))

-- where nothing is named, the fault is the one that stands for it
pub nothing-named : {X E : Type 0} (x : Option X) (e f : E) → Err e ≡ ok_or x f → (x ≡ None) × (e ≡ f)
nothing-named None e f q = (refl, cc)
nothing-named (Some y) e f q = absurd (let no : ◌≡◌ {A = ℕ} 0 1 = cc in omega arith)
