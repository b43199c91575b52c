-- What a newcomer's meeting with the other queue does to obligations, lots, steps and numbers.
use Rattle.model.specs.Words.{ℕ, refl, Bool, true, List, AllByRecursion, length, sum_of, Option, Some, None, or_else}
use Rattle.std.proofs.Common.{◌+◌, ◌-◌, ◌*◌, ◌%◌, ◌≤◌, ◌<◌, ◌≡◌, sym, ap, ◌∙◌, subst, arith}
use native.Mathlib.Nat.{mod-add-mod, zero-mod}
use Rattle.std.proofs.lemmas.Bool.{leb-true}
use Rattle.model.specs.Market.{Side, Buy, Sell, other, Bid, Standing, Listing}
use Rattle.model.specs.Queues.{with_lots}
use Rattle.model.specs.Average.{lots_of}
use Rattle.model.specs.Listings.{quote_of, asset_of_lem}
use Rattle.model.specs.Matching.{Deal, Met, trades_of, crosses, taking, to_block}
use Rattle.model.specs.Serving.{Served}
use Rattle.model.specs.Serving.Served.{none, part, whole}
use Rattle.model.specs.Sound.{Fit, obliges, owing, times_in, standing_lots}
use Rattle.model.proofs.Meeting.{Meets}
use Rattle.model.proofs.Meeting.Meets.{empty, enough, stopped, some, every}
use Rattle.model.proofs.Paying.{uses, Payable}
use Rattle.register.specs.Books.{at}
use Rattle.register.proofs.Accounts.{at-add, at_none}
use Rattle.rules.specs.Bids.{obligation_of}

-- ---- obligations add up
pub obligation-add : (side : Side) (p m n : ℕ) → obligation_of side (Some p) (m + n) ≡ obligation_of side (Some p) m + obligation_of side (Some p) n
obligation-add Buy p m n = omega arith
obligation-add Sell p m n = refl

pub obliges-split : (l : Listing) (t : ℕ) (side : Side) (x : Standing) (k : ℕ) (h a : ℕ) → k ≤ x.lots
    → obliges l t side x h a ≡ obliges l t side (with_lots x k) h a + obliges l t side (with_lots x (x.lots - k)) h a
obliges-split l t side x k h a le =
    let e : x.lots ≡ k + (x.lots - k) = omega arith in
    ap (λ (n : ℕ). at x.holder (asset_of_lem l t side) (obligation_of side (Some x.price) n) h a) e
    ∙ ap (λ (n : ℕ). at x.holder (asset_of_lem l t side) n h a) (obligation-add side x.price k (x.lots - k))
    ∙ at-add x.holder (asset_of_lem l t side) (obligation_of side (Some x.price) k) (obligation_of side (Some x.price) (x.lots - k)) h a

-- ---- whole steps
pub whole-less : (x y s : ℕ) → y ≤ x → x % s ≡ 0 → y % s ≡ 0 → (x - y) % s ≡ 0
whole-less x y s le e f =
    let a : x - y ≡ 0 + (x - y) = omega arith in
    let b : y + (x - y) ≡ x = omega arith in
    ap (λ (z : ℕ). z % s) a ∙ ap (λ (z : ℕ). (z + (x - y)) % s) (sym f) ∙ mod-add-mod y s (x - y) ∙ ap (λ (z : ℕ). z % s) b ∙ e

-- ---- what any serving of a queue leaves
pub served-length : {q r : List Standing} → Served q r → length r ≤ length q
served-length none = omega arith
served-length (part n z l) = omega arith
served-length (whole s) = omega (arith, served-length s)

pub served-times : {q r : List Standing} (k : ℕ) → Served q r → times_in k r ≤ times_in k q
served-times k none = omega arith
served-times k (part n z l) = omega arith
served-times k (whole s) = omega (arith, served-times k s)

pub served-lots : {q r : List Standing} → Served q r → standing_lots r ≤ standing_lots q
served-lots none = omega arith
served-lots (part n z l) = omega arith
served-lots (whole s) = omega (arith, served-lots s)

-- what is known of holder, number and price stays known
pub served-all : {q r : List Standing} (P : Standing → Type 0) → ((x : Standing) (n : ℕ) → P x → P (with_lots x n)) → Served q r → AllByRecursion P q → AllByRecursion P r
served-all P h none a = a
served-all P h (part {x = x} n z l) a = (h x n a.0, a.1)
served-all P h (whole s) a = served-all P h s a.1

-- and a fit queue stays fit where the lots left are whole steps
pub served-fit : (step given : ℕ) {q r : List Standing} → Served q r → AllByRecursion (λ x. x.lots % step ≡ 0) r → AllByRecursion (Fit step given) q → AllByRecursion (Fit step given) r
served-fit step given none u a = a
served-fit step given (part {x = x} n z l) u a =
    let f = a.0 in
    (record { holder = f.holder; first = f.first; last = f.last; cheapest = f.cheapest; highest = f.highest; fewest = omega arith; most = omega (arith, f.most); whole = u.0 }, a.1)
served-fit step given (whole s) u a = served-fit step given s u a.1

-- ---- of any meeting
module _ {test : ℕ → Bool} {deal : Standing → ℕ → Deal} where
  pub meets-count : {n : ℕ} {q : List Standing} {m : Met} → Meets test deal n q m → length (trades_of m.deals) ≤ length q
  meets-count empty = omega arith
  meets-count (enough e) = omega arith
  meets-count (stopped e) = omega arith
  meets-count (some e z u) = omega arith
  meets-count (every e z u g) = omega (arith, meets-count g)

  -- each deal but the last takes a bid out of the queue
  pub meets-fewer : {n : ℕ} {q : List Standing} {m : Met} → Meets test deal n q m → length (trades_of m.deals) + length m.queue ≤ length q + 1
  meets-fewer empty = omega arith
  meets-fewer (enough e) = omega arith
  meets-fewer (stopped e) = omega arith
  meets-fewer (some e z u) = omega arith
  meets-fewer (every e z u g) = omega (arith, meets-fewer g)

  -- whole steps meet whole steps, and leave whole steps
  pub meets-steps : (step : ℕ) {n : ℕ} {q : List Standing} {m : Met} → Meets test deal n q m → n % step ≡ 0 → AllByRecursion (λ x. x.lots % step ≡ 0) q
      → (m.left % step ≡ 0) × AllByRecursion (λ x. x.lots % step ≡ 0) m.queue
  meets-steps step empty e a = (e, a)
  meets-steps step (enough _) e a = (e, a)
  meets-steps step (stopped _) e a = (e, a)
  meets-steps step (some {n} {x = x} c z u) e a = (zero-mod step, (whole-less x.lots n step (omega arith) a.0 e, a.1))
  meets-steps step (every {n} {x = x} c z u g) e a = meets-steps step g (whole-less n x.lots step u e a.0) a.1

-- ---- what a newcomer's meeting leaves
-- what the newcomer pays for a deal, of what it has blocked
abbrev pub spent_on : Side → Deal → ℕ
spent_on Buy d = d.held * d.trade.lots
spent_on Sell d = d.trade.lots

abbrev pub spent : Side → List Deal → ℕ
spent side ds = sum_of (spent_on side) ds

module _ (l : Listing) (number : ℕ) (b : Bid) (limit : Option ℕ) where
  -- a deal uses the standing bid's obligation for its lots, and the newcomer's own part
  pub deal-uses : (side : Side) (x : Standing) (k h a : ℕ)
      → uses (quote_of l b.ticker).currency (taking number b limit side x k) h a
      ≡ obliges l b.ticker (other side) (with_lots x k) h a + at b.holder (asset_of_lem l b.ticker side) (spent_on side (taking number b limit side x k)) h a
  deal-uses Buy x k h a = refl
  deal-uses Sell x k h a = omega arith

  pub taking-lots : (side : Side) (x : Standing) (k : ℕ) → (taking number b limit side x k).trade.lots ≡ k
  taking-lots Buy x k = refl
  taking-lots Sell x k = refl

  pub taking-price : (side : Side) (x : Standing) (k : ℕ) → (taking number b limit side x k).trade.price ≡ x.price
  taking-price Buy x k = refl
  taking-price Sell x k = refl

  pub taking-payable : (side : Side) (x : Standing) (k : ℕ) → b.holder < 16 → x.holder < 16 → crosses side limit x.price ≡ true → Payable b.ticker (taking number b limit side x k)
  taking-payable Buy x k i j c = record { ticker = refl; buyer = i; seller = j; within = by limit c }
    where
      by : (limit : Option ℕ) → crosses Buy limit x.price ≡ true → x.price ≤ or_else limit x.price
      by None c = omega arith
      by (Some p) c = leb-true x.price p c
  taking-payable Sell x k i j c = record { ticker = refl; buyer = j; seller = i; within = omega arith }

  module _ (side : Side) where
    abbrev Meeting : ℕ → List Standing → Met → Type 0
    Meeting n q m = Meets (crosses side limit) (taking number b limit side) n q m

    pub meeting-payable : {n : ℕ} {q : List Standing} {m : Met} → b.holder < 16 → Meeting n q m → AllByRecursion (λ x. x.holder < 16) q → AllByRecursion (Payable b.ticker) m.deals
    meeting-payable i empty a = tt
    meeting-payable i (enough e) a = tt
    meeting-payable i (stopped e) a = tt
    meeting-payable i (some {n} {x = x} e z u) a = (taking-payable side x n i a.0 e, tt)
    meeting-payable i (every {x = x} e z u g) a = (taking-payable side x x.lots i a.0 e, meeting-payable i g a.1)

    pub meeting-uses : {n : ℕ} {q : List Standing} {m : Met} (h a : ℕ) → Meeting n q m
        → sum_of (λ d. uses (quote_of l b.ticker).currency d h a) m.deals + owing l b.ticker (other side) m.queue h a
        ≡ owing l b.ticker (other side) q h a + at b.holder (asset_of_lem l b.ticker side) (spent side m.deals) h a
    meeting-uses h a empty = omega (arith, at_none b.holder (asset_of_lem l b.ticker side) h a)
    meeting-uses h a (enough e) = omega (arith, at_none b.holder (asset_of_lem l b.ticker side) h a)
    meeting-uses h a (stopped e) = omega (arith, at_none b.holder (asset_of_lem l b.ticker side) h a)
    meeting-uses h a (some {n} {x = x} {q = q} e z u) =
        let le : n ≤ x.lots = omega arith in
        omega (
          arith,
          deal-uses side x n h a,
          obliges-split l b.ticker (other side) x n h a le,
          at-add b.holder (asset_of_lem l b.ticker side) (spent_on side (taking number b limit side x n)) 0 h a,
          at_none b.holder (asset_of_lem l b.ticker side) h a,
        )
    meeting-uses h a (every {x = x} {q = q} {r = r} e z u g) =
        omega (
          arith,
          meeting-uses h a g,
          deal-uses side x x.lots h a,
          at-add b.holder (asset_of_lem l b.ticker side) (spent_on side (taking number b limit side x x.lots)) (spent side r.deals) h a,
        )

    pub meeting-theirs : {n : ℕ} {q : List Standing} {m : Met} → Meeting n q m → standing_lots q ≡ lots_of (trades_of m.deals) + standing_lots m.queue
    meeting-theirs empty = omega arith
    meeting-theirs (enough e) = omega arith
    meeting-theirs (stopped e) = omega arith
    meeting-theirs (some {n} {x = x} e z u) = omega (arith, taking-lots side x n)
    meeting-theirs (every {x = x} e z u g) = omega (arith, meeting-theirs g, taking-lots side x x.lots)

    pub meeting-prices : (P : ℕ → Type 0) {n : ℕ} {q : List Standing} {m : Met} → Meeting n q m → AllByRecursion (λ x. P x.price) q → AllByRecursion (λ x. P x.price) (trades_of m.deals)
    meeting-prices P empty a = tt
    meeting-prices P (enough e) a = tt
    meeting-prices P (stopped e) a = tt
    meeting-prices P (some {n} {x = x} e z u) a = (subst P (sym (taking-price side x n)) a.0, tt)
    meeting-prices P (every {x = x} e z u g) a = (subst P (sym (taking-price side x x.lots)) a.0, meeting-prices P g a.1)

-- what is blocked for a newcomer is what it spends, and its obligation for the lots left
module _ (number : ℕ) (b : Bid) where
  pub blocks-spent : (side : Side) (limit : Option ℕ) {n : ℕ} {q : List Standing} {m : Met} → Meets (crosses side limit) (taking number b limit side) n q m
      → spent side m.deals + obligation_of side limit m.left ≡ to_block side limit n (trades_of m.deals)
  blocks-spent Sell limit empty = omega arith
  blocks-spent Sell limit (enough e) = omega arith
  blocks-spent Sell limit (stopped e) = omega arith
  blocks-spent Sell limit (some e z u) = omega arith
  blocks-spent Sell limit (every e z u g) = omega (arith, blocks-spent Sell limit g)
  blocks-spent Buy None empty = omega arith
  blocks-spent Buy None (enough e) = omega arith
  blocks-spent Buy None (stopped e) = omega arith
  blocks-spent Buy None (some e z u) = omega arith
  blocks-spent Buy None (every e z u g) = omega (arith, blocks-spent Buy None g)
  blocks-spent Buy (Some p) empty = omega arith
  blocks-spent Buy (Some p) (enough e) = omega arith
  blocks-spent Buy (Some p) (stopped e) = omega arith
  blocks-spent Buy (Some p) (some {n} e z u) = omega arith
  blocks-spent Buy (Some p) (every {n} {x = x} e z u g) =
      let ih = blocks-spent Buy (Some p) g in
      let k : p * n ≡ p * x.lots + p * (n - x.lots) = times-split p n x.lots u in
      omega (arith, ih, k)
    where
      times-split : (p n k : ℕ) → k ≤ n → p * n ≡ p * k + p * (n - k)
      times-split p n k le = let e : n ≡ k + (n - k) = omega arith in ap (λ (z : ℕ). p * z) e ∙ obligation-add Buy p k (n - k)
