-- A bid as a whole: what stands of it, and that its block comes out.
use Rattle.model.specs.Words.{ℕ, refl, Bool, true, false, cond, not, ltb, eqb, List, [], AllByRecursion, Memᴰ, Option, Some, None, is_some, any_of, sum_of}
use Rattle.std.proofs.Common.{◌+◌, ◌*◌, ◌<◌, ◌≡◌, ◌&&◌, ◌≢◌, ◌∷◌, sym, ap, ◌∙◌, arith}
use Rattle.std.proofs.lemmas.Bool.Decides.{nat_tests}
use Rattle.std.proofs.lemmas.Bool.{cond-true, cond-false, eq-eqb, ne_eqb, or_left, or_right, or_from}
use Rattle.std.proofs.ByRecursion.{All-weaker}
use Rattle.model.specs.Market.{Side, Buy, Sell, other, Session, Closed, PreTrading, Trading, PostTrading, is_pre_trading, is_trading, is_post_trading, by_session, Bid, Standing}
use Rattle.model.specs.Average.{cost_of, lots_of}
use Rattle.model.specs.Matching.{Met, trades_of, crosses, taking, untouched, whole_or_none, standing, to_block}
use Rattle.model.specs.Queues.{best_price_lem}
use Rattle.model.specs.Listings.{quote_of}
use Rattle.model.specs.World.{World, queue, average_of}
use Rattle.model.specs.Bidding.{limit_of, next_number, met, bid_trades, rest}
use Rattle.model.specs.Checks.{form_taken}
use Rattle.model.specs.MatchingLaws.{meeting}
use Rattle.model.specs.BidLaws.{used, BidsAreRight}
use Rattle.model.proofs.Meeting.{Meets, meet-graph, meets-own}
use Rattle.model.proofs.Meeting.Meets.{empty, enough, stopped, some, every}
use Rattle.model.proofs.Matched.{takes-lots, encounter-by}
use Rattle.rules.specs.Bids.{obligation_of}

-- ---- the block
module _ (number : ℕ) (b : Bid) {test : ℕ → Bool} where
  buy-used : (l : ℕ) {n : ℕ} {q : List Standing} {m : Met} → Meets test (taking number b (Some l) Buy) n q m → sum_of (used Buy) m.deals ≡ l * lots_of (trades_of m.deals)
  buy-used l empty = omega arith
  buy-used l (enough e) = omega arith
  buy-used l (stopped e) = omega arith
  buy-used l (some e h k) = omega arith
  buy-used l (every e h k g) = let ih = buy-used l g in omega arith

  unpriced-used : {n : ℕ} {q : List Standing} {m : Met} → Meets test (taking number b None Buy) n q m → sum_of (used Buy) m.deals ≡ cost_of (trades_of m.deals)
  unpriced-used empty = omega arith
  unpriced-used (enough e) = omega arith
  unpriced-used (stopped e) = omega arith
  unpriced-used (some e h k) = omega arith
  unpriced-used (every e h k g) = let ih = unpriced-used g in omega arith

  sell-used : (limit : Option ℕ) {n : ℕ} {q : List Standing} {m : Met} → Meets test (taking number b limit Sell) n q m → sum_of (used Sell) m.deals ≡ lots_of (trades_of m.deals)
  sell-used limit empty = omega arith
  sell-used limit (enough e) = omega arith
  sell-used limit (stopped e) = omega arith
  sell-used limit (some e h k) = omega arith
  sell-used limit (every e h k g) = let ih = sell-used limit g in omega arith

abbrev ComesOut : Side → Option ℕ → ℕ → Met → Type 0
ComesOut side limit lots m = to_block side limit lots (trades_of m.deals) ≡ sum_of (used side) m.deals + obligation_of side limit m.left

out-untouched : (side : Side) (limit : Option ℕ) (lots : ℕ) (q : List Standing) → ComesOut side limit lots (untouched lots q)
out-untouched Buy (Some l) lots q = omega arith
out-untouched Buy None lots q = omega arith
out-untouched Sell limit lots q = omega arith

out-met : (number : ℕ) (b : Bid) (test : ℕ → Bool) (side : Side) (limit : Option ℕ) (n : ℕ) (q : List Standing) (m : Met)
    → Meets test (taking number b limit side) n q m → ComesOut side limit n m
out-met number b test Buy (Some l) n q m g =
    let u = buy-used number b l g in
    let e = meets-own (takes-lots number b (Some l) Buy) g in
    let k = ap (λ z. l * z) e in
    omega arith
out-met number b test Buy None n q m g = let u = unpriced-used number b g in omega arith
out-met number b test Sell limit n q m g = let u = sell-used number b limit g in let e = meets-own (takes-lots number b limit Sell) g in omega arith

-- ---- one session at a time
in-pre-trading : {X : Type 0} (s : Session) (a x y z : X) → is_pre_trading s ≡ true → by_session a x y z s ≡ x
in-pre-trading Closed a x y z e = absurd (grind (arith, nat_tests))
in-pre-trading PreTrading a x y z e = refl
in-pre-trading Trading a x y z e = absurd (grind (arith, nat_tests))
in-pre-trading PostTrading a x y z e = absurd (grind (arith, nat_tests))

in-trading : {X : Type 0} (s : Session) (a x y z : X) → is_trading s ≡ true → by_session a x y z s ≡ y
in-trading Closed a x y z e = absurd (grind (arith, nat_tests))
in-trading PreTrading a x y z e = absurd (grind (arith, nat_tests))
in-trading Trading a x y z e = refl
in-trading PostTrading a x y z e = absurd (grind (arith, nat_tests))

-- ---- what stands
stands-when : (p e k : Bool) (n : ℕ) → 0 < cond (p && not e && k) n 0 → (cond (p && not e && k) n 0 ≡ n) × (p ≡ true) × (e ≡ false) × (k ≡ true)
stands-when true false true n h = (refl, refl, refl, refl)
stands-when true false false n h = absurd (omega arith)
stands-when true true k n h = absurd (omega arith)
stands-when false e k n h = absurd (omega arith)

module _ (w : World) (b : Bid) where
  graph : Meets (crosses b.side (limit_of w b)) (taking (next_number w) b (limit_of w b) b.side) b.lots (queue w b.ticker (other b.side))
      (meeting (next_number w) b (limit_of w b) (queue w b.ticker (other b.side)))
  graph = meet-graph (crosses b.side (limit_of w b)) (taking (next_number w) b (limit_of w b) b.side) b.lots (queue w b.ticker (other b.side))

  all-lots : lots_of (bid_trades w b) + (met w b).left ≡ b.lots
  all-lots = encounter-by w b (λ m. lots_of (trades_of m.deals) + m.left ≡ b.lots) (omega arith) (meets-own (takes-lots (next_number w) b (limit_of w b) b.side) graph)

  whole-or-none : b.entire ≡ true → 0 < (met w b).left → bid_trades w b ≡ []
  whole-or-none e = step w.session
    where
      m : Met
      m = meeting (next_number w) b (limit_of w b) (queue w b.ticker (other b.side))

      still : Met
      still = untouched b.lots (queue w b.ticker (other b.side))

      split : (t u : Bool) → t ≡ true → ltb 0 m.left ≡ u → 0 < (cond (t && u) still m).left → trades_of (cond (t && u) still m).deals ≡ []
      split true true f g h = refl
      split true false f g h = absurd (grind (arith, nat_tests))
      split false u f g h = absurd (grind (arith, nat_tests))

      step : (s : Session) → 0 < (by_session still still (whole_or_none b (queue w b.ticker (other b.side)) m) (whole_or_none b (queue w b.ticker (other b.side)) m) s).left
          → trades_of (by_session still still (whole_or_none b (queue w b.ticker (other b.side)) m) (whole_or_none b (queue w b.ticker (other b.side)) m) s).deals ≡ []
      step Closed h = refl
      step PreTrading h = refl
      step Trading h = split b.entire (ltb 0 m.left) e refl h
      step PostTrading h = split b.entire (ltb 0 m.left) e refl h

  -- in pre-trading nothing is touched
  pre-met : is_pre_trading w.session ≡ true → met w b ≡ untouched b.lots (queue w b.ticker (other b.side))
  pre-met e = in-pre-trading w.session (untouched b.lots (queue w b.ticker (other b.side))) (untouched b.lots (queue w b.ticker (other b.side))) _ _ e

  pre-limit : is_pre_trading w.session ≡ true → limit_of w b ≡ b.price
  pre-limit e = ap (λ z. cond z (average_of (w.sheets b.ticker)) b.price) (in-pre-trading w.session false false false true e)

  pre-form : is_pre_trading w.session ≡ true → form_taken w.session b ≡ true → is_some b.price && not b.entire && b.keep ≡ true
  pre-form e f = sym (in-pre-trading w.session false (is_some b.price && not b.entire && b.keep) true (not (is_some b.price) && not b.entire) e) ∙ f

  pre-rest : is_pre_trading w.session ≡ true → form_taken w.session b ≡ true → rest w b ≡ b.lots
  pre-rest e f =
      ap (λ (m : Met). standing b (limit_of w b) m) (pre-met e)
      ∙ ap (λ z. cond (is_some z && not b.entire && b.keep) b.lots 0) (pre-limit e)
      ∙ ap (λ z. cond z b.lots 0) (pre-form e f)

  trading-rest : is_trading w.session ≡ true → is_some b.price ≡ false → rest w b ≡ 0
  trading-rest e f =
      let k : is_post_trading w.session ≡ false = in-trading w.session false false false true e in
      ap (λ z. cond (is_some (cond z (average_of (w.sheets b.ticker)) b.price) && not b.entire && b.keep) (met w b).left 0) k
      ∙ ap (λ z. cond (z && not b.entire && b.keep) (met w b).left 0) f

-- ---- what the rule is told
module _ {X : Type 0} (p : X → Bool) where
  any-mem : {x : X} {xs : List X} → Memᴰ x xs → p x ≡ true → any_of p xs ≡ true
  any-mem {x} (Memᴰ.head {x = y} {xs = xs} e) h = or_left (p y) (any_of p xs) (sym (ap p e) ∙ h)
  any-mem {x} (Memᴰ.tail {x = y} {xs = xs} m) h = or_right (p y) (any_of p xs) (any-mem m h)

  any_none : (xs : List X) → AllByRecursion (λ x. p x ≡ false) xs → any_of p xs ≡ false
  any_none [] a = refl
  any_none (x ∷ xs) a = or_from (p x) (any_of p xs) a.0 (any_none xs a.1)

pub bids-are-right : BidsAreRight 1
bids-are-right w b = record {
  lots = all-lots w b;
  entire = whole-or-none w b;
  pre_trading = λ e. ap (λ (m : Met). trades_of m.deals) (pre-met w b e);
  stands = stands-when (is_some (limit_of w b)) b.entire b.keep (met w b).left;
  all_stands = pre-rest w b;
  unpriced = trading-rest w b;
  average = λ e. ap (λ z. cond z (average_of (w.sheets b.ticker)) b.price) e;
  told = λ e. (ap (λ z. cond z None (best_price_lem (queue w b.ticker Buy))) e, ap (λ z. cond z None (best_price_lem (queue w b.ticker Sell))) e);
  told_none = λ e. (ap (λ z. cond z None (best_price_lem (queue w b.ticker Buy))) e, ap (λ z. cond z None (best_price_lem (queue w b.ticker Sell))) e);
  settled = λ l. cond-false _ None (Some (quote_of w.listing b.ticker).settlement) (ne_eqb _ 0 (λ e. absurd (omega arith)));
  unsettled = λ e. cond-true _ None (Some (quote_of w.listing b.ticker).settlement) (eq-eqb _ 0 e);
  opposite = λ x m e. any-mem (λ z. eqb z.holder b.holder) m (eq-eqb x.holder b.holder e);
  unopposed = λ a. any_none (λ z. eqb z.holder b.holder) (queue w b.ticker (other b.side)) (All-weaker (λ x. x.holder ≢ b.holder) (λ x. eqb x.holder b.holder ≡ false) (λ x ne. ne_eqb x.holder b.holder ne) (queue w b.ticker (other b.side)) a);
  block = encounter-by w b (ComesOut b.side (limit_of w b) b.lots) (out-untouched b.side (limit_of w b) b.lots (queue w b.ticker (other b.side)))
      (out-met (next_number w) b (crosses b.side (limit_of w b)) b.side (limit_of w b) b.lots (queue w b.ticker (other b.side)) _ (graph w b));
}
