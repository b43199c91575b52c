-- The opening keeps the invariant, and its movements are granted.
use Rattle.model.specs.Words.{ℕ, refl, Bool, true, false, cond, leb, ltb, List, [], joined, AllByRecursion, length, sum_of, Option, Some, None, only, Memᴰ}
use Rattle.std.proofs.Common.{◌+◌, ◌*◌, ◌%◌, ◌≤◌, ◌<◌, ◌≡◌, ◌∷◌, ◌++◌, sym, ap, ◌∙◌, subst, arith}
use Rattle.std.proofs.ByRecursion.{All-weaker}
use Rattle.std.proofs.lemmas.Bool.{true≢false, ltb-false}
use Rattle.model.specs.Market.{Side, Buy, Sell, Session, Closed, PreTrading, Trading, PostTrading, is_closed, is_pre_trading, Standing, Trade, Listing, Open, tickers, queue_places}
use Rattle.model.specs.Queues.{by_price, before, with_lots}
use Rattle.model.specs.Average.{lots_of}
use Rattle.model.specs.Listings.{quote_of}
use Rattle.model.specs.Matching.{Deal, Met, trades_of, meet}
use Rattle.model.specs.Opening.{Opened, unopened, auctioned, uncross, opening_price_lem, opening_at, opening}
use Rattle.model.specs.OpeningLaws.{Reached, OpenedWell}
use Rattle.model.specs.Serving.{Served}
use Rattle.model.specs.Serving.Served.{none, part, whole}
use Rattle.model.specs.World.{World, queue_of, queue}
use Rattle.model.specs.Checks.{checks, why}
use Rattle.model.specs.Movements.{settlements, opened_at, open_moves}
use Rattle.model.specs.Calls.{next, open_sheet}
use Rattle.model.specs.Sound.{Fit, Sound, all_owing, sheet_owing, times_on, owing, obliges, standing_lots}
use Rattle.model.proofs.Meeting.{Meets, meet-graph, meets-own}
use Rattle.model.proofs.Meeting.Meets.{empty, enough, stopped, some, every}
use Rattle.model.proofs.Matched.{served-ranked, price-blind, all_map}
use Rattle.model.proofs.Opened.{opening-clears}
use Rattle.model.proofs.Sums.{by_side, sum-join, sum-most}
use Rattle.model.proofs.Paying.{Made, Takes, uses, Payable, made-from, takes_beside, takes-each, takes-deals}
use Rattle.model.proofs.Sheets.{passed, must-true, currency-known, ticker-within, OnSheet, sound-from}
use Rattle.model.proofs.Quiet.{all-tickers}
use Rattle.model.proofs.Facing.{obliges-split, served-length, served-times, served-fit, meets-fewer, meets-steps}
use Rattle.model.proofs.Placing.{cost-bounds}
use Rattle.register.specs.Books.{at}
use Rattle.register.proofs.Accounts.{at-add, at_none}
use Rattle.ranking.specs.Ranks.{Ranked}
use Rattle.rules.specs.Bids.{most_price}
use Rattle.rules.specs.Rules.{Rule}

abbrev Whole : ℕ → List Standing → Type 0
Whole step q = AllByRecursion (λ x. x.lots % step ≡ 0) q

length-join : (xs ys : List Deal) → length (trades_of (xs ++ ys)) ≡ length (trades_of xs) + length (trades_of ys)
length-join [] ys = omega arith
length-join (x ∷ xs) ys = omega (arith, length-join xs ys)

lots-join : (xs ys : List Deal) → lots_of (trades_of (xs ++ ys)) ≡ lots_of (trades_of xs) + lots_of (trades_of ys)
lots-join [] ys = omega arith
lots-join (x ∷ xs) ys = omega (arith, lots-join xs ys)

-- ---- what the opening's trades do to obligations, lots, steps and records
pub record Clears (l : Listing) (t step : ℕ) (buys sells : List Standing) (r : Opened) : Type 0 where
  pub uses : (h a : ℕ) → sum_of (λ d. uses (quote_of l t).currency d h a) r.deals + (owing l t Buy r.buys h a + owing l t Sell r.sells h a)
      ≡ owing l t Buy buys h a + owing l t Sell sells h a
  pub lots : standing_lots buys ≡ lots_of (trades_of r.deals) + standing_lots r.buys
  pub buys_whole : Whole step r.buys
  pub sells_whole : Whole step r.sells
  pub count : length (trades_of r.deals) ≤ length buys + length sells

pub untouched-clears : (l : Listing) (t step : ℕ) (buys sells : List Standing) → Whole step buys → Whole step sells → Clears l t step buys sells (unopened buys sells)
untouched-clears l t step buys sells u v = record { uses = λ h a. omega arith; lots = omega arith; buys_whole = u; sells_whole = v; count = omega arith }

module _ (l : Listing) (t o : ℕ) (b : Standing) where
  zero-at : (h a : ℕ) → at b.holder (quote_of l t).currency (b.price * 0) h a ≡ 0
  zero-at h a = let e : b.price * 0 ≡ 0 = omega arith in ap (λ (n : ℕ). at b.holder (quote_of l t).currency n h a) e ∙ at_none b.holder (quote_of l t).currency h a

  -- one buy: its deals use the sells' obligations and its own for the lots traded
  one-uses : {n : ℕ} {q : List Standing} {m : Met} (h a : ℕ) → Meets (λ p. leb p o) (auctioned t o b) n q m
      → sum_of (λ d. uses (quote_of l t).currency d h a) m.deals + owing l t Sell m.queue h a
      ≡ owing l t Sell q h a + at b.holder (quote_of l t).currency (b.price * lots_of (trades_of m.deals)) h a
  one-uses h a empty = omega (arith, zero-at h a)
  one-uses h a (enough e) = omega (arith, zero-at h a)
  one-uses h a (stopped e) = omega (arith, zero-at h a)
  one-uses h a (some {n} {x = x} {q = q} e z u) =
      let le : n ≤ x.lots = omega arith in
      let p : b.price * n ≡ b.price * (n + 0) = omega arith in
      omega (arith, obliges-split l t Sell x n h a le, ap (λ (k : ℕ). at b.holder (quote_of l t).currency k h a) p)
  one-uses h a (every {x = x} {q = q} {r = r} e z u g) =
      let p : b.price * (x.lots + lots_of (trades_of r.deals)) ≡ b.price * x.lots + b.price * lots_of (trades_of r.deals) = omega arith in
      omega (
        arith,
        one-uses h a g,
        ap (λ (k : ℕ). at b.holder (quote_of l t).currency k h a) p,
        at-add b.holder (quote_of l t).currency (b.price * x.lots) (b.price * lots_of (trades_of r.deals)) h a,
      )

  -- the buy with what is left of it
  split_at : (k left : ℕ) → k + left ≡ b.lots → (h a : ℕ)
      → obliges l t Buy b h a ≡ at b.holder (quote_of l t).currency (b.price * k) h a + obliges l t Buy (with_lots b left) h a
  split_at k left e h a =
      let p : b.price * b.lots ≡ b.price * k + b.price * left = ap (λ (z : ℕ). b.price * z) (sym e) ∙ omega arith in
      ap (λ (n : ℕ). at b.holder (quote_of l t).currency n h a) p ∙ at-add b.holder (quote_of l t).currency (b.price * k) (b.price * left) h a

  left-owing : (left : ℕ) (q : List Standing) (h a : ℕ) → owing l t Buy (only (ltb 0 left) (with_lots b left) ++ q) h a ≡ obliges l t Buy (with_lots b left) h a + owing l t Buy q h a
  left-owing left q h a = by (ltb 0 left) refl
    where
      by : (u : Bool) → ltb 0 left ≡ u → owing l t Buy (only u (with_lots b left) ++ q) h a ≡ obliges l t Buy (with_lots b left) h a + owing l t Buy q h a
      by true e = refl
      by false e =
          let p : b.price * left ≡ 0 = let z = ltb-false 0 left e in let y : left ≡ 0 = omega arith in ap (λ (n : ℕ). b.price * n) y ∙ omega arith in
          omega (arith, ap (λ (n : ℕ). at b.holder (quote_of l t).currency n h a) p, at_none b.holder (quote_of l t).currency h a)

left-lots : (b : Standing) (left : ℕ) (q : List Standing) → standing_lots (only (ltb 0 left) (with_lots b left) ++ q) ≡ left + standing_lots q
left-lots b left q = by (ltb 0 left) refl
  where
    by : (u : Bool) → ltb 0 left ≡ u → standing_lots (only u (with_lots b left) ++ q) ≡ left + standing_lots q
    by true e = refl
    by false e = let z = ltb-false 0 left e in omega arith

left-whole : (step : ℕ) (b : Standing) (left : ℕ) (q : List Standing) → left % step ≡ 0 → Whole step q → Whole step (only (ltb 0 left) (with_lots b left) ++ q)
left-whole step b left q e a = by (ltb 0 left)
  where
    by : (u : Bool) → Whole step (only u (with_lots b left) ++ q)
    by true = (e, a)
    by false = a

pub clears : (l : Listing) (t step o : ℕ) (buys sells : List Standing) → Whole step buys → Whole step sells → Clears l t step buys sells (uncross t o buys sells)
unfolding uncross
clears l t step o [] sells u v = untouched-clears l t step [] sells u v
clears l t step o (b ∷ buys) sells u v =
    let g = meet-graph (λ p. leb p o) (auctioned t o b) b.lots sells in
    let ws = meets-steps step g u.0 v in
    by (leb o b.price) g ws.0 (clears l t step o buys (meet (λ p. leb p o) (auctioned t o b) b.lots sells).queue u.1 ws.1)
  where
    by : (z : Bool)
        → let m = meet (λ p. leb p o) (auctioned t o b) b.lots sells in
        let r = uncross t o buys m.queue in
        Meets (λ p. leb p o) (auctioned t o b) b.lots sells m → m.left % step ≡ 0 → Clears l t step buys m.queue r
        → Clears l t step (b ∷ buys) sells
        (cond z
        (record { deals = m.deals ++ r.deals; buys = only (ltb 0 m.left) (with_lots b m.left) ++ r.buys; sells = r.sells })
        (unopened (b ∷ buys) sells))
    by false g w c = untouched-clears l t step (b ∷ buys) sells u v
    by true g w c =
        let m = meet (λ p. leb p o) (auctioned t o b) b.lots sells in
        let r = uncross t o buys m.queue in
        let own = meets-own {test = λ p. leb p o} {deal = auctioned t o b} (λ x k. refl) g in
        record {
          uses = λ h a. omega (
            arith,
            sum-join (λ d. uses (quote_of l t).currency d h a) m.deals r.deals,
            one-uses l t o b h a g,
            c.uses h a,
            left-owing l t o b m.left r.buys h a,
            split_at l t o b (lots_of (trades_of m.deals)) m.left own h a,
          );
          lots = omega (arith, own, c.lots, lots-join m.deals r.deals, left-lots b m.left r.buys);
          buys_whole = left-whole step b m.left r.buys w c.buys_whole;
          sells_whole = c.sells_whole;
          count = omega (arith, c.count, length-join m.deals r.deals, meets-fewer g);
        }

-- ---- the opening of one sheet
pub all-mem : {X : Type 0} (P : X → Type 0) {x : X} {xs : List X} → AllByRecursion P xs → Memᴰ x xs → P x
all-mem P a (Memᴰ.head e) = subst P (sym e) a.0
all-mem P a (Memᴰ.tail m) = all-mem P a.1 m

pub record Opens (l : Listing) (t step : ℕ) (buys sells : List Standing) (r : Opened) : Type 0 where
  pub clearing : Clears l t step buys sells r
  pub payable : AllByRecursion (Payable t) r.deals
  pub prices : AllByRecursion (λ x. (1 ≤ x.price) × (x.price ≤ most_price)) (trades_of r.deals)
  pub buys_served : Served buys r.buys
  pub sells_served : Served sells r.sells
  pub apart : AllByRecursion (λ b. AllByRecursion (λ x. b.price < x.price) r.sells) r.buys

-- with no opening price, there is no buy
priceless : (buys sells : List Standing) → opening_price_lem buys sells ≡ None → buys ≡ []
unfolding opening_price_lem
priceless [] sells e = refl
priceless (b ∷ buys) sells e = absurd (grind arith)

both-all : {X : Type 0} (P Q : X → Type 0) (xs : List X) → AllByRecursion P xs → AllByRecursion Q xs → AllByRecursion (λ x. P x × Q x) xs
both-all P Q [] a b = tt
both-all P Q (x ∷ xs) a b = ((a.0, b.0), both-all P Q xs a.1 b.1)

from-trades : (P : Trade → Type 0) (ds : List Deal) → AllByRecursion P (trades_of ds) → AllByRecursion (λ d. P d.trade) ds
from-trades P [] a = tt
from-trades P (d ∷ ds) a = (a.0, from-trades P ds a.1)

module _ (l : Listing) (t step given : ℕ) (buys sells : List Standing) (fb : AllByRecursion (Fit step given) buys) (fs : AllByRecursion (Fit step given) sells)
    (rb : Ranked (by_price Buy) buys) (rs : Ranked (by_price Sell) sells) where
  lots-of : (q : List Standing) → AllByRecursion (Fit step given) q → AllByRecursion (λ x. 1 ≤ x.lots) q
  lots-of q a = All-weaker (Fit step given) (λ x. 1 ≤ x.lots) (λ x f. f.fewest) q a

  whole_of : (q : List Standing) → AllByRecursion (Fit step given) q → Whole step q
  whole_of q a = All-weaker (Fit step given) (λ x. x.lots % step ≡ 0) (λ x f. f.whole) q a

  reached-payable : (o : ℕ) (d : Deal) → Reached o buys sells d × ((d.trade.ticker ≡ t) × (d.trade.price ≡ o)) → Payable t d
  reached-payable o d h =
      let p = h.0 in
      record {
        ticker = h.1.0;
        buyer = subst (λ (z : ℕ). z < 16) (sym p.buyer.0) (all-mem (Fit step given) fb p.bids).holder;
        seller = subst (λ (z : ℕ). z < 16) (sym p.seller.0) (all-mem (Fit step given) fs p.offers).holder;
        within = omega (arith, h.1.1, p.above, p.held);
      }

  reached-priced : (o : ℕ) (d : Deal) → Reached o buys sells d × ((d.trade.ticker ≡ t) × (d.trade.price ≡ o)) → (1 ≤ d.trade.price) × (d.trade.price ≤ most_price)
  reached-priced o d h =
      let p = h.0 in
      (omega (arith, h.1.1, p.below, (all-mem (Fit step given) fs p.offers).cheapest), omega (arith, h.1.1, p.above, (all-mem (Fit step given) fb p.bids).highest))

  pub opens : Opens l t step buys sells (opening t buys sells)
  unfolding opening
  opens = by (opening_price_lem buys sells) refl
    where
      by : (z : Option ℕ) → opening_price_lem buys sells ≡ z → Opens l t step buys sells (opening_at t z buys sells)
      by None e =
          record {
            clearing = untouched-clears l t step buys sells (whole_of buys fb) (whole_of sells fs);
            payable = tt;
            prices = tt;
            buys_served = none;
            sells_served = none;
            apart = subst (λ (q : List Standing). AllByRecursion (λ b. AllByRecursion (λ x. b.price < x.price) sells) q) (sym (priceless buys sells e)) tt;
          }
      by (Some o) e =
          let c = at-price o e (opening-clears t o buys sells rb rs (lots-of buys fb) (lots-of sells fs) e) in
          let ds = (uncross t o buys sells).deals in
          let both = both-all (Reached o buys sells) (λ d. (d.trade.ticker ≡ t) × (d.trade.price ≡ o)) ds c.reached (from-trades (λ x. (x.ticker ≡ t) × (x.price ≡ o)) ds c.price) in
          record {
            clearing = clears l t step o buys sells (whole_of buys fb) (whole_of sells fs);
            payable = All-weaker (λ d. Reached o buys sells d × ((d.trade.ticker ≡ t) × (d.trade.price ≡ o))) (Payable t) (reached-payable o) ds both;
            prices = all_map (λ d. Reached o buys sells d × ((d.trade.ticker ≡ t) × (d.trade.price ≡ o))) (λ x. (1 ≤ x.price) × (x.price ≤ most_price)) (λ d. d.trade) (reached-priced o) ds both;
            buys_served = c.buys_served;
            sells_served = c.sells_served;
            apart = c.apart;
          }
        where
          at-price : (o : ℕ) → opening_price_lem buys sells ≡ Some o → OpenedWell t o buys sells (opening_at t (opening_price_lem buys sells) buys sells) → OpenedWell t o buys sells (uncross t o buys sells)
          at-price o e = subst (λ (z : Option ℕ). OpenedWell t o buys sells (opening_at t z buys sells)) e

served-nothing : {q r : List Standing} → Served q r → q ≡ [] → r ≡ []
served-nothing none e = e
served-nothing (part n z l) e = absurd (grind arith)
served-nothing (whole s) e = absurd (grind arith)

-- ---- the whole opening
module _ (r : Rule) (w : World) (s : Sound r.step w) (pre : w.session ≡ PreTrading) where
  ranked-by-price : (t : ℕ) (side : Side) → Ranked (by_price side) (queue w t side)
  ranked-by-price t side = subst (λ (x : Session). Ranked (before x side) (queue w t side)) pre (s.ranked t side)

  pub opened-at : (t : ℕ) → Opens w.listing t r.step (queue w t Buy) (queue w t Sell) (opened_at w t)
  opened-at t = opens w.listing t r.step w.given (queue w t Buy) (queue w t Sell) (s.fit t Buy) (s.fit t Sell) (ranked-by-price t Buy) (ranked-by-price t Sell)

  pub open-on : (t : ℕ) → OnSheet r.step Trading w.given t (open_sheet w t)
  open-on t =
      let o = opened-at t in
      let c = cost-bounds (trades_of (opened_at w t).deals) o.prices in
      record {
        fit = by_side (λ side. AllByRecursion (Fit r.step w.given) (queue_of (open_sheet w t) side)) (served-fit r.step w.given o.buys_served o.clearing.buys_whole (s.fit t Buy)) (served-fit r.step w.given o.sells_served o.clearing.sells_whole (s.fit t Sell));
        places = by_side (λ side. length (queue_of (open_sheet w t) side) ≤ queue_places) (omega (arith, served-length o.buys_served, s.places t Buy)) (omega (arith, served-length o.sells_served, s.places t Sell));
        ranked = by_side (λ side. Ranked (by_price side) (queue_of (open_sheet w t) side)) (served-ranked (by_price Buy) (price-blind Buy) o.buys_served (ranked-by-price t Buy)) (served-ranked (by_price Sell) (price-blind Sell) o.sells_served (ranked-by-price t Sell));
        strange = λ side e. by_side (λ side. queue_of (open_sheet w t) side ≡ []) (served-nothing o.buys_served (s.strange t Buy e)) (served-nothing o.sells_served (s.strange t Sell e)) side;
        shut = λ e. absurd (true≢false (sym e));
        uncrossed = λ e. o.apart;
        averaged = λ e. absurd (true≢false (sym e));
        cheapest = omega (arith, s.cheapest t, c.0);
        dearest = omega (arith, s.dearest t, c.1);
        bought = omega (arith, s.bought t, o.clearing.lots);
      }

  open-now : is_closed w.session ≡ false
  open-now = ap is_closed pre

  pub open-takes : Takes w.listing (open_moves w) (joined (λ t. trades_of (opened_at w t).deals) tickers) (all_owing w) (λ h a. sum_of (λ t. sheet_owing w.listing t (open_sheet w t) h a) tickers)
  open-takes =
      takes-each w.listing (λ t. settlements w.listing t (opened_at w t).deals) (λ t. trades_of (opened_at w t).deals) (λ t. sheet_owing w.listing t (w.sheets t)) (λ t. sheet_owing w.listing t (open_sheet w t)) tickers
      (all-tickers (λ t. Takes w.listing (settlements w.listing t (opened_at w t).deals) (trades_of (opened_at w t).deals) (sheet_owing w.listing t (w.sheets t)) (sheet_owing w.listing t (open_sheet w t)))
      (λ t k. takes_beside w.listing _ _ (sheet_owing w.listing t (open_sheet w t)) (λ h a. sum_of (λ d. uses (quote_of w.listing t).currency d h a) (opened_at w t).deals) (λ h a. 0) _ _
      (λ h a i j. sym ((opened-at t).clearing.uses h a)) (λ h a i j. omega arith)
      (takes-deals w.listing t (opened_at w t).deals (ticker-within t k) (currency-known w.listing t (s.listing open-now)) (opened-at t).payable)))

  pub open_made : Made w.listing (open_moves w) (joined (λ t. trades_of (opened_at w t).deals) tickers) w.book (λ h a. sum_of (λ t. sheet_owing w.listing t (open_sheet w t) h a) tickers)
  open_made = made-from w.listing _ _ _ _ open-takes w.book (s.backed open-now)

  pub open-sound : (room : ℕ) → Sound r.step (next w (Open room))
  open-sound room =
      let m = open_made in
      sound-from r.step _ open-on (record {
        once = λ n. omega (
          arith,
          s.once n,
          sum-most (λ t. times_on n (open_sheet w t)) (λ t. times_on n (w.sheets t)) tickers
              (all-tickers (λ t. times_on n (open_sheet w t) ≤ times_on n (w.sheets t)) (λ t _. omega (arith, served-times n (opened-at t).buys_served, served-times n (opened-at t).sells_served))),
        );
        listing = λ c. s.listing open-now;
        backed = λ c. m.blocked;
        given = s.given;
      })

pub is-pre : (r : Rule) (w : World) (room : ℕ) → why r w (Open room) ≡ None → w.session ≡ PreTrading
is-pre r w room e = by w.session (must-true _ _ (passed (checks r w (Open room)) e).0)
  where
    by : (x : Session) → is_pre_trading x ≡ true → x ≡ PreTrading
    by Closed e = absurd (true≢false (sym e))
    by PreTrading e = refl
    by Trading e = absurd (true≢false (sym e))
    by PostTrading e = absurd (true≢false (sym e))
