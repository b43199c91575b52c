-- The loop of an opening at a price: what is left to do gives, beside what is done, what the whole gives.
use Rattle.std.proofs.Common.{◌≡◌, ℕ, ◌+◌, ◌-◌, ◌*◌, ◌<◌, ltb, List, [], ◌∷◌, length, set, Some, None, Option, sym, refl, ap, ◌∙◌, subst, arith}
use Rattle.std.specs.List.{flat_map}
use Rattle.std.proofs.lemmas.Bool.{cond_both, ltb-true}
use Rattle.rules.specs.declared.bid.Side.TheVariants.{Sell}
use Rattle.register.specs.Books.{Book}
use Rattle.register.specs.Moves.{Move}
use Rattle.model.specs.declared.words.Standing.{Standing}
use Rattle.model.specs.declared.words.Trade.{Trade}
use Rattle.model.specs.Queues.{with_lots, by_price}
use Rattle.model.specs.Average.{cost_of, lots_of}
use Rattle.model.specs.Matching.{Deal, trades_of}
use Rattle.model.specs.Opening.{Opened, unopened, opening_price_lem, opening_at, opening}
use Rattle.model.specs.World.{Sheet}
use Rattle.model.specs.Movements.{Granted, moved_all, settlement}
use Rattle.matching.proofs.Granting.{granted-front, granted-behind, moved-join}
use Rattle.ranking.specs.Ranks.{Ranked}
use Rattle.queues.specs.Entries.{lots_taken}
use Rattle.auction.specs.Pairs.{next_deal, trade_in, deal_moves, traded_on, after_trade, SumsHeld}
use Rattle.auction.specs.Openings.{written, opening_at_price, opening_of, opened_with, Openable, Made}
use Rattle.auction.proofs.Stepping.{Lots, in_front, Next, next-is}
use Rattle.auction.proofs.Strips.{written_none, written_one}

abbrev pub moves_of : ℕ → Opened → List Move
moves_of currency o = flat_map (settlement currency) o.deals

-- ---- lots taken from the front keep a queue's rank, and leave each bid with lots
taken-ranked : (n : ℕ) (q : List Standing) → Ranked (by_price Sell) q → Ranked (by_price Sell) (lots_taken n q)
taken-ranked n [] r = tt
taken-ranked n (x ∷ q) r = cond_both (ltb n x.lots) (with_lots x (x.lots - n) ∷ q) q (Ranked (by_price Sell)) (λ _. r) (λ _. r.1)

taken-lots : (n : ℕ) (q : List Standing) → Lots q → Lots (lots_taken n q)
taken-lots n [] a = tt
taken-lots n (x ∷ q) a = cond_both (ltb n x.lots) (with_lots x (x.lots - n) ∷ q) q Lots (λ e. (omega (arith, ltb-true n x.lots e), a.1)) (λ _. a.1)

-- ---- the sheet after a deal and what follows
one-opened : (d : Deal) (o : Opened) (s : Sheet) → opened_with (in_front d o) s ≡ opened_with o (traded_on d.trade s)
one-opened d o s =
    let x = d.trade in
    let xs = trades_of o.deals in
    let w : s.worth + (x.price * x.lots + cost_of xs) ≡ s.worth + x.price * x.lots + cost_of xs = omega arith in
    let n : s.traded + (x.lots + lots_of xs) ≡ s.traded + x.lots + lots_of xs = omega arith in
    λ i. record { buys = o.buys; sells = o.sells; worth = w i; traded = n i }

none-opened : (s : Sheet) → opened_with (unopened s.buys s.sells) s ≡ s
none-opened s =
    let w : s.worth + 0 ≡ s.worth = omega arith in
    let n : s.traded + 0 ≡ s.traded = omega arith in
    λ i. record { buys = s.buys; sells = s.sells; worth = w i; traded = n i }

-- ---- the turns
-- after `count` trades: the sheet, the book and the strip as they are, and what they were before the first trade
pub record Turn (t p currency : ℕ) (s0 : Sheet) (b0 : Book) (strip0 : List Trade) (s : Sheet) (b : Book) (strip : List Trade) (count : ℕ) : Type 0 where
  pub ranked : Ranked (by_price Sell) s.sells
  pub lots : Lots s.buys
  pub granted : Granted (moves_of currency (opening_at_price t p s)) b
  pub book : moved_all (moves_of currency (opening_at_price t p s)) b ≡ moved_all (moves_of currency (opening_at_price t p s0)) b0
  pub sheet : opened_with (opening_at_price t p s) s ≡ opened_with (opening_at_price t p s0) s0
  pub strips : written count (trades_of (opening_at_price t p s).deals) strip ≡ written 0 (trades_of (opening_at_price t p s0).deals) strip0
  pub counts : count + length (opening_at_price t p s).deals ≡ length (opening_at_price t p s0).deals

pub starts : (t p currency : ℕ) (s : Sheet) (b : Book) (strip : List Trade) → Openable currency s (opening_at_price t p s) b → Turn t p currency s b strip s b strip 0
starts t p currency s b strip h =
    record {
      ranked = h.sells_ranked;
      lots = h.buys_lots;
      granted = h.granted;
      book = refl;
      sheet = refl;
      strips = refl;
      counts = omega arith;
    }

module _ {t p currency : ℕ} {s0 : Sheet} {b0 : Book} {strip0 : List Trade} {s : Sheet} {b : Book} {strip : List Trade} {count : ℕ}
    (here : Turn t p currency s0 b0 strip0 s b strip count) where
  next : Next t p s (next_deal t p s)
  next = next-is t p s here.ranked here.lots

  -- what the next trade asks
  pub asks-grant : Granted (deal_moves currency (next_deal t p s)) b
  asks-grant = by (next_deal t p s) next
    where
      by : (o : Option Deal) → Next t p s o → Granted (deal_moves currency o) b
      by None e = tt
      by (Some d) e =
          granted-front (settlement currency d) (moves_of currency (opening_at_price t p (traded_on d.trade s))) b
          (subst (λ (z : Opened). Granted (moves_of currency z) b) e here.granted)

  pub asks-sums : SumsHeld (opened_with (opening_at_price t p s0) s0) → SumsHeld (after_trade (trade_in (next_deal t p s)) s)
  asks-sums h = by (next_deal t p s) next (subst SumsHeld (sym here.sheet) h)
    where
      by : (o : Option Deal) → Next t p s o → SumsHeld (opened_with (opening_at_price t p s) s) → SumsHeld (after_trade (trade_in o) s)
      by None e k = subst SumsHeld (ap (λ (z : Opened). opened_with z s) e ∙ none-opened s) k
      by (Some d) e k =
          let m = subst (λ (z : Opened). SumsHeld (opened_with z s)) e k in
          record { worth = omega (arith, m.worth); traded = omega (arith, m.traded) }

  -- where there is a next trade, not all are made
  pub some_left : (x : Trade) → Some x ≡ trade_in (next_deal t p s) → count < length (opening_at_price t p s0).deals
  some_left x f = by (next_deal t p s) next f
    where
      by : (o : Option Deal) → Next t p s o → Some x ≡ trade_in o → count < length (opening_at_price t p s0).deals
      by None e f = absurd (let z : ◌≡◌ {A = ℕ} 0 1 = cc in omega arith)
      by (Some d) e f = omega (arith, ap (λ (z : Opened). length z.deals) e, here.counts)

  -- a turn
  after-deal : (d : Deal) → Next t p s (Some d) → count < length strip
      → Turn t p currency s0 b0 strip0 (traded_on d.trade s) (moved_all (settlement currency d) b) (set strip count d.trade) (count + 1)
  after-deal d e room =
      let o = opening_at_price t p (traded_on d.trade s) in
      record {
        ranked = taken-ranked d.trade.lots s.sells here.ranked;
        lots = taken-lots d.trade.lots s.buys here.lots;
        granted = granted-behind (settlement currency d) (moves_of currency o) b (subst (λ (z : Opened). Granted (moves_of currency z) b) e here.granted);
        book = sym (moved-join (settlement currency d) (moves_of currency o) b) ∙ ap (λ (z : Opened). moved_all (moves_of currency z) b) (sym e) ∙ here.book;
        sheet = sym (one-opened d o s) ∙ ap (λ (z : Opened). opened_with z s) (sym e) ∙ here.sheet;
        strips =
            written_one count d.trade (trades_of o.deals) strip room
            ∙ ap (λ (z : Opened). written count (trades_of z.deals) strip) (sym e)
            ∙ here.strips;
        counts = omega (arith, ap (λ (z : Opened). length z.deals) e, here.counts);
      }

  pub turned : (x : Trade) (s' : Sheet) (b' : Book) → count < length strip → Some x ≡ trade_in (next_deal t p s) → b' ≡ moved_all (deal_moves currency (next_deal t p s)) b → s' ≡ after_trade (Some x) s
      → Turn t p currency s0 b0 strip0 s' b' (set strip count x) (count + 1)
  turned x s' b' room f g h = by (next_deal t p s) next f g
    where
      by : (o : Option Deal) → Next t p s o → Some x ≡ trade_in o → b' ≡ moved_all (deal_moves currency o) b → Turn t p currency s0 b0 strip0 s' b' (set strip count x) (count + 1)
      by None e f g = absurd (let z : ◌≡◌ {A = ℕ} 0 1 = cc in omega arith)
      by (Some d) e f g =
          let same : d.trade ≡ x = cc in
          subst (λ (z : Book). Turn t p currency s0 b0 strip0 s' z (set strip count x) (count + 1)) (sym g)
          (subst (λ (z : Sheet). Turn t p currency s0 b0 strip0 z (moved_all (settlement currency d) b) (set strip count x) (count + 1)) (sym h)
          (subst (λ (z : Trade). Turn t p currency s0 b0 strip0 (traded_on z s) (moved_all (settlement currency d) b) (set strip count z) (count + 1)) same (after-deal d e room)))

  -- the end
  pub ended : (s' : Sheet) (b' : Book) → None ≡ trade_in (next_deal t p s) → b' ≡ moved_all (deal_moves currency (next_deal t p s)) b → s' ≡ s
      → Made currency (opening_at_price t p s0) s0 b0 strip0 s' b' strip count
  ended s' b' f g h = by (next_deal t p s) next f g
    where
      by : (o : Option Deal) → Next t p s o → None ≡ trade_in o → b' ≡ moved_all (deal_moves currency o) b → Made currency (opening_at_price t p s0) s0 b0 strip0 s' b' strip count
      by (Some d) e f g = absurd (let z : ◌≡◌ {A = ℕ} 0 1 = cc in omega arith)
      by None e f g =
          record {
            trades = omega (arith, ap (λ (z : Opened). length z.deals) e, here.counts);
            strips = sym (written_none count strip) ∙ ap (λ (z : Opened). written count (trades_of z.deals) strip) (sym e) ∙ here.strips;
            book = g ∙ ap (λ (z : Opened). moved_all (moves_of currency z) b) (sym e) ∙ here.book;
            sheet = h ∙ sym (none-opened s) ∙ ap (λ (z : Opened). opened_with z s) (sym e) ∙ here.sheet;
          }

-- ---- at the opening price, where there is one
pub priced-opening : (t price : ℕ) (s : Sheet) → Some price ≡ opening_price_lem s.buys s.sells → opening_of t s ≡ opening_at_price t price s
unfolding opening
priced-opening t price s e = ap (λ (o : Option ℕ). opening_at t o s.buys s.sells) (sym e)

pub no-opening : (t currency : ℕ) (s : Sheet) (b : Book) (strip : List Trade) → None ≡ opening_price_lem s.buys s.sells → Made currency (opening_of t s) s b strip s b strip 0
unfolding opening
no-opening t currency s b strip e =
    subst (λ (o : Option ℕ). Made currency (opening_at t o s.buys s.sells) s b strip s b strip 0) e
    (record { trades = refl; strips = sym (written_none 0 strip); book = refl; sheet = sym (none-opened s) })
