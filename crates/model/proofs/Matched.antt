-- The laws of matching, from the graph of meeting a queue.
use Rattle.model.specs.Words.{ℕ, refl, Bool, true, false, cond, ltb, eqb, List, [], map, AllByRecursion, Memᴰ, Option, Some, None}
use Rattle.std.proofs.Common.{◌≤◌, ◌≡◌, ◌&&◌, ◌∷◌, ap, ◌∙◌, subst, append-nil, arith}
use Rattle.std.proofs.lemmas.Bool.Decides.{nat_tests}
use Rattle.std.proofs.ByRecursion.{All-weaker}
use Rattle.model.specs.Market.{Side, Buy, Sell, other, Session, Closed, PreTrading, Trading, PostTrading, by_session, Bid, Standing}
use Rattle.model.specs.Queues.{with_lots, by_price, before}
use Rattle.model.specs.Matching.{Met, trades_of, crosses, taking, untouched, whole_or_none}
use Rattle.model.specs.Serving.{Served, Along, number_in, holder_in, numbers_of}
use Rattle.model.specs.Serving.Served.{none, part, whole}
use Rattle.model.specs.Serving.Along.{end}
use Rattle.model.specs.World.{World, queue}
use Rattle.model.specs.Bidding.{limit_of, next_number, met, rest, newcomer}
use Rattle.model.specs.Calls.{entered}
use Rattle.model.specs.MatchingLaws.{RankingsAreLawful, Own, Fair, meeting, MatchingIsRight, EntireOrNone, EntireIsWhole, QueuesStayRanked}
use Rattle.model.specs.MatchingLaws.EntireOrNone.{matched, nothing}
use Rattle.model.proofs.Meeting.{meet-graph, meets-served, meets-few, meets-made, meets-done, HasLots, meets-own, meets-theirs, meets-along}
use Rattle.ranking.specs.Ranks.{OrderLaws, Ranked, insert_ranked}
use Rattle.ranking.proofs.Ranked.{insert_ranked-ranked}

-- ---- rankings
price-lawful : (side : Side) → OrderLaws (by_price side)
price-lawful Buy = record { irreflexive = λ x. grind (arith, nat_tests); transitive = λ x y z p q. grind (arith, nat_tests); negative = λ x y z p q. grind (arith, nat_tests) }
price-lawful Sell = record { irreflexive = λ x. grind (arith, nat_tests); transitive = λ x y z p q. grind (arith, nat_tests); negative = λ x y z p q. grind (arith, nat_tests) }

pub rankings-are-lawful : RankingsAreLawful
rankings-are-lawful Closed side = price-lawful side
rankings-are-lawful PreTrading side = price-lawful side
rankings-are-lawful Trading side = price-lawful side
rankings-are-lawful PostTrading side = record { irreflexive = λ x. grind (arith, nat_tests); transitive = λ x y z p q. grind (arith, nat_tests); negative = λ x y z p q. grind (arith, nat_tests) }

-- the rank of a bid does not depend on its lots
pub price-blind : (side : Side) (x y : Standing) (n : ℕ) → by_price side y (with_lots x n) ≡ by_price side y x
price-blind Buy x y n = refl
price-blind Sell x y n = refl

pub rank-blind : (session : Session) (side : Side) (x y : Standing) (n : ℕ) → before session side y (with_lots x n) ≡ before session side y x
rank-blind Closed side x y n = price-blind side x y n
rank-blind PreTrading side x y n = price-blind side x y n
rank-blind Trading side x y n = price-blind side x y n
rank-blind PostTrading side x y n = refl

pub served-ranked : (ahead : Standing → Standing → Bool) → ((x y : Standing) (n : ℕ) → ahead y (with_lots x n) ≡ ahead y x)
    → {q r : List Standing} → Served q r → Ranked ahead q → Ranked ahead r
served-ranked ahead blind none h = h
served-ranked ahead blind (part {x = x} {queue = q} n z l) h =
    (All-weaker (λ y. ahead y x ≡ false) (λ y. ahead y (with_lots x n) ≡ false) (λ y e. blind x y n ∙ e) q h.0, h.1)
served-ranked ahead blind (whole s) h = served-ranked ahead blind s h.1

-- ---- what a newcomer's deals say
module _ (number : ℕ) (b : Bid) (limit : Option ℕ) where
  pub takes-lots : (side : Side) → HasLots (taking number b limit side)
  takes-lots Buy x k = refl
  takes-lots Sell x k = refl

  takes-names : (side : Side) (x : Standing) (k : ℕ) → number_in (other side) (taking number b limit side x k).trade ≡ x.number
  takes-names Buy x k = refl
  takes-names Sell x k = refl

  takes-holder : (side : Side) (x : Standing) (k : ℕ) → holder_in (other side) (taking number b limit side x k).trade ≡ x.holder
  takes-holder Buy x k = refl
  takes-holder Sell x k = refl

  takes-mine : (side : Side) (x : Standing) (k : ℕ) → ((taking number b limit side x k).trade.ticker ≡ b.ticker)
      × (number_in side (taking number b limit side x k).trade ≡ number) × (holder_in side (taking number b limit side x k).trade ≡ b.holder)
  takes-mine Buy x k = (refl, refl, refl)
  takes-mine Sell x k = (refl, refl, refl)

  takes-price : (side : Side) (x : Standing) (k : ℕ) → (taking number b limit side x k).trade.price ≡ x.price
  takes-price Buy x k = refl
  takes-price Sell x k = refl

  takes-fair : (side : Side) (q : List Standing) (x : Standing) (k : ℕ) → Memᴰ x q → crosses side limit x.price ≡ true
      → Fair side limit q (taking number b limit side x k).trade
  takes-fair side q x k m e = record {
    maker = x;
    stood = m;
    number = takes-names side x k;
    holder = takes-holder side x k;
    price = takes-price side x k;
    allowed = ap (crosses side limit) (takes-price side x k) ∙ e;
  }

-- what the buyer has blocked covers the price that is crossed
takes-covered : (number : ℕ) (b : Bid) (limit : Option ℕ) (side : Side) (x : Standing) (k : ℕ) → crosses side limit x.price ≡ true
    → (taking number b limit side x k).trade.price ≤ (taking number b limit side x k).held
takes-covered number b (Some l) Buy x k e = grind (arith, nat_tests)
takes-covered number b None Buy x k e = omega arith
takes-covered number b limit Sell x k e = omega arith

-- behind a bid that is not crossed none is
not-crossed : (side : Side) (limit : Option ℕ) (x y : Standing) → crosses side limit x.price ≡ false → by_price (other side) y x ≡ false → crosses side limit y.price ≡ false
not-crossed Buy (Some l) x y e h = grind (arith, nat_tests)
not-crossed Buy None x y e h = e
not-crossed Sell (Some l) x y e h = grind (arith, nat_tests)
not-crossed Sell None x y e h = e

pub all_map : {X Y : Type 0} (P : X → Type 0) (Q : Y → Type 0) (f : X → Y) → ((x : X) → P x → Q (f x)) → (xs : List X) → AllByRecursion P xs → AllByRecursion Q (map f xs)
all_map P Q f h [] a = tt
all_map P Q f h (x ∷ xs) a = (h x a.0, all_map P Q f h xs a.1)

pub matching-is-right : MatchingIsRight 1
matching-is-right number b limit q =
    let side = b.side in
    let m = meeting number b limit q in
    let g = meet-graph (crosses side limit) (taking number b limit side) b.lots q in
    record {
      own = meets-own (takes-lots number b limit side) g;
      theirs = λ k. meets-theirs (takes-lots number b limit side) (other side) (takes-names number b limit side) k g;
      fair = all_map (λ d. Fair side limit q d.trade) (Fair side limit q) (λ d. d.trade) (λ d h. h) m.deals
          (meets-made (λ d. Fair side limit q d.trade) g (takes-fair number b limit side q));
      mine = all_map (λ d. Own number b d.trade) (Own number b) (λ d. d.trade) (λ d h. h) m.deals
          (meets-made (λ d. Own number b d.trade) g
          (λ x k z e. let h = takes-mine number b limit side x k in record { ticker = h.0; number = h.1; holder = h.2 }));
      covered = meets-made (λ d. d.trade.price ≤ d.held) g (λ x k z e. takes-covered number b limit side x k e);
      order = subst (λ z. Along z (numbers_of q)) (append-nil (map (number_in (other side)) (trades_of m.deals)))
          (meets-along (takes-lots number b limit side) (other side) (takes-names number b limit side) g [] end);
      served = meets-served g;
      few = (meets-few g).0;
      ranked = λ session s. served-ranked (before session s) (rank-blind session s) (meets-served g);
      done = λ r p. meets-done g p (λ x. crosses side limit x.price ≡ false) (λ x e. e)
          (λ x xs s e. All-weaker (λ y. by_price (other side) y x ≡ false) (λ y. crosses side limit y.price ≡ false) (λ y. not-crossed side limit x y e) xs
          (served-ranked (by_price (other side)) (price-blind (other side)) s r).0);
    }

-- ---- entire bids
pub entire-is-whole : EntireIsWhole
entire-is-whole b q m = step b.entire (ltb 0 m.left) refl refl
  where
    step : (t p : Bool) → b.entire ≡ t → ltb 0 m.left ≡ p → EntireOrNone b q m (cond (t && p) (untouched b.lots q) m)
    step true true e f = nothing e (grind (arith, nat_tests))
    step true false e f = matched (λ _. grind (arith, nat_tests))
    step false p e f = matched (λ h. absurd (grind (arith, nat_tests)))

-- ---- what a bid meets, by cases: nothing is touched, or the queue is met
pub encounter-by : (w : World) (b : Bid) (P : Met → Type 0) → P (untouched b.lots (queue w b.ticker (other b.side)))
    → P (meeting (next_number w) b (limit_of w b) (queue w b.ticker (other b.side))) → P (met w b)
encounter-by w b P untouched' met' = step w.session
  where
    m : Met
    m = meeting (next_number w) b (limit_of w b) (queue w b.ticker (other b.side))

    still : Met
    still = untouched b.lots (queue w b.ticker (other b.side))

    split : (t : Bool) → P (cond t still m)
    split true = untouched'
    split false = met'

    step : (s : Session) → P (by_session still still (whole_or_none b (queue w b.ticker (other b.side)) m) (whole_or_none b (queue w b.ticker (other b.side)) m) s)
    step Closed = untouched'
    step PreTrading = untouched'
    step Trading = split (b.entire && ltb 0 m.left)
    step PostTrading = split (b.entire && ltb 0 m.left)

-- ---- queues stay ranked
pub encounter-served : (w : World) (b : Bid) → Served (queue w b.ticker (other b.side)) (met w b).queue
encounter-served w b =
    encounter-by w b (λ m. Served (queue w b.ticker (other b.side)) m.queue) none
    (meets-served (meet-graph (crosses b.side (limit_of w b)) (taking (next_number w) b (limit_of w b) b.side) b.lots (queue w b.ticker (other b.side))))

module _ (w : World) (b : Bid) where
  entered-ranked : Ranked (before w.session b.side) (queue w b.ticker b.side) → Ranked (before w.session b.side) (entered w b)
  entered-ranked r = step (eqb (rest w b) 0)
    where
      step : (t : Bool) → Ranked (before w.session b.side)
          (cond t (queue w b.ticker b.side) (insert_ranked (before w.session b.side) (newcomer w b) (queue w b.ticker b.side)))
      step true = r
      step false = insert_ranked-ranked (before w.session b.side) (rankings-are-lawful w.session b.side) (newcomer w b) (queue w b.ticker b.side) r

pub queues-stay-ranked : QueuesStayRanked
queues-stay-ranked w b = record {
  own = entered-ranked w b;
  others = served-ranked (before w.session (other b.side)) (rank-blind w.session (other b.side)) (encounter-served w b);
}
