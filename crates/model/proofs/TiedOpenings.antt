-- The opening keeps the tally tied to the queues.
use Rattle.model.specs.Words.{ℕ, refl, Bool, true, false, cond, not, leb, ltb, eqb, List, [], joined, AllByRecursion, length, sum_of, kept, only, Option, Some, None, is_some, Permᴰ}
use Rattle.std.proofs.Common.{◌+◌, ◌*◌, ◌≤◌, ◌≡◌, ◌∷◌, ◌++◌, sym, ap, ◌∙◌, subst, inl, inr, arith}
use Rattle.std.proofs.lemmas.Bool.Decides.{nat_tests}
use Rattle.std.proofs.ByRecursion.{All-weaker, All-append}
use Rattle.std.proofs.lemmas.Bool.{cases_eq, lt-ltb, ne_eqb, cond-false, true≢false}
use Rattle.model.specs.Market.{Side, Buy, Sell, Session, PreTrading, is_post_trading, Standing, Trade, tickers, ticker_known}
use Rattle.model.specs.Queues.{with_lots}
use Rattle.model.specs.Average.{cost_of, lots_of}
use Rattle.model.specs.Matching.{Deal, Met, trades_of, meet}
use Rattle.model.specs.Opening.{Opened, unopened, auctioned, uncross, opening_price_lem, opening_at, opening}
use Rattle.model.specs.Serving.{Served}
use Rattle.model.specs.World.{World, queue, queue_of}
use Rattle.model.specs.Movements.{opened_at}
use Rattle.model.specs.Calls.{open_sheet}
use Rattle.model.specs.Tally.{Tally, takings, held_to, standing_of}
use Rattle.model.specs.Sound.{Sound, Fit}
use Rattle.model.specs.Law.{Tied}
use Rattle.model.proofs.Meeting.{Meets, meet-graph, meets-made, meets-served}
use Rattle.model.proofs.Matched.{all_map}
use Rattle.model.proofs.Sums.{by-ticker, alone, sum_same}
use Rattle.model.proofs.Quiet.{all-tickers}
use Rattle.model.proofs.Paying.{Payable}
use Rattle.model.proofs.Facing.{served-all}
use Rattle.model.proofs.Auction.{all-mem, opened-at, open-on}
use Rattle.model.proofs.Takings.{listed, takes, takes-perm, takes-append, takes-nothing, taken-from, listed-takings, joined-append, Distinct, distinct, Absent, Naming, meets-takes, meets-takes-own, all-missed}
use Rattle.model.proofs.Tallies.{held-priced, same-listed, standing-listed, all-takings, kept_append, ticker-sum, in_queue, absent-here, absent-there}
use Rattle.rules.specs.Rules.{Rule}

abbrev Avoids : List Standing → List Trade → Type 0
Avoids z xs = AllByRecursion (λ x. Absent x.buy z × Absent x.sell z) xs

abbrev Apart : List Standing → List Standing → Type 0
Apart z q = AllByRecursion (λ x. Absent x.number z) q

auctioned-names : (t o : ℕ) (b : Standing) → Naming (auctioned t o b) b.number
auctioned-names t o b = record { lots = λ x k. refl; hit = λ x k. grind (arith, nat_tests); hit_new = λ x k. grind (arith, nat_tests); miss = λ x k q u v. (v, u) }

takes-split : (xs : List Trade) (p q : List Standing) → takes xs (p ++ q) ≡ takes xs p ++ takes xs q
takes-split [] p q = refl
takes-split (x ∷ xs) p q = ap (takes xs) (joined-append (taken-from x) p q) ∙ takes-split xs (joined (taken-from x) p) (joined (taken-from x) q)

trades-join : (xs ys : List Deal) → trades_of (xs ++ ys) ≡ trades_of xs ++ trades_of ys
trades-join [] ys = refl
trades-join (x ∷ xs) ys = ap (λ z. x.trade ∷ z) (trades-join xs ys)

-- numbers do not depend on lots
apart-served : (z : List Standing) {q r : List Standing} → Served q r → Apart z q → Apart z r
apart-served z s a = served-all (λ x. Absent x.number z) (λ x n h. h) s a

absent-served : (n : ℕ) {q r : List Standing} → Served q r → Absent n q → Absent n r
absent-served n s a = served-all (λ x. x.number ≡ n → ⊥) (λ x k h. h) s a

distinct-served : {q r : List Standing} → Served q r → Distinct q → Distinct r
distinct-served Served.none d = d
distinct-served (Served.part n z l) d = (d.0, d.1)
distinct-served (Served.whole s) d = distinct-served s d.1

-- ---- the trades of one ticker
one-avoids : (t o : ℕ) (b : Standing) (z sells : List Standing) {n : ℕ} {m : Met} → Meets (λ p. leb p o) (auctioned t o b) n sells m → Absent b.number z → Apart z sells → Avoids z (trades_of m.deals)
one-avoids t o b z sells {m = m} g u v =
    all_map (λ d. Absent d.trade.buy z × Absent d.trade.sell z) (λ x. Absent x.buy z × Absent x.sell z) (λ d. d.trade) (λ d h. h) m.deals
    (meets-made (λ d. Absent d.trade.buy z × Absent d.trade.sell z) g (λ x k i e. (auctioned-names t o b).miss x k z (all-mem (λ x. Absent x.number z) v i) u))

uncross-avoids : (t o : ℕ) (z buys sells : List Standing) → Apart z buys → Apart z sells → Avoids z (trades_of (uncross t o buys sells).deals)
unfolding uncross
uncross-avoids t o z [] sells u v = tt
uncross-avoids t o z (b ∷ buys) sells u v =
    let g = meet-graph (λ p. leb p o) (auctioned t o b) b.lots sells in
    by (leb o b.price) (one-avoids t o b z sells g u.0 v) (uncross-avoids t o z buys (meet (λ p. leb p o) (auctioned t o b) b.lots sells).queue u.1 (apart-served z (meets-served g) v))
  where
    by : (c : Bool)
        → let m = meet (λ p. leb p o) (auctioned t o b) b.lots sells in
        let r = uncross t o buys m.queue in
        Avoids z (trades_of m.deals) → Avoids z (trades_of r.deals)
        → Avoids z (trades_of (cond c
        (record { deals = m.deals ++ r.deals; buys = only (ltb 0 m.left) (with_lots b m.left) ++ r.buys; sells = r.sells })
        (unopened (b ∷ buys) sells)).deals)
    by false p q = tt
    by true p q =
        let m = meet (λ p. leb p o) (auctioned t o b) b.lots sells in
        let r = uncross t o buys m.queue in
        subst (Avoids z) (sym (trades-join m.deals r.deals)) (All-append (λ x. Absent x.buy z × Absent x.sell z) (trades_of m.deals) (trades_of r.deals) p q)

pub record Both (buys sells : List Standing) (r : Opened) : Type 0 where
  pub of_buys : takes (trades_of r.deals) buys ≡ r.buys
  pub of_sells : takes (trades_of r.deals) sells ≡ r.sells

flip : (p q : List Standing) → Apart p q → Apart q p
flip [] q a = tt
flip (x ∷ p) q a = (heads q a, flip p q (All-weaker (λ y. Absent y.number (x ∷ p)) (λ y. Absent y.number p) (λ y h. h.1) q a))
  where
    heads : (q : List Standing) → Apart (x ∷ p) q → Absent x.number q
    heads [] a = tt
    heads (y ∷ q) a = ((λ e. a.0.0 (sym e)), heads q a.1)

uncross-takes : (t o : ℕ) (buys sells : List Standing) → Distinct buys → Distinct sells → Apart buys sells → AllByRecursion (λ x. 1 ≤ x.lots) buys → Both buys sells (uncross t o buys sells)
unfolding uncross
uncross-takes t o [] sells d e a l = record { of_buys = refl; of_sells = refl }
uncross-takes t o (b ∷ buys) sells d e a l =
    let g = meet-graph (λ p. leb p o) (auctioned t o b) b.lots sells in
    let m = meet (λ p. leb p o) (auctioned t o b) b.lots sells in
    let tails : Apart buys sells = All-weaker (λ y. Absent y.number (b ∷ buys)) (λ y. Absent y.number buys) (λ y h. h.1) sells a in
    by (leb o b.price) g tails (flip (b ∷ buys) sells a).0 (uncross-takes t o buys m.queue d.1 (distinct-served (meets-served g) e) (apart-served buys (meets-served g) tails) l.1)
  where
    by : (c : Bool)
        → let m = meet (λ p. leb p o) (auctioned t o b) b.lots sells in
        let r = uncross t o buys m.queue in
        Meets (λ p. leb p o) (auctioned t o b) b.lots sells m → Apart buys sells → Absent b.number sells → Both buys m.queue r
        → Both (b ∷ buys) sells
        (cond c
        (record { deals = m.deals ++ r.deals; buys = only (ltb 0 m.left) (with_lots b m.left) ++ r.buys; sells = r.sells })
        (unopened (b ∷ buys) sells))
    by false g u v i = record { of_buys = refl; of_sells = refl }
    by true g u v i =
        let m = meet (λ p. leb p o) (auctioned t o b) b.lots sells in
        let r = uncross t o buys m.queue in
        let ms = trades_of m.deals in
        let rs = trades_of r.deals in
        let both : (q : List Standing) → takes (trades_of (m.deals ++ r.deals)) q ≡ takes rs (takes ms q) = λ q. ap (λ z. takes z q) (trades-join m.deals r.deals) ∙ takes-append ms rs q in
        record {
          of_buys =
              both (b ∷ buys)
              ∙ ap (takes rs) (takes-split ms (b ∷ []) buys ∙ ap (λ z. takes ms z ++ takes ms buys) own_row ∙ ap (λ z. z ++ takes ms buys) (meets-takes-own (auctioned-names t o b) b refl g)
              ∙ ap (λ z. only (ltb 0 m.left) (with_lots b m.left) ++ z) (all-missed ms buys (one-avoids t o b buys sells g d.0 u)))
              ∙ takes-split rs (only (ltb 0 m.left) (with_lots b m.left)) buys
              ∙ ap (λ z. z ++ takes rs buys) (all-missed rs (only (ltb 0 m.left) (with_lots b m.left)) (left-avoided m.left (ltb 0 m.left) g))
              ∙ ap (λ z. only (ltb 0 m.left) (with_lots b m.left) ++ z) i.of_buys;
          of_sells = both sells ∙ ap (takes rs) (meets-takes (auctioned-names t o b) g e v) ∙ i.of_sells;
        }
      where
        own_row : b ∷ [] ≡ only (ltb 0 b.lots) (with_lots b b.lots)
        own_row = sym (ap (λ (c : Bool). only c (with_lots b b.lots)) (lt-ltb 0 b.lots l.0))

        alone-apart : (n : ℕ) (q : List Standing) → Absent b.number q → (c : Bool) → Apart (only c (with_lots b n)) q
        alone-apart n [] h c = tt
        alone-apart n (x ∷ q) h true = (((λ z. h.0 (sym z)), tt), alone-apart n q h.1 true)
        alone-apart n (x ∷ q) h false = (tt, alone-apart n q h.1 false)

        left-avoided : (n : ℕ) (c : Bool) → Meets (λ p. leb p o) (auctioned t o b) b.lots sells (meet (λ p. leb p o) (auctioned t o b) b.lots sells)
            → Avoids (only c (with_lots b n)) (trades_of (uncross t o buys (meet (λ p. leb p o) (auctioned t o b) b.lots sells).queue).deals)
        left-avoided n c g =
            uncross-avoids t o (only c (with_lots b n)) buys (meet (λ p. leb p o) (auctioned t o b) b.lots sells).queue (alone-apart n buys d.0 c)
            (alone-apart n _ (absent-served b.number (meets-served g) (flip (b ∷ buys) sells a).0) c)

opening-takes : (t : ℕ) (buys sells : List Standing) → Distinct buys → Distinct sells → Apart buys sells → AllByRecursion (λ x. 1 ≤ x.lots) buys → Both buys sells (opening t buys sells)
unfolding opening
opening-takes t buys sells d e a l = by (opening_price_lem buys sells)
  where
    by : (z : Option ℕ) → Both buys sells (opening_at t z buys sells)
    by None = record { of_buys = refl; of_sells = refl }
    by (Some o) = uncross-takes t o buys sells d e a l

opening-avoids : (t : ℕ) (z buys sells : List Standing) → Apart z buys → Apart z sells → Avoids z (trades_of (opening t buys sells).deals)
unfolding opening
opening-avoids t z buys sells u v = by (opening_price_lem buys sells)
  where
    by : (o : Option ℕ) → Avoids z (trades_of (opening_at t o buys sells).deals)
    by None = tt
    by (Some o) = uncross-avoids t o z buys sells u v

-- ---- all tickers: the trades of the others miss, those of its own do it
module _ (X : ℕ → List Trade) (u : ℕ) (q r : List Standing) (hit : takes (X u) q ≡ r)
    (miss-q : (t : ℕ) → (t ≡ u → ⊥) → takes (X t) q ≡ q) (miss-r : (t : ℕ) → (t ≡ u → ⊥) → takes (X t) r ≡ r) where
  never : (ts : List ℕ) → sum_of (λ t. cond (eqb t u) 1 0) ts ≡ 0 → takes (joined X ts) r ≡ r
  never [] e = refl
  never (t ∷ ts) e = takes-append (X t) (joined X ts) r ∙ ap (takes (joined X ts)) (miss-r t (λ z. absurd (not-it z))) ∙ never ts (omega (arith, e))
    where
      not-it : t ≡ u → ⊥
      not-it z = grind (arith, nat_tests)

  pub just-once : (ts : List ℕ) → sum_of (λ t. cond (eqb t u) 1 0) ts ≡ 1 → takes (joined X ts) q ≡ r
  just-once [] e = absurd (omega arith)
  just-once (t ∷ ts) e = elim (cases_eq t u) [
    | inl z ↦ takes-append (X t) (joined X ts) q ∙ ap (takes (joined X ts)) (ap (λ (v : ℕ). takes (X v) q) z ∙ hit) ∙ never ts (now z)
    | inr ne ↦ takes-append (X t) (joined X ts) q ∙ ap (takes (joined X ts)) (miss-q t ne) ∙ just-once ts (later ne)
  ]
    where
      now : t ≡ u → sum_of (λ t. cond (eqb t u) 1 0) ts ≡ 0
      now z = grind (arith, nat_tests)

      later : (t ≡ u → ⊥) → sum_of (λ t. cond (eqb t u) 1 0) ts ≡ 1
      later ne = grind (arith, nat_tests)

pub pick : (g : ℕ → ℕ) (u : ℕ) → ticker_known u ≡ true → sum_of (λ t. cond (eqb u t) (g t) 0) tickers ≡ g u
pick g = by-ticker (λ u. sum_of (λ t. cond (eqb u t) (g t) 0) tickers ≡ g u) (omega arith) (omega arith) (omega arith) (omega arith) (omega arith) (omega arith) (omega arith) (omega arith)

pub pick-none : (g : ℕ → ℕ) (u : ℕ) → ticker_known u ≡ false → sum_of (λ t. cond (eqb u t) (g t) 0) tickers ≡ 0
pick-none g u e = sum_same (λ t. cond (eqb u t) (g t) 0) (λ t. 0) tickers (all-tickers (λ t. cond (eqb u t) (g t) 0 ≡ 0) (λ t k. cond-false (eqb u t) (g t) 0 (ne_eqb u t (λ z. true≢false (sym k ∙ ap ticker_known (sym z) ∙ e)))))

sums-joined : (f : Trade → ℕ) (X : ℕ → List Trade) (u : ℕ) (ts : List ℕ) → ((t : ℕ) → AllByRecursion (λ x. x.ticker ≡ t) (X t)) → sum_of f (kept (λ x. eqb x.ticker u) (joined X ts)) ≡ sum_of (λ t. cond (eqb u t) (sum_of f (X t)) 0) ts
sums-joined f X u [] h = refl
sums-joined f X u (t ∷ ts) h = kept_append (λ x. eqb x.ticker u) f (X t) (joined X ts) ∙ omega (arith, ticker-sum f t u (X t) (h t), sums-joined f X u ts h)

empty-sum : (f : Trade → ℕ) (xs : List Trade) → length xs ≤ 0 → sum_of f xs ≡ 0
empty-sum f [] e = refl
empty-sum f (x ∷ xs) e = absurd (omega arith)

module _ (r : Rule) (w : World) (s : Sound r.step w) (pre : w.session ≡ PreTrading) (y : Tally) (tied : Tied w y) where
  abbrev X : ℕ → List Trade
  X t = trades_of (opened_at w t).deals

  abbrev xs : List Trade
  xs = joined X tickers

  abbrev y' : Tally
  y' = record { sums = y.sums; listing = y.listing; trades = y.trades ++ xs; standing = takings xs y.standing; running = true }

  own-takes : (u : ℕ) → Both (queue w u Buy) (queue w u Sell) (opened_at w u)
  own-takes u =
      opening-takes u (queue w u Buy) (queue w u Sell) (distinct (queue w u Buy) (λ n. in_queue r.step w s n u Buy)) (distinct (queue w u Sell) (λ n. in_queue r.step w s n u Sell))
      (absent-here r.step w s u Buy) (All-weaker (Fit r.step w.given) (λ x. 1 ≤ x.lots) (λ x f. f.fewest) (queue w u Buy) (s.fit u Buy))

  own-hit : (u : ℕ) (d : Side) → takes (X u) (queue w u d) ≡ queue_of (open_sheet w u) d
  own-hit u Buy = (own-takes u).of_buys
  own-hit u Sell = (own-takes u).of_sells

  own-served : (u : ℕ) (d : Side) → Served (queue w u d) (queue_of (open_sheet w u) d)
  own-served u Buy = (opened-at r w s pre u).buys_served
  own-served u Sell = (opened-at r w s pre u).sells_served

  miss : (u t : ℕ) (d : Side) (z : List Standing) → Served (queue w u d) z → (t ≡ u → ⊥) → takes (X t) z ≡ z
  miss u t d z v ne =
      all-missed (X t) z (opening-avoids t z (queue w t Buy) (queue w t Sell) (apart Buy) (apart Sell))
    where
      apart : (e : Side) → Apart z (queue w t e)
      apart e = All-weaker (λ x. Absent x.number (queue w u d)) (λ x. Absent x.number z) (λ x h. absent-served x.number v h) (queue w t e) (absent-there r.step w s u t d e (λ q. ne (sym q)))

  all-takes : (u : ℕ) (d : Side) → takes xs (queue w u d) ≡ queue_of (open_sheet w u) d
  all-takes u d = by (ticker_known u) refl
    where
      by : (c : Bool) → ticker_known u ≡ c → takes xs (queue w u d) ≡ queue_of (open_sheet w u) d
      by true e = just-once X u (queue w u d) (queue_of (open_sheet w u) d) (own-hit u d) (λ t ne. miss u t d (queue w u d) Served.none ne) (λ t ne. miss u t d (queue_of (open_sheet w u) d) (own-served u d) ne) tickers (alone 1 u e)
      by false e = ap (takes xs) (s.strange u d e) ∙ takes-nothing xs ∙ sym ((open-on r w s pre u).strange d e)

  all-priced : AllByRecursion (λ k. is_some k.bid.price ≡ true) y.standing
  all-priced = All-weaker (λ k. is_some k.bid.price ≡ not (is_post_trading w.session)) (λ k. is_some k.bid.price ≡ true) (λ k f. f ∙ ap (λ (x : Session). not (is_post_trading x)) pre) y.standing tied.form

  pub open-queues : (u : ℕ) (d : Side) → Permᴰ (standing_of y' u d) (queue_of (open_sheet w u) d)
  open-queues u d =
      subst (λ (z : List Standing). Permᴰ z (queue_of (open_sheet w u) d))
      (sym (standing-listed y' u d ∙ listed-takings (held_to y') u d xs y.standing
      ∙ ap (takes xs) (same-listed (held_to y') (held_to y) u d y.standing (All-weaker (λ k. is_some k.bid.price ≡ true) (λ k. held_to y' k.bid ≡ held_to y k.bid) (λ k f. held-priced y' y k.bid f) y.standing all-priced))))
      (subst (Permᴰ (takes xs (listed (held_to y) u d y.standing))) (all-takes u d) (takes-perm xs (subst (λ (z : List Standing). Permᴰ z (queue w u d)) (standing-listed y u d) (tied.queues u d))))

  tickers-here : (t : ℕ) → AllByRecursion (λ x. x.ticker ≡ t) (X t)
  tickers-here t = all_map (Payable t) (λ x. x.ticker ≡ t) (λ d. d.trade) (λ d p. p.ticker) (opened_at w t).deals (opened-at r w s pre t).payable

  day-sum : (f : Trade → ℕ) (u : ℕ) → sum_of f (kept (λ x. eqb x.ticker u) (y.trades ++ xs)) ≡ sum_of f (kept (λ x. eqb x.ticker u) y.trades) + sum_of f (X u)
  day-sum f u = kept_append (λ x. eqb x.ticker u) f y.trades xs ∙ ap (λ (z : ℕ). sum_of f (kept (λ x. eqb x.ticker u) y.trades) + z) (sums-joined f X u tickers tickers-here ∙ by (ticker_known u) refl)
    where
      by : (c : Bool) → ticker_known u ≡ c → sum_of (λ t. cond (eqb u t) (sum_of f (X t)) 0) tickers ≡ sum_of f (X u)
      by true e = pick (λ t. sum_of f (X t)) u e
      by false e =
          pick-none (λ t. sum_of f (X t)) u e
          ∙ sym (empty-sum f (X u) (omega (arith, (opened-at r w s pre u).clearing.count, ap (λ (q : List Standing). length q) (s.strange u Buy e), ap (λ (q : List Standing). length q) (s.strange u Sell e))))

  pub open-worth : (u : ℕ) → cost_of (kept (λ x. eqb x.ticker u) (y.trades ++ xs)) ≡ (open_sheet w u).worth
  open-worth u = day-sum (λ x. x.price * x.lots) u ∙ ap (λ (z : ℕ). z + cost_of (X u)) (tied.worth u)

  pub open-traded : (u : ℕ) → lots_of (kept (λ x. eqb x.ticker u) (y.trades ++ xs)) ≡ (open_sheet w u).traded
  open-traded u = day-sum (λ x. x.lots) u ∙ ap (λ (z : ℕ). z + lots_of (X u)) (tied.traded u)

  pub open-known : AllByRecursion (λ z. ticker_known z.bid.ticker ≡ true) (takings xs y.standing)
  open-known = all-takings (λ z. ticker_known z.ticker ≡ true) xs y.standing tied.known

  pub open-form : AllByRecursion (λ z. is_some z.bid.price ≡ true) (takings xs y.standing)
  open-form = all-takings (λ z. is_some z.price ≡ true) xs y.standing all-priced
