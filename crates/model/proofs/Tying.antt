-- The tally stays tied to the world over every call, and the law follows.
use Rattle.model.specs.Words.{ℕ, refl, Bool, true, false, cond, not, eqb, List, [], AllByRecursion, sum_of, kept, only, Option, Some, None, is_some, or_else, Permᴰ}
use Rattle.std.proofs.Common.{◌+◌, ◌%◌, ◌≡◌, ◌&&◌, ◌∷◌, ◌++◌, sym, ap, ◌∙◌, subst, arith}
use mathlib.Core.List.Permᴰ
use Rattle.std.proofs.lemmas.Bool.Decides.{nat_tests}
use Rattle.std.proofs.ByRecursion.{All-weaker}
use Rattle.std.proofs.lemmas.Bool.{eqb-true, and_parts, true≢false}
use Rattle.model.specs.Market.{Call, Start, Deposit, Withdraw, Place, Cancel, Open, EndTrading, EndPostTrading, Side, Buy, Sell, same_side, Session, Closed, PreTrading, Trading, PostTrading, is_closed, is_trading, is_post_trading, Standing, Listing, tickers, ticker_known}
use Rattle.model.specs.Average.{cost_of, lots_of}
use Rattle.model.specs.Listings.{asset_of_lem}
use Rattle.model.specs.World.{World, queue, made}
use Rattle.model.specs.Checks.{why, checks}
use Rattle.model.specs.Calls.{accepted, trades_made, next, after, cancel_sheet}
use Rattle.model.specs.Tally.{Tally, Kept, fed, blank, tallied, tally_of, held_to, standing_of}
use Rattle.model.specs.Tally as tally
use Rattle.model.specs.Runs.{run, log, entry_of}
use Rattle.model.specs.Sound.{Fit, Sound, all_owing, sheet_owing, owing, obliges}
use Rattle.model.specs.Law.{Law, Ready, Tied, Together, EveryRun, GoingOn}
use Rattle.model.proofs.Sums.{by_side, all-kept, sum_same}
use Rattle.model.proofs.Making.{made-sound}
use Rattle.model.proofs.Sheets.{passed, must-true, with-sheet}
use Rattle.model.proofs.Quiet.{cancellable, all-tickers}
use Rattle.model.proofs.Placing.{taken}
use Rattle.model.proofs.Auction.{is-pre}
use Rattle.model.proofs.Soundness.{calls-keep-sound}
use Rattle.model.proofs.Stepping.{stepping}
use Rattle.model.proofs.Balances.{Balanced, next-balanced, made-balanced}
use Rattle.model.proofs.Takings.{listed, belongs, shown}
use Rattle.model.proofs.Tallies.{standing-listed}
use Rattle.model.proofs.TiedBids.{bid-queues, bid-worth, bid-traded, bid-known, bid-form}
use Rattle.model.proofs.TiedCancels.{cancel-queues}
use Rattle.model.proofs.TiedOpenings.{pick, open-queues, open-worth, open-traded, open-known, open-form}
use Rattle.register.specs.Books.{Book, at}
use Rattle.ranking.proofs.Perms.{all-perm}
use Rattle.rules.specs.Bids.{obligation_of}
use Rattle.rules.specs.Rules.{Rule, Lawful}

balanced : (w : World) (y : Tally) → Tied w y → Balanced w y
balanced w y t = record { sums = t.sums; blocked = t.blocked; listing = t.listing }

perm-sum : (f : Standing → ℕ) {xs ys : List Standing} → Permᴰ xs ys → sum_of f xs ≡ sum_of f ys
perm-sum f Permᴰ.nil = refl
perm-sum f (Permᴰ.cons e p) = let ih = perm-sum f p in let h = ap f e in omega arith
perm-sum f (Permᴰ.swap e d) = let h = ap f e in let k = ap f d in omega arith
perm-sum f (Permᴰ.trans p q) = let h = perm-sum f p in let k = perm-sum f q in omega arith

-- where nothing stood and nothing stands
nobody : (q : List Standing) (ks : List Standing) → Permᴰ ks q → q ≡ [] → ks ≡ []
nobody q ks p e = empty ks (subst (Permᴰ ks) e p)
  where
    empty : (ks : List Standing) → Permᴰ ks [] → ks ≡ []
    empty [] p = refl
    empty (k ∷ ks) p = absurd (omega (arith, perm-sum (λ (x : Standing). 1) p))

-- a closed floor's tally has no standing bid
member-shown : (y : Tally) (k : Kept) (ks : List Kept) → y.standing ≡ k ∷ ks → standing_of y k.bid.ticker k.bid.side ≡ [] → ⊥
member-shown y k ks e f =
    let g : listed (held_to y) k.bid.ticker k.bid.side (k ∷ ks) ≡ [] = ap (listed (held_to y) k.bid.ticker k.bid.side) (sym e) ∙ sym (standing-listed y k.bid.ticker k.bid.side) ∙ f in
    seen (eqb k.bid.ticker k.bid.ticker && same_side k.bid.side k.bid.side) (mine k.bid.side) g
  where
    mine : (d : Side) → (eqb k.bid.ticker k.bid.ticker && same_side d d) ≡ true
    mine Buy = grind (arith, nat_tests)
    mine Sell = grind (arith, nat_tests)

    seen : (q : Bool) → q ≡ true → only q (shown (held_to y) k.bid.ticker k.bid.side k) ++ listed (held_to y) k.bid.ticker k.bid.side ks ≡ [] → ⊥
    seen true e f = grind arith
    seen false e f = true≢false (sym e)

none-standing : (y : Tally) → ((t : ℕ) (d : Side) → standing_of y t d ≡ []) → y.standing ≡ []
none-standing y h = by y.standing refl
  where
    by : (ks : List Kept) → y.standing ≡ ks → ks ≡ []
    by [] e = refl
    by (k ∷ ks) e = absurd (member-shown y k ks e (h k.bid.ticker k.bid.side))

is-trading : (x : Session) → is_trading x ≡ true → x ≡ Trading
is-trading Closed e = absurd (true≢false (sym e))
is-trading PreTrading e = absurd (true≢false (sym e))
is-trading Trading e = refl
is-trading PostTrading e = absurd (true≢false (sym e))

not-running-closed : (x : Session) → is_closed x ≡ true → is_trading x ≡ false
not-running-closed Closed e = refl
not-running-closed PreTrading e = absurd (true≢false (sym e))
not-running-closed Trading e = absurd (true≢false (sym e))
not-running-closed PostTrading e = absurd (true≢false (sym e))

not-running-post : (x : Session) → is_post_trading x ≡ true → is_trading x ≡ false
not-running-post Closed e = absurd (true≢false (sym e))
not-running-post PreTrading e = absurd (true≢false (sym e))
not-running-post Trading e = absurd (true≢false (sym e))
not-running-post PostTrading e = refl

pub next-tied : (r : Rule) → Lawful r → (w : World) (c : Call) (y : Tally) → Sound r.step w → why r w c ≡ None → Tied w y → Tied (next w c) (fed c (accepted w c) (trades_made w c) y)
next-tied r lawful w (Start l) y s e t =
    let b = next-balanced r lawful w (Start l) y s e (balanced w y t) in
    let closed = must-true _ _ (passed (checks r w (Start l)) e).0 in
    let none : (u : ℕ) (d : Side) → standing_of y u d ≡ [] = λ u d. nobody (queue w u d) (standing_of y u d) (t.queues u d) (s.shut closed u d) in
    let no-bids = none-standing y none in
    record {
      sums = b.sums;
      blocked = b.blocked;
      listing = b.listing;
      running = t.running ∙ not-running-closed w.session closed;
      worth = λ u. refl;
      traded = λ u. refl;
      queues = λ u d. start-queues no-bids (s.shut closed) u d;
      known = t.known;
      form = subst (AllByRecursion (λ k. is_some k.bid.price ≡ true)) (sym no-bids) tt;
    }
  where
    start-queues : y.standing ≡ [] → ((u : ℕ) (d : Side) → queue w u d ≡ []) → (u : ℕ) (d : Side) → Permᴰ (standing_of (fed (Start l) (accepted w (Start l)) [] y) u d) (queue (next w (Start l)) u d)
    start-queues no-bids shut u Buy =
        subst (λ (q : List Standing). Permᴰ (standing_of (fed (Start l) (accepted w (Start l)) [] y) u Buy) q) (sym (shut u Buy))
        (subst (λ (ks : List Kept). Permᴰ (standing_of (record { sums = y.sums; listing = l; trades = []; standing = ks; running = y.running }) u Buy) []) (sym no-bids) Permᴰ.nil)
    start-queues no-bids shut u Sell =
        subst (λ (q : List Standing). Permᴰ (standing_of (fed (Start l) (accepted w (Start l)) [] y) u Sell) q) (sym (shut u Sell))
        (subst (λ (ks : List Kept). Permᴰ (standing_of (record { sums = y.sums; listing = l; trades = []; standing = ks; running = y.running }) u Sell) []) (sym no-bids) Permᴰ.nil)
next-tied r lawful w (Deposit h a n) y s e t =
    let b = next-balanced r lawful w (Deposit h a n) y s e (balanced w y t) in
    record { sums = b.sums; blocked = b.blocked; listing = b.listing; running = t.running; worth = t.worth; traded = t.traded; queues = t.queues; known = t.known; form = t.form }
next-tied r lawful w (Withdraw h a n) y s e t =
    let b = next-balanced r lawful w (Withdraw h a n) y s e (balanced w y t) in
    record { sums = b.sums; blocked = b.blocked; listing = b.listing; running = t.running; worth = t.worth; traded = t.traded; queues = t.queues; known = t.known; form = t.form }
next-tied r lawful w (Place shown bid room) y s e t =
    let b = next-balanced r lawful w (Place shown bid room) y s e (balanced w y t) in
    let k = taken r lawful w shown bid room e in
    record {
      sums = b.sums;
      blocked = b.blocked;
      listing = b.listing;
      running = t.running;
      worth = bid-worth r w bid k s y t;
      traded = bid-traded r w bid k s y t;
      queues = bid-queues r w bid k s y t;
      known = bid-known r w bid k s y t;
      form = bid-form r w bid k s y t;
    }
next-tied r lawful w (Cancel shown h u n) y s e t =
    let b = next-balanced r lawful w (Cancel shown h u n) y s e (balanced w y t) in
    let sheets = w.sheets in
    record {
      sums = b.sums;
      blocked = b.blocked;
      listing = b.listing;
      running = t.running;
      worth = λ v. with-sheet (λ v z. cost_of (kept (λ x. eqb x.ticker v) y.trades) ≡ z.worth) w.sheets u (cancel_sheet (w.sheets u) h n) (t.worth u) v (t.worth v);
      traded = λ v. with-sheet (λ v z. lots_of (kept (λ x. eqb x.ticker v) y.trades) ≡ z.traded) w.sheets u (cancel_sheet (w.sheets u) h n) (t.traded u) v (t.traded v);
      queues = cancel-queues r w shown h u n (cancellable r w shown h u n e) s y t;
      known = all-kept (λ x. not (eqb x.number n)) (λ k. ticker_known k.bid.ticker ≡ true) y.standing t.known;
      form = all-kept (λ x. not (eqb x.number n)) (λ k. is_some k.bid.price ≡ not (is_post_trading w.session)) y.standing t.form;
    }
next-tied r lawful w (Open room) y s e t =
    let b = next-balanced r lawful w (Open room) y s e (balanced w y t) in
    let pre = is-pre r w room e in
    record {
      sums = b.sums;
      blocked = b.blocked;
      listing = b.listing;
      running = refl;
      worth = open-worth r w s pre y t;
      traded = open-traded r w s pre y t;
      queues = open-queues r w s pre y t;
      known = open-known r w s pre y t;
      form = open-form r w s pre y t;
    }
next-tied r lawful w EndTrading y s e t =
    let b = next-balanced r lawful w EndTrading y s e (balanced w y t) in
    record {
      sums = b.sums;
      blocked = b.blocked;
      listing = b.listing;
      running = refl;
      worth = t.worth;
      traded = t.traded;
      queues = λ u. by_side (λ d. Permᴰ (standing_of (fed EndTrading (accepted w EndTrading) [] y) u d) (queue (next w EndTrading) u d)) Permᴰ.nil Permᴰ.nil;
      known = tt;
      form = tt;
    }
next-tied r lawful w EndPostTrading y s e t =
    let b = next-balanced r lawful w EndPostTrading y s e (balanced w y t) in
    record {
      sums = b.sums;
      blocked = b.blocked;
      listing = b.listing;
      running = t.running ∙ not-running-post w.session (must-true _ _ (passed (checks r w EndPostTrading) e).0);
      worth = t.worth;
      traded = t.traded;
      queues = λ u. by_side (λ d. Permᴰ (standing_of (fed EndPostTrading (accepted w EndPostTrading) [] y) u d) (queue (next w EndPostTrading) u d)) Permᴰ.nil Permᴰ.nil;
      known = tt;
      form = tt;
    }

-- ---- from the tie to the law
held-obliges : (side : Side) (o : Option ℕ) (n : ℕ) → obligation_of side (Some (or_else o 0)) n ≡ obligation_of side o n
held-obliges Buy (Some p) n = refl
held-obliges Buy None n = omega arith
held-obliges Sell o n = refl

same-side : (d e : Side) → same_side d e ≡ true → d ≡ e
same-side Buy Buy e = refl
same-side Buy Sell e = absurd (true≢false (sym e))
same-side Sell Buy e = absurd (true≢false (sym e))
same-side Sell Sell e = refl

module _ (y : Tally) (h a : ℕ) where
  abbrev F : Kept → ℕ
  F k = tally.obliges y k h a

  one-obliges : (t : ℕ) (d : Side) (k : Kept) → belongs (held_to y) t d k ≡ true → obliges y.listing t d (shown (held_to y) t d k) h a ≡ F k
  one-obliges t d k e =
      let ps = and_parts (eqb k.bid.ticker t) (same_side d k.bid.side) e in
      let tick : t ≡ k.bid.ticker = sym (eqb-true k.bid.ticker t ps.0) in
      let side : d ≡ k.bid.side = same-side d k.bid.side ps.1 in
      ap (λ (n : ℕ). at k.bid.holder (asset_of_lem y.listing t d) n h a) (held-obliges d (held_to y k.bid) k.lots)
      ∙ ap (λ (z : ℕ). at k.bid.holder (asset_of_lem y.listing z d) (obligation_of d (held_to y k.bid) k.lots) h a) tick
      ∙ ap (λ (z : Side). at k.bid.holder (asset_of_lem y.listing k.bid.ticker z) (obligation_of z (held_to y k.bid) k.lots) h a) side

  of-queue : (t : ℕ) (d : Side) (ks : List Kept) → owing y.listing t d (listed (held_to y) t d ks) h a ≡ sum_of (λ k. cond (belongs (held_to y) t d k) (F k) 0) ks
  of-queue t d [] = refl
  of-queue t d (k ∷ ks) = by (belongs (held_to y) t d k) refl (of-queue t d ks)
    where
      by : (q : Bool) → belongs (held_to y) t d k ≡ q → owing y.listing t d (listed (held_to y) t d ks) h a ≡ sum_of (λ k. cond (belongs (held_to y) t d k) (F k) 0) ks
          → owing y.listing t d (only q (shown (held_to y) t d k) ++ listed (held_to y) t d ks) h a ≡ cond q (F k) 0 + sum_of (λ k. cond (belongs (held_to y) t d k) (F k) 0) ks
      by true e ih = omega (arith, one-obliges t d k e, ih)
      by false e ih = omega (arith, ih)

  -- each bid is counted at one ticker and side
  abbrev part : Kept → ℕ → ℕ
  part k t = cond (belongs (held_to y) t Buy k) (F k) 0 + cond (belongs (held_to y) t Sell k) (F k) 0

  either_side : (b : Bool) (d : Side) (n : ℕ) → cond (b && same_side Buy d) n 0 + cond (b && same_side Sell d) n 0 ≡ cond b n 0
  either_side true Buy n = omega arith
  either_side true Sell n = omega arith
  either_side false d n = omega arith

  once-each : (k : Kept) → ticker_known k.bid.ticker ≡ true → sum_of (part k) tickers ≡ F k
  once-each k e =
      sum_same (part k) (λ t. cond (eqb k.bid.ticker t) (F k) 0) tickers (all-tickers (λ t. part k t ≡ cond (eqb k.bid.ticker t) (F k) 0) (λ t _. either_side (eqb k.bid.ticker t) k.bid.side (F k)))
      ∙ pick (λ t. F k) k.bid.ticker e

  sum-add : (f g : ℕ → ℕ) (ts : List ℕ) → sum_of (λ t. f t + g t) ts ≡ sum_of f ts + sum_of g ts
  sum-add f g [] = refl
  sum-add f g (t ∷ ts) = omega (arith, sum-add f g ts)

  all-zero : (ts : List ℕ) → sum_of (λ t. 0 + 0) ts ≡ 0
  all-zero [] = refl
  all-zero (t ∷ ts) = omega (arith, all-zero ts)

  over-all : (ks : List Kept) → AllByRecursion (λ k. ticker_known k.bid.ticker ≡ true) ks
      → sum_of (λ t. sum_of (λ k. cond (belongs (held_to y) t Buy k) (F k) 0) ks + sum_of (λ k. cond (belongs (held_to y) t Sell k) (F k) 0) ks) tickers ≡ sum_of F ks
  over-all [] e = all-zero tickers
  over-all (k ∷ ks) e =
      sum_same (λ t. (cond (belongs (held_to y) t Buy k) (F k) 0 + sum_of (λ k. cond (belongs (held_to y) t Buy k) (F k) 0) ks) + (cond (belongs (held_to y) t Sell k) (F k) 0 + sum_of (λ k. cond (belongs (held_to y) t Sell k) (F k) 0) ks)) (λ t. part k t + rest t) tickers (all-tickers (λ t. (cond (belongs (held_to y) t Buy k) (F k) 0 + sum_of (λ k. cond (belongs (held_to y) t Buy k) (F k) 0) ks) + (cond (belongs (held_to y) t Sell k) (F k) 0 + sum_of (λ k. cond (belongs (held_to y) t Sell k) (F k) 0) ks) ≡ part k t + rest t) (λ t _. omega arith))
      ∙ sum-add (part k) rest tickers
      ∙ omega (arith, once-each k e.0, over-all ks e.1)
    where
      rest : ℕ → ℕ
      rest t = sum_of (λ k. cond (belongs (held_to y) t Buy k) (F k) 0) ks + sum_of (λ k. cond (belongs (held_to y) t Sell k) (F k) 0) ks

tied-obliged : (w : World) (y : Tally) → Tied w y → (h a : ℕ) → all_owing w h a ≡ sum_of (λ k. tally.obliges y k h a) y.standing
tied-obliged w y t h a =
    sum_same (λ u. sheet_owing w.listing u (w.sheets u) h a) (λ u. sum_of (λ k. cond (belongs (held_to y) u Buy k) (F y h a k) 0) y.standing + sum_of (λ k. cond (belongs (held_to y) u Sell k) (F y h a k) 0) y.standing) tickers
    (all-tickers (λ u. sheet_owing w.listing u (w.sheets u) h a ≡ sum_of (λ k. cond (belongs (held_to y) u Buy k) (F y h a k) 0) y.standing + sum_of (λ k. cond (belongs (held_to y) u Sell k) (F y h a k) 0) y.standing) (λ u _. omega (arith, one u Buy, one u Sell)))
    ∙ over-all y h a y.standing t.known
  where
    one : (u : ℕ) (d : Side) → owing w.listing u d (queue w u d) h a ≡ sum_of (λ k. cond (belongs (held_to y) u d k) (F y h a k) 0) y.standing
    one u d =
        sym (perm-sum (λ x. obliges w.listing u d x h a) (t.queues u d))
        ∙ ap (λ (l : Listing). owing l u d (standing_of y u d) h a) (sym t.listing)
        ∙ ap (λ (q : List Standing). owing y.listing u d q h a) (standing-listed y u d)
        ∙ of-queue y h a u d y.standing

pub law-holds : (r : Rule) (w : World) (y : Tally) → Together r w y → Law r w y
law-holds r w y b =
    let s = b.sound in
    let t = b.tied in
    record {
      totals = t.sums;
      obliged = λ h a i j. t.blocked h a i j ∙ tied-obliged w y t h a;
      queues = t.queues;
      ranked = s.ranked;
      steps = λ u d. all-perm (λ x. x.lots % r.step ≡ 0) (Permᴰ.symm (t.queues u d)) (All-weaker (Fit r.step w.given) (λ x. x.lots % r.step ≡ 0) (λ x f. f.whole) (queue w u d) (s.fit u d));
      uncrossed = λ e. s.uncrossed (sym t.running ∙ e);
    }

-- ---- every list of calls
starts : (r : Rule) (b : Book) → Ready b → Together r (made b) (blank b)
starts r b ready =
    let m = made-balanced b ready in
    record {
      sound = made-sound r.step b;
      tied = record {
        sums = m.sums;
        blocked = m.blocked;
        listing = refl;
        running = refl;
        worth = λ t. refl;
        traded = λ t. refl;
        queues = λ t. by_side (λ d. Permᴰ (standing_of (blank b) t d) (queue (made b) t d)) Permᴰ.nil Permᴰ.nil;
        known = tt;
        form = tt;
      };
    }

goes_on : (r : Rule) → Lawful r → (w : World) (y : Tally) → Together r w y → (cs : List Call) → Together r (run r w cs) (tally_of y (log r w cs))
goes_on r lawful w y b [] = b
goes_on r lawful w y b (c ∷ cs) =
    goes_on r lawful (after r w c) (tallied (entry_of r w c) y)
    (record { sound = calls-keep-sound r lawful w c b.sound; tied = stepping Tied r w c y b.tied (λ e. next-tied r lawful w c y b.sound e b.tied) }) cs

pub going_on : GoingOn
going_on = record { starts = starts; goes_on = goes_on; lawful = law-holds }

pub every-run : EveryRun
every-run r lawful b ready cs = law-holds r _ _ (goes_on r lawful (made b) (blank b) (starts r b ready) cs)
