-- A bid keeps the invariant, and its movements are granted: the whole of it.
use Rattle.model.specs.Words.{ℕ, suc, refl, Bool, true, false, cond, ltb, eqb, List, [], AllByRecursion, length, sum_of, Option, Some, None, or_else, only}
use Rattle.std.proofs.Common.{◌+◌, ◌*◌, ◌%◌, ◌≤◌, ◌<◌, ◌≡◌, ◌++◌, sym, ap, ◌∙◌, subst, inl, inr, append-nil, arith}
use Rattle.std.proofs.lemmas.Bool.Decides.{nat_tests}
use Rattle.std.proofs.ByRecursion.{All-weaker}
use Rattle.std.proofs.lemmas.Bool.{true≢false, cond_both, cond-true, cond-false, and_parts, ltb-false, eqb-true, eqb-false, cases_eq}
use Rattle.model.specs.Market.{Side, Buy, Sell, other, Session, Closed, PreTrading, Trading, PostTrading, is_trading, is_post_trading, Bid, Standing, Trade, Listing, Place, tickers, queue_places}
use Rattle.model.specs.Queues.{by_price, before, with_lots}
use Rattle.model.specs.Average.{cost_of, lots_of, average}
use Rattle.model.specs.Listings.{quote_of, asset_of_lem}
use Rattle.model.specs.Matching.{crosses}
use Rattle.model.specs.World.{Sheet, World, queue_of, queue, sheet_by, average_of}
use Rattle.model.specs.Bidding.{limit_of, next_number, met, bid_trades, rest, owed, newcomer}
use Rattle.model.specs.Checks.{why, within_limits, has_place_lem, by_register}
use Rattle.model.specs.Movements.{moved_all, settlements, bid_moves}
use Rattle.model.specs.Calls.{next, entered, counted, bid_sheet, with_sheet}
use Rattle.model.specs.Sound.{Fit, Sound, all_owing, sheet_owing, times, times_on, owing, obliges, standing_lots}
use Rattle.model.proofs.Matched.{queues-stay-ranked}
use Rattle.model.proofs.Sums.{sum_same}
use Rattle.model.proofs.Paying.{Made, Takes, uses, made-join, made-from, takes_none, takes_beside, takes-release, takes-deals}
use Rattle.model.proofs.Sheets.{register-none, currency-known, asset-known, ticker-within, OnSheet, on-sheet, sound-from, with-sheet, sheets-changed}
use Rattle.model.proofs.Quiet.{holders, all-tickers}
use Rattle.model.proofs.Facing.{spent, served-length, served-times, served-all, served-fit}
use Rattle.model.proofs.Encounters.{Faced, faced, Rests, rests, stands-within}
use Rattle.model.proofs.Placing.{Taken, taken, lots-within, Priced, price-within, average-within, cost-bounds, sum-inserted, Below, buys_of, Parts, parts-on, old_apart, not-crossed, by-price, fit-more, given-more, unseen}
use Rattle.register.specs.Books.{Sums, at}
use Rattle.register.specs.Moves as move
use Rattle.register.specs.Moves.{refusal}
use Rattle.register.proofs.Accounts.{at-add, at_none, at-covered}
use Rattle.register.proofs.Grants.{free-block}
use Rattle.ranking.specs.Ranks.{Ranked, insert_ranked}
use Rattle.ranking.proofs.Perms.{all-insert_ranked, length-insert_ranked}
use Rattle.rules.specs.Bids.{most_price, most_lots, obligation_of, is_price_lem}
use Rattle.rules.specs.Rules.{Rule, Lawful}

module _ (r : Rule) (w : World) (b : Bid) (k : Taken r w b) (s : Sound r.step w) where
  abbrev t : ℕ
  t = b.ticker

  abbrev side : Side
  side = b.side

  abbrev l : Listing
  l = w.listing

  abbrev asset : ℕ
  asset = asset_of_lem l t side

  abbrev own : List Standing
  own = queue w t side

  abbrev others : List Standing
  others = queue w t (other side)

  abbrev limit : Option ℕ
  limit = limit_of w b

  abbrev sheet : Sheet
  sheet = w.sheets t

  o : OnSheet r.step w.session w.given t sheet
  o = on-sheet r.step w s t

  pub face : Faced l r.step b limit others w.session (met w b)
  face =
      let f = s.fit t (other side) in
      faced l r.step (next_number w) b limit others k.holder k.whole (holders r.step w.given others f)
      (All-weaker (Fit r.step w.given) (λ x. x.lots % r.step ≡ 0) (λ x g. g.whole) others f)
      (All-weaker (Fit r.step w.given) (λ x. (1 ≤ x.price) × (x.price ≤ most_price)) (λ x g. (g.cheapest, g.highest)) others f)
      w.session

  -- ---- the rest
  pub rested : 0 < rest w b → Rests b limit (met w b)
  rested h = rests b limit (met w b) h

  rest-within : rest w b ≤ (met w b).left
  rest-within = stands-within b limit (met w b)

  limit-within : (p : ℕ) → limit ≡ Some p → Priced p
  limit-within p e = by (is_post_trading w.session) e
    where
      by : (u : Bool) → cond u (average_of sheet) b.price ≡ Some p → Priced p
      by true e = average-within sheet.worth sheet.traded p (s.cheapest t) (s.dearest t) e
      by false e = price-within b.price p (priced k.limits) e
        where
          priced : within_limits b ≡ true → elim b.price [ Some q ↦ is_price_lem q | None ↦ true ] ≡ true
          priced e = (and_parts _ _ e).0

  pub newcomer-price : (h : 0 < rest w b) → (newcomer w b).price ≡ (rested h).limit_price
  newcomer-price h = ap (λ (z : Option ℕ). or_else z 0) (rested h).limited

  newcomer-fit : 0 < rest w b → Fit r.step (next_number w) (newcomer w b)
  newcomer-fit h =
      let q = rested h in
      let p = limit-within q.limit_price q.limited in
      let e = newcomer-price h in
      let n = lots-within b k.limits in
      record {
        holder = k.holder;
        first = omega arith;
        last = omega arith;
        cheapest = omega (arith, p.0, e);
        highest = omega (arith, p.1, e);
        fewest = omega (arith, h);
        most = omega (arith, rest-within, face.own, n.1);
        whole = ap (λ (z : ℕ). z % r.step) q.all_left ∙ face.left_steps;
      }

  -- whatever holds of the queue and of the newcomer, holds of the queue that the rest entered
  pub entered_by : (P : List Standing → Type 0) → (rest w b ≡ 0 → P own) → (0 < rest w b → P (insert_ranked (before w.session side) (newcomer w b) own)) → P (entered w b)
  entered_by P p q =
      cond_both (eqb (rest w b) 0) own (insert_ranked (before w.session side) (newcomer w b) own) P
      (λ e. p (eqb-true (rest w b) 0 e)) (λ e. q (positive (rest w b) (eqb-false (rest w b) 0 e)))
    where
      positive : (n : ℕ) → (n ≡ 0 → ⊥) → 0 < n
      positive n ne = omega arith

  entered_all : (P : Standing → Type 0) → AllByRecursion P own → (0 < rest w b → P (newcomer w b)) → AllByRecursion P (entered w b)
  entered_all P a p = entered_by (AllByRecursion P) (λ _. a) (λ h. all-insert_ranked (before w.session side) (newcomer w b) P own (p h) a)

  -- what the newcomer adds to a sum over its queue
  abbrev added : (Standing → ℕ) → ℕ
  added f = cond (eqb (rest w b) 0) 0 (f (newcomer w b))

  entered-sum : (f : Standing → ℕ) → sum_of f (entered w b) ≡ sum_of f own + added f
  entered-sum f = by (eqb (rest w b) 0)
    where
      by : (u : Bool) → sum_of f (cond u own (insert_ranked (before w.session side) (newcomer w b) own)) ≡ sum_of f own + cond u 0 (f (newcomer w b))
      by true = omega arith
      by false = omega (arith, sum-inserted f (before w.session side) (newcomer w b) own)

  entered-length : length (entered w b) ≤ queue_places
  entered-length =
      entered_by (λ q. length q ≤ queue_places) (λ _. s.places t side)
      (λ h. let e = length-insert_ranked (before w.session side) (newcomer w b) own in omega (arith, e, room h k.place))
    where
      room : 0 < rest w b → has_place_lem w b ≡ true → suc (length own) ≤ queue_places
      room h e = grind (arith, nat_tests)

  -- ---- the sheet
  abbrev worth : ℕ
  worth = sheet.worth + counted w.session (cost_of (bid_trades w b))

  abbrev traded : ℕ
  traded = sheet.traded + counted w.session (lots_of (bid_trades w b))

  counted-within : (session : Session) (n : ℕ) → counted session n ≤ n
  counted-within Closed n = omega arith
  counted-within PreTrading n = omega arith
  counted-within Trading n = omega arith
  counted-within PostTrading n = omega arith

  counted-cheapest : (session : Session) (c n : ℕ) → n ≤ c → counted session n ≤ counted session c
  counted-cheapest Closed c n h = omega arith
  counted-cheapest PreTrading c n h = omega arith
  counted-cheapest Trading c n h = omega arith
  counted-cheapest PostTrading c n h = omega arith

  counted-dearest : (session : Session) (c n : ℕ) → c ≤ most_price * n → counted session c ≤ most_price * counted session n
  counted-dearest Closed c n h = omega arith
  counted-dearest PreTrading c n h = omega arith
  counted-dearest Trading c n h = omega arith
  counted-dearest PostTrading c n h = omega arith

  uncounted : (session : Session) (n m : ℕ) → is_post_trading session ≡ true → n + counted session m ≡ n
  uncounted Closed n m e = absurd (true≢false (sym e))
  uncounted PreTrading n m e = absurd (true≢false (sym e))
  uncounted Trading n m e = absurd (true≢false (sym e))
  uncounted PostTrading n m e = omega arith

  same-average : is_post_trading w.session ≡ true → average worth traded ≡ average_of sheet
  same-average e =
      ap (λ (z : ℕ). average z traded) (uncounted w.session sheet.worth (cost_of (bid_trades w b)) e)
      ∙ ap (λ (z : ℕ). average sheet.worth z) (uncounted w.session sheet.traded (lots_of (bid_trades w b)) e)

  post-limit : is_post_trading w.session ≡ true → average_of sheet ≡ limit
  post-limit e = sym (cond-true (is_post_trading w.session) (average_of sheet) b.price e)

  bought-here : (d : Side) → (own others : List Standing) → sheet.traded + standing_lots (queue_of sheet Buy) ≤ most_lots * w.given
      → b.lots ≤ most_lots → lots_of (bid_trades w b) + (met w b).left ≡ b.lots
      → (d ≡ Buy → standing_lots own ≤ standing_lots (queue_of sheet Buy) + (met w b).left)
      → (d ≡ Sell → standing_lots (queue_of sheet Buy) ≡ lots_of (bid_trades w b) + standing_lots others)
      → traded + standing_lots (buys_of d own others) ≤ most_lots * next_number w
  bought-here Buy own others u v e f g = omega (arith, u, v, e, f refl, counted-within w.session (lots_of (bid_trades w b)))
  bought-here Sell own others u v e f g = omega (arith, u, v, e, g refl, counted-within w.session (lots_of (bid_trades w b)))

  added-lots : added (λ x. x.lots) ≤ (met w b).left
  added-lots = by (eqb (rest w b) 0)
    where
      by : (u : Bool) → cond u 0 (rest w b) ≤ (met w b).left
      by true = omega arith
      by false = rest-within

  parts : Parts r.step w.session (next_number w) t side (entered w b) (met w b).queue worth traded
  parts =
      let n = lots-within b k.limits in
      let c = cost-bounds (bid_trades w b) face.prices in
      let more : w.given ≤ next_number w = omega arith in
      record {
        known = k.ticker;
        not_closed = k.not_closed;
        fit = entered_all (Fit r.step (next_number w)) (fit-more r.step w.given (next_number w) more own (s.fit t side)) newcomer-fit;
        fits = served-fit r.step (next_number w) face.served face.steps (fit-more r.step w.given (next_number w) more others (s.fit t (other side)));
        place = entered-length;
        places = omega (arith, served-length face.served, s.places t (other side));
        ranked = (queues-stay-ranked w b).own (s.ranked t side);
        rankeds = (queues-stay-ranked w b).others (s.ranked t (other side));
        apart = λ e. entered_all (λ x. AllByRecursion (Below side x) (met w b).queue) (still e) (newly e);
        averaged = λ e. entered_all (λ x. average worth traded ≡ Some x.price)
            (All-weaker (λ x. average_of sheet ≡ Some x.price) (λ x. average worth traded ≡ Some x.price) (λ x g. same-average e ∙ g) own (s.averaged e t side))
            (λ h. same-average e ∙ post-limit e ∙ (rested h).limited ∙ ap Some (sym (newcomer-price h)));
        averageds = λ e. All-weaker (λ x. average_of sheet ≡ Some x.price) (λ x. average worth traded ≡ Some x.price) (λ x g. same-average e ∙ g) (met w b).queue
            (served-all (λ x. average_of sheet ≡ Some x.price) (λ x n g. g) face.served (s.averaged e t (other side)));
        cheapest = omega (arith, s.cheapest t, counted-cheapest w.session (cost_of (bid_trades w b)) (lots_of (bid_trades w b)) c.0);
        dearest = omega (arith, s.dearest t, counted-dearest w.session (cost_of (bid_trades w b)) (lots_of (bid_trades w b)) c.1);
        bought = bought-here side (entered w b) (met w b).queue (s.bought t) n.1 face.own mine theirs;
      }
    where
      mine : side ≡ Buy → standing_lots (entered w b) ≤ standing_lots (queue_of sheet Buy) + (met w b).left
      mine e = let q = ap (λ (d : Side). standing_lots (queue_of sheet d)) e in omega (arith, q, entered-sum (λ x. x.lots), added-lots)

      theirs : side ≡ Sell → standing_lots (queue_of sheet Buy) ≡ lots_of (bid_trades w b) + standing_lots (met w b).queue
      theirs e = let q = ap (λ (d : Side). standing_lots (queue_of sheet (other d))) e in omega (arith, q, face.theirs)

      still : is_trading w.session ≡ true → AllByRecursion (λ x. AllByRecursion (Below side x) (met w b).queue) own
      still e =
          All-weaker (λ x. AllByRecursion (Below side x) others) (λ x. AllByRecursion (Below side x) (met w b).queue) (λ x a. served-all (Below side x) (price-only side x) face.served a) own
          (old_apart r.step w.session w.given t sheet side (on-sheet r.step w s t) e)
        where
          price-only : (d : Side) (x y : Standing) (n : ℕ) → Below d x y → Below d x (with_lots y n)
          price-only Buy x y n h = h
          price-only Sell x y n h = h

      newly : is_trading w.session ≡ true → 0 < rest w b → AllByRecursion (Below side (newcomer w b)) (met w b).queue
      newly e h =
          let q = rested h in
          let ranked : Ranked (by_price (other side)) others = subst (λ (z : Standing → Standing → Bool). Ranked z others) (by-price w.session (other side) e) (s.ranked t (other side)) in
          let some : 0 < (met w b).left = omega (arith, h, rest-within) in
          All-weaker (λ x. crosses side limit x.price ≡ false) (Below side (newcomer w b))
          (λ x c. not-crossed side q.limit_price (newcomer w b) x (newcomer-price h) (ap (λ (z : Option ℕ). crosses side z x.price) (sym q.limited) ∙ c)) (met w b).queue
          (face.done e q.partial ranked some)

  bid-on : (u : ℕ) → OnSheet r.step w.session (next_number w) u (with_sheet w.sheets t (bid_sheet w b) u)
  bid-on u =
      with-sheet (OnSheet r.step w.session (next_number w)) w.sheets t (bid_sheet w b)
      (parts-on r.step w.session (next_number w) t side (entered w b) (met w b).queue worth traded parts)
      u (given-more r.step w.session w.given (next_number w) u (w.sheets u) (omega arith) (on-sheet r.step w s u))

  -- ---- numbers
  by-sheet : (f : Standing → ℕ) → (d : Side) (own others : List Standing) (x y : ℕ)
      → sum_of f (sheet_by d own others x y).buys + sum_of f (sheet_by d own others x y).sells ≡ sum_of f own + sum_of f others
  by-sheet f Buy own others x y = refl
  by-sheet f Sell own others x y = omega arith

  by-queue : (f : Standing → ℕ) (d : Side) (z : Sheet) → sum_of f z.buys + sum_of f z.sells ≡ sum_of f (queue_of z d) + sum_of f (queue_of z (other d))
  by-queue f Buy z = refl
  by-queue f Sell z = omega arith

  number-once : (n : ℕ) → sum_of (λ u. times_on n (with_sheet w.sheets t (bid_sheet w b) u)) tickers ≤ 1
  number-once n =
      let f : Standing → ℕ = λ x. cond (eqb x.number n) 1 0 in
      let change = sheets-changed (λ u z. times_on n z) w.sheets t (bid_sheet w b) k.ticker in
      let new = by-sheet (λ x. cond (eqb x.number n) 1 0) side (entered w b) (met w b).queue worth traded in
      let old = by-queue (λ x. cond (eqb x.number n) 1 0) side sheet in
      let ent = entered-sum (λ x. cond (eqb x.number n) 1 0) in
      let srv = served-times n face.served in
      elim (cases_eq n (next_number w)) [
        | inl e ↦ omega (arith, change, new, old, ent, srv, none_yet e, at_most_one n)
        | inr ne ↦ omega (arith, change, new, old, ent, srv, s.once n, not-this ne)
      ]
    where
      at_most_one : (n : ℕ) → added (λ x. cond (eqb x.number n) 1 0) ≤ 1
      at_most_one n = grind (arith, nat_tests)

      not-this : (n ≡ next_number w → ⊥) → added (λ x. cond (eqb x.number n) 1 0) ≡ 0
      not-this ne = grind (arith, nat_tests)

      none_yet : n ≡ next_number w → times w n ≡ 0
      none_yet e =
          let more : w.given < n = omega arith in
          sum_same (λ u. times_on n (w.sheets u)) (λ u. 0) tickers
          (all-tickers (λ u. times_on n (w.sheets u) ≡ 0) (λ u _. omega (arith, unseen r.step w.given n (queue w u Buy) more (s.fit u Buy), unseen r.step w.given n (queue w u Sell) more (s.fit u Sell))))

  -- ---- the movements
  abbrev over : ℕ
  over = obligation_of side limit (met w b).left

  asset-is : asset < 12
  asset-is = asset-known l t side (s.listing k.not_closed) k.ticker

  -- the block
  block_made : Made l (only (ltb 0 (owed w b)) (move.Block b.holder asset (owed w b))) [] w.book (λ h a. all_owing w h a + at b.holder asset (owed w b) h a)
  block_made = by (ltb 0 (owed w b)) refl
    where
      grant : ltb 0 (owed w b) ≡ true → refusal w.book (move.Block b.holder asset (owed w b)) ≡ None
      grant e =
          let z : eqb (owed w b) 0 ≡ false = grind (arith, nat_tests) in
          register-none (refusal w.book (move.Block b.holder asset (owed w b)))
          (sym (cond-false (eqb (owed w b) 0) None (by_register (refusal w.book (move.Block b.holder asset (owed w b)))) z) ∙ k.paid)

      by : (u : Bool) → ltb 0 (owed w b) ≡ u → Made l (only u (move.Block b.holder asset (owed w b))) [] w.book (λ h a. all_owing w h a + at b.holder asset (owed w b) h a)
      by true e =
          let free = free-block w.book b.holder asset (owed w b) (grant e) in
          record {
            granted = (grant e, tt);
            blocked = λ h a i j. omega (arith, s.backed k.not_closed h a i j);
            sums = λ f g h a i j. omega (arith, g h a i j, at-covered w.book.free b.holder asset (owed w b) h a free);
            covered = λ f g. tt;
          }
      by false e =
          let z : owed w b ≡ 0 = let q = ltb-false 0 (owed w b) e in omega arith in
          record {
            granted = tt;
            blocked = λ h a i j. omega (arith, s.backed k.not_closed h a i j, ap (λ (n : ℕ). at b.holder asset n h a) z, at_none b.holder asset h a);
            sums = λ f g. g;
            covered = λ f g. tt;
          }

  abbrev final : Sums
  final = λ h a. sum_of (λ u. sheet_owing l u (with_sheet w.sheets t (bid_sheet w b) u) h a) tickers

  -- what is released at the end, where nothing stands
  abbrev given_back : Sums
  given_back = λ h a. cond (eqb (rest w b) 0) (at b.holder asset over h a) 0

  by-owing : (d : Side) (own others : List Standing) (x y h a : ℕ)
      → sheet_owing l t (sheet_by d own others x y) h a ≡ owing l t d own h a + owing l t (other d) others h a
  by-owing Buy own others x y h a = refl
  by-owing Sell own others x y h a = omega arith

  old-owing : (d : Side) (z : Sheet) (h a : ℕ) → sheet_owing l t z h a ≡ owing l t d (queue_of z d) h a + owing l t (other d) (queue_of z (other d)) h a
  old-owing Buy z h a = refl
  old-owing Sell z h a = omega arith

  -- what the newcomer adds is its obligation for the lots left, or else it is released
  added-owing : (h a : ℕ) → added (λ x. obliges l t side x h a) + given_back h a ≡ at b.holder asset over h a
  added-owing h a = by (eqb (rest w b) 0) refl
    where
      stands : 0 < rest w b → obliges l t side (newcomer w b) h a ≡ at b.holder asset over h a
      stands p =
          let q = rested p in
          ap (λ (n : ℕ). at b.holder asset (obligation_of side (Some (newcomer w b).price) n) h a) q.all_left
          ∙ ap (λ (z : Option ℕ). at b.holder asset (obligation_of side z (met w b).left) h a) (ap Some (newcomer-price p) ∙ sym q.limited)

      by : (u : Bool) → eqb (rest w b) 0 ≡ u → cond u 0 (obliges l t side (newcomer w b) h a) + cond u (at b.holder asset over h a) 0 ≡ at b.holder asset over h a
      by true e = omega arith
      by false e =
          let ne = eqb-false (rest w b) 0 e in
          let p : 0 < rest w b = omega arith in
          omega (arith, stands p)

  balance : (h a : ℕ) → all_owing w h a + at b.holder asset (owed w b) h a
      ≡ sum_of (λ d. uses (quote_of l t).currency d h a) (met w b).deals + (final h a + given_back h a)
  balance h a =
      omega (
        arith,
        sheets-changed (λ u z. sheet_owing l u z h a) w.sheets t (bid_sheet w b) k.ticker,
        by-owing side (entered w b) (met w b).queue worth traded h a,
        old-owing side sheet h a,
        entered-sum (λ x. obliges l t side x h a),
        added-owing h a,
        face.uses h a,
        ap (λ (n : ℕ). at b.holder asset n h a) face.blocks,
        at-add b.holder asset (spent side (met w b).deals) over h a,
      )

  release-takes : Takes l (only (eqb (rest w b) 0) (move.Release b.holder asset over)) [] (λ h a. final h a + given_back h a) final
  release-takes = by (eqb (rest w b) 0)
    where
      by : (u : Bool) → Takes l (only u (move.Release b.holder asset over)) [] (λ h a. final h a + cond u (at b.holder asset over h a) 0) final
      by true = takes_beside l _ [] final (at b.holder asset over) (λ h a. 0) _ _ (λ h a i j. omega arith) (λ h a i j. omega arith) (takes-release l b.holder asset over k.holder asset-is)
      by false = takes_beside l [] [] final (λ h a. 0) (λ h a. 0) _ _ (λ h a i j. omega arith) (λ h a i j. omega arith) (takes_none l (λ h a. 0))

  settle-takes : Takes l (settlements l t (met w b).deals) (bid_trades w b) (λ h a. all_owing w h a + at b.holder asset (owed w b) h a) (λ h a. final h a + given_back h a)
  settle-takes =
      takes_beside l _ _ (λ h a. final h a + given_back h a) (λ h a. sum_of (λ d. uses (quote_of l t).currency d h a) (met w b).deals) (λ h a. 0) _ _
      (λ h a i j. balance h a) (λ h a i j. omega arith)
      (takes-deals l t (met w b).deals (ticker-within t k.ticker) (currency-known l t (s.listing k.not_closed)) face.payable)

  paid-made : Made l (only (ltb 0 (owed w b)) (move.Block b.holder asset (owed w b)) ++ settlements l t (met w b).deals) (bid_trades w b) w.book (λ h a. final h a + given_back h a)
  paid-made =
      made-join l (only (ltb 0 (owed w b)) (move.Block b.holder asset (owed w b))) (settlements l t (met w b).deals) [] (bid_trades w b) w.book _ _ block_made
      (made-from l _ _ _ _ settle-takes _ block_made.blocked)

  pub bid-made : Made l (bid_moves w b) (bid_trades w b) w.book final
  bid-made =
      subst (λ (xs : List Trade). Made l (bid_moves w b) xs w.book final) (append-nil (bid_trades w b))
      (made-join l (only (ltb 0 (owed w b)) (move.Block b.holder asset (owed w b)) ++ settlements l t (met w b).deals) (only (eqb (rest w b) 0) (move.Release b.holder asset over)) (bid_trades w b) [] w.book _ _ paid-made
      (made-from l _ _ _ _ release-takes _ paid-made.blocked))

  pub bid-sound : Sound r.step (record { book = moved_all (bid_moves w b) w.book; session = w.session; listing = l; given = next_number w; sheets = with_sheet w.sheets t (bid_sheet w b) })
  bid-sound =
      let m = bid-made in
      sound-from r.step _ bid-on (record {
        once = number-once;
        listing = λ c. s.listing k.not_closed;
        backed = λ c. m.blocked;
        given = omega (arith, k.number);
      })

pub place-sound : (r : Rule) → Lawful r → (w : World) (shown : Session) (b : Bid) (room : ℕ) → why r w (Place shown b room) ≡ None → Sound r.step w → Sound r.step (next w (Place shown b room))
place-sound r lawful w shown b room e s = bid-sound r w b (taken r lawful w shown b room e) s
