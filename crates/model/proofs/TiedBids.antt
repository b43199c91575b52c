-- A bid keeps the tally tied to the queues.
use Rattle.model.specs.Words.{ℕ, refl, Bool, true, false, cond, not, ltb, eqb, List, [], AllByRecursion, sum_of, kept, only, Option, Some, None, is_some, or_else, Permᴰ}
use Rattle.std.proofs.Common.{◌+◌, ◌*◌, ◌<◌, ◌≡◌, ◌&&◌, ◌∷◌, ◌++◌, ◌⊎◌, sym, ap, ◌∙◌, subst, inl, inr, append-nil, arith}
use mathlib.Core.List.Permᴰ
use Rattle.std.proofs.lemmas.Bool.Decides.{nat_tests}
use Rattle.std.proofs.ByRecursion.{All-weaker, All-append}
use Rattle.std.proofs.lemmas.Bool.{cases_Bool, cases_eq, cond-true, cond-false, cond_both, true≢false, lt-ltb, ltb-true, and_parts, not-true}
use Rattle.model.specs.Market.{Side, Buy, Sell, other, same_side, Session, Closed, PreTrading, Trading, PostTrading, is_trading, is_post_trading, Bid, Standing, Trade, Place, Placed, ticker_known}
use Rattle.model.specs.Queues.{before}
use Rattle.model.specs.Average.{cost_of, lots_of, average}
use Rattle.model.specs.Matching.{Met, trades_of, crosses, taking, untouched, encounter}
use Rattle.model.specs.MatchingLaws.{meeting}
use Rattle.model.specs.World.{World, Sheet, queue, queue_of, sheet_by, average_of}
use Rattle.model.specs.Bidding.{limit_of, next_number, met, bid_trades, rest, newcomer}
use Rattle.model.specs.Checks.{form_taken}
use Rattle.model.specs.Calls.{receipt, entered, bid_sheet, with_sheet, counted}
use Rattle.model.specs.Tally.{Tally, Kept, fed, takings, held_to, standing_of}
use Rattle.model.specs.Sound.{Sound}
use Rattle.model.specs.Law.{Tied}
use Rattle.model.proofs.Meeting.{meet-graph, meets-made}
use Rattle.model.proofs.Matched.{all_map}
use Rattle.model.proofs.Sheets.{sheet-here, sheet-there}
use Rattle.model.proofs.Paying.{Payable}
use Rattle.model.proofs.Placing.{Taken}
use Rattle.model.proofs.SoundBids.{face, rested, entered_by}
use Rattle.model.proofs.Auction.{all-mem}
use Rattle.model.proofs.Takings.{listed, shown, takes, takes-perm, listed-takings, joined-append, distinct, Absent, Naming, meets-takes, all-missed}
use Rattle.model.proofs.Tallies.{held-priced, held-trades, same-listed, standing-listed, all-takings, kept_append, ticker-sum, in_queue, absent-here, absent-there, not_yet}
use Rattle.ranking.specs.Ranks.{insert_ranked}
use Rattle.ranking.proofs.Perms.{insert_ranked-perm}
use Rattle.rules.specs.Rules.{Rule}

-- ---- the numbers that a newcomer's deals name
pub taking-names : (number : ℕ) (b : Bid) (limit : Option ℕ) (side : Side) → Naming (taking number b limit side) number
taking-names number b limit Buy = record {
  lots = λ x k. refl;
  hit = λ x k. grind (arith, nat_tests);
  hit_new = λ x k. grind (arith, nat_tests);
  miss = λ x k q u v. (v, u);
}
taking-names number b limit Sell = record {
  lots = λ x k. refl;
  hit = λ x k. grind (arith, nat_tests);
  hit_new = λ x k. grind (arith, nat_tests);
  miss = λ x k q u v. (u, v);
}

-- whatever holds of nothing and of a meeting holds of what a bid makes of the queue
pub encounter-by : (P : Met → Type 0) (number : ℕ) (b : Bid) (limit : Option ℕ) (q : List Standing) → P (untouched b.lots q) → P (meeting number b limit q) → (session : Session) → P (encounter session number b limit q)
encounter-by P number b limit q u m Closed = u
encounter-by P number b limit q u m PreTrading = u
encounter-by P number b limit q u m Trading = cond_both (b.entire && ltb 0 (meeting number b limit q).left) (untouched b.lots q) (meeting number b limit q) P (λ _. u) (λ _. m)
encounter-by P number b limit q u m PostTrading = cond_both (b.entire && ltb 0 (meeting number b limit q).left) (untouched b.lots q) (meeting number b limit q) P (λ _. u) (λ _. m)

abbrev Avoids : List Standing → List Trade → Type 0
Avoids z xs = AllByRecursion (λ x. Absent x.buy z × Absent x.sell z) xs

module _ (r : Rule) (w : World) (b : Bid) (k : Taken r w b) (s : Sound r.step w) (y : Tally) (tied : Tied w y) where
  abbrev t : ℕ
  t = b.ticker

  abbrev side : Side
  side = b.side

  abbrev N : ℕ
  N = next_number w

  abbrev limit : Option ℕ
  limit = limit_of w b

  abbrev xs : List Trade
  xs = bid_trades w b

  abbrev y' : Tally
  y' = fed (Place w.session b 0) (Placed (receipt w b)) xs y

  late : w.given < N
  late = omega arith

  -- the queue that is met
  met-takes : takes xs (queue w t (other side)) ≡ (met w b).queue
  met-takes =
      encounter-by (λ m. takes (trades_of m.deals) (queue w t (other side)) ≡ m.queue) N b limit (queue w t (other side)) refl
      (meets-takes (taking-names N b limit side) (meet-graph (crosses side limit) (taking N b limit side) b.lots (queue w t (other side)))
      (distinct (queue w t (other side)) (λ n. in_queue r.step w s n t (other side))) (not_yet r.step w s N t (other side) late))
      w.session

  -- a queue that holds none of the numbers
  avoids : (z : List Standing) → Absent N z → AllByRecursion (λ x. Absent x.number z) (queue w t (other side)) → Avoids z xs
  avoids z n a =
      encounter-by (λ m. Avoids z (trades_of m.deals)) N b limit (queue w t (other side)) tt
      (all_map (λ d. Absent d.trade.buy z × Absent d.trade.sell z) (λ x. Absent x.buy z × Absent x.sell z) (λ d. d.trade) (λ d h. h) _
      (meets-made (λ d. Absent d.trade.buy z × Absent d.trade.sell z) (meet-graph (crosses side limit) (taking N b limit side) b.lots (queue w t (other side)))
      (λ x j m e. (taking-names N b limit side).miss x j z (all-mem (λ x. Absent x.number z) a m) n)))
      w.session

  own-stays : takes xs (queue w t side) ≡ queue w t side
  own-stays = all-missed xs (queue w t side) (avoids (queue w t side) (not_yet r.step w s N t side late) (absent-here r.step w s t side))

  others-stay : (u : ℕ) (d : Side) → (u ≡ t → ⊥) → takes xs (queue w u d) ≡ queue w u d
  others-stay u d ne = all-missed xs (queue w u d) (avoids (queue w u d) (not_yet r.step w s N u d late) (absent-there r.step w s u t d (other side) ne))

  -- ---- prices do not change
  same-trades : is_post_trading w.session ≡ true → y'.trades ≡ y.trades
  same-trades e =
      let f : y.running ≡ false = tied.running ∙ not_trading w.session e in
      ap (λ (z : List Trade). y.trades ++ z) (cond-false y.running xs [] f) ∙ append-nil y.trades
    where
      not_trading : (x : Session) → is_post_trading x ≡ true → is_trading x ≡ false
      not_trading Closed e = refl
      not_trading PreTrading e = refl
      not_trading Trading e = absurd (true≢false (sym e))
      not_trading PostTrading e = refl

  same-held : AllByRecursion (λ k. held_to y' k.bid ≡ held_to y k.bid) y.standing
  same-held = elim (cases_Bool (is_post_trading w.session)) [
    | inl e ↦ every_one y.standing (λ k. held-trades y' y k.bid (same-trades e))
    | inr e ↦ All-weaker (λ k. is_some k.bid.price ≡ not (is_post_trading w.session)) (λ k. held_to y' k.bid ≡ held_to y k.bid) (λ k f. held-priced y' y k.bid (f ∙ ap not e)) y.standing tied.form
  ]
    where
      every_one : (ks : List Kept) → ((k : Kept) → held_to y' k.bid ≡ held_to y k.bid) → AllByRecursion (λ k. held_to y' k.bid ≡ held_to y k.bid) ks
      every_one [] h = tt
      every_one (k ∷ ks) h = (h k, every_one ks h)

  -- ---- what the tally shows now
  abbrev new : Kept
  new = record { number = N; bid = b; lots = rest w b }

  shows : (u : ℕ) (d : Side) → standing_of y' u d ≡ takes xs (listed (held_to y) u d y.standing) ++ listed (held_to y') u d (only (ltb 0 (rest w b)) new)
  shows u d =
      standing-listed y' u d
      ∙ joined-append _ (takings xs y.standing) (only (ltb 0 (rest w b)) new)
      ∙ ap (λ z. z ++ listed (held_to y') u d (only (ltb 0 (rest w b)) new)) (listed-takings (held_to y') u d xs y.standing ∙ ap (takes xs) (same-listed (held_to y') (held_to y) u d y.standing same-held))

  before-perm : (u : ℕ) (d : Side) → Permᴰ (takes xs (listed (held_to y) u d y.standing)) (takes xs (queue w u d))
  before-perm u d = takes-perm xs (subst (λ (z : List Standing). Permᴰ z (queue w u d)) (standing-listed y u d) (tied.queues u d))

  -- the queue of a ticker and side, from what the trades leave of it and from what the newcomer adds
  tied_by : (u : ℕ) (d : Side) (q added final : List Standing) → takes xs (queue w u d) ≡ q → listed (held_to y') u d (only (ltb 0 (rest w b)) new) ≡ added → Permᴰ (q ++ added) final
      → Permᴰ (standing_of y' u d) final
  tied_by u d q added final e f p =
      subst (λ (z : List Standing). Permᴰ z final) (sym (shows u d))
      (Permᴰ.trans (Permᴰ.append_right (listed (held_to y') u d (only (ltb 0 (rest w b)) new)) (before-perm u d))
      (subst (λ (z : List Standing). Permᴰ (takes xs (queue w u d) ++ z) final) (sym f) (subst (λ (z : List Standing). Permᴰ (z ++ added) final) (sym e) p)))

  not-here : (u : ℕ) (d : Side) → (eqb t u && same_side d side) ≡ false → listed (held_to y') u d (only (ltb 0 (rest w b)) new) ≡ []
  not-here u d e = by (ltb 0 (rest w b))
    where
      by : (p : Bool) → listed (held_to y') u d (only p new) ≡ []
      by true = ap (λ (q : Bool). only q (shown (held_to y') u d new) ++ []) e
      by false = refl

  -- ---- the newcomer
  unpriced : (x : Session) → is_post_trading x ≡ true → form_taken x b ≡ true → is_some b.price ≡ false
  unpriced Closed e f = absurd (true≢false (sym e))
  unpriced PreTrading e f = absurd (true≢false (sym e))
  unpriced Trading e f = absurd (true≢false (sym e))
  unpriced PostTrading e f = not-true (is_some b.price) (and_parts _ _ f).0

  held-limit : 0 < rest w b → or_else (held_to y' b) 0 ≡ (newcomer w b).price
  held-limit h = ap (λ (z : Option ℕ). or_else z 0) (elim (cases_Bool (is_post_trading w.session)) [ inl e ↦ post e | inr e ↦ priced e ])
    where
      none : (o : Option ℕ) → is_some o ≡ false → o ≡ None
      none (Some p) e = absurd (true≢false e)
      none None e = refl

      of_none : (o a : Option ℕ) → o ≡ None → ◌≡◌ {A = Option ℕ} (elim o [ Some p ↦ Some p | None ↦ a ]) a
      of_none None a e = refl
      of_none (Some p) a e = absurd (grind arith)

      of_some : (o a : Option ℕ) (p : ℕ) → o ≡ Some p → ◌≡◌ {A = Option ℕ} (elim o [ Some p ↦ Some p | None ↦ a ]) o
      of_some (Some q) a p e = refl
      of_some None a p e = absurd (grind arith)

      post : is_post_trading w.session ≡ true → held_to y' b ≡ limit
      post e =
          held-trades y' y b (same-trades e)
          ∙ of_none b.price (average (cost_of (kept (λ x. eqb x.ticker t) y.trades)) (lots_of (kept (λ x. eqb x.ticker t) y.trades))) (none b.price (unpriced w.session e k.form))
          ∙ ap (λ (z : ℕ). average z (lots_of (kept (λ x. eqb x.ticker t) y.trades))) (tied.worth t)
          ∙ ap (λ (z : ℕ). average (w.sheets t).worth z) (tied.traded t)
          ∙ sym (cond-true (is_post_trading w.session) (average_of (w.sheets t)) b.price e)

      priced : is_post_trading w.session ≡ false → held_to y' b ≡ limit
      priced e =
          let l : limit ≡ b.price = cond-false (is_post_trading w.session) (average_of (w.sheets t)) b.price e in
          let q = rested r w b k s h in
          of_some b.price _ q.limit_price (sym l ∙ q.limited) ∙ sym l

  abbrev priced-at : ℕ → List Standing
  priced-at p = record { number = N; holder = b.holder; price = p; lots = rest w b } ∷ []

  here-added : listed (held_to y') t side (only (ltb 0 (rest w b)) new) ≡ only (ltb 0 (rest w b)) (newcomer w b)
  here-added = by (ltb 0 (rest w b)) refl
    where
      mine : (d : Side) → (eqb t t && same_side d d) ≡ true
      mine Buy = grind (arith, nat_tests)
      mine Sell = grind (arith, nat_tests)

      by : (p : Bool) → ltb 0 (rest w b) ≡ p → listed (held_to y') t side (only p new) ≡ only p (newcomer w b)
      by true e =
          ap (λ (q : Bool). only q (shown (held_to y') t side new) ++ []) (mine side)
          ∙ ap priced-at (held-limit (ltb-true 0 (rest w b) e))
      by false e = refl

  entered-perm : Permᴰ (queue w t side ++ only (ltb 0 (rest w b)) (newcomer w b)) (entered w b)
  entered-perm =
      entered_by r w b k s (λ q. Permᴰ (queue w t side ++ only (ltb 0 (rest w b)) (newcomer w b)) q)
      (λ e. subst (λ (p : Bool). Permᴰ (queue w t side ++ only p (newcomer w b)) (queue w t side)) (sym (zero_test e)) (subst (λ (z : List Standing). Permᴰ z (queue w t side)) (sym (append-nil (queue w t side))) (Permᴰ.refl (queue w t side))))
      (λ h. subst (λ (p : Bool). Permᴰ (queue w t side ++ only p (newcomer w b)) (insert_ranked (before w.session side) (newcomer w b) (queue w t side))) (sym (lt-ltb 0 (rest w b) h))
      (Permᴰ.trans (Permᴰ.middle (newcomer w b) (queue w t side) [])
      (subst (λ (z : List Standing). Permᴰ (newcomer w b ∷ z) (insert_ranked (before w.session side) (newcomer w b) (queue w t side))) (sym (append-nil (queue w t side))) (insert_ranked-perm (before w.session side) (newcomer w b) (queue w t side)))))
    where
      zero_test : rest w b ≡ 0 → ltb 0 (rest w b) ≡ false
      zero_test e = grind (arith, nat_tests)

  -- ---- every queue
  queue-own : (d : Side) (own others : List Standing) (p q : ℕ) → queue_of (sheet_by d own others p q) d ≡ own
  queue-own Buy own others p q = refl
  queue-own Sell own others p q = refl

  queue-other : (d : Side) (own others : List Standing) (p q : ℕ) → queue_of (sheet_by d own others p q) (other d) ≡ others
  queue-other Buy own others p q = refl
  queue-other Sell own others p q = refl

  not_own : (d : Side) → (eqb t t && same_side (other d) d) ≡ false
  not_own Buy = grind (arith, nat_tests)
  not_own Sell = grind (arith, nat_tests)

  which : (d e : Side) → (d ≡ e) ⊎ (d ≡ other e)
  which Buy Buy = inl refl
  which Buy Sell = inr refl
  which Sell Buy = inr refl
  which Sell Sell = inl refl

  abbrev after-queue : ℕ → Side → List Standing
  after-queue u d = queue_of (with_sheet w.sheets t (bid_sheet w b) u) d

  tied-own : Permᴰ (standing_of y' t side) (after-queue t side)
  tied-own =
      subst (Permᴰ (standing_of y' t side)) (sym (ap (λ (z : Sheet). queue_of z side) (sheet-here w.sheets t (bid_sheet w b)) ∙ queue-own side _ _ _ _))
      (tied_by t side (queue w t side) (only (ltb 0 (rest w b)) (newcomer w b)) (entered w b) own-stays here-added entered-perm)

  tied-other : Permᴰ (standing_of y' t (other side)) (after-queue t (other side))
  tied-other =
      subst (Permᴰ (standing_of y' t (other side))) (sym (ap (λ (z : Sheet). queue_of z (other side)) (sheet-here w.sheets t (bid_sheet w b)) ∙ queue-other side _ _ _ _))
      (tied_by t (other side) (met w b).queue [] (met w b).queue met-takes (not-here t (other side) (not_own side)) (subst (λ (z : List Standing). Permᴰ z (met w b).queue) (sym (append-nil (met w b).queue)) (Permᴰ.refl (met w b).queue)))

  tied-elsewhere : (u : ℕ) (d : Side) → (u ≡ t → ⊥) → Permᴰ (standing_of y' u d) (after-queue u d)
  tied-elsewhere u d ne =
      subst (Permᴰ (standing_of y' u d)) (sym (ap (λ (z : Sheet). queue_of z d) (sheet-there w.sheets t (bid_sheet w b) u ne)))
      (tied_by u d (queue w u d) [] (queue w u d) (others-stay u d ne) (not-here u d (off ne)) (subst (λ (z : List Standing). Permᴰ z (queue w u d)) (sym (append-nil (queue w u d))) (Permᴰ.refl (queue w u d))))
    where
      off : (u ≡ t → ⊥) → (eqb t u && same_side d side) ≡ false
      off ne = grind (arith, nat_tests)

  pub bid-queues : (u : ℕ) (d : Side) → Permᴰ (standing_of y' u d) (after-queue u d)
  bid-queues u d = elim (cases_eq u t) [
    | inl e ↦ subst (λ (z : ℕ). Permᴰ (standing_of y' z d) (after-queue z d)) (sym e) (here (which d side))
    | inr ne ↦ tied-elsewhere u d ne
  ]
    where
      here : (d ≡ side) ⊎ (d ≡ other side) → Permᴰ (standing_of y' t d) (after-queue t d)
      here (inl e) = subst (λ (z : Side). Permᴰ (standing_of y' t z) (after-queue t z)) (sym e) tied-own
      here (inr e) = subst (λ (z : Side). Permᴰ (standing_of y' t z) (after-queue t z)) (sym e) tied-other

  -- ---- the day's trades
  trades-here : AllByRecursion (λ x. x.ticker ≡ t) xs
  trades-here = all_map (Payable t) (λ x. x.ticker ≡ t) (λ d. d.trade) (λ d p. p.ticker) (met w b).deals (face r w b k s).payable

  counted-sum : (f : Trade → ℕ) (u : ℕ) → sum_of f (kept (λ x. eqb x.ticker u) y'.trades) ≡ sum_of f (kept (λ x. eqb x.ticker u) y.trades) + cond (eqb u t) (counted w.session (sum_of f xs)) 0
  counted-sum f u =
      kept_append (λ x. eqb x.ticker u) f y.trades (cond y.running xs [])
      ∙ ap (λ (z : ℕ). sum_of f (kept (λ x. eqb x.ticker u) y.trades) + z)
      (ap (λ (z : Bool). sum_of f (kept (λ x. eqb x.ticker u) (cond z xs []))) tied.running ∙ by (is_trading w.session) ∙ inside (is_trading w.session) (eqb u t))
    where
      by : (p : Bool) → sum_of f (kept (λ x. eqb x.ticker u) (cond p xs [])) ≡ cond p (cond (eqb u t) (sum_of f xs) 0) 0
      by true = ticker-sum f t u xs trades-here
      by false = refl

      inside : (p q : Bool) → cond p (cond q (sum_of f xs) 0) 0 ≡ cond q (cond p (sum_of f xs) 0) 0
      inside true true = refl
      inside true false = refl
      inside false true = refl
      inside false false = refl

  sheet-sum : (g : Sheet → ℕ) (n : ℕ) (u : ℕ) → g (bid_sheet w b) ≡ g (w.sheets t) + n → g (w.sheets u) + cond (eqb u t) n 0 ≡ g (with_sheet w.sheets t (bid_sheet w b) u)
  sheet-sum g n u e = elim (cases_eq u t) [ inl q ↦ here q | inr ne ↦ there ne ]
    where
      here : u ≡ t → g (w.sheets u) + cond (eqb u t) n 0 ≡ g (with_sheet w.sheets t (bid_sheet w b) u)
      here q =
          let c : cond (eqb u t) n 0 ≡ n = grind (arith, nat_tests) in
          let a : g (w.sheets u) ≡ g (w.sheets t) = ap (λ (z : ℕ). g (w.sheets z)) q in
          let d : g (with_sheet w.sheets t (bid_sheet w b) u) ≡ g (bid_sheet w b) = ap (λ (z : ℕ). g (with_sheet w.sheets t (bid_sheet w b) z)) q ∙ ap g (sheet-here w.sheets t (bid_sheet w b)) in
          omega (arith, a, c, d, e)

      there : (u ≡ t → ⊥) → g (w.sheets u) + cond (eqb u t) n 0 ≡ g (with_sheet w.sheets t (bid_sheet w b) u)
      there ne =
          let c : cond (eqb u t) n 0 ≡ 0 = grind (arith, nat_tests) in
          let d : g (with_sheet w.sheets t (bid_sheet w b) u) ≡ g (w.sheets u) = ap g (sheet-there w.sheets t (bid_sheet w b) u ne) in
          omega (arith, c, d)

  sheet-worth : (d : Side) (own others : List Standing) (p q : ℕ) → (sheet_by d own others p q).worth ≡ p
  sheet-worth Buy own others p q = refl
  sheet-worth Sell own others p q = refl

  sheet-traded : (d : Side) (own others : List Standing) (p q : ℕ) → (sheet_by d own others p q).traded ≡ q
  sheet-traded Buy own others p q = refl
  sheet-traded Sell own others p q = refl

  pub bid-worth : (u : ℕ) → cost_of (kept (λ x. eqb x.ticker u) y'.trades) ≡ (with_sheet w.sheets t (bid_sheet w b) u).worth
  bid-worth u =
      counted-sum (λ x. x.price * x.lots) u ∙ ap (λ (z : ℕ). z + cond (eqb u t) (counted w.session (cost_of xs)) 0) (tied.worth u)
      ∙ sheet-sum (λ z. z.worth) (counted w.session (cost_of xs)) u (sheet-worth side _ _ _ _)

  pub bid-traded : (u : ℕ) → lots_of (kept (λ x. eqb x.ticker u) y'.trades) ≡ (with_sheet w.sheets t (bid_sheet w b) u).traded
  bid-traded u =
      counted-sum (λ x. x.lots) u ∙ ap (λ (z : ℕ). z + cond (eqb u t) (counted w.session (lots_of xs)) 0) (tied.traded u)
      ∙ sheet-sum (λ z. z.traded) (counted w.session (lots_of xs)) u (sheet-traded side _ _ _ _)

  -- ---- the bids that stand
  now-standing : (P : Bid → Type 0) → AllByRecursion (λ z. P z.bid) y.standing → (0 < rest w b → P b) → AllByRecursion (λ z. P z.bid) y'.standing
  now-standing P a p = All-append (λ z. P z.bid) (takings xs y.standing) (only (ltb 0 (rest w b)) new) (all-takings P xs y.standing a) (by (ltb 0 (rest w b)) refl)
    where
      by : (q : Bool) → ltb 0 (rest w b) ≡ q → AllByRecursion (λ z. P z.bid) (only q new)
      by true e = (p (ltb-true 0 (rest w b) e), tt)
      by false e = tt

  pub bid-known : AllByRecursion (λ z. ticker_known z.bid.ticker ≡ true) y'.standing
  bid-known = now-standing (λ z. ticker_known z.ticker ≡ true) tied.known (λ _. k.ticker)

  pub bid-form : AllByRecursion (λ z. is_some z.bid.price ≡ not (is_post_trading w.session)) y'.standing
  bid-form = now-standing (λ z. is_some z.price ≡ not (is_post_trading w.session)) tied.form (λ h. elim (cases_Bool (is_post_trading w.session)) [ inl e ↦ post e | inr e ↦ priced h e ])
    where
      post : is_post_trading w.session ≡ true → is_some b.price ≡ not (is_post_trading w.session)
      post e = unpriced w.session e k.form ∙ sym (ap not e)

      priced : 0 < rest w b → is_post_trading w.session ≡ false → is_some b.price ≡ not (is_post_trading w.session)
      priced h e =
          let l : limit ≡ b.price = cond-false (is_post_trading w.session) (average_of (w.sheets t)) b.price e in
          ap is_some (sym l ∙ (rested r w b k s h).limited) ∙ sym (ap not e)
