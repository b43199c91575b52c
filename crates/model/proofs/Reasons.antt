-- A refusal names a reason that holds, and where a reason holds the call is refused.
use Rattle.model.specs.Words.{ℕ, zero, suc, refl, Bool, true, false, cond, not, leb, ltb, eqb, List, [], length, AllByRecursion, Memᴰ, Option, Some, None, all_of, any_of, is_some}
use Rattle.std.proofs.Common.{◌≤◌, ◌<◌, ◌≡◌, ◌≢◌, ◌&&◌, ◌||◌, ◌∷◌, ◌++◌, ◌⊎◌, sym, ap, ◌∙◌, subst, inl, inr, arith}
use Rattle.std.proofs.lemmas.Bool.{true≢false, cases_Bool, and_from, and_parts, and_cases, or_parts, or_from, cond-false, not-false, not_from_true, ltb-true, ltb-false, leb-true, leb-false, eqb-true, eqb-false, lt-ltb, le-ltb, le-leb, lt-leb, eq-eqb, ne_eqb}
use Rattle.model.specs.Market.{BadListing, SomethingBlocked, WrongSession, ShortStrip, NoHolderOrTicker, BeyondLimits, FormNotTaken, NoAverage, NumbersSpent, QueueFull, NoSuchBid}
use Rattle.model.specs.Market.{Session, is_closed, is_pre_trading, is_trading, is_post_trading, serves, Buy, Sell, Bid, Standing, Quote, Listing, RuleRefusal, RegisterFault, FloorRefusal, Cause, ByFloor, ByRule, ByRegister, Refused, Fault, ticker_known, most_numbers, queue_places}
use Rattle.model.specs.Market.{Call, Start, Deposit, Withdraw, Place, Cancel, Open, EndTrading, EndPostTrading}
use Rattle.model.specs.Queues.{named}
use Rattle.model.specs.Average.{average_price_lem}
use Rattle.model.specs.World.{World, Sheet, queue, average_of}
use Rattle.model.specs.Listings.{asset_of_lem}
use Rattle.model.specs.Bidding.{question, rest, owed}
use Rattle.model.specs.Checks.{Check, must, by_rule, by_register, first_failing, valid_listing, nothing_blocked, within_limits, form_taken, has_average_lem, has_place_lem, is_standing, checks, why}
use Rattle.model.specs.Calls.{answer, accepted, decided, fault_of_lem}
use Rattle.model.specs.Tally.{is_refused}
use Rattle.model.specs.RefusalLaws.{Because, RefusalsAreTrue}
use Rattle.model.specs.RefusalLaws.Because.{not_closed, no_currency, no_settlement, blocked, not_deposited, not_withdrawn, wrong_pass, short_strip, unknown, bad_price, bad_lots, bad_form}
use Rattle.model.specs.RefusalLaws.Because.{no_average, all_given, not_admitted, no_place, not_blocked, not_that_pass, unknown_there, not_standing, not_pre_trading, shorter_strip, not_trading, not_post_trading}
use Rattle.model.proofs.Checked.{accepted-is-no-refusal}
use Rattle.model.proofs.Sheets.{passed, must-true, rule-none, register-none}
use Rattle.model.proofs.Quiet.{nothing}
use Rattle.model.proofs.Looking.{ticker-there}
use Rattle.register.specs.Books.{sum_to, holder_known_lem}
use Rattle.register.specs.Moves as move
use Rattle.register.specs.Moves.{refusal}
use Rattle.rules.specs.Bids.{most_price, most_lots, is_price_lem, is_lots_lem}
use Rattle.rules.specs.Rules.{Rule}

-- ---- tests, in words
known-not : (h t : ℕ) → (holder_known_lem h && ticker_known t) ≡ false → h < 16 → 4 ≤ t → t ≤ 11 → ⊥
known-not h t e i j k = true≢false (sym (and_from (holder_known_lem h) (ticker_known t) (lt-ltb h 16 i) (ticker-there t j k)) ∙ e)

is_known : (h t : ℕ) → (holder_known_lem h && ticker_known t) ≡ true → (h < 16) × (4 ≤ t) × (t ≤ 11)
is_known h t e =
    let p = and_parts (holder_known_lem h) (ticker_known t) e in
    let q = and_parts (leb 4 t) (leb t 11) p.1 in
    (ltb-true h 16 p.0, leb-true 4 t q.0, leb-true t 11 q.1)

beyond : (n most : ℕ) → (leb 1 n && leb n most) ≡ false → 1 ≤ n → n ≤ most → ⊥
beyond n most e i j = true≢false (sym (and_from (leb 1 n) (leb n most) (le-leb 1 n i) (le-leb n most j)) ∙ e)

within : (n most : ℕ) → (leb 1 n && leb n most) ≡ true → (1 ≤ n) × (n ≤ most)
within n most e = let p = and_parts (leb 1 n) (leb n most) e in (leb-true 1 n p.0, leb-true n most p.1)

untraded : (s : Sheet) → is_some (average_of s) ≡ false → s.traded ≡ 0
untraded s e = by (eqb s.traded 0) refl e
  where
    by : (t : Bool) → eqb s.traded 0 ≡ t → is_some (cond t None (Some (average_price_lem s.worth s.traded))) ≡ false → s.traded ≡ 0
    by true p e = eqb-true s.traded 0 p
    by false p e = absurd (true≢false e)

traded-none : (s : Sheet) → s.traded ≡ 0 → is_some (average_of s) ≡ false
traded-none s e = ap (λ (t : Bool). is_some (cond t None (Some (average_price_lem s.worth s.traded)))) (eq-eqb s.traded 0 e)

positive : (n : ℕ) → eqb n 0 ≡ false → 1 ≤ n
positive n e = let ne = eqb-false n 0 e in omega arith

-- a line of the listing that is not valid
record BadLine (qs : List Quote) : Type 0 where
  line : Quote
  listed : Memᴰ line qs
  why_so : (3 < line.currency) ⊎ (most_price < line.settlement)

abbrev valid : Quote → Bool
valid q = leb q.currency 3 && leb q.settlement most_price

bad-line : (qs : List Quote) → all_of valid qs ≡ false → BadLine qs
bad-line [] e = absurd (true≢false e)
bad-line (q ∷ qs) e = by (and_cases (valid q) (all_of valid qs) e) (bad-line qs)
  where
    first : (leb q.currency 3 ≡ false) ⊎ (leb q.settlement most_price ≡ false) → (3 < q.currency) ⊎ (most_price < q.settlement)
    first (inl p) = inl (leb-false q.currency 3 p)
    first (inr p) = inr (leb-false q.settlement most_price p)

    by : (valid q ≡ false) ⊎ (all_of valid qs ≡ false) → (all_of valid qs ≡ false → BadLine qs) → BadLine (q ∷ qs)
    by (inl p) ih = record { line = q; listed = Memᴰ.head refl; why_so = first (and_cases (leb q.currency 3) (leb q.settlement most_price) p) }
    by (inr p) ih = let f = ih p in record { line = f.line; listed = Memᴰ.tail f.listed; why_so = f.why_so }

all_valid : {q : Quote} {qs : List Quote} → Memᴰ q qs → all_of valid qs ≡ true → (q.currency ≤ 3) × (q.settlement ≤ most_price)
all_valid {q} (Memᴰ.head {x = x} {xs = xs} m) e =
    let p = and_parts (leb x.currency 3) (leb x.settlement most_price) (and_parts (valid x) (all_of valid xs) e).0 in
    subst (λ (z : Quote). (z.currency ≤ 3) × (z.settlement ≤ most_price)) (sym m) (leb-true x.currency 3 p.0, leb-true x.settlement most_price p.1)
all_valid {q} (Memᴰ.tail {x = x} {xs = xs} m) e = all_valid m (and_parts (valid x) (all_of valid xs) e).1

-- a sum that is not 0 has a part that is not
record Part (n : ℕ) (f : ℕ → ℕ) : Type 0 where
  place : ℕ
  below : place < n
  some : f place ≢ 0

part : (n : ℕ) (f : ℕ → ℕ) → sum_to n f ≢ 0 → Part n f
unfolding sum_to
part zero f ne = absurd (ne refl)
part (suc n) f ne = by (cases_Bool (eqb (f n) 0)) (part n f)
  where
    by : (eqb (f n) 0 ≡ true) ⊎ (eqb (f n) 0 ≡ false) → (sum_to n f ≢ 0 → Part n f) → Part (suc n) f
    by (inl e) ih = let z = eqb-true (f n) 0 e in let p = ih (λ y. ne (omega arith)) in record { place = p.place; below = let l = p.below in omega arith; some = p.some }
    by (inr e) ih = record { place = n; below = omega arith; some = eqb-false (f n) 0 e }

-- ---- the bid that a cancellation names
unnamed : (h k : ℕ) (q : List Standing) → any_of (named h k) q ≡ false → AllByRecursion (λ x. x.holder ≡ h → x.number ≡ k → ⊥) q
unnamed h k [] e = tt
unnamed h k (x ∷ q) e =
    let p = or_parts (named h k x) (any_of (named h k) q) e in
    ((λ a b. true≢false (sym (and_from (eqb x.holder h) (eqb x.number k) (eq-eqb x.holder h a) (eq-eqb x.number k b)) ∙ p.0)), unnamed h k q p.1)

none_named : (h k : ℕ) (q : List Standing) → AllByRecursion (λ x. x.holder ≡ h → x.number ≡ k → ⊥) q → any_of (named h k) q ≡ true → ⊥
none_named h k [] a e = true≢false (sym e)
none_named h k (x ∷ q) a e = by (named h k x) refl e (none_named h k q a.1)
  where
    by : (b : Bool) → named h k x ≡ b → (b || any_of (named h k) q) ≡ true → (any_of (named h k) q ≡ true → ⊥) → ⊥
    by true p e ih = let z = and_parts (eqb x.holder h) (eqb x.number k) p in a.0 (eqb-true x.holder h z.0) (eqb-true x.number k z.1)
    by false p e ih = ih e

-- ---- along the checks: each that fails gives a cause of which P holds
module _ (P : Cause → Type 0) where
  abbrev Says : Check → Type 0
  Says c = (x : Cause) → c ≡ Some x → P x

  floor-says : (t : Bool) (e : FloorRefusal) → (t ≡ false → P (ByFloor e)) → Says (must t e)
  floor-says true e p x h = absurd (grind arith)
  floor-says false e p x h = let z : ByFloor e ≡ x = cc in subst P z (p refl)

  rule-says : (o : Option RuleRefusal) → ((e : RuleRefusal) → o ≡ Some e → P (ByRule e)) → Says (by_rule o)
  rule-says None p x h = absurd (grind arith)
  rule-says (Some e) p x h = let z : ByRule e ≡ x = cc in subst P z (p e refl)

  register-says : (o : Option RegisterFault) → ((f : RegisterFault) → o ≡ Some f → P (ByRegister f)) → Says (by_register o)
  register-says None p x h = absurd (grind arith)
  register-says (Some f) p x h = let z : ByRegister f ≡ x = cc in subst P z (p f refl)

  unless-says : (t : Bool) (c : Check) → (t ≡ false → Says c) → Says (cond t None c)
  unless-says true c p x h = absurd (grind arith)
  unless-says false c p x h = p refl x h

  first_says : (cs : List Check) → AllByRecursion Says cs → (x : Cause) → first_failing cs ≡ Some x → P x
  first_says [] a x h = absurd (grind arith)
  first_says (None ∷ cs) a x h = first_says cs a.1 x h
  first_says (Some y ∷ cs) a x h = a.0 x h

module _ (r : Rule) (w : World) where
  bad-listing : (l : Listing) → valid_listing l ≡ false → Because r w (Start l) (ByFloor BadListing)
  bad-listing l e = let b = bad-line l.quotes e in by b.line b.listed b.why_so
    where
      by : (q : Quote) → Memᴰ q l.quotes → (3 < q.currency) ⊎ (most_price < q.settlement) → Because r w (Start l) (ByFloor BadListing)
      by q m (inl c) = no_currency q m c
      by q m (inr c) = no_settlement q m c

  some-blocked : (l : Listing) → nothing_blocked w.book ≡ false → Because r w (Start l) (ByFloor SomethingBlocked)
  some-blocked l e =
      let p = part 16 (λ h. sum_to 12 (λ a. w.book.blocked h a)) (eqb-false _ 0 e) in
      let q = part 12 (λ a. w.book.blocked p.place a) p.some in
      let ne = q.some in
      blocked p.place q.place p.below q.below (omega arith)

  module _ (shown : Session) (b : Bid) (room : ℕ) where
    beyond-limits : within_limits b ≡ false → Because r w (Place shown b room) (ByFloor BeyondLimits)
    beyond-limits e = by (and_cases _ (is_lots_lem b.lots) e)
      where
        price : (o : Option ℕ) → b.price ≡ o → ◌≡◌ {A = Bool} (elim o [ Some p ↦ is_price_lem p | None ↦ true ]) false → Because r w (Place shown b room) (ByFloor BeyondLimits)
        price (Some p) q h = bad_price p q (beyond p most_price h)
        price None q h = absurd (true≢false h)

        by : (◌≡◌ {A = Bool} (elim b.price [ Some p ↦ is_price_lem p | None ↦ true ]) false) ⊎ (is_lots_lem b.lots ≡ false) → Because r w (Place shown b room) (ByFloor BeyondLimits)
        by (inl h) = price b.price refl h
        by (inr h) = bad_lots (beyond b.lots most_lots h)

    without-average : has_average_lem w b ≡ false → Because r w (Place shown b room) (ByFloor NoAverage)
    without-average e =
        let p = or_parts (not (is_post_trading w.session)) (is_some (average_of (w.sheets b.ticker))) e in
        no_average (not-false (is_post_trading w.session) p.0) (untraded (w.sheets b.ticker) p.1)

    without-place : has_place_lem w b ≡ false → Because r w (Place shown b room) (ByFloor QueueFull)
    without-place e =
        let q = queue w b.ticker b.side in
        let p = or_parts (eqb (rest w b) 0) (ltb (length q) queue_places) e in
        no_place (positive (rest w b) p.0) (ltb-false (length q) queue_places p.1)

  reasons : (c : Call) → AllByRecursion (Says (Because r w c)) (checks r w c)
  reasons (Start l) =
      let P = Because r w (Start l) in (
        floor-says P (is_closed w.session) WrongSession not_closed,
        (floor-says P (valid_listing l) BadListing (bad-listing l), (floor-says P (nothing_blocked w.book) SomethingBlocked (some-blocked l), tt)),
      )
  reasons (Deposit h a n) = (register-says (Because r w (Deposit h a n)) (refusal w.book (move.Deposit h a n)) (λ f e. not_deposited e), tt)
  reasons (Withdraw h a n) = (register-says (Because r w (Withdraw h a n)) (refusal w.book (move.Withdraw h a n)) (λ f e. not_withdrawn e), tt)
  reasons (Place shown b room) =
      let P = Because r w (Place shown b room) in
      let block = refusal w.book (move.Block b.holder (asset_of_lem w.listing b.ticker b.side) (owed w b)) in (
        floor-says P (serves shown w.session) WrongSession wrong_pass,
        (
          floor-says P (leb 64 room) ShortStrip (λ e. short_strip (leb-false 64 room e)),
          (
            floor-says P (holder_known_lem b.holder && ticker_known b.ticker) NoHolderOrTicker (λ e. unknown (known-not b.holder b.ticker e)),
            (
              floor-says P (within_limits b) BeyondLimits (beyond-limits shown b room),
              (
                floor-says P (form_taken w.session b) FormNotTaken bad_form,
                (
                  floor-says P (has_average_lem w b) NoAverage (without-average shown b room),
                  (
                    floor-says P (ltb w.given most_numbers) NumbersSpent (λ e. all_given (ltb-false w.given most_numbers e)),
                    (
                      rule-says P (r.on_bid (question w b)) (λ e h. not_admitted h),
                      (
                        floor-says P (has_place_lem w b) QueueFull (without-place shown b room),
                        (unless-says P (eqb (owed w b) 0) (by_register block) (λ e. register-says P block (λ f h. not_blocked (positive (owed w b) e) h)), tt),
                      ),
                    ),
                  ),
                ),
              ),
            ),
          ),
        ),
      )
  reasons (Cancel shown h t k) =
      let P = Because r w (Cancel shown h t k) in (
        floor-says P (serves shown w.session) WrongSession not_that_pass,
        (
          floor-says P (holder_known_lem h && ticker_known t) NoHolderOrTicker (λ e. unknown_there (known-not h t e)),
          (floor-says P (is_standing w h t k) NoSuchBid (λ e. not_standing (unnamed h k (queue w t Buy ++ queue w t Sell) e)), tt),
        ),
      )
  reasons (Open room) =
      let P = Because r w (Open room) in
      (floor-says P (is_pre_trading w.session) WrongSession not_pre_trading, (floor-says P (leb 1024 room) ShortStrip (λ e. shorter_strip (leb-false 1024 room e)), tt))
  reasons EndTrading = (floor-says (Because r w EndTrading) (is_trading w.session) WrongSession not_trading, tt)
  reasons EndPostTrading = (floor-says (Because r w EndPostTrading) (is_post_trading w.session) WrongSession not_post_trading, tt)

  so : (c : Call) (f : Fault) → answer r w c ≡ Refused f → Because r w c f.cause
  unfolding answer
  so c f e = by (why r w c) refl e
    where
      by : (o : Check) → why r w c ≡ o → decided o (accepted w c) (λ x. Refused (fault_of_lem c x)) ≡ Refused f → Because r w c f.cause
      by None p e = absurd (accepted-is-no-refusal w c f e)
      by (Some x) p e = let z : x ≡ f.cause = cc in subst (Because r w c) z (first_says (Because r w c) (checks r w c) (reasons c) x p)

  -- ---- the other way
  fails : (c : Call) → (AllByRecursion (λ x. x ≡ None) (checks r w c) → ⊥) → is_refused (answer r w c) ≡ true
  unfolding answer
  fails c ne = by (why r w c) refl
    where
      by : (o : Check) → why r w c ≡ o → is_refused (decided o (accepted w c) (λ x. Refused (fault_of_lem c x))) ≡ true
      by None p = absurd (ne (passed (checks r w c) p))
      by (Some x) p = refl

  clash : {t : Bool} → t ≡ true → t ≡ false → ⊥
  clash p q = true≢false (sym p ∙ q)

  price-fits : (b : Bid) (p : ℕ) → b.price ≡ Some p → within_limits b ≡ true → (1 ≤ p) × (p ≤ most_price)
  price-fits b p e h = by b.price e (and_parts _ (is_lots_lem b.lots) h).0
    where
      by : (o : Option ℕ) → o ≡ Some p → ◌≡◌ {A = Bool} (elim o [ Some z ↦ is_price_lem z | None ↦ true ]) true → (1 ≤ p) × (p ≤ most_price)
      by (Some z) f g = let k : z ≡ p = cc in subst (λ (n : ℕ). (1 ≤ n) × (n ≤ most_price)) k (within z most_price g)
      by None f g = absurd (let z : ◌≡◌ {A = ℕ} 0 1 = cc in omega arith)

  refused : {c : Call} {e : Cause} → Because r w c e → is_refused (answer r w c) ≡ true
  refused (not_closed {l} e) = fails (Start l) (λ a. clash (must-true _ _ a.0) e)
  refused (no_currency {l} q m h) = fails (Start l) (λ a. let v = all_valid m (must-true _ _ a.1.0) in let k = v.0 in omega arith)
  refused (no_settlement {l} q m h) = fails (Start l) (λ a. let v = all_valid m (must-true _ _ a.1.0) in let k = v.1 in omega arith)
  refused (blocked {l} h a i j n) = fails (Start l) (λ c. let z = nothing w.book (must-true _ _ c.1.1.0) h a i j in omega arith)
  refused (not_deposited {h} {a} {n} {f} e) = fails (Deposit h a n) (λ c. let z : None ≡ Some f = sym (register-none _ c.0) ∙ e in absurd (grind arith))
  refused (not_withdrawn {h} {a} {n} {f} e) = fails (Withdraw h a n) (λ c. let z : None ≡ Some f = sym (register-none _ c.0) ∙ e in absurd (grind arith))
  refused (wrong_pass {shown} {b} {room} e) = fails (Place shown b room) (λ a. clash (must-true _ _ a.0) e)
  refused (short_strip {shown} {b} {room} l) = fails (Place shown b room) (λ a. clash (must-true _ _ a.1.0) (lt-leb 64 room l))
  refused (unknown {shown} {b} {room} ne) = fails (Place shown b room) (λ a. let k = is_known b.holder b.ticker (must-true _ _ a.1.1.0) in ne k.0 k.1 k.2)
  refused (bad_price {shown} {b} {room} p q ne) = fails (Place shown b room) (λ a. let k = price-fits b p q (must-true _ _ a.1.1.1.0) in ne k.0 k.1)
  refused (bad_lots {shown} {b} {room} ne) =
      fails (Place shown b room) (λ a. let k = within b.lots most_lots (and_parts _ (is_lots_lem b.lots) (must-true _ _ a.1.1.1.0)).1 in ne k.0 k.1)
  refused (bad_form {shown} {b} {room} e) = fails (Place shown b room) (λ a. clash (must-true _ _ a.1.1.1.1.0) e)
  refused (no_average {shown} {b} {room} p z) =
      fails (Place shown b room) (λ a. clash (must-true _ _ a.1.1.1.1.1.0) (or_from _ _ (not_from_true _ p) (traded-none (w.sheets b.ticker) z)))
  refused (all_given {shown} {b} {room} l) = fails (Place shown b room) (λ a. clash (must-true _ _ a.1.1.1.1.1.1.0) (le-ltb w.given most_numbers l))
  refused (not_admitted {shown} {b} {room} {e} h) = fails (Place shown b room) (λ a. let z : None ≡ Some e = sym (rule-none _ a.1.1.1.1.1.1.1.0) ∙ h in absurd (grind arith))
  refused (no_place {shown} {b} {room} p l) =
      fails (Place shown b room) (λ a. clash (must-true _ _ a.1.1.1.1.1.1.1.1.0) (or_from _ _ (ne_eqb (rest w b) 0 (λ z. absurd (omega arith))) (le-ltb _ queue_places l)))
  refused (not_blocked {shown} {b} {room} {f} p h) =
      fails (Place shown b room) (λ a.
      let z : None ≡ Some f = sym (register-none _ (sym (cond-false (eqb (owed w b) 0) None _ (ne_eqb (owed w b) 0 (λ y. absurd (omega arith)))) ∙ a.1.1.1.1.1.1.1.1.1.0)) ∙ h in
      absurd (grind arith))
  refused (not_that_pass {shown} {h} {t} {k} e) = fails (Cancel shown h t k) (λ a. clash (must-true _ _ a.0) e)
  refused (unknown_there {shown} {h} {t} {k} ne) = fails (Cancel shown h t k) (λ a. let p = is_known h t (must-true _ _ a.1.0) in ne p.0 p.1 p.2)
  refused (not_standing {shown} {h} {t} {k} n) = fails (Cancel shown h t k) (λ a. none_named h k (queue w t Buy ++ queue w t Sell) n (must-true _ _ a.1.1.0))
  refused (not_pre_trading {room} e) = fails (Open room) (λ a. clash (must-true _ _ a.0) e)
  refused (shorter_strip {room} l) = fails (Open room) (λ a. clash (must-true _ _ a.1.0) (lt-leb 1024 room l))
  refused (not_trading e) = fails EndTrading (λ a. clash (must-true _ _ a.0) e)
  refused (not_post_trading e) = fails EndPostTrading (λ a. clash (must-true _ _ a.0) e)

pub refusals-are-true : RefusalsAreTrue
refusals-are-true = record { so = so; refused = λ r w c e. refused r w }
