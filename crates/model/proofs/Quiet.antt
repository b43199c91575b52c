-- The calls that make no trades: each keeps the invariant, and its movements are granted.
use Rattle.model.specs.Words.{ℕ, refl, true, false, cond, eqb, List, [], length, map, AllByRecursion, None, sum_of}
use Rattle.std.proofs.Common.{◌+◌, ◌≤◌, ◌<◌, ◌≡◌, ◌++◌, sym, ap, ◌∙◌, subst, arith}
use Rattle.std.proofs.lemmas.Bool.{true≢false, eqb-true, and_parts}
use Rattle.std.proofs.ByRecursion.{All-weaker}
use Rattle.model.specs.Market.{Side, Buy, Sell, Session, Closed, PreTrading, Trading, PostTrading, Standing, Listing, is_closed, serves, ticker_known, tickers, queue_places}
use Rattle.model.specs.Market.{Start, Deposit, Withdraw, Cancel, EndTrading, EndPostTrading}
use Rattle.model.specs.Queues.{before, named}
use Rattle.model.specs.World.{Sheet, World, queue_of, queue}
use Rattle.model.specs.Checks.{valid_listing, nothing_blocked, is_standing, checks, why}
use Rattle.model.specs.Movements.{moved_all, Granted, moves_made, freeing, void_moves, cancel_moves, cancelled}
use Rattle.model.specs.Calls.{next, new_day, cancel_sheet, void_sheet}
use Rattle.model.specs.Sound.{Fit, Sound, all_owing, sheet_owing, times, times_on, times_in, owing, obliges, standing_lots}
use Rattle.model.proofs.Sums.{by_side, all-kept, sum_kept, sum_same}
use Rattle.model.proofs.Paying.{Made, Takes, made-from, takes-join, takes_beside, takes-each, takes-freed}
use Rattle.model.proofs.Sheets.{passed, must-true, register-none, asset-known, OnSheet, on-sheet, sound-from, with-sheet, sheets-changed, void-on, cancel-on}
use Rattle.register.specs.Books.{Book, Sums, holder_known_lem, sum_to}
use Rattle.register.proofs.Sums.{part-sum_to}
use Rattle.ranking.specs.Ranks.{Ranked}
use Rattle.rules.specs.Rules.{Rule}

pub all-tickers : (P : ℕ → Type 0) → ((t : ℕ) → ticker_known t ≡ true → P t) → AllByRecursion P tickers
all-tickers P h = (h 4 refl, (h 5 refl, (h 6 refl, (h 7 refl, (h 8 refl, (h 9 refl, (h 10 refl, (h 11 refl, tt))))))))

pub holders : (step given : ℕ) (q : List Standing) → AllByRecursion (Fit step given) q → AllByRecursion (λ x. x.holder < 16) q
holders step given q a = All-weaker (Fit step given) (λ x. x.holder < 16) (λ x f. f.holder) q a

-- the bids of two queues of a ticker are taken out
pub takes-sheet : (l : Listing) (t : ℕ) (buys sells : List Standing) → valid_listing l ≡ true → ticker_known t ≡ true
    → AllByRecursion (λ x. x.holder < 16) buys → AllByRecursion (λ x. x.holder < 16) sells
    → Takes l (map (freeing l t Buy) buys ++ map (freeing l t Sell) sells) [] (λ h a. owing l t Buy buys h a + owing l t Sell sells h a) (λ h a. 0)
takes-sheet l t buys sells v k p q =
    takes-join l (map (freeing l t Buy) buys) (map (freeing l t Sell) sells) [] [] _ (owing l t Sell sells) _
    (takes_beside l _ [] (owing l t Sell sells) (owing l t Buy buys) (λ h a. 0) _ _ (λ h a i j. refl) (λ h a i j. omega arith) (takes-freed l t Buy buys (asset-known l t Buy v k) p))
    (takes-freed l t Sell sells (asset-known l t Sell v k) q)

-- every standing bid is taken out
pub takes-void : (step : ℕ) (w : World) → Sound step w → is_closed w.session ≡ false → Takes w.listing (void_moves w) [] (all_owing w) (λ h a. 0)
takes-void step w s o =
    takes_beside w.listing (void_moves w) [] (λ h a. 0) (all_owing w) (λ h a. sum_of (λ t. 0) tickers) _ _ (λ h a i j. omega arith) (λ h a i j. omega arith)
    (takes-each w.listing (λ t. map (freeing w.listing t Buy) (queue w t Buy) ++ map (freeing w.listing t Sell) (queue w t Sell)) (λ t. []) (λ t. sheet_owing w.listing t (w.sheets t)) (λ t h a. 0) tickers
    (all-tickers _ (λ t k. takes-sheet w.listing t (queue w t Buy) (queue w t Sell) (s.listing o) k (holders step _ _ (s.fit t Buy)) (holders step _ _ (s.fit t Sell)))))

-- ---- deposits and withdrawals
-- whatever becomes of what is free
pub book-sound : (step : ℕ) (w : World) (b : Book) → ((h a : ℕ) → b.blocked h a ≡ w.book.blocked h a) → Sound step w
    → Sound step (record { book = b; session = w.session; listing = w.listing; given = w.given; sheets = w.sheets })
book-sound step w b e s = sound-from step _ (on-sheet step w s) (record { once = s.once; listing = s.listing; backed = λ o h a i j. e h a ∙ s.backed o h a i j; given = s.given })

pub deposit-sound : (step : ℕ) (w : World) (h a n : ℕ) → Sound step w → Sound step (next w (Deposit h a n))
deposit-sound step w h a n s = book-sound step w _ (λ h a. refl) s

pub withdraw-sound : (step : ℕ) (w : World) (h a n : ℕ) → Sound step w → Sound step (next w (Withdraw h a n))
withdraw-sound step w h a n s = book-sound step w _ (λ h a. refl) s

pub deposit-granted : (r : Rule) (w : World) (h a n : ℕ) → why r w (Deposit h a n) ≡ None → Granted (moves_made w (Deposit h a n)) w.book
deposit-granted r w h a n e = (register-none _ (passed (checks r w (Deposit h a n)) e).0, tt)

pub withdraw-granted : (r : Rule) (w : World) (h a n : ℕ) → why r w (Withdraw h a n) ≡ None → Granted (moves_made w (Withdraw h a n)) w.book
withdraw-granted r w h a n e = (register-none _ (passed (checks r w (Withdraw h a n)) e).0, tt)

-- ---- the start
is-closed : (x : Session) → is_closed x ≡ true → x ≡ Closed
is-closed Closed e = refl
is-closed PreTrading e = absurd (grind arith)
is-closed Trading e = absurd (grind arith)
is-closed PostTrading e = absurd (grind arith)

pub nothing : (b : Book) → nothing_blocked b ≡ true → (h a : ℕ) → h < 16 → a < 12 → b.blocked h a ≡ 0
nothing b e h a i j =
    let z = eqb-true (sum_to 16 (λ h. sum_to 12 (λ a. b.blocked h a))) 0 e in
    omega (arith, z, part-sum_to 16 (λ h. sum_to 12 (λ a. b.blocked h a)) h i, part-sum_to 12 (λ a. b.blocked h a) a j)

-- a sheet without bids on a new day
new-on : (step : ℕ) (t : ℕ) (s : Sheet) → ((side : Side) → queue_of s side ≡ []) → OnSheet step PreTrading 0 t (new_day s)
new-on step t s e =
    let es : (side : Side) → queue_of (new_day s) side ≡ [] = by_side (λ side. queue_of (new_day s) side ≡ []) (e Buy) (e Sell) in
    record {
      fit = λ side. subst (AllByRecursion (Fit step 0)) (sym (es side)) tt;
      places = λ side. subst (λ (q : List Standing). length q ≤ queue_places) (sym (es side)) (omega arith);
      ranked = λ side. subst (Ranked (before PreTrading side)) (sym (es side)) tt;
      strange = λ side k. es side;
      shut = λ k. es;
      uncrossed = λ k. absurd (true≢false (sym k));
      averaged = λ k. absurd (true≢false (sym k));
      cheapest = omega arith;
      dearest = omega arith;
      bought = subst (λ (q : List Standing). 0 + standing_lots q ≤ 0) (sym (e Buy)) (omega arith);
    }

none-times : (w : World) (k : ℕ) → ((t : ℕ) (side : Side) → queue w t side ≡ []) → times w k ≡ 0
none-times w k e = sum_same (λ t. times_on k (w.sheets t)) (λ t. 0) tickers (all-tickers (λ t. times_on k (w.sheets t) ≡ 0) (λ t _. omega (arith, ap (times_in k) (e t Buy), ap (times_in k) (e t Sell))))

pub none-owing : (w : World) (h a : ℕ) → ((t : ℕ) (side : Side) → queue w t side ≡ []) → all_owing w h a ≡ 0
none-owing w h a e =
    sum_same (λ t. sheet_owing w.listing t (w.sheets t) h a) (λ t. 0) tickers (all-tickers (λ t. sheet_owing w.listing t (w.sheets t) h a ≡ 0) (λ t _. omega (arith, ap (λ (q : List Standing). owing w.listing t Buy q h a) (e t Buy), ap (λ (q : List Standing). owing w.listing t Sell q h a) (e t Sell))))

pub start-sound : (r : Rule) (step : ℕ) (w : World) (l : Listing) → why r w (Start l) ≡ None → Sound step w → Sound step (next w (Start l))
start-sound r step w l e s =
    let ps = passed (checks r w (Start l)) e in
    let closed = must-true _ _ ps.0 in
    let empty = s.shut closed in
    let still : (t : ℕ) (side : Side) → queue (next w (Start l)) t side ≡ [] = λ t. by_side (λ side. queue (next w (Start l)) t side ≡ []) (empty t Buy) (empty t Sell) in
    sound-from step _ (λ t. new-on step t (w.sheets t) (empty t)) (record {
      once = λ k. omega (arith, none-times (next w (Start l)) k still);
      listing = λ o. must-true _ _ ps.1.0;
      backed = λ o h a i j. omega (arith, nothing w.book (must-true _ _ ps.1.1.0) h a i j, none-owing (next w (Start l)) h a still);
      given = omega arith;
    })

-- ---- the ends
ended : (step : ℕ) (w : World) (session : Session) → Sound step w → is_closed w.session ≡ false
    → Sound step (record { book = moved_all (void_moves w) w.book; session = session; listing = w.listing; given = w.given; sheets = λ t. void_sheet (w.sheets t) })
ended step w session s o =
    let m = takes-void step w s o w.book (λ h a. 0) (λ h a i j. omega (arith, s.backed o h a i j)) in
    sound-from step _ (λ t. void-on step w.session session w.given t (w.sheets t) (on-sheet step w s t))
    (record { once = λ k. omega arith; listing = λ c. s.listing o; backed = λ c h a i j. omega (arith, m.blocked h a i j); given = s.given })

pub open_in : (x : Session) (y : Session) → serves y x ≡ true → is_closed x ≡ false
open_in Closed Closed e = absurd (true≢false (sym e))
open_in Closed PreTrading e = absurd (true≢false (sym e))
open_in Closed Trading e = absurd (true≢false (sym e))
open_in Closed PostTrading e = absurd (true≢false (sym e))
open_in PreTrading y e = refl
open_in Trading y e = refl
open_in PostTrading y e = refl

pub void-made : (step : ℕ) (w : World) → Sound step w → is_closed w.session ≡ false → Made w.listing (void_moves w) [] w.book (λ h a. 0)
void-made step w s o = made-from w.listing (void_moves w) [] (all_owing w) _ (takes-void step w s o) w.book (s.backed o)

pub end-trading-open : (r : Rule) (w : World) → why r w EndTrading ≡ None → is_closed w.session ≡ false
end-trading-open r w e = open_in w.session Trading (must-true _ _ (passed (checks r w EndTrading) e).0)

pub end-post-open : (r : Rule) (w : World) → why r w EndPostTrading ≡ None → is_closed w.session ≡ false
end-post-open r w e = open_in w.session PostTrading (must-true _ _ (passed (checks r w EndPostTrading) e).0)

pub end-trading-sound : (r : Rule) (step : ℕ) (w : World) → why r w EndTrading ≡ None → Sound step w → Sound step (next w EndTrading)
end-trading-sound r step w e s = ended step w PostTrading s (end-trading-open r w e)

pub end-post-sound : (r : Rule) (step : ℕ) (w : World) → why r w EndPostTrading ≡ None → Sound step w → Sound step (next w EndPostTrading)
end-post-sound r step w e s = ended step w Closed s (end-post-open r w e)

-- ---- a cancellation
pub record Cancellable (r : Rule) (w : World) (shown : Session) (h t k : ℕ) : Type 0 where
  pub not_closed : is_closed w.session ≡ false
  pub ticker : ticker_known t ≡ true
  pub stands : is_standing w h t k ≡ true

pub cancellable : (r : Rule) (w : World) (shown : Session) (h t k : ℕ) → why r w (Cancel shown h t k) ≡ None → Cancellable r w shown h t k
cancellable r w shown h t k e =
    let ps = passed (checks r w (Cancel shown h t k)) e in
    record {
      not_closed = open_in w.session shown (must-true _ _ ps.0);
      ticker = (and_parts (holder_known_lem h) (ticker_known t) (must-true _ _ ps.1.0)).1;
      stands = must-true _ _ ps.1.1.0;
    }

pub cancel-made : (r : Rule) (step : ℕ) (w : World) (shown : Session) (h t k : ℕ) → why r w (Cancel shown h t k) ≡ None → Sound step w
    → Made w.listing (cancel_moves w h t k) [] w.book (all_owing (next w (Cancel shown h t k)))
cancel-made r step w shown h t k e s =
    let c = cancellable r w shown h t k e in
    let l = w.listing in
    let after : Sums = all_owing (next w (Cancel shown h t k)) in
    made-from l (cancel_moves w h t k) [] (all_owing w) after
    (takes_beside l (cancel_moves w h t k) [] after (λ x y. owing l t Buy (cancelled w h t k Buy) x y + owing l t Sell (cancelled w h t k Sell) x y) (λ x y. 0) (all_owing w) after
    (λ x y i j. omega (
      arith,
      sheets-changed (λ u z. sheet_owing l u z x y) w.sheets t (cancel_sheet (w.sheets t) h k) c.ticker,
      sum_kept (λ z. obliges l t Buy z x y) (named h k) (queue w t Buy),
      sum_kept (λ z. obliges l t Sell z x y) (named h k) (queue w t Sell),
    ))
    (λ x y i j. omega arith)
    (takes-sheet l t (cancelled w h t k Buy) (cancelled w h t k Sell) (s.listing c.not_closed) c.ticker
    (all-kept (named h k) _ _ (holders step _ _ (s.fit t Buy))) (all-kept (named h k) _ _ (holders step _ _ (s.fit t Sell)))))
    w.book (s.backed c.not_closed)

pub cancel-sound : (r : Rule) (step : ℕ) (w : World) (shown : Session) (h t k : ℕ) → why r w (Cancel shown h t k) ≡ None → Sound step w → Sound step (next w (Cancel shown h t k))
cancel-sound r step w shown h t k e s =
    let c = cancellable r w shown h t k e in
    let m = cancel-made r step w shown h t k e s in
    sound-from step _
    (λ u. with-sheet (OnSheet step w.session w.given) w.sheets t _ (cancel-on step w.session w.given t (w.sheets t) h k (on-sheet step w s t)) u (on-sheet step w s u))
    (record {
      once = λ n. omega (
        arith,
        s.once n,
        sheets-changed (λ u z. times_on n z) w.sheets t (cancel_sheet (w.sheets t) h k) c.ticker,
        sum_kept (λ x. cond (eqb x.number n) 1 0) (named h k) (queue w t Buy),
        sum_kept (λ x. cond (eqb x.number n) 1 0) (named h k) (queue w t Sell),
      );
      listing = λ o. s.listing o;
      backed = λ o x y i j. m.blocked x y i j;
      given = s.given;
    })
