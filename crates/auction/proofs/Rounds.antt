-- The opening ticker by ticker: what is left to do gives, beside what is done, what the whole gives.
use Rattle.std.proofs.Common.{◌≡◌, ℕ, zero, suc, ◌+◌, ◌-◌, ◌*◌, ◌<◌, ◌≤◌, Bool, true, false, cond, ◌&&◌, eqb, ltb, ◌⊎◌, List, [], ◌∷◌, ◌++◌, map, length, get_or, take, drop, set, sym, refl, ap, ◌∙◌, subst, inl, inr, arith}
use mathlib.Core.Path.{fun_ext}
use Rattle.std.specs.List.{flat_map as joined, AllByRecursion}
use Rattle.std.proofs.lemmas.List.{length-append, length-drop, length-map, length-take, take_at}
use Rattle.std.proofs.lemmas.Bool.{cond-true, cond-false, cond_both, cases_Bool, eqb-true, and_from, lt-ltb}
use Rattle.std.proofs.lemmas.Bool.Decides.{nat_tests}
use Rattle.rules.specs.declared.bid.Side.{Side}
use Rattle.rules.specs.declared.bid.Side.TheVariants.{Buy, Sell}
use Rattle.register.specs.Books.{Book}
use Rattle.register.specs.Moves.{Move}
use Rattle.model.specs.declared.words.Trade.{Trade}
use Rattle.model.specs.declared.words.Listing.{Listing}
use Rattle.model.specs.Market.{ticker_known, tickers, opening_room}
use Rattle.model.specs.Listings.{asset_of_lem}
use Rattle.model.specs.Matching.{trades_of}
use Rattle.model.specs.Opening.{opening_price_lem, opening}
use Rattle.model.specs.World.{Sheet, World, blank_sheet, queue_of}
use Rattle.model.specs.Movements.{Granted, moved_all, settlements, opened_at, open_moves}
use Rattle.model.specs.Calls.{open_sheet, with_sheet}
use Rattle.model.proofs.Sums.{by-ticker}
use Rattle.model.proofs.Quiet.{all-tickers}
use Rattle.matching.proofs.Granting.{granted-front, granted-behind, moved-join}
use Rattle.queues.specs.declared.queue.Queue.{Queue}
use Rattle.queues.specs.declared.books.TickerBook.{TickerBook}
use Rattle.queues.specs.Entries.{entries}
use Rattle.queues.specs.Sheets.{sheet_of, sheets_of}
use Rattle.queues.proofs.Filed.{filed, refiled}
use Rattle.auction.specs.Openings.{written, opening_of, opened_with, opening_world, open_trades, Openable, Made, ReadyToOpen, OpenedAll}
use Rattle.auction.specs.Fair.{OpenedFairly}
use Rattle.auction.proofs.Strips.{written-behind, written_none, written-join}
use Rattle.auction.proofs.Fairness.{few-trades, fair}

-- ---- the queues of books have at most 64 bids each
few-entries : (q : Queue) → length (entries q) ≤ 64
few-entries q = omega (arith, length-take q.len q.bids, q.within)

few_on : (books : List TickerBook) (i : ℕ) (side : Side) → length (queue_of (get_or (map sheet_of books) i blank_sheet) side) ≤ 64
few_on [] i Buy = omega arith
few_on [] i Sell = omega arith
few_on (b ∷ books) zero Buy = few-entries b.buys
few_on (b ∷ books) zero Sell = few-entries b.sells
few_on (b ∷ books) (suc i) side = few_on books i side

few-queued : (books : List TickerBook) (t : ℕ) (side : Side) → length (queue_of (sheets_of books t) side) ≤ 64
few-queued books t side =
    cond_both (ticker_known t) (get_or (map sheet_of books) (t - 4) blank_sheet) blank_sheet (λ s. length (queue_of s side) ≤ 64) (λ _. few_on books (t - 4) side) (λ _. few_on [] 0 side)

-- so a ticker has at most 128 trades, and eight have at most 1,024
joined-few : (f : ℕ → List Trade) (ts : List ℕ) → AllByRecursion (λ t. length (f t) ≤ 128) ts → length (joined f ts) ≤ 128 * length ts
joined-few f [] a = omega arith
joined-few f (t ∷ ts) a = omega (arith, joined-few f ts a.1, length-append (f t) (joined f ts), a.0)

-- ---- a ticker that is none has a blank sheet, and keeps it
blank-opened : (t : ℕ) → opened_with (opening_of t blank_sheet) blank_sheet ≡ blank_sheet
unfolding opening opening_price_lem
blank-opened t = refl

-- ---- the rounds
next-ticker : (t : ℕ) → ticker_known t ≡ true → drop (t - 4) tickers ≡ t ∷ drop (t + 1 - 4) tickers
next-ticker = by-ticker (λ t. drop (t - 4) tickers ≡ t ∷ drop (t + 1 - 4) tickers) refl refl refl refl refl refl refl refl

pub ticker-known : (t : ℕ) → 4 ≤ t → t < 12 → ticker_known t ≡ true
ticker-known t l h = grind (arith, nat_tests)

abbrev moves_at : World → ℕ → List Move
moves_at w t = settlements w.listing t (opened_at w t).deals

abbrev trades_at : World → ℕ → List Trade
trades_at w t = trades_of (opened_at w t).deals

-- the sheets when all tickers below t are opened
abbrev opened_below : World → ℕ → ℕ → Sheet
opened_below w t u = cond (ticker_known u && ltb u t) (open_sheet w u) (w.sheets u)

one-more-opened : (w : World) (t : ℕ) → ticker_known t ≡ true → (u : ℕ) → with_sheet (opened_below w t) t (open_sheet w t) u ≡ opened_below w (t + 1) u
one-more-opened w t known u = step (cases_Bool (eqb u t))
  where
    step : (eqb u t ≡ true) ⊎ (eqb u t ≡ false) → with_sheet (opened_below w t) t (open_sheet w t) u ≡ opened_below w (t + 1) u
    step (inl e) =
        let same = eqb-true u t e in
        let h : (ticker_known u && ltb u (t + 1)) ≡ true = and_from _ _ (ap ticker_known same ∙ known) (lt-ltb u (t + 1) (omega arith)) in
        cond-true (eqb u t) _ _ e ∙ ap (open_sheet w) (sym same) ∙ sym (cond-true _ (open_sheet w u) (w.sheets u) h)
    step (inr e) =
        let h : (ticker_known u && ltb u t) ≡ (ticker_known u && ltb u (t + 1)) = grind (arith, nat_tests) in
        cond-false (eqb u t) _ _ e ∙ ap (λ (b : Bool). cond b (open_sheet w u) (w.sheets u)) h

-- before ticker t: the books, the book of the register, the strip and the count as they are
pub record Round (w : World) (strip0 : List Trade) (t : ℕ) (books : List TickerBook) (b : Book) (strip : List Trade) (count : ℕ) : Type 0 where
  pub granted : Granted (joined (moves_at w) (drop (t - 4) tickers)) b
  pub book : moved_all (joined (moves_at w) (drop (t - 4) tickers)) b ≡ moved_all (open_moves w) w.book
  pub sheets : sheets_of books ≡ opened_below w t
  pub strips : written count (joined (trades_at w) (drop (t - 4) tickers)) strip ≡ written 0 (open_trades w) strip0
  pub counts : count + length (joined (trades_at w) (drop (t - 4) tickers)) ≡ length (open_trades w)

module _ {b0 : Book} {listing : Listing} (books0 : List TickerBook) (ready : ReadyToOpen (opening_world b0 listing (sheets_of books0))) where
  abbrev w0 : World
  w0 = opening_world b0 listing (sheets_of books0)

  pub at_most : length (open_trades w0) ≤ opening_room
  at_most =
      joined-few (trades_at w0) tickers
      (all-tickers (λ t. length (trades_at w0 t) ≤ 128) (λ t _. omega (arith, few-trades w0 ready t, few-queued books0 t Buy, few-queued books0 t Sell)))

  first-sheets : sheets_of books0 ≡ opened_below w0 4
  first-sheets = fun_ext (λ u. cond_both (ticker_known u && ltb u 4) (open_sheet w0 u) (sheets_of books0 u) (λ z. sheets_of books0 u ≡ z) (λ e. absurd (grind (arith, nat_tests))) (λ _. refl))

  pub first_round : (strip0 : List Trade) → Round w0 strip0 4 books0 b0 strip0 0
  first_round strip0 = record { granted = ready.granted; book = refl; sheets = first-sheets; strips = refl; counts = omega arith }

  module _ {strip0 : List Trade} {t : ℕ} {books : List TickerBook} {b : Book} {strip : List Trade} {count : ℕ} (known : ticker_known t ≡ true)
      (here : Round w0 strip0 t books b strip count) (eight : length books ≡ 8) (i : ℕ) (at : t - 4 ≡ i) where
    -- what is done now, and the rest
    abbrev rest : List ℕ
    rest = drop (t + 1 - 4) tickers

    moves-now : joined (moves_at w0) (drop (t - 4) tickers) ≡ moves_at w0 t ++ joined (moves_at w0) rest
    moves-now = ap (joined (moves_at w0)) (next-ticker t known)

    trades-now : joined (trades_at w0) (drop (t - 4) tickers) ≡ trades_at w0 t ++ joined (trades_at w0) rest
    trades-now = ap (joined (trades_at w0)) (next-ticker t known)

    -- the ticker's sheet is still that of the beginning
    pub still : (d : TickerBook) → sheet_of (get_or books i d) ≡ w0.sheets t
    still d = ap (λ (n : ℕ). sheet_of (get_or books n d)) (sym at) ∙ filed books t d eight known ∙ ap (λ (f : ℕ → Sheet). f t) here.sheets ∙ cond-false (ticker_known t && ltb t t) (open_sheet w0 t) (w0.sheets t) (grind (arith, nat_tests))

    counted-now : count + (length (opened_at w0 t).deals + length (joined (trades_at w0) rest)) ≡ length (open_trades w0)
    counted-now =
        omega (arith, here.counts, ap (λ (xs : List Trade). length xs) trades-now, length-append (trades_at w0 t) (joined (trades_at w0) rest), length-map (opened_at w0 t).deals (λ d. d.trade))

    -- what the ticker's opening asks
    pub asks-ready : (currency : ℕ) (d : TickerBook) → currency ≡ asset_of_lem listing t Buy → Openable currency (sheet_of (get_or books i d)) (opening_of t (sheet_of (get_or books i d))) b
    asks-ready currency d e =
        subst (λ (s : Sheet). Openable currency s (opening_of t s) b) (sym (still d))
        (subst (λ (a : ℕ). Openable a (w0.sheets t) (opened_at w0 t) b) (sym e)
        (record {
          buys_ranked = ready.ranked t Buy;
          sells_ranked = ready.ranked t Sell;
          buys_lots = ready.lots t Buy;
          granted = granted-front (moves_at w0 t) (joined (moves_at w0) rest) b (subst (λ (ms : List Move). Granted ms b) moves-now here.granted);
          sums = ready.sums t;
        }))

    pub asks-room : (d : TickerBook) → opening_room ≤ length strip → length (opening_of t (sheet_of (get_or books i d))).deals ≤ length (drop count strip)
    asks-room d h = omega (arith, h, length-drop count strip, at_most, counted-now, ap (λ (s : Sheet). length (opening_of t s).deals) (still d))

    -- what it leaves
    module _ (currency : ℕ) (d opened : TickerBook) (b' : Book) (part strip' : List Trade) (n : ℕ) (e : currency ≡ asset_of_lem listing t Buy) (behind : part ≡ drop count strip)
        (made : Made currency (opening_of t (sheet_of (get_or books i d))) (sheet_of (get_or books i d)) b part (sheet_of opened) b' strip' n) where
      made-here : Made (asset_of_lem listing t Buy) (opened_at w0 t) (w0.sheets t) b (drop count strip) (sheet_of opened) b' strip' n
      made-here =
          subst (λ (a : ℕ). Made a (opened_at w0 t) (w0.sheets t) b (drop count strip) (sheet_of opened) b' strip' n) e
          (subst (λ (s : Sheet). Made currency (opening_of t s) s b (drop count strip) (sheet_of opened) b' strip' n) (still d)
          (subst (λ (z : List Trade). Made currency (opening_of t (sheet_of (get_or books i d))) (sheet_of (get_or books i d)) b z (sheet_of opened) b' strip' n) behind made))

      same_count : n ≡ length (trades_at w0 t)
      same_count = made-here.trades ∙ sym (length-map (opened_at w0 t).deals (λ d. d.trade))

      pub fits_count : opening_room ≤ length strip → count + n ≤ length strip
      fits_count h = omega (arith, h, at_most, counted-now, made-here.trades)

      round-made : opening_room ≤ length strip → Round w0 strip0 (t + 1) (set books i opened) b' (take count strip ++ strip') (count + n)
      round-made h = record {
        granted = subst (Granted (joined (moves_at w0) rest)) (sym made-here.book)
            (granted-behind (moves_at w0 t) (joined (moves_at w0) rest) b (subst (λ (ms : List Move). Granted ms b) moves-now here.granted));
        book = ap (moved_all (joined (moves_at w0) rest)) made-here.book ∙ sym (moved-join (moves_at w0 t) (joined (moves_at w0) rest) b) ∙ ap (λ (ms : List Move). moved_all ms b) (sym moves-now) ∙ here.book;
        sheets =
            ap (λ (n : ℕ). sheets_of (set books n opened)) (sym at)
            ∙ refiled books t opened eight known
            ∙ ap (λ (f : ℕ → Sheet). with_sheet f t (sheet_of opened)) here.sheets
            ∙ ap (with_sheet (opened_below w0 t) t) made-here.sheet
            ∙ fun_ext (one-more-opened w0 t known);
        strips =
            ap (λ (k : ℕ). written (count + k) (joined (trades_at w0) rest) (take count strip ++ strip')) same_count
            ∙ ap (written (count + length (trades_at w0 t)) (joined (trades_at w0) rest)) (ap (λ (z : List Trade). take count strip ++ z) made-here.strips ∙ written-behind count (trades_at w0 t) strip)
            ∙ written-join count (trades_at w0 t) (joined (trades_at w0) rest) strip (let n = fits_count h in omega arith)
            ∙ ap (λ (xs : List Trade). written count xs strip) (sym trades-now)
            ∙ here.strips;
        counts = omega (arith, counted-now, made-here.trades);
      }

      pub next-round : (t' : ℕ) (after : List Trade) → t + 1 ≡ t' → after ≡ take count strip ++ strip' → opening_room ≤ length strip → Round w0 strip0 t' (set books i opened) b' after (count + n)
      next-round t' after et ea h =
          subst (λ (k : ℕ). Round w0 strip0 k (set books i opened) b' after (count + n)) et
          (subst (λ (z : List Trade). Round w0 strip0 (t + 1) (set books i opened) b' z (count + n)) (sym ea) (round-made h))

  -- ---- the end
  all-opened : (u : ℕ) → opened_below w0 12 u ≡ open_sheet w0 u
  all-opened u = cond_both (ticker_known u && ltb u 12) (open_sheet w0 u) (sheets_of books0 u) (λ z. z ≡ open_sheet w0 u) (λ _. refl) (λ e. none (grind (arith, nat_tests)))
    where
      none : ticker_known u ≡ false → sheets_of books0 u ≡ open_sheet w0 u
      none k =
          let blank : sheets_of books0 u ≡ blank_sheet = cond-false (ticker_known u) _ _ k in
          blank ∙ sym (blank-opened u) ∙ ap (λ (s : Sheet). opened_with (opening_of u s) s) (sym blank)

  pub finished : (strip0 : List Trade) (t : ℕ) (books : List TickerBook) (b : Book) (strip : List Trade) (count : ℕ) → Round w0 strip0 t books b strip count → t ≡ 12
      → OpenedAll w0 strip0 count strip b (sheets_of books)
  finished strip0 t books b strip count round e =
      let last = subst (λ (k : ℕ). Round w0 strip0 k books b strip count) e round in
      let z : 0 + length (open_trades w0) ≡ length (open_trades w0) = omega arith in
      let made : count ≡ length (open_trades w0) = omega (arith, last.counts) in
      let on-strip = sym (written_none count strip) ∙ last.strips ∙ ap (λ (n : ℕ). open_trades w0 ++ drop n strip0) z in
      let first : take count strip ≡ open_trades w0 = ap (take count) on-strip ∙ take_at (open_trades w0) (drop (length (open_trades w0)) strip0) count (sym made) in
      record {
        count = made;
        strip = on-strip;
        book = last.book;
        sheets = last.sheets ∙ fun_ext all-opened;
        fair = λ t k. subst (OpenedFairly w0 t) (sym first) (fair w0 ready t k);
      }
