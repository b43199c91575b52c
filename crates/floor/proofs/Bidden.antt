-- A bid that is taken: from the books of its ticker to the world of the floor. Assumes nothing.
use Rattle.std.proofs.Common.{◌≡◌, ℕ, ◌+◌, ◌-◌, ◌^◌, ◌<◌, Bool, true, false, cond, ◌&&◌, ◌||◌, eqb, ltb, leb, ◌⊎◌, List, [], ◌∷◌, ◌++◌, length, get_or, drop, set, Some, None, Option, sym, refl, ap, ◌∙◌, subst, inl, inr, arith}
use Rattle.std.proofs.lemmas.Bool.Decides.{nat_tests}
use Rattle.std.proofs.lemmas.Bool.{eqb-true}
use Rattle.std.proofs.lemmas.List.{length-map, append_assoc}
use Rattle.register.specs.Books.{Book, holder_known_lem}
use Rattle.register.specs.Moves.{Move, Block, Release, refusal, after_move}
use Rattle.register.specs.declared.slips.Slip.{Slip}
use Rattle.register.proofs.Grants.{after-made, after-refused}
use Rattle.register.specs.declared.faults.RegisterFault.{RegisterFault}
use Rattle.rules.specs.declared.bid.Side.{Side}
use Rattle.rules.specs.declared.bid.Side.TheVariants.{Buy, Sell}
use Rattle.rules.specs.Bids.{obligation_of}
use Rattle.rules.specs.Rules.{Rule, Lawful}
use Rattle.model.specs.declared.words.Bid.{Bid}
use Rattle.model.specs.declared.words.Listing.{Listing}
use Rattle.model.specs.declared.words.Receipt.{Receipt}
use Rattle.model.specs.declared.words.Session.{Session}
use Rattle.model.specs.declared.words.Standing.{Standing}
use Rattle.model.specs.declared.faults.Cause.{Cause}
use Rattle.model.specs.declared.words.Trade.{Trade}
use Rattle.model.specs.declared.calls.Call.TheVariants.{Place}
use Rattle.model.specs.declared.faults.FloorRefusal.TheVariants.{QueueFull}
use Rattle.model.specs.Words.{only}
use Rattle.model.specs.Market.{other, ticker_known, bid_room, most_numbers, queue_places}
use Rattle.model.specs.Average.{cost_of, lots_of}
use Rattle.model.specs.Matching.{Met, trades_of, to_block}
use Rattle.model.specs.Movements.{Granted, moved_all, bid_moves, settlements}
use Rattle.model.specs.Listings.{quote_of, asset_of_lem}
use Rattle.model.specs.World.{World, Sheet, queue, queue_of, sheet_by}
use Rattle.model.specs.Bidding.{limit_of, met, rest, owed, bid_trades, question}
use Rattle.model.specs.Checks.{Check, by_rule, by_register, must, or_next, why, has_place_lem, funds, first_failing}
use Rattle.model.specs.Calls.{next, receipt, with_sheet, bid_sheet, counted}
use Rattle.model.specs.Sound.{Sound}
use Rattle.model.proofs.Bids.{bids-are-right}
use Rattle.model.proofs.Sheets.{passed, must-true, register-none, sheet-here}
use Rattle.model.proofs.Soundness.{next-granted, next-sound, sums-fit}
use Rattle.queues.specs.declared.books.TickerBook.{TickerBook}
use Rattle.queues.specs.Sheets.{sheet_of, sheets_of}
use Rattle.queues.proofs.Filed.{filed, refiled}
use Rattle.matching.specs.declared.newcomers.Newcomer.{Newcomer}
use Rattle.matching.specs.declared.entering.Outlook.{Outlook}
use Rattle.matching.specs.Dealing.{asset_by, mine_of}
use Rattle.matching.specs.Meetings.{slip_for, settling}
use Rattle.matching.specs.Enterings.{foreseen, rest_of, owed_in, owed_by, entering_moves, entered_sheet, Enters, Entered}
use Rattle.matching.proofs.Granting.{granted-behind, moved-join}
use Rattle.matching.proofs.Facing.{conserved}
use Rattle.floor.specs.declared.desk.Desk.{Desk}
use Rattle.floor.specs.Desks.{world_of}
use Rattle.floor.specs.Asking.{form_checks, newcomer_of, Outlined}
use Rattle.floor.specs.Blocking.{block_fault, blocked_by, foreseen_on, Admitted}
use Rattle.floor.proofs.Passing.{first-join, last-check}

-- ---- the book of the ticker stands at its place
module _ (session : Session) (c : Newcomer) (o : Outlook) (books : List TickerBook) (d : TickerBook) (eight : length books ≡ 8) (known : ticker_known c.bid.ticker ≡ true) where
  pub enters-here : (k : Book) (s : Slip) (room : ℕ)
      → Enters session c (foreseen o.trades c (queue_of (sheets_of books c.bid.ticker) (other c.bid.side))) o (sheets_of books c.bid.ticker) k s room
      → Enters session c (foreseen o.trades c (queue_of (sheet_of (get_or books (c.bid.ticker - 4) d)) (other c.bid.side))) o (sheet_of (get_or books (c.bid.ticker - 4) d)) k s room
  enters-here k s room = subst (λ (z : Sheet). Enters session c (foreseen o.trades c (queue_of z (other c.bid.side))) o z k s room) (sym (filed books c.bid.ticker d eight known))

  pub entered_here : (b : TickerBook) (k k' : Book) (strip strip' : List Trade) (size : ℕ)
      → Entered session c (foreseen o.trades c (queue_of (sheet_of (get_or books (c.bid.ticker - 4) d)) (other c.bid.side))) (sheet_of (get_or books (c.bid.ticker - 4) d)) (sheet_of b) k k' strip strip' size
      → Entered session c (foreseen o.trades c (queue_of (sheets_of books c.bid.ticker) (other c.bid.side))) (sheets_of books c.bid.ticker) (sheet_of b) k k' strip strip' size
  entered_here b k k' strip strip' size =
      subst (λ (z : Sheet). Entered session c (foreseen o.trades c (queue_of z (other c.bid.side))) z (sheet_of b) k k' strip strip' size) (filed books c.bid.ticker d eight known)

  pub refiled-here : (b : TickerBook) (s : Sheet) → sheet_of b ≡ s → sheets_of (set books (c.bid.ticker - 4) b) ≡ with_sheet (sheets_of books) c.bid.ticker s
  refiled-here b s e = refiled books c.bid.ticker b eight known ∙ ap (with_sheet (sheets_of books) c.bid.ticker) e

-- ---- the words of the matching and of the market are the same
asset-same : (l : Listing) (t : ℕ) (side : Side) → asset_by (quote_of l t).currency t side ≡ asset_of_lem l t side
asset-same l t Buy = refl
asset-same l t Sell = refl

owed_same : (side : Side) (limit : Option ℕ) (lots cost : ℕ) (xs : List Trade) → cost ≡ cost_of xs → owed_in side limit lots cost ≡ to_block side limit lots xs
owed_same Buy (Some p) lots cost xs e = refl
owed_same Buy None lots cost xs e = e
owed_same Sell limit lots cost xs e = refl

sheet-worth : (side : Side) (own others : List Standing) (w t : ℕ) → ((sheet_by side own others w t).worth ≡ w) × ((sheet_by side own others w t).traded ≡ t)
sheet-worth Buy own others w t = (refl, refl)
sheet-worth Sell own others w t = (refl, refl)

either : (a b : Bool) → (a || b) ≡ true → (a ≡ true) ⊎ (b ≡ true)
either true b e = inl refl
either false b e = inr e

-- ---- the checks of a bid, part by part
go_on : (a x : Check) → None ≡ a → or_next a x ≡ x
go_on a x p = ap (λ (z : Check). or_next z x) (sym p)

stop : (e : Cause) (a x : Check) → Some e ≡ a → or_next a x ≡ Some e
stop e a x p = ap (λ (z : Check). or_next z x) (sym p)

module _ (r : Rule) (w : World) (shown : Session) (b : Bid) (room : ℕ) where
  parts : why r w (Place shown b room) ≡ or_next (first_failing (form_checks w shown b room)) (or_next (by_rule (r.on_bid (question w b))) (or_next (must (has_place_lem w b) QueueFull) (or_next (funds w b) None)))
  parts = first-join (form_checks w shown b room) (by_rule (r.on_bid (question w b)) ∷ must (has_place_lem w b) QueueFull ∷ funds w b ∷ [])

  after-form : None ≡ first_failing (form_checks w shown b room) → why r w (Place shown b room) ≡ or_next (by_rule (r.on_bid (question w b))) (or_next (must (has_place_lem w b) QueueFull) (or_next (funds w b) None))
  after-form p = parts ∙ go_on _ _ p

  after-rule : None ≡ first_failing (form_checks w shown b room) → None ≡ by_rule (r.on_bid (question w b)) → why r w (Place shown b room) ≡ or_next (must (has_place_lem w b) QueueFull) (or_next (funds w b) None)
  after-rule p q = after-form p ∙ go_on _ _ q

  pub form-refuses : (e : Cause) → Some e ≡ first_failing (form_checks w shown b room) → why r w (Place shown b room) ≡ Some e
  form-refuses e p = parts ∙ stop e _ _ p

  pub rule-refuses : (e : Cause) → None ≡ first_failing (form_checks w shown b room) → Some e ≡ by_rule (r.on_bid (question w b)) → why r w (Place shown b room) ≡ Some e
  rule-refuses e p q = after-form p ∙ stop e _ _ q

  pub place-refuses : (e : Cause) → None ≡ first_failing (form_checks w shown b room) → None ≡ by_rule (r.on_bid (question w b)) → Some e ≡ must (has_place_lem w b) QueueFull
      → why r w (Place shown b room) ≡ Some e
  place-refuses e p q s = after-rule p q ∙ stop e _ _ s

  pub funds-decide : None ≡ first_failing (form_checks w shown b room) → None ≡ by_rule (r.on_bid (question w b)) → None ≡ must (has_place_lem w b) QueueFull
      → why r w (Place shown b room) ≡ funds w b
  funds-decide p q s = after-rule p q ∙ go_on _ _ s ∙ sym (last-check (funds w b))

  pub record Formed : Type 0 where
    pub room_enough : leb bid_room room ≡ true
    pub holder_ticker : (holder_known_lem b.holder && ticker_known b.ticker) ≡ true
    pub numbers : ltb w.given most_numbers ≡ true

  pub formed : None ≡ first_failing (form_checks w shown b room) → Formed
  formed p =
      let ps = passed (form_checks w shown b room) (sym p) in
      record {
        room_enough = must-true _ _ ps.1.0;
        holder_ticker = must-true _ _ ps.1.1.0;
        numbers = must-true _ _ ps.1.1.1.1.1.1.0;
      }

-- ---- what is blocked
-- a block that is refused leaves the book as it was
pub not_blocked : (k : Book) (s : Slip) (e : Cause) → block_fault k s ≡ Some e → blocked_by k s ≡ k
not_blocked k s e p = by (eqb s.amount 0) p
  where
    refuses : (x : Option RegisterFault) → refusal k (Block s.holder s.asset s.amount) ≡ x → by_register x ≡ Some e → after_move k (Block s.holder s.asset s.amount) ≡ k
    refuses None q t = absurd (let z : ◌≡◌ {A = ℕ} 0 1 = cc in omega arith)
    refuses (Some f) q t = after-refused k (Block s.holder s.asset s.amount) f q

    by : (z : Bool) → cond z None (by_register (refusal k (Block s.holder s.asset s.amount))) ≡ Some e → cond z k (after_move k (Block s.holder s.asset s.amount)) ≡ k
    by true q = refl
    by false q = refuses (refusal k (Block s.holder s.asset s.amount)) refl q

module _ (w : World) (b : Bid) (o : Outlook) (out : Outlined w b o) where
  slip-owed : owed_by (newcomer_of w b) o.cost ≡ owed w b
  slip-owed = owed_same b.side (limit_of w b) b.lots o.cost (bid_trades w b) out.cost

  -- the register is asked just what the checks ask it
  pub asked : block_fault w.book (mine_of (newcomer_of w b) (owed_by (newcomer_of w b) o.cost)) ≡ funds w b
  asked = λ i. cond (eqb (slip-owed i) 0) None (by_register (refusal w.book (Block b.holder (asset-same w.listing b.ticker b.side i) (slip-owed i))))

  -- what it then holds
  held : funds w b ≡ None → blocked_by w.book (mine_of (newcomer_of w b) (owed_by (newcomer_of w b) o.cost)) ≡ moved_all (only (ltb 0 (owed w b)) (Block b.holder (asset_of_lem w.listing b.ticker b.side) (owed w b))) w.book
  held f =
      (λ i. cond (eqb (slip-owed i) 0) w.book (after_move w.book (Block b.holder (asset-same w.listing b.ticker b.side i) (slip-owed i))))
      ∙ by (owed w b) (eqb (owed w b) 0) refl f
    where
      by : (n : ℕ) (z : Bool) → eqb n 0 ≡ z → cond z None (by_register (refusal w.book (Block b.holder (asset_of_lem w.listing b.ticker b.side) n))) ≡ None
          → cond z w.book (after_move w.book (Block b.holder (asset_of_lem w.listing b.ticker b.side) n)) ≡ moved_all (only (ltb 0 n) (Block b.holder (asset_of_lem w.listing b.ticker b.side) n)) w.book
      by n true e g = let none : ltb 0 n ≡ false = grind (arith, nat_tests) in ap (λ (z : Bool). moved_all (only z (Block b.holder (asset_of_lem w.listing b.ticker b.side) n)) w.book) (sym none)
      by n false e g =
          let some : ltb 0 n ≡ true = grind (arith, nat_tests) in
          after-made w.book (Block b.holder (asset_of_lem w.listing b.ticker b.side) n) (register-none _ g)
          ∙ ap (λ (z : Bool). moved_all (only z (Block b.holder (asset_of_lem w.listing b.ticker b.side) n)) w.book) (sym some)

  -- ---- a bid that passes all checks
  module _ (r : Rule) (law : Lawful r) (shown : Session) (room : ℕ) (s : Sound r.step w) (ok : why r w (Place shown b room) ≡ None)
      (fm : Formed r w shown b room) (pl : has_place_lem w b ≡ true) (fu : funds w b ≡ None) where
    abbrev c : Newcomer
    c = newcomer_of w b

    abbrev m : Met
    m = foreseen o.trades c (queue w b.ticker (other b.side))

    -- the movements behind the block
    blocking : List Move
    blocking = only (ltb 0 (owed w b)) (Block b.holder (asset_of_lem w.listing b.ticker b.side) (owed w b))

    behind : List Move
    behind = settlements w.listing b.ticker (met w b).deals ++ only (eqb (rest w b) 0) (Release b.holder (asset_of_lem w.listing b.ticker b.side) (obligation_of b.side (limit_of w b) (met w b).left))

    moves-are : bid_moves w b ≡ blocking ++ behind
    unfolding blocking behind
    moves-are = append_assoc blocking _ _

    moves-same : behind ≡ entering_moves c m
    unfolding behind
    moves-same =
        (λ i. settling c (met w b).deals ++ only (eqb (rest_of c (met w b).left) 0) (Release b.holder (sym (asset-same w.listing b.ticker b.side) i) (obligation_of b.side (limit_of w b) (met w b).left)))
        ∙ ap (entering_moves c) out.trades

    book-then : Book
    book-then = moved_all blocking w.book

    granted-then : Granted (entering_moves c m) book-then
    unfolding book-then
    granted-then =
        subst (λ (ms : List Move). Granted ms book-then) moves-same
        (granted-behind blocking behind w.book (subst (λ (ms : List Move). Granted ms w.book) moves-are (next-granted r law w (Place shown b room) ok s)))

    sheet-same : bid_sheet w b ≡ entered_sheet w.session c m (w.sheets b.ticker)
    sheet-same = ap (λ (z : Met). entered_sheet w.session c z (w.sheets b.ticker)) out.trades

    sums : ((w.sheets b.ticker).worth + counted w.session (cost_of (trades_of m.deals)) < 2 ^ 64) × ((w.sheets b.ticker).traded + counted w.session (lots_of (trades_of m.deals)) < 2 ^ 64)
    sums =
        let n = next w (Place shown b room) in
        let f = sums-fit r.step n b.ticker (next-sound r law w (Place shown b room) ok s) in
        let e : n.sheets b.ticker ≡ entered_sheet w.session c m (w.sheets b.ticker) = sheet-here w.sheets b.ticker (bid_sheet w b) ∙ sheet-same in
        let z = sheet-worth b.side _ _ ((w.sheets b.ticker).worth + counted w.session (cost_of (trades_of m.deals))) ((w.sheets b.ticker).traded + counted w.session (lots_of (trades_of m.deals))) in
        let a = ap (λ (x : Sheet). x.worth) e ∙ z.0 in
        let d = ap (λ (x : Sheet). x.traded) e ∙ z.1 in
        (subst (λ (x : ℕ). x < 2 ^ 64) a f.worth, subst (λ (x : ℕ). x < 2 ^ 64) d f.traded)

    pub enters : (k : Book) (slip : Slip) → k ≡ blocked_by w.book (mine_of c (owed_by c o.cost)) → slip ≡ mine_of c (owed_by c o.cost)
        → Enters w.session c m o (w.sheets b.ticker) k slip room
    unfolding book-then blocking
    enters k slip ek es = record {
      granted = subst (Granted (entering_moves c m)) (sym (ek ∙ held fu)) granted-then;
      slip = es ∙ ap (mine_of c) (slip-owed ∙ (bids-are-right w b).block ∙ ap (slip_for c) out.trades);
      trades = refl;
      left = out.left ∙ ap (λ (z : Met). z.left) out.trades;
      cost = out.cost ∙ ap (λ (z : Met). cost_of (trades_of z.deals)) out.trades;
      strip = let p = s.places b.ticker (other b.side) in let e = fm.room_enough in grind (arith, nat_tests);
      place = placed (either _ _ pl);
      worth = sums.0;
      traded = sums.1;
    }
      where
        placed : (eqb (rest w b) 0 ≡ true) ⊎ (ltb (length (queue w b.ticker b.side)) queue_places ≡ true) → (rest_of c m.left ≡ 0) ⊎ (length (queue_of (w.sheets b.ticker) b.side) < 64)
        placed (inl e) = inl (ap (λ (z : Met). rest_of c z.left) (sym out.trades) ∙ eqb-true _ _ e)
        placed (inr e) = inr (grind (arith, nat_tests))

    -- ---- the world, the receipt and the trades are those of the definitions
    pub next-world : (k : Book) → k ≡ blocked_by w.book (mine_of c (owed_by c o.cost))
        → record { book = moved_all (entering_moves c m) k; session = w.session; listing = w.listing; given = c.number; sheets = with_sheet w.sheets b.ticker (entered_sheet w.session c m (w.sheets b.ticker)) } ≡ next w (Place shown b room)
    unfolding book-then blocking
    next-world k ek =
        let bk : moved_all (entering_moves c m) k ≡ moved_all (bid_moves w b) w.book =
        ap (moved_all (entering_moves c m)) (ek ∙ held fu) ∙ ap (λ (ms : List Move). moved_all ms book-then) (sym moves-same)
        ∙ sym (moved-join blocking behind w.book) ∙ ap (λ (ms : List Move). moved_all ms w.book) (sym moves-are) in
        (λ i. record { book = bk i; session = w.session; listing = w.listing; given = c.number; sheets = with_sheet w.sheets b.ticker (sym sheet-same i) })

    pub next-receipt : ◌≡◌ {A = Receipt} (record { number = c.number; traded = b.lots - o.left; standing = rest_of c o.left; count = length m.deals }) (receipt w b)
    next-receipt =
        let n = conserved c o.trades (queue w b.ticker (other b.side)) in
        let l = out.left ∙ ap (λ (z : Met). z.left) out.trades in
        let lots : b.lots - o.left ≡ lots_of (trades_of m.deals) = omega arith in
        let lots' : b.lots - o.left ≡ lots_of (bid_trades w b) = lots ∙ ap (λ (z : Met). lots_of (trades_of z.deals)) (sym out.trades) in
        let size : length m.deals ≡ length (bid_trades w b) = ap (λ (z : Met). length z.deals) (sym out.trades) ∙ sym (length-map (met w b).deals (λ d. d.trade)) in
        (λ i. record { number = c.number; traded = lots' i; standing = rest_of c (out.left i); count = size i })

    pub next-strip : (strip strip' : List Trade) → strip' ≡ trades_of m.deals ++ drop (length m.deals) strip → strip' ≡ bid_trades w b ++ drop (length (bid_trades w b)) strip
    next-strip strip strip' e =
        let size : length m.deals ≡ length (bid_trades w b) = ap (λ (z : Met). length z.deals) (sym out.trades) ∙ sym (length-map (met w b).deals (λ d. d.trade)) in
        e ∙ (λ i. trades_of (sym out.trades i).deals ++ drop (size i) strip)

-- ---- the newcomer and the desk as the code has them
module _ (w : World) (b : Bid) (o : Outlook) (c : Newcomer) (owes : ℕ) (ec : c ≡ newcomer_of w b) (eo : owes ≡ owed_by c o.cost) where
  pub slip-same : mine_of c owes ≡ mine_of (newcomer_of w b) (owed_by (newcomer_of w b) o.cost)
  slip-same = λ i. mine_of (ec i) ((eo ∙ ap (λ (z : Newcomer). owed_by z o.cost) ec) i)

  pub fault-same : Outlined w b o → block_fault w.book (mine_of c owes) ≡ funds w b
  fault-same out = ap (block_fault w.book) slip-same ∙ asked w b o out

  pub book-same : (k : Book) → k ≡ blocked_by w.book (mine_of c owes) → k ≡ blocked_by w.book (mine_of (newcomer_of w b) (owed_by (newcomer_of w b) o.cost))
  book-same k e = e ∙ ap (blocked_by w.book) slip-same

  pub enters-there : (desk : Desk) (k : Book) (slip : Slip) (room : ℕ) → world_of w.book desk ≡ w
      → Enters w.session (newcomer_of w b) (foreseen o.trades (newcomer_of w b) (queue w b.ticker (other b.side))) o (w.sheets b.ticker) k slip room
      → Enters desk.session c (foreseen o.trades c (queue_of (sheets_of desk.books c.bid.ticker) (other c.bid.side))) o (sheets_of desk.books c.bid.ticker) k slip room
  enters-there desk k slip room ed en =
      subst (λ (z : Newcomer). Enters desk.session z (foreseen o.trades z (queue_of (sheets_of desk.books z.bid.ticker) (other z.bid.side))) o (sheets_of desk.books z.bid.ticker) k slip room) (sym ec)
      (subst (λ (v : World). Enters v.session (newcomer_of w b) (foreseen o.trades (newcomer_of w b) (queue_of (v.sheets b.ticker) (other b.side))) o (v.sheets b.ticker) k slip room) (sym ed) en)

  -- the floor after the admission, in the words of the world before it
  pub admitted-there : (k : Book) (desk : Desk) (k' : Book) (desk' : Desk) (strip strip' : List Trade) (r : Receipt) → world_of w.book desk ≡ w → Admitted c o k desk k' desk' strip strip' r
      → (r ≡ record { number = (newcomer_of w b).number; traded = b.lots - o.left; standing = rest_of (newcomer_of w b) o.left; count = length (foreseen o.trades (newcomer_of w b) (queue w b.ticker (other b.side))).deals })
      × (strip' ≡ trades_of (foreseen o.trades (newcomer_of w b) (queue w b.ticker (other b.side))).deals ++ drop (length (foreseen o.trades (newcomer_of w b) (queue w b.ticker (other b.side))).deals) strip)
      × (world_of k' desk' ≡ record {
        book = moved_all (entering_moves (newcomer_of w b) (foreseen o.trades (newcomer_of w b) (queue w b.ticker (other b.side)))) k;
        session = w.session;
        listing = w.listing;
        given = (newcomer_of w b).number;
        sheets = with_sheet w.sheets b.ticker (entered_sheet w.session (newcomer_of w b) (foreseen o.trades (newcomer_of w b) (queue w b.ticker (other b.side))) (w.sheets b.ticker));
      })
  admitted-there k desk k' desk' strip strip' r ed adm = (
    adm.receipt ∙ (λ i. record { number = (ec i).number; traded = (ec i).bid.lots - o.left; standing = rest_of (ec i) o.left; count = length (there i).deals }),
    adm.written ∙ (λ i. trades_of (there i).deals ++ drop (length (there i).deals) strip),
    adm.world ∙ (λ i. record {
      book = moved_all (entering_moves (ec i) (there i)) k;
      session = (ed i).session;
      listing = (ed i).listing;
      given = (ec i).number;
      sheets = with_sheet (ed i).sheets (ec i).bid.ticker (entered_sheet (ed i).session (ec i) (there i) ((ed i).sheets (ec i).bid.ticker));
    }),
  )
    where
      there : foreseen_on c o desk ≡ foreseen o.trades (newcomer_of w b) (queue w b.ticker (other b.side))
      there = λ i. foreseen o.trades (ec i) (queue_of ((ed i).sheets (ec i).bid.ticker) (other (ec i).bid.side))
