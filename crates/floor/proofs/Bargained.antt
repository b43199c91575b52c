-- A bid that is taken, in the words of those who bid. Assumes nothing.
use Rattle.std.proofs.Common.{◌≡◌, ℕ, ◌+◌, ◌≤◌, Bool, true, false, cond, not, ◌&&◌, List, [], ◌++◌, map, length, take, drop, Some, None, Ok, Err, Option, Result, sym, refl, ap, ◌∙◌, subst, arith}
use Rattle.std.specs.List.{AllByRecursion}
use Rattle.std.proofs.lemmas.List.{take-append-le, take_all}
use Rattle.std.proofs.ByRecursion.{All-weaker}
use Rattle.rules.specs.Rules.{Rule, Lawful}
use Rattle.model.specs.declared.words.Bid.{Bid}
use Rattle.model.specs.declared.words.Receipt.{Receipt}
use Rattle.model.specs.declared.words.Session.{Session}
use Rattle.model.specs.declared.words.Trade.{Trade}
use Rattle.model.specs.declared.faults.Cause.{Cause}
use Rattle.model.specs.declared.faults.Fault.{Fault}
use Rattle.model.specs.declared.calls.Call.TheVariants.{Place}
use Rattle.model.specs.declared.calls.Answer.TheVariants.{Placed, Refused}
use Rattle.model.specs.Words.{is_some}
use Rattle.model.specs.Market.{other, is_trading}
use Rattle.model.specs.Matching.{trades_of}
use Rattle.model.specs.World.{World, queue, average_of}
use Rattle.model.specs.Bidding.{limit_of, met, rest, bid_trades, next_number}
use Rattle.model.specs.Serving.{Along, end, number_in, numbers_of}
use Rattle.model.specs.MatchingLaws.{Fair}
use Rattle.model.specs.Checks.{why}
use Rattle.model.specs.Calls.{answer, after, trades, decided, accepted, receipt, trades_made, next, fault_of_lem}
use Rattle.model.specs.Sound.{Sound}
use Rattle.model.proofs.Matched.{matching-is-right, encounter-by}
use Rattle.model.proofs.Bids.{bids-are-right}
use Rattle.model.proofs.Auction.{all-mem}
use Rattle.model.proofs.Soundness.{calls-keep-sound}
use Rattle.model.proofs.Swaps.{only-trades-move}
use Rattle.model.specs.Tally.{exchanges}
use Rattle.floor.specs.Replies.{placed}
use Rattle.floor.specs.Bargains.{Bargain, Bargained}

module _ (w : World) (b : Bid) where
  -- ---- the trades of a bid
  trades-fair : AllByRecursion (Fair b.side (limit_of w b) (queue w b.ticker (other b.side))) (bid_trades w b)
  trades-fair =
      encounter-by w b (λ m. AllByRecursion (Fair b.side (limit_of w b) (queue w b.ticker (other b.side))) (trades_of m.deals)) tt
      (matching-is-right (next_number w) b (limit_of w b) (queue w b.ticker (other b.side))).fair

  trades-ordered : Along (map (number_in (other b.side)) (bid_trades w b)) (numbers_of (queue w b.ticker (other b.side)))
  trades-ordered =
      encounter-by w b (λ m. Along (map (number_in (other b.side)) (trades_of m.deals)) (numbers_of (queue w b.ticker (other b.side)))) end
      (matching-is-right (next_number w) b (limit_of w b) (queue w b.ticker (other b.side))).order

  -- what stands is all that is left, or nothing
  stands-at-most : rest w b ≤ (met w b).left
  stands-at-most = by (is_some (limit_of w b) && not b.entire && b.keep)
    where
      by : (z : Bool) → cond z (met w b).left 0 ≤ (met w b).left
      by true = omega arith
      by false = omega arith

  pub bargain : (r : Rule) → Lawful r → (shown : Session) (room : ℕ) → Sound r.step w → why r w (Place shown b room) ≡ None → Bargain w (after r w (Place shown b room)) b (receipt w b) (bid_trades w b)
  unfolding after trades
  bargain r law shown room s ok =
      let c = Place shown b room in
      let l = (bids-are-right w b).lots in
      let st = stands-at-most in
      let moved = only-trades-move r law w c s refl in
      record {
        traded = refl;
        lots = omega arith;
        stands = λ h. let e = ((bids-are-right w b).stands h).0 in omega arith;
        fair = trades-fair;
        order = trades-ordered;
        apart = λ t. (calls-keep-sound r law w c s).uncrossed (same-session t) b.ticker;
        averaged = λ t. All-weaker (Fair b.side (limit_of w b) (queue w b.ticker (other b.side))) (λ x. average_of (w.sheets b.ticker) ≡ Some x.price) (λ x f. all-mem (λ z. average_of (w.sheets b.ticker) ≡ Some z.price) (s.averaged t b.ticker (other b.side)) f.stood ∙ ap Some (sym f.price)) (bid_trades w b) trades-fair;
        accounts = λ h a i j. moved.booked h a i j ∙ ap (λ (o : Option Cause). exchanges w.listing (decided o (trades_made w (Place shown b room)) (λ e. [])) (λ x y. w.book.free x y + w.book.blocked x y) h a) ok;
      }
    where
      same-session : is_trading w.session ≡ true → is_trading (after r w (Place shown b room)).session ≡ true
      same-session t = ap (λ (o : Option Cause). is_trading (decided o (next w (Place shown b room)) (λ e. w)).session) ok ∙ t

-- ---- from what a bid is answered and leaves
front : (xs strip : List Trade) → take (length xs) (xs ++ drop (length xs) strip) ≡ xs
front xs strip = take-append-le (length xs) xs (drop (length xs) strip) (omega arith) ∙ take_all (length xs) xs (omega arith)

module _ (r : Rule) (law : Lawful r) (w w' : World) (shown : Session) (b : Bid) (room : ℕ) (strip strip' : List Trade) (s : Sound r.step w) (ew : w' ≡ after r w (Place shown b room)) where
  by-checks : (x : Receipt) (o : Option Cause) → why r w (Place shown b room) ≡ o → Placed x ≡ decided o (accepted w (Place shown b room)) (λ e. Refused (fault_of_lem (Place shown b room) e))
      → strip' ≡ decided o (trades_made w (Place shown b room)) (λ e. []) ++ drop (length (decided o (trades_made w (Place shown b room)) (λ e. []))) strip
      → Bargain w w' b x (take x.count strip')
  by-checks x (Some e) p q t = absurd (let z : ◌≡◌ {A = ℕ} 0 1 = cc in omega arith)
  by-checks x None p q t =
      let same : x ≡ receipt w b = cc in
      let size : take x.count strip' ≡ bid_trades w b = (λ i. take (same i).count (t i)) ∙ front (bid_trades w b) strip in
      subst (λ (ts : List Trade). Bargain w w' b x ts) (sym size)
      (subst (λ (y : Receipt). Bargain w w' b y (bid_trades w b)) (sym same)
      (subst (λ (v : World). Bargain w v b (receipt w b) (bid_trades w b)) (sym ew) (bargain w b r law shown room s p)))

  pub bargained : (res : Result Receipt Fault) → placed res ≡ answer r w (Place shown b room)
      → strip' ≡ trades r w (Place shown b room) ++ drop (length (trades r w (Place shown b room))) strip → Bargained w w' b res strip'
  unfolding answer trades
  bargained (Err f) ea es = tt
  bargained (Ok x) ea es = by-checks x (why r w (Place shown b room)) refl ea es
