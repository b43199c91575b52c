-- Every call keeps the invariant; its movements are granted; its trades have room; the sums fit.
use Rattle.model.specs.Words.{ℕ, refl, List, [], joined, length, Option, Some, None, AllByRecursion}
use Rattle.std.proofs.Common.{◌*◌, ◌≤◌, ◌≡◌, ◌∷◌, arith, length-append}
use Rattle.std.proofs.lemmas.Bool.{leb-true}
use Rattle.model.specs.Market.{Call, Start, Deposit, Withdraw, Place, Cancel, Open, EndTrading, EndPostTrading, Cause, Buy, Sell, other, tickers, bid_room, opening_room}
use Rattle.model.specs.Matching.{trades_of}
use Rattle.model.specs.World.{World, made}
use Rattle.model.specs.Checks.{why, checks}
use Rattle.model.specs.Movements.{Granted, moves_made, opened_at}
use Rattle.model.specs.Calls.{trades, moves, after, trades_made, next, decided}
use Rattle.model.specs.Runs.{run}
use Rattle.model.specs.Sound.{Sound}
use Rattle.model.specs.SoundLaws.{CallsKeepSound, AlwaysSound, AlwaysWithin, MovementsAreGranted, OfAccounts, MovementsNameAccounts, StripsSuffice, room_of_lem, SumsFit}
use Rattle.model.proofs.Making.{made-sound}
use Rattle.model.proofs.Sheets.{passed, must-true}
use Rattle.model.proofs.Quiet.{deposit-sound, withdraw-sound, deposit-granted, withdraw-granted, start-sound, end-trading-open, end-post-open, end-trading-sound, end-post-sound, void-made, cancel-made, cancel-sound, all-tickers}
use Rattle.model.proofs.Placing.{taken}
use Rattle.model.proofs.SoundBids.{face, bid-made, bid-sound}
use Rattle.model.proofs.Auction.{opened-at, open_made, open-sound, is-pre}
use Rattle.register.specs.Books.{Book}
use Rattle.register.specs.Moves as move
use Rattle.register.specs.Moves.{Move, moved, refusal}
use Rattle.register.proofs.Grants.{known-deposit, known-withdraw, known-block, known-release, known-pay, payee-known}
use Rattle.rules.specs.Rules.{Rule, Lawful}

-- ---- an accepted call
pub next-sound : (r : Rule) → Lawful r → (w : World) (c : Call) → why r w c ≡ None → Sound r.step w → Sound r.step (next w c)
next-sound r lawful w (Start listing) e s = start-sound r r.step w listing e s
next-sound r lawful w (Deposit h a n) e s = deposit-sound r.step w h a n s
next-sound r lawful w (Withdraw h a n) e s = withdraw-sound r.step w h a n s
next-sound r lawful w (Place shown b room) e s = bid-sound r w b (taken r lawful w shown b room e) s
next-sound r lawful w (Cancel shown h t k) e s = cancel-sound r r.step w shown h t k e s
next-sound r lawful w (Open room) e s = open-sound r w s (is-pre r w room e) room
next-sound r lawful w EndTrading e s = end-trading-sound r r.step w e s
next-sound r lawful w EndPostTrading e s = end-post-sound r r.step w e s

pub next-granted : (r : Rule) → Lawful r → (w : World) (c : Call) → why r w c ≡ None → Sound r.step w → Granted (moves_made w c) w.book
next-granted r lawful w (Start listing) e s = tt
next-granted r lawful w (Deposit h a n) e s = deposit-granted r w h a n e
next-granted r lawful w (Withdraw h a n) e s = withdraw-granted r w h a n e
next-granted r lawful w (Place shown b room) e s = (bid-made r w b (taken r lawful w shown b room e) s).granted
next-granted r lawful w (Cancel shown h t k) e s = (cancel-made r r.step w shown h t k e s).granted
next-granted r lawful w (Open room) e s = (open_made r w s (is-pre r w room e)).granted
next-granted r lawful w EndTrading e s = (void-made r.step w s (end-trading-open r w e)).granted
next-granted r lawful w EndPostTrading e s = (void-made r.step w s (end-post-open r w e)).granted

joined_length : {X Y : Type 0} (f : X → List Y) (n : ℕ) (xs : List X) → AllByRecursion (λ x. length (f x) ≤ n) xs → length (joined f xs) ≤ n * length xs
joined_length f n [] a = omega arith
joined_length f n (x ∷ xs) a = let ih = joined_length f n xs a.1 in let e = length-append (f x) (joined f xs) in omega (arith, ih, e, a.0)

next-strip : (r : Rule) → Lawful r → (w : World) (c : Call) → why r w c ≡ None → Sound r.step w → length (trades_made w c) ≤ room_of_lem c
next-strip r lawful w (Start listing) e s = omega arith
next-strip r lawful w (Deposit h a n) e s = omega arith
next-strip r lawful w (Withdraw h a n) e s = omega arith
next-strip r lawful w (Place shown b room) e s =
    let room-is = leb-true bid_room room (must-true _ _ (passed (checks r w (Place shown b room)) e).1.0) in
    omega (arith, room-is, (face r w b (taken r lawful w shown b room e) s).count, s.places b.ticker (other b.side))
next-strip r lawful w (Cancel shown h t k) e s = omega arith
next-strip r lawful w (Open room) e s =
    let room-is = leb-true opening_room room (must-true _ _ (passed (checks r w (Open room)) e).1.0) in
    let pre = is-pre r w room e in
    omega (
      arith,
      room-is,
      joined_length (λ t. trades_of (opened_at w t).deals) 128 tickers
          (all-tickers (λ t. length (trades_of (opened_at w t).deals) ≤ 128) (λ t _. omega (arith, (opened-at r w s pre t).clearing.count, s.places t Buy, s.places t Sell))),
    )
next-strip r lawful w EndTrading e s = omega arith
next-strip r lawful w EndPostTrading e s = omega arith

-- ---- accepted or refused
pub by-why : {X : Type 0} (P : X → Type 0) (o : Option Cause) (x : X) (y : Cause → X) → (o ≡ None → P x) → ((e : Cause) → P (y e)) → P (decided o x y)
by-why P None x y p q = p refl
by-why P (Some e) x y p q = q e

pub calls-keep-sound : CallsKeepSound
unfolding after
calls-keep-sound r lawful w c s = by-why (Sound r.step) (why r w c) (next w c) (λ e. w) (λ e. next-sound r lawful w c e s) (λ e. s)

pub runs-keep-sound : (r : Rule) → Lawful r → (w : World) (cs : List Call) → Sound r.step w → Sound r.step (run r w cs)
runs-keep-sound r lawful w [] s = s
runs-keep-sound r lawful w (c ∷ cs) s = runs-keep-sound r lawful (after r w c) cs (calls-keep-sound r lawful w c s)

pub always-sound : AlwaysSound
always-sound r lawful b cs = runs-keep-sound r lawful (made b) cs (made-sound r.step b)

pub always-within : AlwaysWithin 64 100000
always-within r lawful b cs = let s = always-sound r lawful b cs in record { queued = s.places; numbered = s.given }

pub movements-are-granted : MovementsAreGranted
unfolding moves
movements-are-granted r lawful w c s = by-why (λ ms. Granted ms w.book) (why r w c) (moves_made w c) (λ e. []) (λ e. next-granted r lawful w c e s) (λ e. tt)

-- what the register grants is of accounts there are
granted-known : (m : Move) (b : Book) → refusal b m ≡ None → OfAccounts 16 12 m
granted-known (move.Deposit h a n) b e = let k = known-deposit b h a n e in (k.holder, k.asset)
granted-known (move.Withdraw h a n) b e = let k = known-withdraw b h a n e in (k.holder, k.asset)
granted-known (move.Block h a n) b e = let k = known-block b h a n e in (k.holder, k.asset)
granted-known (move.Release h a n) b e = let k = known-release b h a n e in (k.holder, k.asset)
granted-known (move.Pay h a n p) b e = let k = known-pay b h a n p e in (k.holder, k.asset, payee-known b h a n p e)

all_known : (ms : List Move) (b : Book) → Granted ms b → AllByRecursion (OfAccounts 16 12) ms
all_known [] b g = tt
all_known (m ∷ ms) b g = (granted-known m b g.0, all_known ms (moved b m) g.1)

pub movements-name-accounts : MovementsNameAccounts 16 12
movements-name-accounts r lawful w c s = all_known (moves r w c) w.book (movements-are-granted r lawful w c s)

pub strips-suffice : StripsSuffice
unfolding trades
strips-suffice r lawful w c s = by-why (λ xs. length xs ≤ room_of_lem c) (why r w c) (trades_made w c) (λ e. []) (λ e. next-strip r lawful w c e s) (λ e. omega arith)

pub sums-fit : SumsFit 64
sums-fit step w t s = record {
  worth = omega (arith, s.dearest t, s.bought t, s.given);
  traded = omega (arith, s.bought t, s.given);
}
