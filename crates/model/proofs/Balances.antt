-- The tally's sums and the accounts, call by call.
use Rattle.model.specs.Words.{ℕ, refl, List, [], None}
use Rattle.std.proofs.Common.{◌+◌, ◌≡◌, ◌∷◌, sym, ap, ◌∙◌, arith}
use Rattle.model.specs.Market.{Call, Start, Deposit, Withdraw, Place, Cancel, Open, EndTrading, EndPostTrading, Listing, Trade, Buy, Sell}
use Rattle.model.specs.World.{World, queue, made}
use Rattle.model.specs.Checks.{why, checks}
use Rattle.model.specs.Calls.{accepted, trades_made, next, after}
use Rattle.model.specs.Tally.{Tally, fed, exchanges, blank, tallied, tally_of}
use Rattle.model.specs.Runs.{run, log, entry_of}
use Rattle.model.specs.Law.{Ready, AccountsComeOut}
use Rattle.model.proofs.Making.{made-sound}
use Rattle.model.proofs.Stepping.{stepping}
use Rattle.model.proofs.Soundness.{calls-keep-sound}
use Rattle.model.specs.Sound.{Sound, all_owing}
use Rattle.model.proofs.Sheets.{passed, must-true, register-none}
use Rattle.model.proofs.Sums.{by_side}
use Rattle.model.proofs.Paying.{Everywhere}
use Rattle.model.proofs.Quiet.{nothing, none-owing, end-trading-open, end-post-open, void-made, cancel-made}
use Rattle.model.proofs.Placing.{taken}
use Rattle.model.proofs.SoundBids.{bid-made}
use Rattle.model.proofs.Auction.{open_made, is-pre}
use Rattle.register.specs.Books.{Book, Sums}
use Rattle.register.specs.Moves as move
use Rattle.register.specs.Moves.{refusal}
use Rattle.register.proofs.Accounts.{at-covered}
use Rattle.register.proofs.Grants.{free-withdraw}
use Rattle.rules.specs.Rules.{Rule, Lawful}

pub record Balanced (w : World) (y : Tally) : Type 0 where
  pub sums : Everywhere (λ h a. w.book.free h a + w.book.blocked h a ≡ y.sums h a)
  pub blocked : Everywhere (λ h a. w.book.blocked h a ≡ all_owing w h a)
  pub listing : y.listing ≡ w.listing

-- movements that make trades, from a made list of them
made-sums : (l l' : Listing) (xs : List Trade) (f : Sums) (h a : ℕ) → l' ≡ l → exchanges l xs f h a ≡ exchanges l' xs f h a
made-sums l l' xs f h a e = ap (λ (z : Listing). exchanges z xs f h a) (sym e)

pub next-balanced : (r : Rule) → Lawful r → (w : World) (c : Call) (y : Tally) → Sound r.step w → why r w c ≡ None → Balanced w y → Balanced (next w c) (fed c (accepted w c) (trades_made w c) y)
next-balanced r lawful w (Start l) y s e t =
    let ps = passed (checks r w (Start l)) e in
    let empty = s.shut (must-true _ _ ps.0) in
    record {
      sums = t.sums;
      blocked = λ h a i j. nothing w.book (must-true _ _ ps.1.1.0) h a i j ∙ sym (none-owing (next w (Start l)) h a (λ u. by_side (λ side. queue (next w (Start l)) u side ≡ []) (empty u Buy) (empty u Sell)));
      listing = refl;
    }
next-balanced r lawful w (Deposit h a n) y s e t = record { sums = λ x z i j. omega (arith, t.sums x z i j); blocked = t.blocked; listing = t.listing }
next-balanced r lawful w (Withdraw h a n) y s e t =
    let g = register-none (refusal w.book (move.Withdraw h a n)) (passed (checks r w (Withdraw h a n)) e).0 in
    record { sums = λ x z i j. omega (arith, t.sums x z i j, at-covered w.book.free h a n x z (free-withdraw w.book h a n g)); blocked = t.blocked; listing = t.listing }
next-balanced r lawful w (Place shown b room) y s e t =
    let m = bid-made r w b (taken r lawful w shown b room e) s in
    record { sums = λ h a i j. m.sums y.sums t.sums h a i j ∙ made-sums w.listing y.listing (trades_made w (Place shown b room)) y.sums h a t.listing; blocked = m.blocked; listing = t.listing }
next-balanced r lawful w (Cancel shown h u k) y s e t =
    let m = cancel-made r r.step w shown h u k e s in
    record { sums = m.sums y.sums t.sums; blocked = m.blocked; listing = t.listing }
next-balanced r lawful w (Open room) y s e t =
    let m = open_made r w s (is-pre r w room e) in
    record { sums = λ h a i j. m.sums y.sums t.sums h a i j ∙ made-sums w.listing y.listing (trades_made w (Open room)) y.sums h a t.listing; blocked = m.blocked; listing = t.listing }
next-balanced r lawful w EndTrading y s e t =
    let m = void-made r.step w s (end-trading-open r w e) in
    record { sums = m.sums y.sums t.sums; blocked = λ h a i j. m.blocked h a i j ∙ sym (none-owing (next w EndTrading) h a (λ u. by_side (λ side. queue (next w EndTrading) u side ≡ []) refl refl)); listing = t.listing }
next-balanced r lawful w EndPostTrading y s e t =
    let m = void-made r.step w s (end-post-open r w e) in
    record { sums = m.sums y.sums t.sums; blocked = λ h a i j. m.blocked h a i j ∙ sym (none-owing (next w EndPostTrading) h a (λ u. by_side (λ side. queue (next w EndPostTrading) u side ≡ []) refl refl)); listing = t.listing }

pub made-balanced : (b : Book) → Ready b → Balanced (made b) (blank b)
made-balanced b y = record {
  sums = λ h a i j. omega (arith, y.quiet h a i j);
  blocked = λ h a i j. y.quiet h a i j ∙ sym (none-owing (made b) h a (λ u. by_side (λ side. queue (made b) u side ≡ []) refl refl));
  listing = refl;
}

runs-balanced : (r : Rule) → Lawful r → (w : World) (y : Tally) (cs : List Call) → Sound r.step w → Balanced w y → Balanced (run r w cs) (tally_of y (log r w cs))
runs-balanced r lawful w y [] s t = t
runs-balanced r lawful w y (c ∷ cs) s t =
    runs-balanced r lawful (after r w c) (tallied (entry_of r w c) y) cs (calls-keep-sound r lawful w c s) (stepping Balanced r w c y t (λ e. next-balanced r lawful w c y s e t))

pub accounts-come-out : AccountsComeOut
accounts-come-out r lawful b y cs =
    let t = runs-balanced r lawful (made b) (blank b) cs (made-sound r.step b) (made-balanced b y) in
    record { totals = t.sums; obliged = t.blocked }
