-- A trade moves its lots one way and price × lots the other, and a call changes what the holders have by its trades alone.
use Rattle.model.specs.Words.{ℕ, refl, true, false, List, [], joined, AllByRecursion, Option, Some, None}
use Rattle.std.proofs.Common.{◌*◌, ◌<◌, ◌≡◌, ◌≢◌, ◌∷◌, sym, ap, ◌∙◌, arith}
use Rattle.std.proofs.ByRecursion.{All-append}
use Rattle.std.proofs.lemmas.Bool.{true≢false}
use Rattle.model.specs.Market.{Call, Start, Deposit, Withdraw, Place, Cancel, Open, EndTrading, EndPostTrading, Cause, Listing, Trade, is_closed, ticker_known, tickers}
use Rattle.model.specs.Matching.{Deal, trades_of}
use Rattle.model.specs.World.{World}
use Rattle.model.specs.Checks.{why, valid_listing}
use Rattle.model.specs.Movements.{opened_at}
use Rattle.model.specs.Calls.{trades, after, trades_made, next, decided}
use Rattle.model.specs.Tally.{exchanged, exchanges}
use Rattle.model.specs.Sound.{Sound}
use Rattle.model.specs.Corollaries.{brings_or_takes, holdings, money_of, Covered, Swapped, ATradeMoves, EachCovered, OnlyTradesMove}
use Rattle.model.proofs.Matched.{all_map}
use Rattle.model.proofs.Paying.{Backed, Payable}
use Rattle.model.proofs.Sheets.{currency-apart}
use Rattle.model.proofs.Quiet.{all-tickers, end-trading-open, end-post-open, void-made, cancel-made}
use Rattle.model.proofs.Placing.{taken}
use Rattle.model.proofs.SoundBids.{face, bid-made}
use Rattle.model.proofs.Auction.{opened-at, open_made, is-pre}
use Rattle.register.specs.Books.{Sums, at}
use Rattle.register.proofs.Accounts.{at_here, at-other-holder, at-other-asset, at-covered}
use Rattle.rules.specs.Rules.{Rule, Lawful}

-- ---- one trade
module _ (l : Listing) (x : Trade) (f : Sums) (c : Covered l x f) where
  abbrev cost : ℕ
  cost = x.price * x.lots

  -- the four amounts that it moves, at an account
  abbrev sold : Sums
  sold = at x.seller x.ticker x.lots

  abbrev bought : Sums
  bought = at x.buyer x.ticker x.lots

  abbrev paid : Sums
  paid = at x.buyer (money_of l x) cost

  abbrev received : Sums
  received = at x.seller (money_of l x) cost

  swapped : x.buyer ≢ x.seller → Swapped 0 l x f (exchanged l x f)
  swapped ne =
      let back : x.ticker ≢ money_of l x = λ e. c.apart (sym e) in
      let turn : x.seller ≢ x.buyer = λ e. ne (sym e) in
      record {
        gives = omega (
          arith,
          c.goods,
          at_here x.seller x.ticker x.lots,
          at-other-holder x.buyer x.ticker x.lots x.seller x.ticker turn,
          at-other-holder x.buyer (money_of l x) cost x.seller x.ticker turn,
          at-other-asset x.seller (money_of l x) cost x.seller x.ticker back,
        );
        gets = omega (
          arith,
          at_here x.buyer x.ticker x.lots,
          at-other-holder x.seller x.ticker x.lots x.buyer x.ticker ne,
          at-other-asset x.buyer (money_of l x) cost x.buyer x.ticker back,
          at-other-asset x.seller (money_of l x) cost x.buyer x.ticker back,
        );
        pays = omega (
          arith,
          c.money,
          at_here x.buyer (money_of l x) cost,
          at-other-asset x.seller x.ticker x.lots x.buyer (money_of l x) c.apart,
          at-other-asset x.buyer x.ticker x.lots x.buyer (money_of l x) c.apart,
          at-other-holder x.seller (money_of l x) cost x.buyer (money_of l x) ne,
        );
        is_paid = omega (
          arith,
          at_here x.seller (money_of l x) cost,
          at-other-asset x.seller x.ticker x.lots x.seller (money_of l x) c.apart,
          at-other-asset x.buyer x.ticker x.lots x.seller (money_of l x) c.apart,
          at-other-holder x.buyer (money_of l x) cost x.seller (money_of l x) turn,
        );
        others = λ h a p q. omega (
          arith,
          at-other-holder x.seller x.ticker x.lots h a q,
          at-other-holder x.buyer x.ticker x.lots h a p,
          at-other-holder x.buyer (money_of l x) cost h a p,
          at-other-holder x.seller (money_of l x) cost h a q,
        );
        all_else = λ h a p q. omega (
          arith,
          at-other-asset x.seller x.ticker x.lots h a p,
          at-other-asset x.buyer x.ticker x.lots h a p,
          at-other-asset x.buyer (money_of l x) cost h a q,
          at-other-asset x.seller (money_of l x) cost h a q,
        );
      }

  unmoved : x.buyer ≡ x.seller → (h a : ℕ) → exchanged l x f h a ≡ f h a
  unmoved e h a = omega (
    arith,
    at-covered f x.seller x.ticker x.lots h a c.goods,
    at-covered f x.buyer (money_of l x) cost h a c.money,
    ap (λ (p : ℕ). at p x.ticker x.lots h a) e,
    ap (λ (p : ℕ). at p (money_of l x) cost h a) e,
  )

pub a-trade-moves : ATradeMoves 0
a-trade-moves = record { between = swapped; alone = unmoved }

-- ---- the trades of a call
each-covered : (l : Listing) (xs : List Trade) (f : Sums) → AllByRecursion (λ x. money_of l x ≢ x.ticker) xs → Backed l xs f → EachCovered l xs f
each-covered l [] f a b = tt
each-covered l (x ∷ xs) f a b = (record { goods = b.0; money = b.1; apart = a.0 }, each-covered l xs (exchanged l x f) a.1 b.2)

all-joined : {X Y : Type 0} (P : Y → Type 0) (f : X → List Y) (xs : List X) → AllByRecursion (λ x. AllByRecursion P (f x)) xs → AllByRecursion P (joined f xs)
all-joined P f [] a = tt
all-joined P f (x ∷ xs) a = All-append P (f x) (joined f xs) a.0 (all-joined P f xs a.1)

deals-apart : (l : Listing) (t : ℕ) (ds : List Deal) → valid_listing l ≡ true → ticker_known t ≡ true → AllByRecursion (Payable t) ds → AllByRecursion (λ x. money_of l x ≢ x.ticker) (trades_of ds)
deals-apart l t ds v k p = all_map (Payable t) (λ x. money_of l x ≢ x.ticker) (λ d. d.trade) (λ d q. currency-apart l d.trade.ticker v (ap ticker_known q.ticker ∙ k)) ds p

-- the world that a call leaves, with the trades it made
record Left (w w' : World) (xs : List Trade) : Type 0 where
  covered : EachCovered w.listing xs (holdings w.book)
  booked : (h a : ℕ) → h < 16 → a < 12 → holdings w'.book h a ≡ exchanges w.listing xs (holdings w.book) h a

next-left : (r : Rule) → Lawful r → (w : World) (c : Call) → Sound r.step w → brings_or_takes c ≡ false → why r w c ≡ None → Left w (next w c) (trades_made w c)
next-left r lawful w (Start l) s k e = record { covered = tt; booked = λ h a i j. refl }
next-left r lawful w (Deposit h a n) s k e = absurd (true≢false k)
next-left r lawful w (Withdraw h a n) s k e = absurd (true≢false k)
next-left r lawful w (Place shown b room) s k e =
    let t = taken r lawful w shown b room e in
    let m = bid-made r w b t s in
    record {
      covered = each-covered w.listing _ _ (deals-apart w.listing b.ticker _ (s.listing t.not_closed) t.ticker (face r w b t s).payable) (m.covered (holdings w.book) (λ h a i j. refl));
      booked = m.sums (holdings w.book) (λ h a i j. refl);
    }
next-left r lawful w (Cancel shown h t n) s k e =
    record { covered = tt; booked = (cancel-made r r.step w shown h t n e s).sums (holdings w.book) (λ h a i j. refl) }
next-left r lawful w (Open room) s k e =
    let pre = is-pre r w room e in
    let m = open_made r w s pre in
    record {
      covered = each-covered w.listing _ _
          (all-joined (λ x. money_of w.listing x ≢ x.ticker) (λ t. trades_of (opened_at w t).deals) tickers
          (all-tickers (λ t. AllByRecursion (λ x. money_of w.listing x ≢ x.ticker) (trades_of (opened_at w t).deals))
          (λ t known. deals-apart w.listing t _ (s.listing (ap is_closed pre)) known (opened-at r w s pre t).payable)))
          (m.covered (holdings w.book) (λ h a i j. refl));
      booked = m.sums (holdings w.book) (λ h a i j. refl);
    }
next-left r lawful w EndTrading s k e =
    record { covered = tt; booked = (void-made r.step w s (end-trading-open r w e)).sums (holdings w.book) (λ h a i j. refl) }
next-left r lawful w EndPostTrading s k e =
    record { covered = tt; booked = (void-made r.step w s (end-post-open r w e)).sums (holdings w.book) (λ h a i j. refl) }

pub only-trades-move : OnlyTradesMove
unfolding after trades
only-trades-move r lawful w c s k = let q = go (why r w c) refl in record { covered = q.covered; booked = q.booked }
  where
    go : (o : Option Cause) → why r w c ≡ o → Left w (decided o (next w c) (λ e. w)) (decided o (trades_made w c) (λ e. []))
    go None e = next-left r lawful w c s k e
    go (Some x) e = record { covered = tt; booked = λ h a i j. refl }
