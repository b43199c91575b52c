-- What follows of the law and the invariant, as a holder or a clearing house would ask it.
use Rattle.std.specs.Prelude.{◌+◌, ◌*◌, ◌≤◌, ◌<◌, ◌≡◌, ◌≢◌, ◌∷◌, ◌++◌}
use Rattle.model.specs.Words.{ℕ, suc, Bool, true, false, List, [], AllByRecursion}
use Rattle.model.specs.Market.{Call, Start, Deposit, Withdraw, Place, Cancel, Open, EndTrading, EndPostTrading, Session, Bid, Trade, Listing, Receipt, Done, Placed}
use Rattle.model.specs.Listings.{quote_of}
use Rattle.model.specs.World.{World, made}
use Rattle.model.specs.Movements.{taken_apart}
use Rattle.model.specs.Calls.{answer, trades, after}
use Rattle.model.specs.Tally.{Entry, Tally, blank, tally_of, exchanged, exchanges, is_refused}
use Rattle.model.specs.Runs.{run, log}
use Rattle.model.specs.Sound.{Sound}
use Rattle.model.specs.Law.{Ready}
use Rattle.register.specs.Books.{Book, Sums, total}
use Rattle.rules.specs.Rules.{Rule, Lawful}

-- after every list of calls, what a holder has of an asset, free and blocked together, is at most this much; no amount is below 0, for amounts
-- are natural numbers and every movement that takes something away is granted only where it is there
abbrev pub AccountsStayWithin : ℕ → Type 0
AccountsStayWithin most =
    (r : Rule) → Lawful r → (b : Book) → Ready b → (cs : List Call) (h a : ℕ) → h < 16 → a < 12
    → (run r (made b) cs).book.free h a + (run r (made b) cs).book.blocked h a ≤ most

-- the calls that bring something to the floor or take it away
abbrev pub brings_or_takes : Call → Bool
brings_or_takes (Start listing) = false
brings_or_takes (Deposit holder asset amount) = true
brings_or_takes (Withdraw holder asset amount) = true
brings_or_takes (Place shown b room) = false
brings_or_takes (Cancel shown holder t number) = false
brings_or_takes (Open room) = false
brings_or_takes EndTrading = false
brings_or_takes EndPostTrading = false

-- no other call changes what all holders have of an asset together
abbrev pub TotalsChangeByDepositsAndWithdrawals : Type 0
TotalsChangeByDepositsAndWithdrawals =
    (r : Rule) → Lawful r → (w : World) (c : Call) → Sound r.step w → brings_or_takes c ≡ false → (a : ℕ) → total (after r w c).book a ≡ total w.book a

-- after the end of trading and after the end of post-trading nothing is blocked
pub record EndsReleaseAll (r : Rule) (w : World) : Type 0 where
  pub trading : answer r w EndTrading ≡ Done → (h a : ℕ) → h < 16 → a < 12 → (after r w EndTrading).book.blocked h a ≡ 0
  pub post_trading : answer r w EndPostTrading ≡ Done → (h a : ℕ) → h < 16 → a < 12 → (after r w EndPostTrading).book.blocked h a ≡ 0

abbrev pub NothingBlockedAfterAnEnd : Type 0
NothingBlockedAfterAnEnd = (r : Rule) → Lawful r → (w : World) → Sound r.step w → EndsReleaseAll r w

-- a day's numbers rise: a bid that is taken has a number above all given before it
abbrev pub NumbersRise : Type 0
NumbersRise =
    (r : Rule) (w : World) (shown : Session) (b : Bid) (room : ℕ) (x : Receipt)
    → answer r w (Place shown b room) ≡ Placed x
    → (x.number ≡ suc w.given) × ((after r w (Place shown b room)).given ≡ suc w.given)

-- two bids that were taken one after the other on one day, so that every start between them was refused: the later one's number is
-- higher, by at least so much
abbrev pub NumbersApart : ℕ → Type 0
NumbersApart least =
    (r : Rule) (w : World) (cs : List Call) (front middle behind : List Entry) (d e : Entry) (x y : Receipt)
    → log r w cs ≡ front ++ d ∷ (middle ++ e ∷ behind)
    → d.answer ≡ Placed x
    → AllByRecursion (λ n. (l : Listing) → n.call ≡ Start l → is_refused n.answer ≡ true) middle
    → e.answer ≡ Placed y
    → x.number + least ≤ y.number

-- ---- trades
-- what each holder has of each asset, free and blocked together
abbrev pub holdings : Book → Sums
holdings b = λ h a. b.free h a + b.blocked h a

-- the currency that a trade is paid in
abbrev pub money_of : Listing → Trade → ℕ
money_of l x = (quote_of l x.ticker).currency

-- the seller has the lots, the buyer has price × lots, and the two are not one asset
pub record Covered (l : Listing) (x : Trade) (f : Sums) : Type 0 where
  pub goods : x.lots ≤ f x.seller x.ticker
  pub money : x.price * x.lots ≤ f x.buyer (money_of l x)
  pub apart : money_of l x ≢ x.ticker

-- what buyer and seller have before and after their trade, where the buyer pays a fee of so much
pub record Swapped (fee : ℕ) (l : Listing) (x : Trade) (before after : Sums) : Type 0 where
  -- the lots go from seller to buyer
  pub gives : after x.seller x.ticker + x.lots ≡ before x.seller x.ticker
  pub gets : after x.buyer x.ticker ≡ before x.buyer x.ticker + x.lots
  -- price × lots goes from buyer to seller
  pub pays : after x.buyer (money_of l x) + (x.price * x.lots + fee) ≡ before x.buyer (money_of l x)
  pub is_paid : after x.seller (money_of l x) ≡ before x.seller (money_of l x) + x.price * x.lots
  -- no other holder and no other asset is touched
  pub others : (h a : ℕ) → h ≢ x.buyer → h ≢ x.seller → after h a ≡ before h a
  pub all_else : (h a : ℕ) → a ≢ x.ticker → a ≢ money_of l x → after h a ≡ before h a

-- one trade as it is booked: two holders swap; who trades with himself has what he had
pub record ATradeMoves (fee : ℕ) : Type 0 where
  pub between : (l : Listing) (x : Trade) (f : Sums) → Covered l x f → x.buyer ≢ x.seller → Swapped fee l x f (exchanged l x f)
  pub alone : (l : Listing) (x : Trade) (f : Sums) → Covered l x f → x.buyer ≡ x.seller → (h a : ℕ) → exchanged l x f h a ≡ f h a

-- trades one after the other, each covered at its turn
abbrev pub EachCovered : Listing → List Trade → Sums → Type 0
EachCovered l [] f = Unit {0}
EachCovered l (x ∷ xs) f = Covered l x f × EachCovered l xs (exchanged l x f)

-- a call that brings and takes nothing, accepted or refused, changes what each holder has by its trades, and by nothing else
pub record MovedByTrades (r : Rule) (w : World) (c : Call) : Type 0 where
  pub covered : EachCovered w.listing (trades r w c) (holdings w.book)
  pub booked : (h a : ℕ) → h < 16 → a < 12 → holdings (after r w c).book h a ≡ exchanges w.listing (trades r w c) (holdings w.book) h a

abbrev pub OnlyTradesMove : Type 0
OnlyTradesMove = (r : Rule) → Lawful r → (w : World) (c : Call) → Sound r.step w → brings_or_takes c ≡ false → MovedByTrades r w c

-- ---- a floor taken apart, whatever was called before: nothing is blocked, and each holder has free what the tally says he has
pub record GivenBack (w : World) (y : Tally) : Type 0 where
  pub released : (h a : ℕ) → h < 16 → a < 12 → (taken_apart w).blocked h a ≡ 0
  pub free : (h a : ℕ) → h < 16 → a < 12 → (taken_apart w).free h a ≡ y.sums h a

abbrev pub FloorsGiveAllBack : Type 0
FloorsGiveAllBack =
    (r : Rule) → Lawful r → (b : Book) → Ready b → (cs : List Call)
    → GivenBack (run r (made b) cs) (tally_of (blank b) (log r (made b) cs))
