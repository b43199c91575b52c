-- What each refusal says, row by row, and that it is so: a call is refused only for a reason of this table, and wherever one holds.
use Rattle.std.specs.Prelude.{◌≤◌, ◌<◌, ◌≡◌, ◌++◌, ◌≢◌}
use Rattle.model.specs.Words.{ℕ, true, false, length, AllByRecursion, Memᴰ, Some}
use Rattle.model.specs.Market.{Session, is_closed, is_pre_trading, is_trading, is_post_trading, serves, Buy, Sell, Bid, Quote, Listing, RuleRefusal, RegisterFault}
use Rattle.model.specs.Market.{Cause, ByFloor, ByRule, ByRegister, BadListing, SomethingBlocked, WrongSession, ShortStrip, NoHolderOrTicker, BeyondLimits}
use Rattle.model.specs.Market.{FormNotTaken, NoAverage, NumbersSpent, QueueFull, NoSuchBid, Refused, Fault}
use Rattle.model.specs.Market.{Call, Start, Deposit, Withdraw, Place, Cancel, Open, EndTrading, EndPostTrading}
use Rattle.model.specs.Listings.{asset_of_lem}
use Rattle.model.specs.World.{World, queue}
use Rattle.model.specs.Bidding.{question, rest, owed}
use Rattle.model.specs.Checks.{form_taken}
use Rattle.model.specs.Calls.{answer}
use Rattle.model.specs.Tally.{is_refused}
use Rattle.register.specs.Moves as move
use Rattle.register.specs.Moves.{refusal}
use Rattle.rules.specs.Rules.{Rule}

pub data Because (r : Rule) (w : World) : Call → Cause → Type 0 where
  -- start: 3, 1, 2
  not_closed : {l : Listing} → is_closed w.session ≡ false → Because r w (Start l) (ByFloor WrongSession)
  no_currency : {l : Listing} (q : Quote) → Memᴰ q l.quotes → 3 < q.currency → Because r w (Start l) (ByFloor BadListing)
  no_settlement : {l : Listing} (q : Quote) → Memᴰ q l.quotes → 10000000 < q.settlement → Because r w (Start l) (ByFloor BadListing)
  blocked : {l : Listing} (h a : ℕ) → h < 16 → a < 12 → 1 ≤ w.book.blocked h a → Because r w (Start l) (ByFloor SomethingBlocked)
  -- deposit and withdrawal: as the register says
  not_deposited : {h a n : ℕ} {f : RegisterFault} → refusal w.book (move.Deposit h a n) ≡ Some f → Because r w (Deposit h a n) (ByRegister f)
  not_withdrawn : {h a n : ℕ} {f : RegisterFault} → refusal w.book (move.Withdraw h a n) ≡ Some f → Because r w (Withdraw h a n) (ByRegister f)
  -- bid: 3 to 9, 21 to 24, 10, and of the register 34 and 35
  wrong_pass : {shown : Session} {b : Bid} {room : ℕ} → serves shown w.session ≡ false → Because r w (Place shown b room) (ByFloor WrongSession)
  short_strip : {shown : Session} {b : Bid} {room : ℕ} → room < 64 → Because r w (Place shown b room) (ByFloor ShortStrip)
  unknown : {shown : Session} {b : Bid} {room : ℕ} → (b.holder < 16 → 4 ≤ b.ticker → b.ticker ≤ 11 → ⊥) → Because r w (Place shown b room) (ByFloor NoHolderOrTicker)
  bad_price : {shown : Session} {b : Bid} {room : ℕ} (p : ℕ) → b.price ≡ Some p → (1 ≤ p → p ≤ 10000000 → ⊥) → Because r w (Place shown b room) (ByFloor BeyondLimits)
  bad_lots : {shown : Session} {b : Bid} {room : ℕ} → (1 ≤ b.lots → b.lots ≤ 1000000 → ⊥) → Because r w (Place shown b room) (ByFloor BeyondLimits)
  bad_form : {shown : Session} {b : Bid} {room : ℕ} → form_taken w.session b ≡ false → Because r w (Place shown b room) (ByFloor FormNotTaken)
  no_average : {shown : Session} {b : Bid} {room : ℕ} → is_post_trading w.session ≡ true → (w.sheets b.ticker).traded ≡ 0 → Because r w (Place shown b room) (ByFloor NoAverage)
  all_given : {shown : Session} {b : Bid} {room : ℕ} → 100000 ≤ w.given → Because r w (Place shown b room) (ByFloor NumbersSpent)
  not_admitted : {shown : Session} {b : Bid} {room : ℕ} {e : RuleRefusal} → r.on_bid (question w b) ≡ Some e → Because r w (Place shown b room) (ByRule e)
  no_place : {shown : Session} {b : Bid} {room : ℕ} → 1 ≤ rest w b → 64 ≤ length (queue w b.ticker b.side) → Because r w (Place shown b room) (ByFloor QueueFull)
  not_blocked : {shown : Session} {b : Bid} {room : ℕ} {f : RegisterFault}
      → 1 ≤ owed w b
      → refusal w.book (move.Block b.holder (asset_of_lem w.listing b.ticker b.side) (owed w b)) ≡ Some f
      → Because r w (Place shown b room) (ByRegister f)
  -- cancellation: 3, 5, 11
  not_that_pass : {shown : Session} {h t k : ℕ} → serves shown w.session ≡ false → Because r w (Cancel shown h t k) (ByFloor WrongSession)
  unknown_there : {shown : Session} {h t k : ℕ} → (h < 16 → 4 ≤ t → t ≤ 11 → ⊥) → Because r w (Cancel shown h t k) (ByFloor NoHolderOrTicker)
  not_standing : {shown : Session} {h t k : ℕ} → AllByRecursion (λ x. x.holder ≡ h → x.number ≢ k) (queue w t Buy ++ queue w t Sell) → Because r w (Cancel shown h t k) (ByFloor NoSuchBid)
  -- opening: 3, 4; the ends: 3
  not_pre_trading : {room : ℕ} → is_pre_trading w.session ≡ false → Because r w (Open room) (ByFloor WrongSession)
  shorter_strip : {room : ℕ} → room < 1024 → Because r w (Open room) (ByFloor ShortStrip)
  not_trading : is_trading w.session ≡ false → Because r w EndTrading (ByFloor WrongSession)
  not_post_trading : is_post_trading w.session ≡ false → Because r w EndPostTrading (ByFloor WrongSession)

-- what a refusal names is so; and where a reason holds the call is refused, if not for this one then for one that is checked before it
pub record RefusalsAreTrue : Type 0 where
  pub so : (r : Rule) (w : World) (c : Call) (f : Fault) → answer r w c ≡ Refused f → Because r w c f.cause
  pub refused : (r : Rule) (w : World) (c : Call) (e : Cause) → Because r w c e → is_refused (answer r w c) ≡ true
