-- The declared words of the market, with the register's and the rules', and the smallest questions about them.
use Rattle.std.specs.Prelude.{◌&&◌, ◌∷◌}
use Rattle.model.specs.Words.{ℕ, Bool, true, false, leb, List, []}
pub use Rattle.register.specs.declared.faults.RegisterFault.{RegisterFault}
pub use Rattle.rules.specs.declared.bid.Side.{Side}
pub use Rattle.rules.specs.declared.bid.Side.TheVariants.{Buy, Sell}
pub use Rattle.rules.specs.Bids.{other}
pub use Rattle.rules.specs.declared.bid.Question.{Question}
pub use Rattle.rules.specs.declared.rule.RuleRefusal.{RuleRefusal}
pub use Rattle.model.specs.declared.words.Session.{Session}
pub use Rattle.model.specs.declared.words.Session.TheVariants.{Closed, PreTrading, Trading, PostTrading}
pub use Rattle.model.specs.declared.words.Bid.{Bid}
pub use Rattle.model.specs.declared.words.Standing.{Standing}
pub use Rattle.model.specs.declared.words.Trade.{Trade}
pub use Rattle.model.specs.declared.words.Quote.{Quote}
pub use Rattle.model.specs.declared.words.Listing.{Listing}
pub use Rattle.model.specs.declared.words.Receipt.{Receipt}
pub use Rattle.model.specs.declared.faults.FloorRefusal.{FloorRefusal}
pub use Rattle.model.specs.declared.faults.FloorRefusal.TheVariants.{BadListing, SomethingBlocked, WrongSession, ShortStrip, NoHolderOrTicker, BeyondLimits}
pub use Rattle.model.specs.declared.faults.FloorRefusal.TheVariants.{FormNotTaken, NoAverage, NumbersSpent, QueueFull, NoSuchBid}
pub use Rattle.model.specs.declared.faults.Cause.{Cause}
pub use Rattle.model.specs.declared.faults.Cause.TheVariants.{Floor as ByFloor, Rule as ByRule, Register as ByRegister}
pub use Rattle.model.specs.declared.faults.CallKind.{CallKind}
pub use Rattle.model.specs.declared.faults.Fault.{Fault}
pub use Rattle.model.specs.declared.calls.Call.{Call}
pub use Rattle.model.specs.declared.calls.Call.TheVariants.{Start, Deposit, Withdraw, Place, Cancel, Open, EndTrading, EndPostTrading}
pub use Rattle.model.specs.declared.calls.Answer.{Answer}
pub use Rattle.model.specs.declared.calls.Answer.TheVariants.{Done, Placed, Cancelled, Opened, Refused}

-- ---- sides
abbrev pub same_side : Side → Side → Bool
same_side Buy Buy = true
same_side Buy Sell = false
same_side Sell Buy = false
same_side Sell Sell = true

-- ---- sessions
-- one word for each session
abbrev pub by_session : {X : Type 0} → X → X → X → X → Session → X
by_session closed pre trading post Closed = closed
by_session closed pre trading post PreTrading = pre
by_session closed pre trading post Trading = trading
by_session closed pre trading post PostTrading = post

abbrev pub is_closed : Session → Bool
is_closed = by_session true false false false

abbrev pub is_pre_trading : Session → Bool
is_pre_trading = by_session false true false false

abbrev pub is_trading : Session → Bool
is_trading = by_session false false true false

abbrev pub is_post_trading : Session → Bool
is_post_trading = by_session false false false true

-- a pass serves in its own session; a closed floor has no pass
abbrev pub serves : Session → Session → Bool
serves Closed = λ session. false
serves PreTrading = is_pre_trading
serves Trading = is_trading
serves PostTrading = is_post_trading

-- ---- limits
-- the registration numbers of a day
abbrev pub most_numbers : ℕ
most_numbers = 100000

-- the bids that one queue takes
abbrev pub queue_places : ℕ
queue_places = 64

-- the records that a strip must have, for a bid and for the opening
abbrev pub bid_room : ℕ
bid_room = 64

abbrev pub opening_room : ℕ
opening_room = 1024

-- assets 4 to 11 are tickers
abbrev pub ticker_known : ℕ → Bool
ticker_known t = leb 4 t && leb t 11

abbrev pub tickers : List ℕ
tickers = 4 ∷ 5 ∷ 6 ∷ 7 ∷ 8 ∷ 9 ∷ 10 ∷ 11 ∷ []
