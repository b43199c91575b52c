-- The words that scripts are written in.
use Rattle.std.specs.Prelude.{◌+◌, ◌≡◌, ◌&&◌, ◌∷◌}
pub use Rattle.model.specs.Words.{ℕ, zero, suc, Bool, true, false, cond, ltb, eqb, List, [], map, AllByRecursion, sum_of, length, Option, Some, None}
pub use Rattle.rules.specs.declared.bid.Side.{Side}
pub use Rattle.rules.specs.declared.bid.Side.TheVariants.{Buy, Sell}
pub use Rattle.rules.specs.declared.rule.RuleRefusal.TheVariants.{NotWholeSteps, OffBest, OffSettlement, OppositeBid}
pub use Rattle.register.specs.declared.faults.RegisterCause.TheVariants.{NoAccount, BadAmount, OverTotal, TooLittleFree, OverCap}
pub use Rattle.model.specs.declared.words.Session.TheVariants.{Closed, PreTrading, Trading, PostTrading}
pub use Rattle.model.specs.declared.words.Bid.{Bid}
pub use Rattle.model.specs.declared.words.Standing.{Standing}
pub use Rattle.model.specs.declared.words.Trade.{Trade}
pub use Rattle.model.specs.declared.words.Quote.{Quote}
pub use Rattle.model.specs.declared.words.Listing.{Listing}
pub use Rattle.model.specs.declared.faults.FloorRefusal.TheVariants.{BadListing, SomethingBlocked, WrongSession, ShortStrip, NoHolderOrTicker, BeyondLimits}
pub use Rattle.model.specs.declared.faults.FloorRefusal.TheVariants.{FormNotTaken, NoAverage, NumbersSpent, QueueFull, NoSuchBid}
pub use Rattle.model.specs.declared.faults.Cause.{Cause}
pub use Rattle.model.specs.declared.faults.Cause.TheVariants.{Floor as ByFloor, Rule as ByRule, Register as ByRegister}
pub use Rattle.model.specs.declared.faults.CallKind.{CallKind}
pub use Rattle.model.specs.declared.calls.Call.{Call}
pub use Rattle.model.specs.declared.calls.Call.TheVariants.{Start, Deposit, Withdraw, Place, Cancel, Open, EndTrading, EndPostTrading}
pub use Rattle.model.specs.declared.calls.Answer.{Answer}
pub use Rattle.model.specs.declared.calls.Answer.TheVariants.{Done, Placed, Cancelled, Opened, Refused}
