-- The number of each refusal: the floor's to 11, the rule's 21 to 24, the register's 31 to 36.
use Rattle.model.specs.Words.{ℕ}
use Rattle.model.specs.Market.{FloorRefusal, BadListing, SomethingBlocked, WrongSession, ShortStrip, NoHolderOrTicker, BeyondLimits}
use Rattle.model.specs.Market.{FormNotTaken, NoAverage, NumbersSpent, QueueFull, NoSuchBid, Cause, ByFloor, ByRule, ByRegister}
use Rattle.register.specs.Faults.{cause_number}
use Rattle.rules.specs.Rules.{refusal_number}

abbrev pub floor_number : FloorRefusal → ℕ
floor_number BadListing = 1
floor_number SomethingBlocked = 2
floor_number WrongSession = 3
floor_number ShortStrip = 4
floor_number NoHolderOrTicker = 5
floor_number BeyondLimits = 6
floor_number FormNotTaken = 7
floor_number NoAverage = 8
floor_number NumbersSpent = 9
floor_number QueueFull = 10
floor_number NoSuchBid = 11

abbrev pub number_of : Cause → ℕ
number_of (ByFloor refusal) = floor_number refusal
number_of (ByRule refusal) = refusal_number refusal
number_of (ByRegister fault) = cause_number fault.cause
