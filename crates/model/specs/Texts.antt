-- The texts of refusals and of records, as a line tells them.
use Rattle.std.specs.Prelude.{List, ◌++◌, codes, decimal}
use Rattle.model.specs.Words.{ℕ}
use Rattle.model.specs.Market.{Session, Closed, PreTrading, Trading, PostTrading, Standing, Trade, Receipt, Fault}
use Rattle.model.specs.Market.{FloorRefusal, BadListing, SomethingBlocked, WrongSession, ShortStrip, NoHolderOrTicker, BeyondLimits}
use Rattle.model.specs.Market.{FormNotTaken, NoAverage, NumbersSpent, QueueFull, NoSuchBid, Cause, ByFloor, ByRule, ByRegister, CallKind}
use Rattle.model.specs.Numbers.{number_of}
use Rattle.model.specs.declared.faults.CallKind.TheVariants as kind
use Rattle.register.specs.Faults.{fault_text}
use Rattle.rules.specs.Rules.{refusal_text}

abbrev pub session_text : Session → List ℕ
session_text Closed = codes "closed"
session_text PreTrading = codes "pre-trading"
session_text Trading = codes "trading"
session_text PostTrading = codes "post-trading"

-- ---- refusals
-- the call that a refusal names
abbrev pub call_text : CallKind → List ℕ
call_text kind.Start = codes "start"
call_text kind.Deposit = codes "deposit"
call_text kind.Withdraw = codes "withdraw"
call_text kind.Bid = codes "bid"
call_text kind.Cancel = codes "cancel"
call_text kind.Open = codes "open"
call_text kind.EndTrading = codes "end-trading"
call_text kind.EndPostTrading = codes "end-post-trading"
call_text kind.Read = codes "read"

-- why a floor refuses
abbrev pub floor_text : FloorRefusal → List ℕ
floor_text BadListing = codes "a currency is above 3 or a settlement price above 10000000"
floor_text SomethingBlocked = codes "something is blocked"
floor_text WrongSession = codes "not in this session"
floor_text ShortStrip = codes "too little room for trades"
floor_text NoHolderOrTicker = codes "no such holder or ticker"
floor_text BeyondLimits = codes "the price or the lots are beyond the limits"
floor_text FormNotTaken = codes "this session takes no such bid"
floor_text NoAverage = codes "there is no average"
floor_text NumbersSpent = codes "all numbers are given"
floor_text QueueFull = codes "the queue is full"
floor_text NoSuchBid = codes "no such standing bid"

-- who refuses and why; a register tells the account too, and the tag of the layer
abbrev pub cause_text : Cause → List ℕ
cause_text (ByFloor refusal) = codes "floor: " ++ floor_text refusal
cause_text (ByRule refusal) = codes "rule: " ++ refusal_text refusal
cause_text (ByRegister fault) = fault_text fault

-- refused NUMBER CALL TICKER and the cause
abbrev pub fault_line : Fault → List ℕ
fault_line f =
    codes "refused " ++ (decimal (number_of f.cause) ++ (codes " " ++ (call_text f.call ++ (codes " " ++ (decimal f.ticker ++ (codes " " ++ cause_text f.cause))))))

-- ---- records
-- ok bid NUMBER TRADED STANDING COUNT
abbrev pub receipt_line : Receipt → List ℕ
receipt_line r =
    codes "ok bid " ++ (decimal r.number ++ (codes " " ++ (decimal r.traded ++ (codes " " ++ (decimal r.standing ++ (codes " " ++ decimal r.count))))))

-- trade TICKER BUYER SELLER BUYNUMBER SELLNUMBER PRICE LOTS
abbrev pub trade_line : Trade → List ℕ
trade_line t =
    codes "trade " ++ (decimal t.ticker ++ (codes " " ++ (decimal t.buyer ++ (codes " " ++ (decimal t.seller ++ (codes " "
    ++ (decimal t.buy ++ (codes " " ++ (decimal t.sell ++ (codes " " ++ (decimal t.price ++ (codes " " ++ decimal t.lots))))))))))))

-- standing NUMBER HOLDER PRICE LOTS
abbrev pub standing_line : Standing → List ℕ
standing_line s =
    codes "standing " ++ (decimal s.number ++ (codes " " ++ (decimal s.holder ++ (codes " " ++ (decimal s.price ++ (codes " " ++ decimal s.lots))))))
