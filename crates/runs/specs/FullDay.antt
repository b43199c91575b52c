-- A day under the corporate rule: every form of bid in every session, and most refusals.
use Rattle.std.specs.Prelude.{◌∷◌}
use Rattle.runs.specs.Words.{false, List, [], Some, None, Buy, Sell, Closed, PreTrading, Trading, PostTrading, ByFloor, ByRule, ByRegister}
use Rattle.runs.specs.Words.{BadListing, WrongSession, ShortStrip, NoHolderOrTicker, BeyondLimits, FormNotTaken, NoAverage, NoSuchBid}
use Rattle.runs.specs.Words.{OffBest, OffSettlement, NoAccount, BadAmount, OverTotal, TooLittleFree}
use Rattle.runs.specs.Words.{Start, Deposit, Withdraw, Place, Cancel, Open, EndTrading, EndPostTrading, Done, Cancelled, Opened}
use Rattle.model.specs.declared.faults.CallKind.TheVariants as kind
use Rattle.model.specs.Tally.{Entry}
use Rattle.model.specs.World.{made}
use Rattle.register.specs.Books.{most_amount}
use Rattle.register.specs.Moves.{fault}
use Rattle.rules.specs.Rules.{corporate}
use Rattle.runs.specs.Scripts.{Script, Account, Queue, plenty, quote, listing, bid, partial, entire, keep, withdraw, on, placed, refused, trade, account, queue, stands, Sums, sums, Left, left}

abbrev entries : List Entry
entries =
    on (Deposit 4 0 500) Done []
    ∷ on (Deposit 16 0 5) (refused (ByRegister (fault NoAccount 16 0 0)) kind.Deposit 0) []
    ∷ on (Deposit 0 12 5) (refused (ByRegister (fault NoAccount 0 12 0)) kind.Deposit 0) []
    ∷ on (Deposit 0 0 0) (refused (ByRegister (fault BadAmount 0 0 0)) kind.Deposit 0) []
    ∷ on (Deposit 0 0 10000000000000001) (refused (ByRegister (fault BadAmount 0 0 0)) kind.Deposit 0) []
    ∷ on (Deposit 0 0 10000000000000000) (refused (ByRegister (fault OverTotal 0 0 0)) kind.Deposit 0) []
    ∷ on (Withdraw 4 0 501) (refused (ByRegister (fault TooLittleFree 4 0 0)) kind.Withdraw 0) []
    ∷ on (Withdraw 4 0 100) Done []
    ∷ on (Withdraw 16 12 0) (refused (ByRegister (fault NoAccount 16 12 0)) kind.Withdraw 0) []
    ∷ on (Withdraw 0 0 0) (refused (ByRegister (fault BadAmount 0 0 0)) kind.Withdraw 0) []
    ∷ on (Place Trading (bid 0 4 Buy (Some 100) 1 partial keep) 64) (refused (ByFloor WrongSession) kind.Bid 4) []
    ∷ on (Open 1024) (refused (ByFloor WrongSession) kind.Open 0) []
    ∷ on EndTrading (refused (ByFloor WrongSession) kind.EndTrading 0) []
    ∷ on EndPostTrading (refused (ByFloor WrongSession) kind.EndPostTrading 0) []
    ∷ on (Cancel Trading 0 4 1) (refused (ByFloor WrongSession) kind.Cancel 4) []
    ∷ on (Start (listing (quote 4 0 ∷ quote 0 0 ∷ quote 0 0 ∷ quote 0 0 ∷ quote 0 0 ∷ quote 0 0 ∷ quote 0 0 ∷ quote 0 0 ∷ []))) (refused (ByFloor BadListing) kind.Start 0) []
    ∷ on (Start (listing (quote 0 0 ∷ quote 0 0 ∷ quote 0 0 ∷ quote 0 0 ∷ quote 0 0 ∷ quote 0 0 ∷ quote 0 0 ∷ quote 3 10000001 ∷ []))) (refused (ByFloor BadListing) kind.Start 0) []
    ∷ on (Start (listing (quote 0 100 ∷ quote 1 0 ∷ quote 0 100 ∷ quote 2 0 ∷ quote 3 1000 ∷ quote 0 0 ∷ quote 3 10000000 ∷ quote 0 0 ∷ []))) Done []
    ∷ on (Start (listing (quote 0 100 ∷ quote 1 0 ∷ quote 0 100 ∷ quote 2 0 ∷ quote 3 1000 ∷ quote 0 0 ∷ quote 1 100 ∷ quote 0 0 ∷ []))) (refused (ByFloor WrongSession) kind.Start 0) []
    ∷ on (Place Trading (bid 0 4 Buy (Some 100) 1 partial keep) 64) (refused (ByFloor WrongSession) kind.Bid 4) []
    ∷ on (Place Closed (bid 0 4 Buy (Some 100) 1 partial keep) 64) (refused (ByFloor WrongSession) kind.Bid 4) []
    ∷ on (Place PreTrading (bid 0 4 Buy (Some 100) 1 partial keep) 63) (refused (ByFloor ShortStrip) kind.Bid 4) []
    ∷ on (Place PreTrading (bid 16 4 Buy (Some 100) 1 partial keep) 64) (refused (ByFloor NoHolderOrTicker) kind.Bid 4) []
    ∷ on (Place PreTrading (bid 0 3 Buy (Some 100) 1 partial keep) 64) (refused (ByFloor NoHolderOrTicker) kind.Bid 3) []
    ∷ on (Place PreTrading (bid 0 12 Buy (Some 100) 1 partial keep) 64) (refused (ByFloor NoHolderOrTicker) kind.Bid 12) []
    ∷ on (Place PreTrading (bid 0 4 Buy (Some 0) 1 partial keep) 64) (refused (ByFloor BeyondLimits) kind.Bid 4) []
    ∷ on (Place PreTrading (bid 0 4 Buy (Some 10000001) 1 partial keep) 64) (refused (ByFloor BeyondLimits) kind.Bid 4) []
    ∷ on (Place PreTrading (bid 0 4 Buy (Some 100) 0 partial keep) 64) (refused (ByFloor BeyondLimits) kind.Bid 4) []
    ∷ on (Place PreTrading (bid 0 4 Buy (Some 100) 1000001 partial keep) 64) (refused (ByFloor BeyondLimits) kind.Bid 4) []
    ∷ on (Place PreTrading (bid 1 9 Buy (Some 50) 5 partial keep) 64) (placed 1 0 5 0) []
    ∷ on (Place PreTrading (bid 1 9 Buy (Some 50) 5 partial withdraw) 64) (refused (ByFloor FormNotTaken) kind.Bid 9) []
    ∷ on (Place PreTrading (bid 1 9 Buy (Some 50) 5 entire keep) 64) (refused (ByFloor FormNotTaken) kind.Bid 9) []
    ∷ on (Place PreTrading (bid 1 9 Buy (Some 50) 5 entire withdraw) 64) (refused (ByFloor FormNotTaken) kind.Bid 9) []
    ∷ on (Place PreTrading (bid 1 9 Buy None 5 partial keep) 64) (refused (ByFloor FormNotTaken) kind.Bid 9) []
    ∷ on (Place PreTrading (bid 1 9 Buy None 5 partial withdraw) 64) (refused (ByFloor FormNotTaken) kind.Bid 9) []
    ∷ on (Place PreTrading (bid 1 9 Buy None 5 entire keep) 64) (refused (ByFloor FormNotTaken) kind.Bid 9) []
    ∷ on (Place PreTrading (bid 1 9 Buy None 5 entire withdraw) 64) (refused (ByFloor FormNotTaken) kind.Bid 9) []
    ∷ on (Place PreTrading (bid 1 9 Sell (Some 50) 5 partial keep) 64) (placed 2 0 5 0) []
    ∷ on (Place PreTrading (bid 1 9 Sell (Some 50) 5 partial withdraw) 64) (refused (ByFloor FormNotTaken) kind.Bid 9) []
    ∷ on (Place PreTrading (bid 1 9 Sell (Some 50) 5 entire keep) 64) (refused (ByFloor FormNotTaken) kind.Bid 9) []
    ∷ on (Place PreTrading (bid 1 9 Sell (Some 50) 5 entire withdraw) 64) (refused (ByFloor FormNotTaken) kind.Bid 9) []
    ∷ on (Place PreTrading (bid 1 9 Sell None 5 partial keep) 64) (refused (ByFloor FormNotTaken) kind.Bid 9) []
    ∷ on (Place PreTrading (bid 1 9 Sell None 5 partial withdraw) 64) (refused (ByFloor FormNotTaken) kind.Bid 9) []
    ∷ on (Place PreTrading (bid 1 9 Sell None 5 entire keep) 64) (refused (ByFloor FormNotTaken) kind.Bid 9) []
    ∷ on (Place PreTrading (bid 1 9 Sell None 5 entire withdraw) 64) (refused (ByFloor FormNotTaken) kind.Bid 9) []
    ∷ on (Place PreTrading (bid 0 9 Buy (Some 55) 3 partial keep) 64) (placed 3 0 3 0) []
    ∷ on (Place PreTrading (bid 2 9 Buy (Some 56) 2 partial keep) 64) (refused (ByRule OffBest) kind.Bid 9) []
    ∷ on (Place PreTrading (bid 2 9 Sell (Some 48) 4 partial keep) 64) (refused (ByRule OffBest) kind.Bid 9) []
    ∷ on (Cancel PreTrading 1 9 1) (Cancelled 5) []
    ∷ on (Cancel PreTrading 1 9 1) (refused (ByFloor NoSuchBid) kind.Cancel 9) []
    ∷ on (Cancel PreTrading 2 9 2) (refused (ByFloor NoSuchBid) kind.Cancel 9) []
    ∷ on (Cancel PreTrading 16 9 2) (refused (ByFloor NoHolderOrTicker) kind.Cancel 9) []
    ∷ on (Cancel PreTrading 1 3 2) (refused (ByFloor NoHolderOrTicker) kind.Cancel 3) []
    ∷ on (Cancel Trading 1 9 2) (refused (ByFloor WrongSession) kind.Cancel 9) []
    ∷ on (Place PreTrading (bid 4 9 Buy (Some 60) 7 partial keep) 64) (refused (ByRule OffBest) kind.Bid 9) []
    ∷ on (Place PreTrading (bid 4 9 Buy (Some 57) 7 partial keep) 64) (refused (ByRule OffBest) kind.Bid 9) []
    ∷ on (Place PreTrading (bid 4 9 Sell (Some 57) 1 partial keep) 64) (refused (ByRule OffBest) kind.Bid 9) []
    ∷ on (Open 1023) (refused (ByFloor ShortStrip) kind.Open 0) []
    ∷ on (Open 1024) (Opened 1) (trade 9 0 1 3 2 50 3 ∷ [])
    ∷ on (Open 1024) (refused (ByFloor WrongSession) kind.Open 0) []
    ∷ on (Place Trading (bid 1 9 Buy (Some 52) 5 partial keep) 64) (placed 4 2 3 1) (trade 9 1 1 4 2 50 2 ∷ [])
    ∷ on (Place Trading (bid 1 9 Buy (Some 52) 5 partial withdraw) 64) (placed 5 0 0 0) []
    ∷ on (Place Trading (bid 1 9 Buy (Some 52) 5 entire keep) 64) (placed 6 0 0 0) []
    ∷ on (Place Trading (bid 1 9 Buy (Some 52) 5 entire withdraw) 64) (placed 7 0 0 0) []
    ∷ on (Place Trading (bid 1 9 Buy None 5 partial keep) 64) (placed 8 0 0 0) []
    ∷ on (Place Trading (bid 1 9 Buy None 5 partial withdraw) 64) (placed 9 0 0 0) []
    ∷ on (Place Trading (bid 1 9 Buy None 5 entire keep) 64) (placed 10 0 0 0) []
    ∷ on (Place Trading (bid 1 9 Buy None 5 entire withdraw) 64) (placed 11 0 0 0) []
    ∷ on (Place Trading (bid 1 9 Sell (Some 52) 5 partial keep) 64) (placed 12 3 2 1) (trade 9 1 1 4 12 52 3 ∷ [])
    ∷ on (Place Trading (bid 1 9 Sell (Some 52) 5 partial withdraw) 64) (placed 13 0 0 0) []
    ∷ on (Place Trading (bid 1 9 Sell (Some 52) 5 entire keep) 64) (placed 14 0 0 0) []
    ∷ on (Place Trading (bid 1 9 Sell (Some 52) 5 entire withdraw) 64) (placed 15 0 0 0) []
    ∷ on (Place Trading (bid 1 9 Sell None 5 partial keep) 64) (placed 16 0 0 0) []
    ∷ on (Place Trading (bid 1 9 Sell None 5 partial withdraw) 64) (placed 17 0 0 0) []
    ∷ on (Place Trading (bid 1 9 Sell None 5 entire keep) 64) (placed 18 0 0 0) []
    ∷ on (Place Trading (bid 1 9 Sell None 5 entire withdraw) 64) (placed 19 0 0 0) []
    ∷ on (Place Trading (bid 3 9 Buy (Some 50) 30 partial keep) 64) (placed 20 0 30 0) []
    ∷ on (Place Trading (bid 3 9 Buy (Some 50) 30 partial withdraw) 64) (placed 21 0 0 0) []
    ∷ on (Place Trading (bid 3 9 Buy (Some 50) 30 entire keep) 64) (placed 22 0 0 0) []
    ∷ on (Place Trading (bid 3 9 Buy (Some 50) 30 entire withdraw) 64) (placed 23 0 0 0) []
    ∷ on (Place Trading (bid 3 9 Buy None 30 partial keep) 64) (placed 24 2 0 1) (trade 9 3 1 24 12 52 2 ∷ [])
    ∷ on (Place Trading (bid 3 9 Buy None 30 partial withdraw) 64) (placed 25 0 0 0) []
    ∷ on (Place Trading (bid 3 9 Buy None 30 entire keep) 64) (placed 26 0 0 0) []
    ∷ on (Place Trading (bid 3 9 Buy None 30 entire withdraw) 64) (placed 27 0 0 0) []
    ∷ on (Place Trading (bid 3 9 Sell (Some 50) 30 partial keep) 64) (placed 28 30 0 1) (trade 9 3 3 20 28 50 30 ∷ [])
    ∷ on (Place Trading (bid 3 9 Sell (Some 50) 30 partial withdraw) 64) (placed 29 0 0 0) []
    ∷ on (Place Trading (bid 3 9 Sell (Some 50) 30 entire keep) 64) (placed 30 0 0 0) []
    ∷ on (Place Trading (bid 3 9 Sell (Some 50) 30 entire withdraw) 64) (placed 31 0 0 0) []
    ∷ on (Place Trading (bid 3 9 Sell None 30 partial keep) 64) (placed 32 0 0 0) []
    ∷ on (Place Trading (bid 3 9 Sell None 30 partial withdraw) 64) (placed 33 0 0 0) []
    ∷ on (Place Trading (bid 3 9 Sell None 30 entire keep) 64) (placed 34 0 0 0) []
    ∷ on (Place Trading (bid 3 9 Sell None 30 entire withdraw) 64) (placed 35 0 0 0) []
    ∷ on (Place Trading (bid 0 9 Sell None 1 partial withdraw) 64) (placed 36 0 0 0) []
    ∷ on (Place Trading (bid 0 4 Buy (Some 200) 1 partial keep) 64) (refused (ByRule OffSettlement) kind.Bid 4) []
    ∷ on (Place Trading (bid 0 4 Buy (Some 115) 2 partial keep) 64) (placed 37 0 2 0) []
    ∷ on (Place Trading (bid 0 4 Buy (Some 116) 2 partial keep) 64) (refused (ByRule OffSettlement) kind.Bid 4) []
    ∷ on (Place Trading (bid 0 4 Buy (Some 84) 2 partial keep) 64) (refused (ByRule OffBest) kind.Bid 4) []
    ∷ on (Withdraw 0 0 99999) (refused (ByRegister (fault TooLittleFree 0 0 0)) kind.Withdraw 0) []
    ∷ on (Place Trading (bid 2 9 Buy (Some 52) 9 partial keep) 64) (placed 38 0 9 0) []
    ∷ on (Place Trading (bid 3 9 Sell (Some 50) 3 partial keep) 64) (placed 39 3 0 1) (trade 9 2 3 38 39 52 3 ∷ [])
    ∷ on EndPostTrading (refused (ByFloor WrongSession) kind.EndPostTrading 0) []
    ∷ on EndTrading Done []
    ∷ on (Place PostTrading (bid 0 5 Buy None 5 partial keep) 64) (refused (ByFloor NoAverage) kind.Bid 5) []
    ∷ on (Place PostTrading (bid 1 9 Buy (Some 50) 5 partial keep) 64) (refused (ByFloor FormNotTaken) kind.Bid 9) []
    ∷ on (Place PostTrading (bid 1 9 Buy (Some 50) 5 partial withdraw) 64) (refused (ByFloor FormNotTaken) kind.Bid 9) []
    ∷ on (Place PostTrading (bid 1 9 Buy (Some 50) 5 entire keep) 64) (refused (ByFloor FormNotTaken) kind.Bid 9) []
    ∷ on (Place PostTrading (bid 1 9 Buy (Some 50) 5 entire withdraw) 64) (refused (ByFloor FormNotTaken) kind.Bid 9) []
    ∷ on (Place PostTrading (bid 1 9 Buy None 5 partial keep) 64) (placed 40 0 5 0) []
    ∷ on (Place PostTrading (bid 1 9 Buy None 5 partial withdraw) 64) (placed 41 0 0 0) []
    ∷ on (Place PostTrading (bid 1 9 Buy None 5 entire keep) 64) (refused (ByFloor FormNotTaken) kind.Bid 9) []
    ∷ on (Place PostTrading (bid 1 9 Buy None 5 entire withdraw) 64) (refused (ByFloor FormNotTaken) kind.Bid 9) []
    ∷ on (Place PostTrading (bid 1 9 Sell (Some 50) 5 partial keep) 64) (refused (ByFloor FormNotTaken) kind.Bid 9) []
    ∷ on (Place PostTrading (bid 1 9 Sell (Some 50) 5 partial withdraw) 64) (refused (ByFloor FormNotTaken) kind.Bid 9) []
    ∷ on (Place PostTrading (bid 1 9 Sell (Some 50) 5 entire keep) 64) (refused (ByFloor FormNotTaken) kind.Bid 9) []
    ∷ on (Place PostTrading (bid 1 9 Sell (Some 50) 5 entire withdraw) 64) (refused (ByFloor FormNotTaken) kind.Bid 9) []
    ∷ on (Place PostTrading (bid 1 9 Sell None 5 partial keep) 64) (placed 42 5 0 1) (trade 9 1 1 40 42 50 5 ∷ [])
    ∷ on (Place PostTrading (bid 1 9 Sell None 5 partial withdraw) 64) (placed 43 0 0 0) []
    ∷ on (Place PostTrading (bid 1 9 Sell None 5 entire keep) 64) (refused (ByFloor FormNotTaken) kind.Bid 9) []
    ∷ on (Place PostTrading (bid 1 9 Sell None 5 entire withdraw) 64) (refused (ByFloor FormNotTaken) kind.Bid 9) []
    ∷ on (Place PostTrading (bid 0 9 Buy None 4 partial keep) 64) (placed 44 0 4 0) []
    ∷ on (Place PostTrading (bid 2 9 Sell None 30 partial keep) 64) (placed 45 4 26 1) (trade 9 0 2 44 45 50 4 ∷ [])
    ∷ on (Place PostTrading (bid 3 9 Buy None 7 partial keep) 64) (placed 46 7 0 1) (trade 9 3 2 46 45 50 7 ∷ [])
    ∷ on (Place PostTrading (bid 3 9 Buy None 7 partial withdraw) 64) (placed 47 7 0 1) (trade 9 3 2 47 45 50 7 ∷ [])
    ∷ on (Cancel PostTrading 2 9 40) (refused (ByFloor NoSuchBid) kind.Cancel 9) []
    ∷ []

-- holder, asset, free, blocked, the tally's sum, what the standing bids oblige to by the tally, and free after taking apart
abbrev accounts : List Account
accounts =
    account 0 0 99650 0 99650 0 99650
    ∷ account 0 9 100007 0 100007 0 100007
    ∷ account 1 0 100254 0 100254 0 100254
    ∷ account 1 9 99995 0 99995 0 99995
    ∷ account 2 0 100744 0 100744 0 100744
    ∷ account 2 9 99973 12 99985 12 99985
    ∷ account 3 0 99352 0 99352 0 99352
    ∷ account 3 9 100013 0 100013 0 100013
    ∷ account 4 0 400 0 400 0 400
    ∷ []

abbrev queues : List Queue
queues =
    queue 9 Sell (stands 45 2 50 12 ∷ [])
    ∷ []

-- ticker, what its trades cost and their lots, on the floor and by the tally
abbrev sums_of_trades : List Sums
sums_of_trades = sums 4 0 0 0 0 ∷ sums 5 0 0 0 0 ∷ sums 6 0 0 0 0 ∷ sums 7 0 0 0 0 ∷ sums 8 0 0 0 0 ∷ sums 9 2166 43 2166 43 ∷ sums 10 0 0 0 0 ∷ sums 11 0 0 0 0 ∷ []

-- the standing bids by the tally: number and lots left
abbrev standing : List Left
standing = left 45 12 ∷ []

abbrev pub script : Script
script = record { rule = corporate; start = made (plenty 100000 0 most_amount 0); entries = entries; accounts = accounts; queues = queues; sums = sums_of_trades; standing = standing; running = false }
