-- Openings of several tickers with ties, matching, averages, and a second day.
use Rattle.std.specs.Prelude.{◌∷◌}
use Rattle.runs.specs.Words.{false, List, [], Some, None, Buy, Sell, PreTrading, Trading, PostTrading, ByFloor}
use Rattle.runs.specs.Words.{NoAverage, NoSuchBid}
use Rattle.runs.specs.Words.{Start, Place, Cancel, Open, EndTrading, EndPostTrading, Done, Cancelled, Opened}
use Rattle.model.specs.declared.faults.CallKind.TheVariants as kind
use Rattle.model.specs.Tally.{Entry}
use Rattle.model.specs.World.{made}
use Rattle.register.specs.Books.{most_amount}
use Rattle.rules.specs.Rules.{corporate}
use Rattle.runs.specs.Scripts.{Script, Account, Queue, plenty, quote, listing, bid, partial, entire, keep, on, placed, refused, trade, account, Sums, sums, Left}

abbrev entries : List Entry
entries =
    on (Start (listing (quote 0 0 ∷ quote 0 0 ∷ quote 0 0 ∷ quote 0 0 ∷ quote 0 0 ∷ quote 0 0 ∷ quote 0 0 ∷ quote 0 0 ∷ []))) Done []
    ∷ on (Place PreTrading (bid 0 4 Buy (Some 102) 10 partial keep) 64) (placed 1 0 10 0) []
    ∷ on (Place PreTrading (bid 1 4 Sell (Some 100) 10 partial keep) 64) (placed 2 0 10 0) []
    ∷ on (Place PreTrading (bid 0 5 Buy (Some 105) 10 partial keep) 64) (placed 3 0 10 0) []
    ∷ on (Place PreTrading (bid 1 5 Buy (Some 103) 20 partial keep) 64) (placed 4 0 20 0) []
    ∷ on (Place PreTrading (bid 2 5 Buy (Some 100) 10 partial keep) 64) (placed 5 0 10 0) []
    ∷ on (Place PreTrading (bid 3 5 Sell (Some 101) 15 partial keep) 64) (placed 6 0 15 0) []
    ∷ on (Place PreTrading (bid 2 5 Sell (Some 103) 10 partial keep) 64) (placed 7 0 10 0) []
    ∷ on (Place PreTrading (bid 1 5 Sell (Some 106) 20 partial keep) 64) (placed 8 0 20 0) []
    ∷ on (Place PreTrading (bid 0 11 Buy (Some 90) 5 partial keep) 64) (placed 9 0 5 0) []
    ∷ on (Place PreTrading (bid 1 11 Sell (Some 91) 5 partial keep) 64) (placed 10 0 5 0) []
    ∷ on (Place PreTrading (bid 0 6 Buy (Some 102) 10 partial keep) 64) (placed 11 0 10 0) []
    ∷ on (Place PreTrading (bid 1 6 Buy (Some 100) 5 partial keep) 64) (placed 12 0 5 0) []
    ∷ on (Place PreTrading (bid 2 6 Sell (Some 100) 10 partial keep) 64) (placed 13 0 10 0) []
    ∷ on (Place PreTrading (bid 3 6 Sell (Some 102) 5 partial keep) 64) (placed 14 0 5 0) []
    ∷ on (Place PreTrading (bid 3 7 Buy (Some 7) 1 partial keep) 64) (placed 15 0 1 0) []
    ∷ on (Open 1024) (Opened 5) (trade 4 0 1 1 2 100 10 ∷ trade 5 0 3 3 6 103 10 ∷ trade 5 1 3 4 6 103 5 ∷ trade 5 1 2 4 7 103 10 ∷ trade 6 0 2 11 13 100 10 ∷ [])
    ∷ on (Cancel Trading 0 5 8) (refused (ByFloor NoSuchBid) kind.Cancel 5) []
    ∷ on (Cancel Trading 1 4 8) (refused (ByFloor NoSuchBid) kind.Cancel 4) []
    ∷ on (Cancel Trading 1 5 8) (Cancelled 20) []
    ∷ on (Place Trading (bid 3 5 Sell (Some 100) 50 partial keep) 64) (placed 16 15 35 2) (trade 5 1 3 4 16 103 5 ∷ trade 5 2 3 5 16 100 10 ∷ [])
    ∷ on (Place Trading (bid 0 8 Sell (Some 101) 5 partial keep) 64) (placed 17 0 5 0) []
    ∷ on (Place Trading (bid 1 8 Sell (Some 102) 5 partial keep) 64) (placed 18 0 5 0) []
    ∷ on (Place Trading (bid 2 8 Buy (Some 102) 11 entire keep) 64) (placed 19 0 0 0) []
    ∷ on (Place Trading (bid 2 8 Buy (Some 102) 8 partial keep) 64) (placed 20 8 0 2) (trade 8 2 0 20 17 101 5 ∷ trade 8 2 1 20 18 102 3 ∷ [])
    ∷ on (Place Trading (bid 1 8 Buy (Some 101) 1 partial keep) 64) (placed 21 0 1 0) []
    ∷ on (Place Trading (bid 0 8 Sell (Some 101) 1 partial keep) 64) (placed 22 1 0 1) (trade 8 1 0 21 22 101 1 ∷ [])
    ∷ on (Place Trading (bid 0 8 Sell (Some 100) 2 partial keep) 64) (placed 23 0 2 0) []
    ∷ on (Place Trading (bid 0 8 Sell (Some 100) 2 partial keep) 64) (placed 24 0 2 0) []
    ∷ on (Place Trading (bid 2 8 Buy (Some 100) 3 partial keep) 64) (placed 25 3 0 2) (trade 8 2 0 25 23 100 2 ∷ trade 8 2 0 25 24 100 1 ∷ [])
    ∷ on EndTrading Done []
    ∷ on (Place PostTrading (bid 0 8 Buy None 4 partial keep) 64) (placed 26 0 4 0) []
    ∷ on (Place PostTrading (bid 1 8 Buy None 4 partial keep) 64) (placed 27 0 4 0) []
    ∷ on (Place PostTrading (bid 2 8 Sell None 6 partial keep) 64) (placed 28 6 0 2) (trade 8 0 2 26 28 101 4 ∷ trade 8 1 2 27 28 101 2 ∷ [])
    ∷ on (Place PostTrading (bid 1 8 Sell None 9 partial keep) 64) (placed 29 2 7 1) (trade 8 1 1 27 29 101 2 ∷ [])
    ∷ on EndPostTrading Done []
    ∷ on (Start (listing (quote 0 100 ∷ quote 1 0 ∷ quote 0 100 ∷ quote 2 0 ∷ quote 3 1000 ∷ quote 0 0 ∷ quote 1 100 ∷ quote 0 0 ∷ []))) Done []
    ∷ on (Place PreTrading (bid 2 5 Buy (Some 33) 3 partial keep) 64) (placed 1 0 3 0) []
    ∷ on (Cancel PreTrading 2 5 1) (Cancelled 3) []
    ∷ on (Place PreTrading (bid 2 5 Sell (Some 33) 3 partial keep) 64) (placed 2 0 3 0) []
    ∷ on (Open 2000) (Opened 0) []
    ∷ on EndTrading Done []
    ∷ on (Place PostTrading (bid 2 5 Sell None 3 partial keep) 64) (refused (ByFloor NoAverage) kind.Bid 5) []
    ∷ on (Place PostTrading (bid 2 8 Sell None 3 partial keep) 64) (refused (ByFloor NoAverage) kind.Bid 8) []
    ∷ []

-- holder, asset, free, blocked, the tally's sum, what the standing bids oblige to by the tally, and free after taking apart
abbrev accounts : List Account
accounts =
    account 0 0 97472 0 97472 0 97472
    ∷ account 0 4 100010 0 100010 0 100010
    ∷ account 0 5 100010 0 100010 0 100010
    ∷ account 0 6 100010 0 100010 0 100010
    ∷ account 0 8 99995 0 99995 0 99995
    ∷ account 1 0 98943 0 98943 0 98943
    ∷ account 1 4 99990 0 99990 0 99990
    ∷ account 1 5 100020 0 100020 0 100020
    ∷ account 2 0 100525 0 100525 0 100525
    ∷ account 2 6 99990 0 99990 0 99990
    ∷ account 2 8 100005 0 100005 0 100005
    ∷ account 3 0 103060 0 103060 0 103060
    ∷ account 3 5 99970 0 99970 0 99970
    ∷ []

abbrev queues : List Queue
queues =
    []

-- ticker, what its trades cost and their lots, on the floor and by the tally
abbrev sums_of_trades : List Sums
sums_of_trades = sums 4 0 0 0 0 ∷ sums 5 0 0 0 0 ∷ sums 6 0 0 0 0 ∷ sums 7 0 0 0 0 ∷ sums 8 0 0 0 0 ∷ sums 9 0 0 0 0 ∷ sums 10 0 0 0 0 ∷ sums 11 0 0 0 0 ∷ []

-- the standing bids by the tally: number and lots left
abbrev standing : List Left
standing = []

abbrev pub script : Script
script = record { rule = corporate; start = made (plenty 100000 0 most_amount 0); entries = entries; accounts = accounts; queues = queues; sums = sums_of_trades; standing = standing; running = false }
