-- Calls drawn at random, corporate rule.
use Rattle.std.specs.Prelude.{◌∷◌}
use Rattle.runs.specs.Words.{false, List, [], Some, None, Buy, Sell, PreTrading, Trading, PostTrading, ByFloor, ByRule, ByRegister}
use Rattle.runs.specs.Words.{NoSuchBid}
use Rattle.runs.specs.Words.{OffBest, TooLittleFree}
use Rattle.runs.specs.Words.{Start, Withdraw, Place, Cancel, Open, EndTrading, Done, Opened}
use Rattle.model.specs.declared.faults.CallKind.TheVariants as kind
use Rattle.model.specs.Tally.{Entry}
use Rattle.model.specs.World.{made}
use Rattle.register.specs.Books.{most_amount}
use Rattle.register.specs.Moves.{fault}
use Rattle.rules.specs.Rules.{corporate}
use Rattle.runs.specs.Scripts.{Script, Account, Queue, plenty, quote, listing, bid, partial, entire, keep, withdraw, on, placed, refused, trade, account, queue, stands, Sums, sums, Left, left}

abbrev entries : List Entry
entries =
    on (Start (listing (quote 0 100 ∷ quote 1 0 ∷ quote 0 100 ∷ quote 2 0 ∷ quote 3 1000 ∷ quote 0 0 ∷ quote 1 100 ∷ quote 0 0 ∷ []))) Done []
    ∷ on (Place PreTrading (bid 0 4 Sell (Some 95) 2 partial keep) 64) (placed 1 0 2 0) []
    ∷ on (Place PreTrading (bid 3 5 Buy (Some 96) 5 partial keep) 64) (placed 2 0 5 0) []
    ∷ on (Place PreTrading (bid 0 4 Buy (Some 104) 5 partial keep) 64) (placed 3 0 5 0) []
    ∷ on (Place PreTrading (bid 0 4 Sell (Some 98) 4 partial keep) 64) (placed 4 0 4 0) []
    ∷ on (Place PreTrading (bid 1 4 Buy (Some 99) 5 partial keep) 64) (placed 5 0 5 0) []
    ∷ on (Place PreTrading (bid 0 4 Sell (Some 104) 5 partial keep) 64) (placed 6 0 5 0) []
    ∷ on (Place PreTrading (bid 3 5 Sell (Some 102) 4 partial keep) 64) (placed 7 0 4 0) []
    ∷ on (Place PreTrading (bid 0 5 Sell (Some 98) 2 partial keep) 64) (placed 8 0 2 0) []
    ∷ on (Place PreTrading (bid 0 4 Sell (Some 104) 6 partial keep) 64) (placed 9 0 6 0) []
    ∷ on (Place PreTrading (bid 3 4 Buy (Some 102) 3 partial keep) 64) (placed 10 0 3 0) []
    ∷ on (Place PreTrading (bid 2 5 Sell (Some 100) 5 partial keep) 64) (placed 11 0 5 0) []
    ∷ on (Place PreTrading (bid 2 5 Buy (Some 96) 4 partial keep) 64) (placed 12 0 4 0) []
    ∷ on (Cancel PreTrading 2 5 10) (refused (ByFloor NoSuchBid) kind.Cancel 5) []
    ∷ on (Place PreTrading (bid 2 4 Buy (Some 102) 6 partial keep) 64) (placed 13 0 6 0) []
    ∷ on (Place PreTrading (bid 1 5 Sell (Some 97) 2 partial keep) 64) (placed 14 0 2 0) []
    ∷ on (Place PreTrading (bid 3 5 Buy (Some 102) 4 partial keep) 64) (placed 15 0 4 0) []
    ∷ on (Place PreTrading (bid 2 5 Buy (Some 101) 7 partial keep) 64) (placed 16 0 7 0) []
    ∷ on (Place PreTrading (bid 1 4 Sell (Some 105) 2 partial keep) 64) (refused (ByRule OffBest) kind.Bid 4) []
    ∷ on (Place PreTrading (bid 1 5 Sell (Some 95) 2 partial keep) 64) (placed 17 0 2 0) []
    ∷ on (Place PreTrading (bid 0 5 Sell (Some 103) 3 partial keep) 64) (placed 18 0 3 0) []
    ∷ on (Place PreTrading (bid 3 4 Buy (Some 105) 4 partial keep) 64) (refused (ByRule OffBest) kind.Bid 4) []
    ∷ on (Cancel PreTrading 1 5 6) (refused (ByFloor NoSuchBid) kind.Cancel 5) []
    ∷ on (Withdraw 0 0 1) Done []
    ∷ on (Place PreTrading (bid 0 4 Buy (Some 100) 5 partial keep) 64) (placed 19 0 5 0) []
    ∷ on (Place PreTrading (bid 2 5 Buy (Some 100) 2 partial keep) 64) (placed 20 0 2 0) []
    ∷ on (Withdraw 3 5 50000) (refused (ByRegister (fault TooLittleFree 3 5 0)) kind.Withdraw 0) []
    ∷ on (Place PreTrading (bid 2 5 Buy (Some 100) 1 partial keep) 64) (placed 21 0 1 0) []
    ∷ on (Place PreTrading (bid 2 4 Buy (Some 103) 2 partial keep) 64) (placed 22 0 2 0) []
    ∷ on (Place PreTrading (bid 2 5 Buy (Some 96) 3 partial keep) 64) (placed 23 0 3 0) []
    ∷ on (Place PreTrading (bid 2 4 Buy (Some 103) 2 partial keep) 64) (placed 24 0 2 0) []
    ∷ on (Open 1024) (Opened 7) (trade 4 0 0 3 1 103 2 ∷ trade 4 0 0 3 4 103 3 ∷ trade 4 2 0 22 4 103 1 ∷ trade 5 3 1 15 17 101 2 ∷ trade 5 3 1 15 14 101 2 ∷ trade 5 2 0 16 8 101 2 ∷ trade 5 2 2 16 11 101 5 ∷ [])
    ∷ on (Place Trading (bid 1 5 Sell (Some 98) 7 partial withdraw) 64) (placed 25 3 0 2) (trade 5 2 1 20 25 100 2 ∷ trade 5 2 1 21 25 100 1 ∷ [])
    ∷ on (Place Trading (bid 2 5 Sell (Some 104) 4 partial keep) 64) (placed 26 0 4 0) []
    ∷ on (Place Trading (bid 1 5 Buy (Some 100) 2 partial keep) 64) (placed 27 0 2 0) []
    ∷ on (Place Trading (bid 3 4 Sell (Some 96) 1 partial keep) 64) (placed 28 1 0 1) (trade 4 2 3 22 28 103 1 ∷ [])
    ∷ on (Place Trading (bid 3 5 Buy (Some 101) 1 partial keep) 64) (placed 29 0 1 0) []
    ∷ on (Withdraw 1 5 1) Done []
    ∷ on (Place Trading (bid 2 4 Buy (Some 105) 5 entire keep) 64) (placed 30 5 0 1) (trade 4 2 0 30 6 104 5 ∷ [])
    ∷ on (Place Trading (bid 3 4 Buy (Some 97) 1 entire keep) 64) (placed 31 0 0 0) []
    ∷ on (Place Trading (bid 3 4 Buy (Some 99) 7 partial keep) 64) (placed 32 0 7 0) []
    ∷ on (Place Trading (bid 3 4 Buy (Some 103) 5 partial keep) 64) (placed 33 0 5 0) []
    ∷ on (Place Trading (bid 1 4 Sell (Some 97) 2 partial keep) 64) (placed 34 2 0 1) (trade 4 2 1 24 34 103 2 ∷ [])
    ∷ on (Cancel Trading 3 4 29) (refused (ByFloor NoSuchBid) kind.Cancel 4) []
    ∷ on (Place Trading (bid 0 5 Buy (Some 95) 2 partial withdraw) 64) (placed 35 0 0 0) []
    ∷ on (Place Trading (bid 1 5 Sell (Some 104) 5 partial withdraw) 64) (placed 36 0 0 0) []
    ∷ on (Place Trading (bid 1 5 Buy (Some 99) 2 partial keep) 64) (placed 37 0 2 0) []
    ∷ on (Place Trading (bid 1 5 Buy (Some 96) 6 partial keep) 64) (placed 38 0 6 0) []
    ∷ on (Place Trading (bid 1 5 Buy (Some 99) 6 partial keep) 64) (placed 39 0 6 0) []
    ∷ on (Place Trading (bid 1 5 Sell (Some 98) 2 partial keep) 64) (placed 40 2 0 2) (trade 5 3 1 29 40 101 1 ∷ trade 5 1 1 27 40 100 1 ∷ [])
    ∷ on (Place Trading (bid 3 5 Buy (Some 100) 6 partial keep) 64) (placed 41 0 6 0) []
    ∷ on (Place Trading (bid 0 4 Sell (Some 98) 1 partial withdraw) 64) (placed 42 1 0 1) (trade 4 3 0 33 42 103 1 ∷ [])
    ∷ on (Place Trading (bid 2 5 Buy (Some 101) 7 partial keep) 64) (placed 43 0 7 0) []
    ∷ on (Place Trading (bid 0 4 Sell None 3 partial keep) 64) (placed 44 3 0 1) (trade 4 3 0 33 44 103 3 ∷ [])
    ∷ on (Cancel Trading 0 5 3) (refused (ByFloor NoSuchBid) kind.Cancel 5) []
    ∷ on (Place Trading (bid 0 5 Buy None 2 partial keep) 64) (placed 45 2 0 1) (trade 5 0 3 45 7 102 2 ∷ [])
    ∷ on (Place Trading (bid 1 4 Buy (Some 95) 3 partial keep) 64) (placed 46 0 3 0) []
    ∷ on (Place Trading (bid 2 5 Buy (Some 98) 6 partial withdraw) 64) (refused (ByRegister (fault TooLittleFree 2 1 0)) kind.Bid 5) []
    ∷ on (Place Trading (bid 1 5 Buy None 1 partial keep) 64) (placed 47 1 0 1) (trade 5 1 3 47 7 102 1 ∷ [])
    ∷ on (Place Trading (bid 3 5 Buy (Some 103) 4 partial keep) 64) (placed 48 4 0 2) (trade 5 3 3 48 7 102 1 ∷ trade 5 3 0 48 18 103 3 ∷ [])
    ∷ on (Place Trading (bid 3 5 Buy (Some 97) 6 partial keep) 64) (refused (ByRegister (fault TooLittleFree 3 1 0)) kind.Bid 5) []
    ∷ on (Place Trading (bid 0 5 Sell (Some 95) 3 partial keep) 64) (placed 49 3 0 1) (trade 5 2 0 43 49 101 3 ∷ [])
    ∷ on (Cancel Trading 1 4 9) (refused (ByFloor NoSuchBid) kind.Cancel 4) []
    ∷ on (Place Trading (bid 2 4 Buy (Some 100) 3 partial keep) 64) (placed 50 0 3 0) []
    ∷ on (Place Trading (bid 3 5 Buy (Some 96) 1 partial keep) 64) (placed 51 0 1 0) []
    ∷ on (Cancel Trading 0 4 13) (refused (ByFloor NoSuchBid) kind.Cancel 4) []
    ∷ on (Place Trading (bid 2 4 Buy None 4 partial keep) 64) (refused (ByRegister (fault TooLittleFree 2 0 0)) kind.Bid 4) []
    ∷ on (Place Trading (bid 3 5 Sell (Some 104) 6 entire keep) 64) (placed 52 0 0 0) []
    ∷ on (Place Trading (bid 3 4 Buy (Some 103) 1 partial keep) 64) (placed 53 0 1 0) []
    ∷ on (Place Trading (bid 1 4 Buy (Some 105) 6 entire keep) 64) (placed 54 6 0 1) (trade 4 1 0 54 9 104 6 ∷ [])
    ∷ on (Place Trading (bid 0 4 Buy (Some 103) 4 partial keep) 64) (placed 55 0 4 0) []
    ∷ on (Place Trading (bid 0 4 Sell (Some 103) 6 partial keep) 64) (placed 56 6 0 3) (trade 4 3 0 33 56 103 1 ∷ trade 4 3 0 53 56 103 1 ∷ trade 4 0 0 55 56 103 4 ∷ [])
    ∷ on (Place Trading (bid 3 5 Sell (Some 98) 6 entire withdraw) 64) (placed 57 6 0 3) (trade 5 2 3 43 57 101 4 ∷ trade 5 1 3 27 57 100 1 ∷ trade 5 3 3 41 57 100 1 ∷ [])
    ∷ on (Place Trading (bid 1 4 Buy (Some 105) 1 partial keep) 64) (placed 58 0 1 0) []
    ∷ on (Place Trading (bid 3 4 Sell (Some 95) 5 partial keep) 64) (placed 59 5 0 3) (trade 4 1 3 58 59 105 1 ∷ trade 4 3 3 10 59 102 3 ∷ trade 4 2 3 13 59 102 1 ∷ [])
    ∷ on (Place Trading (bid 2 5 Sell (Some 103) 6 partial keep) 64) (placed 60 0 6 0) []
    ∷ on (Place Trading (bid 3 4 Sell (Some 96) 2 partial withdraw) 64) (placed 61 2 0 1) (trade 4 2 3 13 61 102 2 ∷ [])
    ∷ on EndTrading Done []
    ∷ on (Place PostTrading (bid 2 5 Buy None 4 partial withdraw) 64) (placed 62 0 0 0) []
    ∷ on (Place PostTrading (bid 0 4 Sell None 1 partial withdraw) 64) (placed 63 0 0 0) []
    ∷ on (Place PostTrading (bid 2 4 Sell None 7 partial keep) 64) (placed 64 0 7 0) []
    ∷ on (Place PostTrading (bid 3 4 Buy None 4 partial keep) 64) (placed 65 4 0 1) (trade 4 3 2 65 64 103 4 ∷ [])
    ∷ on (Place PostTrading (bid 3 5 Buy None 4 partial keep) 64) (placed 66 0 4 0) []
    ∷ on (Place PostTrading (bid 2 4 Sell None 1 partial keep) 64) (placed 67 0 1 0) []
    ∷ on (Place PostTrading (bid 1 4 Sell None 1 partial keep) 64) (placed 68 0 1 0) []
    ∷ on (Cancel PostTrading 3 4 12) (refused (ByFloor NoSuchBid) kind.Cancel 4) []
    ∷ on (Place PostTrading (bid 2 4 Sell None 7 partial keep) 64) (placed 69 0 7 0) []
    ∷ on (Place PostTrading (bid 1 4 Sell None 3 partial keep) 64) (placed 70 0 3 0) []
    ∷ on (Place PostTrading (bid 2 5 Buy None 7 partial withdraw) 64) (placed 71 0 0 0) []
    ∷ on (Place PostTrading (bid 1 4 Buy None 5 partial withdraw) 64) (placed 72 5 0 3) (trade 4 1 2 72 64 103 3 ∷ trade 4 1 2 72 67 103 1 ∷ trade 4 1 1 72 68 103 1 ∷ [])
    ∷ on (Place PostTrading (bid 1 5 Sell None 5 partial keep) 64) (placed 73 4 1 1) (trade 5 3 1 66 73 101 4 ∷ [])
    ∷ on (Place PostTrading (bid 1 5 Sell None 2 partial keep) 64) (placed 74 0 2 0) []
    ∷ on (Place PostTrading (bid 2 5 Buy None 6 partial keep) 64) (placed 75 3 3 2) (trade 5 2 1 75 73 101 1 ∷ trade 5 2 1 75 74 101 2 ∷ [])
    ∷ []

-- holder, asset, free, blocked, the tally's sum, what the standing bids oblige to by the tally, and free after taking apart
abbrev accounts : List Account
accounts =
    account 0 0 3864 0 3864 0 3864
    ∷ account 0 1 2610 0 2610 0 2610
    ∷ account 0 4 1982 0 1982 0 1982
    ∷ account 0 5 1994 0 1994 0 1994
    ∷ account 1 0 1065 0 1065 0 1065
    ∷ account 1 1 3310 0 3310 0 3310
    ∷ account 1 4 2006 3 2009 3 2009
    ∷ account 1 5 1986 0 1986 0 1986
    ∷ account 2 0 1586 0 1586 0 1586
    ∷ account 2 1 185 303 488 303 488
    ∷ account 2 4 1997 7 2004 7 2004
    ∷ account 2 5 2015 0 2015 0 2015
    ∷ account 3 0 1484 0 1484 0 1484
    ∷ account 3 1 1592 0 1592 0 1592
    ∷ account 3 4 2005 0 2005 0 2005
    ∷ account 3 5 2004 0 2004 0 2004
    ∷ []

abbrev queues : List Queue
queues =
    queue 4 Sell (stands 69 2 103 7 ∷ stands 70 1 103 3 ∷ [])
    ∷ queue 5 Buy (stands 75 2 101 3 ∷ [])
    ∷ []

-- ticker, what its trades cost and their lots, on the floor and by the tally
abbrev sums_of_trades : List Sums
sums_of_trades = sums 4 3818 37 3818 37 ∷ sums 5 3236 32 3236 32 ∷ sums 6 0 0 0 0 ∷ sums 7 0 0 0 0 ∷ sums 8 0 0 0 0 ∷ sums 9 0 0 0 0 ∷ sums 10 0 0 0 0 ∷ sums 11 0 0 0 0 ∷ []

-- the standing bids by the tally: number and lots left
abbrev standing : List Left
standing = left 69 7 ∷ left 70 3 ∷ left 75 3 ∷ []

abbrev pub script : Script
script = record { rule = corporate; start = made (plenty 2000 0 most_amount 0); entries = entries; accounts = accounts; queues = queues; sums = sums_of_trades; standing = standing; running = false }
