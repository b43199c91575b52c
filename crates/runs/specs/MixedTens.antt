-- Calls drawn at random, government rule.
use Rattle.std.specs.Prelude.{◌∷◌}
use Rattle.runs.specs.Words.{false, List, [], Some, None, Buy, Sell, PreTrading, Trading, PostTrading, ByFloor, ByRule, ByRegister}
use Rattle.runs.specs.Words.{NoSuchBid}
use Rattle.runs.specs.Words.{OffBest, OppositeBid, TooLittleFree}
use Rattle.runs.specs.Words.{Start, Withdraw, Place, Cancel, Open, EndTrading, Done, Opened}
use Rattle.model.specs.declared.faults.CallKind.TheVariants as kind
use Rattle.model.specs.Tally.{Entry}
use Rattle.model.specs.World.{made}
use Rattle.register.specs.Books.{most_amount}
use Rattle.register.specs.Moves.{fault}
use Rattle.rules.specs.Rules.{government}
use Rattle.runs.specs.Scripts.{Script, Account, Queue, plenty, quote, listing, bid, partial, entire, keep, withdraw, on, placed, refused, trade, account, queue, stands, Sums, sums, Left, left}

abbrev entries : List Entry
entries =
    on (Start (listing (quote 0 100 ∷ quote 1 0 ∷ quote 0 100 ∷ quote 2 0 ∷ quote 3 1000 ∷ quote 0 0 ∷ quote 1 100 ∷ quote 0 0 ∷ []))) Done []
    ∷ on (Place PreTrading (bid 3 4 Buy (Some 102) 50 partial keep) 64) (placed 1 0 50 0) []
    ∷ on (Place PreTrading (bid 0 5 Sell (Some 97) 40 partial keep) 64) (placed 2 0 40 0) []
    ∷ on (Place PreTrading (bid 0 5 Sell (Some 105) 50 partial keep) 64) (refused (ByRule OffBest) kind.Bid 5) []
    ∷ on (Place PreTrading (bid 0 4 Buy (Some 104) 50 partial keep) 64) (placed 3 0 50 0) []
    ∷ on (Cancel PreTrading 1 4 25) (refused (ByFloor NoSuchBid) kind.Cancel 4) []
    ∷ on (Place PreTrading (bid 1 5 Sell (Some 98) 40 partial keep) 64) (placed 4 0 40 0) []
    ∷ on (Cancel PreTrading 0 5 21) (refused (ByFloor NoSuchBid) kind.Cancel 5) []
    ∷ on (Place PreTrading (bid 2 5 Buy (Some 96) 50 partial keep) 64) (placed 5 0 50 0) []
    ∷ on (Place PreTrading (bid 3 4 Sell (Some 96) 10 partial keep) 64) (refused (ByRule OppositeBid) kind.Bid 4) []
    ∷ on (Place PreTrading (bid 1 4 Buy (Some 95) 10 partial keep) 64) (refused (ByRule OffBest) kind.Bid 4) []
    ∷ on (Place PreTrading (bid 1 5 Sell (Some 96) 60 partial keep) 64) (placed 6 0 60 0) []
    ∷ on (Cancel PreTrading 2 4 14) (refused (ByFloor NoSuchBid) kind.Cancel 4) []
    ∷ on (Place PreTrading (bid 0 4 Sell (Some 96) 10 partial keep) 64) (refused (ByRule OppositeBid) kind.Bid 4) []
    ∷ on (Place PreTrading (bid 3 4 Buy (Some 98) 20 partial keep) 64) (refused (ByRule OffBest) kind.Bid 4) []
    ∷ on (Place PreTrading (bid 1 4 Sell (Some 101) 40 partial keep) 64) (placed 7 0 40 0) []
    ∷ on (Place PreTrading (bid 1 4 Sell (Some 95) 70 partial keep) 64) (placed 8 0 70 0) []
    ∷ on (Place PreTrading (bid 0 4 Buy (Some 96) 50 partial keep) 64) (refused (ByRule OffBest) kind.Bid 4) []
    ∷ on (Place PreTrading (bid 2 5 Buy (Some 100) 10 partial keep) 64) (placed 9 0 10 0) []
    ∷ on (Cancel PreTrading 1 4 1) (refused (ByFloor NoSuchBid) kind.Cancel 4) []
    ∷ on (Place PreTrading (bid 3 4 Sell (Some 97) 30 partial keep) 64) (refused (ByRule OppositeBid) kind.Bid 4) []
    ∷ on (Open 1024) (Opened 5) (trade 4 0 1 3 8 101 50 ∷ trade 4 3 1 1 8 101 20 ∷ trade 4 3 1 1 7 101 30 ∷ trade 5 2 1 9 6 96 10 ∷ trade 5 2 1 5 6 96 50 ∷ [])
    ∷ on (Place Trading (bid 1 4 Buy (Some 98) 20 partial withdraw) 64) (refused (ByRule OppositeBid) kind.Bid 4) []
    ∷ on (Place Trading (bid 0 5 Buy (Some 104) 40 entire keep) 64) (refused (ByRule OppositeBid) kind.Bid 5) []
    ∷ on (Place Trading (bid 2 5 Sell (Some 101) 20 partial keep) 64) (placed 10 0 20 0) []
    ∷ on (Place Trading (bid 0 5 Buy (Some 102) 10 partial keep) 64) (refused (ByRule OppositeBid) kind.Bid 5) []
    ∷ on (Cancel Trading 2 5 15) (refused (ByFloor NoSuchBid) kind.Cancel 5) []
    ∷ on (Place Trading (bid 1 4 Sell (Some 100) 10 entire keep) 64) (placed 11 0 0 0) []
    ∷ on (Place Trading (bid 1 4 Buy (Some 104) 60 partial keep) 64) (refused (ByRule OppositeBid) kind.Bid 4) []
    ∷ on (Place Trading (bid 0 5 Buy None 10 partial keep) 64) (refused (ByRule OppositeBid) kind.Bid 5) []
    ∷ on (Place Trading (bid 0 4 Sell (Some 100) 10 partial keep) 64) (placed 12 0 10 0) []
    ∷ on (Place Trading (bid 3 4 Sell (Some 95) 70 partial keep) 64) (placed 13 0 70 0) []
    ∷ on (Cancel Trading 0 4 9) (refused (ByFloor NoSuchBid) kind.Cancel 4) []
    ∷ on (Place Trading (bid 3 5 Sell (Some 104) 60 partial keep) 64) (refused (ByRule OffBest) kind.Bid 5) []
    ∷ on (Place Trading (bid 3 4 Buy (Some 96) 10 partial keep) 64) (refused (ByRule OppositeBid) kind.Bid 4) []
    ∷ on (Place Trading (bid 0 5 Sell (Some 99) 60 entire keep) 64) (placed 14 0 0 0) []
    ∷ on (Place Trading (bid 3 5 Buy (Some 105) 70 partial keep) 64) (placed 15 70 0 2) (trade 5 3 0 15 2 97 40 ∷ trade 5 3 1 15 4 98 30 ∷ [])
    ∷ on (Place Trading (bid 1 5 Buy (Some 98) 40 partial keep) 64) (refused (ByRule OppositeBid) kind.Bid 5) []
    ∷ on (Place Trading (bid 0 5 Buy (Some 95) 40 entire keep) 64) (placed 16 0 0 0) []
    ∷ on (Place Trading (bid 3 5 Sell (Some 105) 70 partial withdraw) 64) (refused (ByRule OffBest) kind.Bid 5) []
    ∷ on (Place Trading (bid 2 5 Sell None 50 partial keep) 64) (placed 17 0 0 0) []
    ∷ on (Place Trading (bid 2 4 Buy (Some 95) 40 partial withdraw) 64) (placed 18 40 0 1) (trade 4 2 3 18 13 95 40 ∷ [])
    ∷ on (Withdraw 0 4 1) Done []
    ∷ on (Place Trading (bid 1 4 Sell (Some 99) 20 partial keep) 64) (placed 19 0 20 0) []
    ∷ on (Place Trading (bid 1 5 Buy (Some 103) 70 entire withdraw) 64) (refused (ByRule OppositeBid) kind.Bid 5) []
    ∷ on (Place Trading (bid 0 5 Sell (Some 98) 20 partial keep) 64) (placed 20 0 20 0) []
    ∷ on (Place Trading (bid 0 4 Buy (Some 105) 60 partial withdraw) 64) (refused (ByRule OppositeBid) kind.Bid 4) []
    ∷ on (Place Trading (bid 2 4 Sell (Some 100) 50 partial keep) 64) (refused (ByRule OffBest) kind.Bid 4) []
    ∷ on (Place Trading (bid 0 4 Buy (Some 102) 40 partial keep) 64) (refused (ByRule OppositeBid) kind.Bid 4) []
    ∷ on (Place Trading (bid 3 4 Sell (Some 97) 60 partial keep) 64) (placed 21 0 60 0) []
    ∷ on (Place Trading (bid 2 4 Sell (Some 102) 10 partial keep) 64) (refused (ByRule OffBest) kind.Bid 4) []
    ∷ on (Place Trading (bid 2 5 Buy (Some 97) 50 partial keep) 64) (refused (ByRule OppositeBid) kind.Bid 5) []
    ∷ on EndTrading Done []
    ∷ on (Cancel PostTrading 3 4 18) (refused (ByFloor NoSuchBid) kind.Cancel 4) []
    ∷ on (Place PostTrading (bid 3 4 Sell None 50 partial keep) 64) (placed 22 0 50 0) []
    ∷ on (Place PostTrading (bid 3 5 Sell None 50 partial keep) 64) (placed 23 0 50 0) []
    ∷ on (Place PostTrading (bid 2 5 Sell None 20 partial keep) 64) (placed 24 0 20 0) []
    ∷ on (Withdraw 3 0 50000) (refused (ByRegister (fault TooLittleFree 3 0 0)) kind.Withdraw 0) []
    ∷ on (Withdraw 0 0 1) Done []
    ∷ on (Place PostTrading (bid 2 5 Sell None 10 partial keep) 64) (placed 25 0 10 0) []
    ∷ on (Place PostTrading (bid 0 5 Buy None 40 partial keep) 64) (placed 26 40 0 1) (trade 5 0 3 26 23 96 40 ∷ [])
    ∷ on (Place PostTrading (bid 3 5 Buy None 10 partial keep) 64) (refused (ByRule OppositeBid) kind.Bid 5) []
    ∷ on (Place PostTrading (bid 1 4 Buy None 50 partial keep) 64) (placed 27 50 0 1) (trade 4 1 3 27 22 99 50 ∷ [])
    ∷ []

-- holder, asset, free, blocked, the tally's sum, what the standing bids oblige to by the tally, and free after taking apart
abbrev accounts : List Account
accounts =
    account 0 0 34949 0 34949 0 34949
    ∷ account 0 1 40040 0 40040 0 40040
    ∷ account 0 4 40049 0 40049 0 40049
    ∷ account 1 0 45150 0 45150 0 45150
    ∷ account 1 1 48700 0 48700 0 48700
    ∷ account 1 4 39950 0 39950 0 39950
    ∷ account 1 5 39910 0 39910 0 39910
    ∷ account 2 0 36200 0 36200 0 36200
    ∷ account 2 1 34240 0 34240 0 34240
    ∷ account 2 4 40040 0 40040 0 40040
    ∷ account 2 5 40030 30 40060 30 40060
    ∷ account 3 0 43700 0 43700 0 43700
    ∷ account 3 1 37020 0 37020 0 37020
    ∷ account 3 4 39960 0 39960 0 39960
    ∷ account 3 5 40020 10 40030 10 40030
    ∷ []

abbrev queues : List Queue
queues =
    queue 5 Sell (stands 23 3 96 10 ∷ stands 24 2 96 20 ∷ stands 25 2 96 10 ∷ [])
    ∷ []

-- ticker, what its trades cost and their lots, on the floor and by the tally
abbrev sums_of_trades : List Sums
sums_of_trades = sums 4 13900 140 13900 140 ∷ sums 5 12580 130 12580 130 ∷ sums 6 0 0 0 0 ∷ sums 7 0 0 0 0 ∷ sums 8 0 0 0 0 ∷ sums 9 0 0 0 0 ∷ sums 10 0 0 0 0 ∷ sums 11 0 0 0 0 ∷ []

-- the standing bids by the tally: number and lots left
abbrev standing : List Left
standing = left 23 10 ∷ left 24 20 ∷ left 25 10 ∷ []

abbrev pub script : Script
script = record { rule = government; start = made (plenty 40000 0 most_amount 0); entries = entries; accounts = accounts; queues = queues; sums = sums_of_trades; standing = standing; running = false }
