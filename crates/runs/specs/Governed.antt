-- A day under the government rule.
use Rattle.std.specs.Prelude.{◌∷◌}
use Rattle.runs.specs.Words.{false, List, [], Some, None, Buy, Sell, PreTrading, Trading, PostTrading, ByRule}
use Rattle.runs.specs.Words.{NotWholeSteps, OffBest, OppositeBid}
use Rattle.runs.specs.Words.{Start, Place, Cancel, Open, EndTrading, EndPostTrading, Done, Cancelled, Opened}
use Rattle.model.specs.declared.faults.CallKind.TheVariants as kind
use Rattle.model.specs.Tally.{Entry}
use Rattle.model.specs.World.{made}
use Rattle.register.specs.Books.{most_amount}
use Rattle.rules.specs.Rules.{government}
use Rattle.runs.specs.Scripts.{Script, Account, Queue, plenty, quote, listing, bid, partial, keep, on, placed, refused, trade, account, Sums, sums, Left}

abbrev entries : List Entry
entries =
    on (Start (listing (quote 0 100 ∷ quote 1 0 ∷ quote 0 100 ∷ quote 2 0 ∷ quote 3 1000 ∷ quote 0 0 ∷ quote 1 100 ∷ quote 0 0 ∷ []))) Done []
    ∷ on (Place PreTrading (bid 0 4 Buy (Some 100) 15 partial keep) 64) (refused (ByRule NotWholeSteps) kind.Bid 4) []
    ∷ on (Place PreTrading (bid 0 4 Buy (Some 100) 20 partial keep) 64) (placed 1 0 20 0) []
    ∷ on (Place PreTrading (bid 0 4 Sell (Some 100) 20 partial keep) 64) (refused (ByRule OppositeBid) kind.Bid 4) []
    ∷ on (Place PreTrading (bid 1 4 Buy (Some 94) 10 partial keep) 64) (refused (ByRule OffBest) kind.Bid 4) []
    ∷ on (Place PreTrading (bid 1 4 Buy (Some 95) 10 partial keep) 64) (placed 2 0 10 0) []
    ∷ on (Place PreTrading (bid 1 4 Sell (Some 99) 10 partial keep) 64) (refused (ByRule OppositeBid) kind.Bid 4) []
    ∷ on (Place PreTrading (bid 2 4 Sell (Some 100) 10 partial keep) 64) (placed 3 0 10 0) []
    ∷ on (Place PreTrading (bid 2 4 Sell (Some 106) 10 partial keep) 64) (refused (ByRule OffBest) kind.Bid 4) []
    ∷ on (Place PreTrading (bid 2 4 Sell (Some 105) 10 partial keep) 64) (placed 4 0 10 0) []
    ∷ on (Place PreTrading (bid 3 4 Sell (Some 99) 10 partial keep) 64) (placed 5 0 10 0) []
    ∷ on (Open 1024) (Opened 2) (trade 4 0 3 1 5 100 10 ∷ trade 4 0 2 1 3 100 10 ∷ [])
    ∷ on (Place Trading (bid 3 4 Buy (Some 96) 30 partial keep) 64) (placed 6 0 30 0) []
    ∷ on (Place Trading (bid 0 4 Sell (Some 95) 10 partial keep) 64) (placed 7 10 0 1) (trade 4 3 0 6 7 96 10 ∷ [])
    ∷ on (Place Trading (bid 3 4 Sell (Some 95) 10 partial keep) 64) (refused (ByRule OppositeBid) kind.Bid 4) []
    ∷ on (Place Trading (bid 2 4 Sell None 40 partial keep) 64) (placed 8 30 0 2) (trade 4 3 2 6 8 96 20 ∷ trade 4 1 2 2 8 95 10 ∷ [])
    ∷ on (Place Trading (bid 2 4 Buy None 10 partial keep) 64) (refused (ByRule OppositeBid) kind.Bid 4) []
    ∷ on EndTrading Done []
    ∷ on (Place PostTrading (bid 0 4 Buy None 15 partial keep) 64) (refused (ByRule NotWholeSteps) kind.Bid 4) []
    ∷ on (Place PostTrading (bid 0 4 Buy None 20 partial keep) 64) (placed 9 0 20 0) []
    ∷ on (Place PostTrading (bid 0 4 Sell None 10 partial keep) 64) (refused (ByRule OppositeBid) kind.Bid 4) []
    ∷ on (Place PostTrading (bid 1 4 Sell None 10 partial keep) 64) (placed 10 10 0 1) (trade 4 0 1 9 10 97 10 ∷ [])
    ∷ on (Cancel PostTrading 0 4 9) (Cancelled 10) []
    ∷ on (Place PostTrading (bid 3 4 Sell None 20 partial keep) 64) (placed 11 0 20 0) []
    ∷ on EndPostTrading Done []
    ∷ []

-- holder, asset, free, blocked, the tally's sum, what the standing bids oblige to by the tally, and free after taking apart
abbrev accounts : List Account
accounts =
    account 0 0 97990 0 97990 0 97990
    ∷ account 0 4 100020 0 100020 0 100020
    ∷ account 1 0 100020 0 100020 0 100020
    ∷ account 2 0 103870 0 103870 0 103870
    ∷ account 2 4 99960 0 99960 0 99960
    ∷ account 3 0 98120 0 98120 0 98120
    ∷ account 3 4 100020 0 100020 0 100020
    ∷ []

abbrev queues : List Queue
queues =
    []

-- ticker, what its trades cost and their lots, on the floor and by the tally
abbrev sums_of_trades : List Sums
sums_of_trades = sums 4 5830 60 5830 60 ∷ sums 5 0 0 0 0 ∷ sums 6 0 0 0 0 ∷ sums 7 0 0 0 0 ∷ sums 8 0 0 0 0 ∷ sums 9 0 0 0 0 ∷ sums 10 0 0 0 0 ∷ sums 11 0 0 0 0 ∷ []

-- the standing bids by the tally: number and lots left
abbrev standing : List Left
standing = []

abbrev pub script : Script
script = record { rule = government; start = made (plenty 100000 0 most_amount 0); entries = entries; accounts = accounts; queues = queues; sums = sums_of_trades; standing = standing; running = false }
