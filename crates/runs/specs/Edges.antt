-- One number left, and a full queue.
use Rattle.std.specs.Prelude.{◌∷◌}
use Rattle.runs.specs.Words.{false, List, [], Some, Buy, Sell, Trading, ByFloor}
use Rattle.runs.specs.Words.{ShortStrip, NumbersSpent, QueueFull}
use Rattle.runs.specs.Words.{Place}
use Rattle.model.specs.declared.faults.CallKind.TheVariants as kind
use Rattle.model.specs.Tally.{Entry}
use Rattle.rules.specs.Rules.{corporate}
use Rattle.runs.specs.Scripts.{Script, Account, Queue, edge, bid, partial, keep, withdraw, on, placed, refused, trade, account, Sums, sums, Left}

abbrev entries : List Entry
entries =
    on (Place Trading (bid 1 4 Buy (Some 90) 1 partial keep) 64) (refused (ByFloor QueueFull) kind.Bid 4) []
    ∷ on (Place Trading (bid 1 4 Buy (Some 200) 1 partial withdraw) 64) (placed 99999 0 0 0) []
    ∷ on (Place Trading (bid 1 4 Buy (Some 90) 1 partial keep) 0) (refused (ByFloor ShortStrip) kind.Bid 4) []
    ∷ on (Place Trading (bid 1 4 Sell (Some 90) 1 partial keep) 64) (placed 100000 1 0 1) (trade 4 0 1 1 100000 100 1 ∷ [])
    ∷ on (Place Trading (bid 1 4 Sell (Some 100) 1 partial keep) 64) (refused (ByFloor NumbersSpent) kind.Bid 4) []
    ∷ []

-- holder, asset, free, blocked, the tally's sum, what the standing bids oblige to by the tally, and free after taking apart
abbrev accounts : List Account
accounts =
    account 0 0 100000 12700 99900 0 112700
    ∷ account 0 4 100001 0 100001 0 100001
    ∷ account 1 0 100100 0 100100 0 100100
    ∷ account 1 4 99999 0 99999 0 99999
    ∷ []

abbrev queues : List Queue
queues =
    []

-- ticker, what its trades cost and their lots, on the floor and by the tally
abbrev sums_of_trades : List Sums
sums_of_trades = sums 4 100 1 0 0 ∷ sums 5 0 0 0 0 ∷ sums 6 0 0 0 0 ∷ sums 7 0 0 0 0 ∷ sums 8 0 0 0 0 ∷ sums 9 0 0 0 0 ∷ sums 10 0 0 0 0 ∷ sums 11 0 0 0 0 ∷ []

-- the standing bids by the tally: number and lots left
abbrev standing : List Left
standing = []

abbrev pub script : Script
script = record { rule = corporate; start = edge; entries = entries; accounts = accounts; queues = queues; sums = sums_of_trades; standing = standing; running = false }
