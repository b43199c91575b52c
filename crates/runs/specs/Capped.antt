-- A cap of 1,000 on currency 2, by a layer with the tag 9.
use Rattle.std.specs.Prelude.{◌∷◌}
use Rattle.runs.specs.Words.{true, List, [], Some, None, Buy, Sell, PreTrading, Trading, ByRule, ByRegister}
use Rattle.runs.specs.Words.{OffBest, TooLittleFree, OverCap}
use Rattle.runs.specs.Words.{Start, Place, Cancel, Open, Done, Cancelled, Opened}
use Rattle.model.specs.declared.faults.CallKind.TheVariants as kind
use Rattle.model.specs.Tally.{Entry}
use Rattle.model.specs.World.{made}
use Rattle.register.specs.Moves.{fault}
use Rattle.rules.specs.Rules.{corporate}
use Rattle.runs.specs.Scripts.{Script, Account, Queue, plenty, quote, listing, bid, partial, entire, keep, on, placed, refused, trade, account, queue, stands, Sums, sums, Left, left}

abbrev entries : List Entry
entries =
    on (Start (listing (quote 2 0 ∷ quote 2 0 ∷ quote 2 0 ∷ quote 2 0 ∷ quote 2 0 ∷ quote 2 0 ∷ quote 2 0 ∷ quote 2 0 ∷ []))) Done []
    ∷ on (Place PreTrading (bid 0 4 Buy (Some 100) 11 partial keep) 64) (refused (ByRegister (fault OverCap 0 2 9)) kind.Bid 4) []
    ∷ on (Place PreTrading (bid 0 4 Buy (Some 100) 10 partial keep) 64) (placed 1 0 10 0) []
    ∷ on (Place PreTrading (bid 0 4 Buy (Some 1) 1 partial keep) 64) (refused (ByRule OffBest) kind.Bid 4) []
    ∷ on (Place PreTrading (bid 0 5 Buy (Some 10000) 11 partial keep) 64) (refused (ByRegister (fault TooLittleFree 0 2 0)) kind.Bid 5) []
    ∷ on (Place PreTrading (bid 1 4 Sell (Some 90) 4 partial keep) 64) (placed 2 0 4 0) []
    ∷ on (Open 1024) (Opened 1) (trade 4 0 1 1 2 90 4 ∷ [])
    ∷ on (Place Trading (bid 0 4 Buy (Some 98) 5 partial keep) 64) (refused (ByRegister (fault OverCap 0 2 9)) kind.Bid 4) []
    ∷ on (Place Trading (bid 0 4 Buy (Some 98) 4 partial keep) 64) (placed 3 0 4 0) []
    ∷ on (Place Trading (bid 1 4 Sell (Some 105) 8 partial keep) 64) (placed 4 0 8 0) []
    ∷ on (Place Trading (bid 0 4 Buy None 1 partial keep) 64) (refused (ByRegister (fault OverCap 0 2 9)) kind.Bid 4) []
    ∷ on (Place Trading (bid 0 4 Buy (Some 110) 1 entire keep) 64) (refused (ByRegister (fault OverCap 0 2 9)) kind.Bid 4) []
    ∷ on (Cancel Trading 0 4 1) (Cancelled 6) []
    ∷ on (Place Trading (bid 0 4 Buy None 1 partial keep) 64) (placed 5 1 0 1) (trade 4 0 1 5 4 105 1 ∷ [])
    ∷ on (Place Trading (bid 0 4 Buy None 8 partial keep) 64) (refused (ByRegister (fault OverCap 0 2 9)) kind.Bid 4) []
    ∷ []

-- holder, asset, free, blocked, the tally's sum, what the standing bids oblige to by the tally, and free after taking apart
abbrev accounts : List Account
accounts =
    account 0 2 99143 392 99535 392 99535
    ∷ account 0 4 100005 0 100005 0 100005
    ∷ account 1 2 100465 0 100465 0 100465
    ∷ account 1 4 99988 7 99995 7 99995
    ∷ []

abbrev queues : List Queue
queues =
    queue 4 Buy (stands 3 0 98 4 ∷ [])
    ∷ queue 4 Sell (stands 4 1 105 7 ∷ [])
    ∷ []

-- ticker, what its trades cost and their lots, on the floor and by the tally
abbrev sums_of_trades : List Sums
sums_of_trades = sums 4 465 5 465 5 ∷ sums 5 0 0 0 0 ∷ sums 6 0 0 0 0 ∷ sums 7 0 0 0 0 ∷ sums 8 0 0 0 0 ∷ sums 9 0 0 0 0 ∷ sums 10 0 0 0 0 ∷ sums 11 0 0 0 0 ∷ []

-- the standing bids by the tally: number and lots left
abbrev standing : List Left
standing = left 3 4 ∷ left 4 7 ∷ []

abbrev pub script : Script
script = record { rule = corporate; start = made (plenty 100000 0 1000 9); entries = entries; accounts = accounts; queues = queues; sums = sums_of_trades; standing = standing; running = true }
