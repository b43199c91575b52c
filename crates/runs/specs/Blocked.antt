-- A floor made over a register with something blocked cannot start.
use Rattle.std.specs.Prelude.{◌∷◌}
use Rattle.runs.specs.Words.{false, List, [], ByFloor}
use Rattle.runs.specs.Words.{BadListing, SomethingBlocked, WrongSession}
use Rattle.runs.specs.Words.{Start, Deposit, Open, Done}
use Rattle.model.specs.declared.faults.CallKind.TheVariants as kind
use Rattle.model.specs.Tally.{Entry}
use Rattle.model.specs.World.{made}
use Rattle.register.specs.Books.{most_amount}
use Rattle.rules.specs.Rules.{corporate}
use Rattle.runs.specs.Scripts.{Script, Account, Queue, plenty, quote, listing, on, refused, account, Sums, sums, Left}

abbrev entries : List Entry
entries =
    on (Start (listing (quote 4 0 ∷ quote 4 0 ∷ quote 4 0 ∷ quote 4 0 ∷ quote 4 0 ∷ quote 4 0 ∷ quote 4 0 ∷ quote 4 0 ∷ []))) (refused (ByFloor BadListing) kind.Start 0) []
    ∷ on (Start (listing (quote 0 0 ∷ quote 0 0 ∷ quote 0 0 ∷ quote 0 0 ∷ quote 0 0 ∷ quote 0 0 ∷ quote 0 0 ∷ quote 0 0 ∷ []))) (refused (ByFloor SomethingBlocked) kind.Start 0) []
    ∷ on (Deposit 1 5 3) Done []
    ∷ on (Open 1024) (refused (ByFloor WrongSession) kind.Open 0) []
    ∷ []

-- holder, asset, free, blocked, the tally's sum, what the standing bids oblige to by the tally, and free after taking apart
abbrev accounts : List Account
accounts =
    account 1 5 100003 7 100003 0 100003
    ∷ []

abbrev queues : List Queue
queues =
    []

-- ticker, what its trades cost and their lots, on the floor and by the tally
abbrev sums_of_trades : List Sums
sums_of_trades = sums 4 0 0 0 0 ∷ sums 5 0 0 0 0 ∷ sums 6 0 0 0 0 ∷ sums 7 0 0 0 0 ∷ sums 8 0 0 0 0 ∷ sums 9 0 0 0 0 ∷ sums 10 0 0 0 0 ∷ sums 11 0 0 0 0 ∷ []

-- the standing bids by the tally: number and lots left
abbrev standing : List Left
standing = []

abbrev pub script : Script
script = record { rule = corporate; start = made (plenty 100000 7 most_amount 0); entries = entries; accounts = accounts; queues = queues; sums = sums_of_trades; standing = standing; running = false }
