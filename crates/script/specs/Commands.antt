-- The command that the words of a line name: a call, or a look at the floor.
use Rattle.std.specs.Prelude.{ℕ, cond, List, [], ◌∷◌, Some, None, Ok, Err, codes, Option, Result}
use Rattle.model.specs.Market.{opening_room}
use Rattle.model.specs.declared.calls.Call.{Call}
use Rattle.model.specs.declared.calls.Call.TheVariants as call
use Rattle.script.specs.declared.commands.Command.{Command}
use Rattle.script.specs.declared.commands.Command.TheVariants.{Call as Made, Read, Queue, Average, Accounts, Session}
use Rattle.script.specs.declared.verbs.Verb.{Verb}
use Rattle.script.specs.declared.verbs.Verb.TheVariants as verb
use Rattle.script.specs.declared.reading.LineFault.{LineFault}
use Rattle.script.specs.declared.reading.LineFault.TheVariants.{UnknownCall}
use Rattle.script.specs.Bids.{side_of, bid_of, cancel_of}
use Rattle.script.specs.Lines.{same_word}
use Rattle.script.specs.Listings.{start_of}
use Rattle.script.specs.Reading.{and_then, number_of, most8, most64, taken, take_account_lem, ended, last_or}

-- which call or look a word names
abbrev pub verb_of : List ℕ → Result Verb LineFault
verb_of w =
    cond (same_word w (codes "start")) (Ok verb.Start)
    (cond (same_word w (codes "open")) (Ok verb.Open)
    (cond (same_word w (codes "end-trading")) (Ok verb.EndTrading)
    (cond (same_word w (codes "end-post-trading")) (Ok verb.EndPostTrading)
    (cond (same_word w (codes "deposit")) (Ok verb.Deposit)
    (cond (same_word w (codes "withdraw")) (Ok verb.Withdraw)
    (cond (same_word w (codes "bid")) (Ok verb.Bid)
    (cond (same_word w (codes "cancel")) (Ok verb.Cancel)
    (cond (same_word w (codes "read")) (Ok verb.Read)
    (cond (same_word w (codes "queue")) (Ok verb.Queue)
    (cond (same_word w (codes "average")) (Ok verb.Average)
    (cond (same_word w (codes "accounts")) (Ok verb.Accounts)
    (cond (same_word w (codes "session")) (Ok verb.Session)
    (Err UnknownCall)))))))))))))

-- HOLDER ASSET AMOUNT
abbrev pub movement_of : List (List ℕ) → Result (ℕ × ℕ × ℕ) LineFault
movement_of ws =
    and_then (take_account_lem ws) (λ p.
    and_then (taken (number_of most64) p.1) (λ n.
    and_then (ended n.1) (λ _. Ok (p.0.0, p.0.1, n.0))))

abbrev pub deposit_of : List (List ℕ) → Result Call LineFault
deposit_of ws = and_then (movement_of ws) (λ m. Ok (call.Deposit m.0 m.1 m.2))

abbrev pub withdraw_of : List (List ℕ) → Result Call LineFault
withdraw_of ws = and_then (movement_of ws) (λ m. Ok (call.Withdraw m.0 m.1 m.2))

-- HOLDER ASSET, TICKER SIDE, and TICKER: looks at an account, a queue and an average
abbrev pub read_of : List (List ℕ) → Result Command LineFault
read_of ws = and_then (take_account_lem ws) (λ p. and_then (ended p.1) (λ _. Ok (Read p.0.0 p.0.1)))

abbrev pub queue_of : List (List ℕ) → Result Command LineFault
queue_of ws = and_then (taken (number_of most8) ws) (λ t. and_then (taken side_of t.1) (λ s. and_then (ended s.1) (λ _. Ok (Queue t.0 s.0))))

abbrev pub average_of : List (List ℕ) → Result Command LineFault
average_of ws = and_then (taken (number_of most8) ws) (λ t. and_then (ended t.1) (λ _. Ok (Average t.0)))

-- a call, as what a line names
abbrev pub made : Result Call LineFault → Result Command LineFault
made r = and_then r (λ c. Ok (Made c))

-- a verb with the words behind it
abbrev pub command_with : Verb → List (List ℕ) → Result Command LineFault
command_with verb.Start ws = made (start_of ws)
command_with verb.Open ws = made (and_then (last_or opening_room ws) (λ n. Ok (call.Open n)))
command_with verb.EndTrading ws = made (and_then (ended ws) (λ _. Ok call.EndTrading))
command_with verb.EndPostTrading ws = made (and_then (ended ws) (λ _. Ok call.EndPostTrading))
command_with verb.Deposit ws = made (deposit_of ws)
command_with verb.Withdraw ws = made (withdraw_of ws)
command_with verb.Bid ws = made (bid_of ws)
command_with verb.Cancel ws = made (cancel_of ws)
command_with verb.Read ws = read_of ws
command_with verb.Queue ws = queue_of ws
command_with verb.Average ws = average_of ws
command_with verb.Accounts ws = and_then (ended ws) (λ _. Ok Accounts)
command_with verb.Session ws = and_then (ended ws) (λ _. Ok Session)

abbrev pub command_of : List ℕ → List (List ℕ) → Result Command LineFault
command_of w ws = and_then (verb_of w) (λ v. command_with v ws)

-- a line with no word names nothing, and is no fault either
abbrev pub parsed : List (List ℕ) → Result (Option Command) LineFault
parsed [] = Ok None
parsed (w ∷ ws) = and_then (command_of w ws) (λ c. Ok (Some c))
