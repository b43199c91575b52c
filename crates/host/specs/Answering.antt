-- What a line of input is answered, byte for byte, and what it leaves of a floor.
use Rattle.std.specs.Prelude.{◌≡◌, ℕ, String, string_bytes, OnOk, zero, suc, List, [], ◌∷◌, ◌++◌, Some, None, Ok, Err, Option, Result}
use Rattle.std.specs.List.{flat_map}
use Rattle.rules.specs.Rules.{Rule}
use Rattle.register.specs.declared.faults.Account.{Account}
use Rattle.model.specs.declared.calls.Call.{Call}
use Rattle.model.specs.declared.faults.Fault.{Fault}
use Rattle.model.specs.declared.words.Standing.{Standing}
use Rattle.model.specs.Calls.{answer, after, trades}
use Rattle.model.specs.Texts.{fault_line, trade_line, standing_line}
use Rattle.model.specs.Looks.{look_account, look_queue, look_average}
use Rattle.model.specs.World.{World}
use Rattle.script.specs.declared.commands.Command.{Command}
use Rattle.script.specs.declared.commands.Command.TheVariants.{Call as Made, Read, Queue, Average, Accounts, Session}
use Rattle.script.specs.declared.reading.LineFault.{LineFault}
use Rattle.script.specs.Commands.{parsed}
use Rattle.script.specs.Lines.{uncommented, words_of}
use Rattle.telling.specs.declared.answers.Entry.{Entry}
use Rattle.telling.specs.Replies.{call_line, entry_line, listed, average_line, session_line, error_line}

-- a line with its newline
abbrev pub told : List ℕ → List ℕ
told line = line ++ (10 ∷ [])

-- where nothing fails, a text has grown by these bytes
abbrev pub Adds : {E Z : Type 0} → Result (Unit {0}) E → String Z → String Z → List ℕ → Type 0
Adds r before after bytes = OnOk r (string_bytes after ≡ string_bytes before ++ bytes)

-- a line for each
abbrev pub told_each : {X : Type 0} → (X → List ℕ) → List X → List ℕ
told_each line xs = flat_map (λ x. told (line x)) xs

-- ---- calls: the answer, and a line for each trade
abbrev pub call_text_lem : Rule → World → Call → List ℕ
call_text_lem r w c = told (call_line c (answer r w c)) ++ told_each trade_line (trades r w c)

-- ---- looks
abbrev pub read_text : ℕ → ℕ → Result Account Fault → List ℕ
read_text h a (Ok x) = told (entry_line (record { holder = h; asset = a; account = x }))
read_text h a (Err f) = told (fault_line f)

abbrev pub queue_text : Result (List Standing) Fault → List ℕ
queue_text (Ok xs) = told_each standing_line xs
queue_text (Err f) = told (fault_line f)

abbrev pub average_text : ℕ → Result (Option ℕ) Fault → List ℕ
average_text t (Ok x) = told (average_line t x)
average_text t (Err f) = told (fault_line f)

-- an account in the list of all: shown where something is free or blocked
abbrev pub listed_text : Option Entry → List ℕ
listed_text None = []
listed_text (Some e) = told (entry_line e)

abbrev pub account_text : ℕ → ℕ → Result Account Fault → List ℕ
account_text h a (Ok x) = listed_text (listed h a x)
account_text h a (Err f) = []

-- of 0, of 1 and so on, for the numbers below n
unfoldable pub below : ℕ → (ℕ → List ℕ) → List ℕ
below zero text = []
below (suc n) text = below n text ++ text n

abbrev pub holder_text : World → ℕ → List ℕ
holder_text w h = below 12 (λ a. account_text h a (look_account w h a))

abbrev pub accounts_text : World → List ℕ
accounts_text w = below 16 (holder_text w)

-- ---- commands: a look leaves the floor as it is
abbrev pub command_text : Rule → World → Command → List ℕ
command_text r w (Made c) = call_text_lem r w c
command_text r w (Read h a) = read_text h a (look_account w h a)
command_text r w (Queue t side) = queue_text (look_queue w t side)
command_text r w (Average t) = average_text t (look_average w t)
command_text r w Accounts = accounts_text w
command_text r w Session = told (session_line w.session)

abbrev pub after_command : Rule → World → Command → World
after_command r w (Made c) = after r w c
after_command r w (Read h a) = w
after_command r w (Queue t side) = w
after_command r w (Average t) = w
after_command r w Accounts = w
after_command r w Session = w

-- ---- lines: one with no word is passed over, one that is no command is told as such, and neither does anything
abbrev pub parsed_text : Rule → World → ℕ → Result (Option Command) LineFault → List ℕ
parsed_text r w n (Ok None) = []
parsed_text r w n (Ok (Some c)) = command_text r w c
parsed_text r w n (Err e) = told (error_line n e)

abbrev pub after_parsed : Rule → World → Result (Option Command) LineFault → World
after_parsed r w (Ok None) = w
after_parsed r w (Ok (Some c)) = after_command r w c
after_parsed r w (Err e) = w

abbrev pub command_in : List ℕ → Result (Option Command) LineFault
command_in line = parsed (words_of (uncommented line))

-- the text that answers line n of the input, and the world after it
abbrev pub reply_text : Rule → World → ℕ → List ℕ → List ℕ
reply_text r w n line = parsed_text r w n (command_in line)

abbrev pub after_line : Rule → World → List ℕ → World
after_line r w line = after_parsed r w (command_in line)
