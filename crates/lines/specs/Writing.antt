-- How each command is written in a line, and that the line is read as that command.
use Rattle.std.specs.Prelude.{◌≡◌, ℕ, ◌≤◌, Bool, true, false, List, [], ◌∷◌, ◌++◌, map, length, Some, None, Ok, codes, decimal, Option}
use Rattle.std.specs.List.{AllByRecursion}
use Rattle.rules.specs.declared.bid.Side.{Side}
use Rattle.rules.specs.declared.bid.Side.TheVariants.{Buy, Sell}
use Rattle.model.specs.declared.calls.Call.{Call}
use Rattle.model.specs.declared.calls.Call.TheVariants.{Start, Deposit, Withdraw, Place, Cancel, Open, EndTrading, EndPostTrading}
use Rattle.model.specs.declared.words.Quote.{Quote}
use Rattle.model.specs.declared.words.Session.{Session}
use Rattle.model.specs.declared.words.Session.TheVariants.{Closed, PreTrading, Trading, PostTrading}
use Rattle.script.specs.Commands.{parsed}
use Rattle.script.specs.Lines.{uncommented, words_of}
use Rattle.script.specs.Reading.{most8, most32, most64}
use Rattle.script.specs.declared.commands.Command.{Command}
use Rattle.script.specs.declared.commands.Command.TheVariants as command

-- ---- words
abbrev pub side_word : Side → List ℕ
side_word Buy = codes "buy"
side_word Sell = codes "sell"

-- a closed floor has no pass to show
abbrev pub pass_word : Session → List ℕ
pass_word Closed = []
pass_word PreTrading = codes "pre"
pass_word Trading = codes "trading"
pass_word PostTrading = codes "post"

abbrev pub price_word : Option ℕ → List ℕ
price_word None = codes "-"
price_word (Some price) = decimal price

abbrev pub fill_word : Bool → List ℕ
fill_word true = codes "entire"
fill_word false = codes "partial"

abbrev pub rest_word : Bool → List ℕ
rest_word true = codes "keep"
rest_word false = codes "withdraw"

abbrev pub quote_word : Quote → List ℕ
quote_word q = decimal q.currency ++ (58 ∷ decimal q.settlement)

-- ---- lines
abbrev pub call_words : Call → List (List ℕ)
call_words (Start listing) = codes "start" ∷ map quote_word listing.quotes
call_words (Deposit h a n) = codes "deposit" ∷ decimal h ∷ decimal a ∷ decimal n ∷ []
call_words (Withdraw h a n) = codes "withdraw" ∷ decimal h ∷ decimal a ∷ decimal n ∷ []
call_words (Place shown b room) =
    codes "bid" ∷ pass_word shown ∷ decimal b.holder ∷ decimal b.ticker ∷ side_word b.side ∷ price_word b.price ∷ decimal b.lots
    ∷ fill_word b.entire ∷ rest_word b.keep ∷ decimal room ∷ []
call_words (Cancel shown h t n) = codes "cancel" ∷ pass_word shown ∷ decimal h ∷ decimal t ∷ decimal n ∷ []
call_words (Open room) = codes "open" ∷ decimal room ∷ []
call_words EndTrading = codes "end-trading" ∷ []
call_words EndPostTrading = codes "end-post-trading" ∷ []

abbrev pub command_words : Command → List (List ℕ)
command_words (command.Call c) = call_words c
command_words (command.Read h a) = codes "read" ∷ decimal h ∷ decimal a ∷ []
command_words (command.Queue t side) = codes "queue" ∷ decimal t ∷ side_word side ∷ []
command_words (command.Average t) = codes "average" ∷ decimal t ∷ []
command_words command.Accounts = codes "accounts" ∷ []
command_words command.Session = codes "session" ∷ []

-- the byte d behind each word
abbrev pub spaced : ℕ → List (List ℕ) → List ℕ
spaced d [] = []
spaced d (w ∷ ws) = w ++ (d ∷ spaced d ws)

abbrev pub line_of : ℕ → Command → List ℕ
line_of d c = spaced d (command_words c)

-- ---- what can be written: every value of the types, but for the pass of a closed floor
abbrev pub IsPass : Session → Type 0
IsPass Closed = ⊥
IsPass PreTrading = Unit {0}
IsPass Trading = Unit {0}
IsPass PostTrading = Unit {0}

abbrev pub PriceFits : Option ℕ → Type 0
PriceFits None = Unit {0}
PriceFits (Some price) = price ≤ most32

abbrev pub QuoteFits : Quote → Type 0
QuoteFits q = (q.currency ≤ most8) × (q.settlement ≤ most32)

abbrev pub CallFits : Call → Type 0
CallFits (Start listing) = (length listing.quotes ≡ 8) × AllByRecursion QuoteFits listing.quotes
CallFits (Deposit h a n) = (h ≤ most8) × (a ≤ most8) × (n ≤ most64)
CallFits (Withdraw h a n) = (h ≤ most8) × (a ≤ most8) × (n ≤ most64)
CallFits (Place shown b room) =
    IsPass shown × (b.holder ≤ most8) × (b.ticker ≤ most8) × PriceFits b.price × (b.lots ≤ most32) × (room ≤ most64)
CallFits (Cancel shown h t n) = IsPass shown × (h ≤ most8) × (t ≤ most8) × (n ≤ most32)
CallFits (Open room) = room ≤ most64
CallFits EndTrading = Unit {0}
CallFits EndPostTrading = Unit {0}

abbrev pub Fits : Command → Type 0
Fits (command.Call c) = CallFits c
Fits (command.Read h a) = (h ≤ most8) × (a ≤ most8)
Fits (command.Queue t side) = t ≤ most8
Fits (command.Average t) = t ≤ most8
Fits command.Accounts = Unit {0}
Fits command.Session = Unit {0}

-- ---- the law: a command that is written with the byte d behind each word is read as that command
abbrev pub LinesAreReadBack : ℕ → Type 0
LinesAreReadBack d = (c : Command) → Fits c → parsed (words_of (uncommented (line_of d c))) ≡ Ok (Some c)
