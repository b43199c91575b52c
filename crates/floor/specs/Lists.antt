-- Lists of calls as a runner makes them: the strips that it lends, and what it records.
use Rattle.std.specs.Prelude.{◌≡◌, ℕ, ◌-◌, ◌<◌, min, List, [], ◌∷◌, ◌++◌, map, length, take, drop}
use Rattle.std.specs.List.{flat_map}
use Rattle.register.specs.Books.{Book}
use Rattle.rules.specs.Rules.{Rule}
use Rattle.model.specs.declared.words.Trade.{Trade}
use Rattle.model.specs.declared.calls.Call.{Call}
use Rattle.model.specs.declared.calls.Call.TheVariants.{Start, Deposit, Withdraw, Place, Cancel, Open, EndTrading, EndPostTrading}
use Rattle.model.specs.declared.calls.Answer.{Answer}
use Rattle.model.specs.declared.calls.Answer.TheVariants.{Done, Placed, Cancelled, Opened, Refused}
use Rattle.model.specs.World.{World}
use Rattle.model.specs.Calls.{after, trades}
use Rattle.model.specs.SoundLaws.{room_of_lem}
use Rattle.model.specs.Tally.{Entry, Tally}
use Rattle.model.specs.Runs.{run, log}
use Rattle.model.specs.Law.{Law, Together}

-- ---- strips
-- a call with a strip of n records
abbrev pub lent : ℕ → Call → Call
lent n (Start listing) = Start listing
lent n (Deposit holder asset amount) = Deposit holder asset amount
lent n (Withdraw holder asset amount) = Withdraw holder asset amount
lent n (Place shown b room) = Place shown b n
lent n (Cancel shown holder t number) = Cancel shown holder t number
lent n (Open room) = Open n
lent n EndTrading = EndTrading
lent n EndPostTrading = EndPostTrading

-- with what it asks for, or with what is left of the tape where that is less
abbrev pub lent_from : ℕ → Call → Call
lent_from left c = lent (min (room_of_lem c) left) c

-- the calls as they are made: each has its strip from what the trades before it left of the tape
abbrev pub as_lent : Rule → World → ℕ → List Call → List Call
as_lent r w left [] = []
as_lent r w left (c ∷ cs) =
    lent_from left c ∷ as_lent r (after r w (lent_from left c)) (left - length (trades r w (lent_from left c))) cs

-- ---- what is recorded
-- how many trades an answer tells of
abbrev pub count_of : Answer → ℕ
count_of Done = 0
count_of (Placed r) = r.count
count_of (Cancelled n) = 0
count_of (Opened n) = n
count_of (Refused f) = 0

-- the entries that calls, answers and a tape make up: each call with its answer and with as many trades as the answer tells of, which
-- stand on the tape behind those of the calls before it
abbrev pub recorded : List Call → List Answer → List Trade → List Entry
recorded [] answers tape = []
recorded (c ∷ cs) [] tape = []
recorded (c ∷ cs) (a ∷ answers) tape =
    record { call = c; answer = a; trades = take (count_of a) tape } ∷ recorded cs answers (drop (count_of a) tape)

-- the answers and the trades of entries, one after the other
abbrev pub answers_of : List Entry → List Answer
answers_of es = map (λ e. e.answer) es

abbrev pub trades_in : List Entry → List Trade
trades_in es = flat_map (λ e. e.trades) es

-- nothing is blocked
abbrev pub Quiet : Book → Type 0
Quiet b = (h a : ℕ) → h < 16 → a < 12 → b.blocked h a ≡ 0

-- ---- what a run of calls does, from a world to the world after it: the answers and the trades are those of the definitions, and the
-- answers and the tape behind them stay as they were
pub record Ran (r : Rule) (w : World) (calls : List Call) (w' : World) (answers answers' : List Answer) (tape tape' : List Trade) : Type 0 where
  pub world : w' ≡ run r w (as_lent r w (length tape) calls)
  pub answered : answers' ≡ answers_of (log r w (as_lent r w (length tape) calls)) ++ drop (length calls) answers
  pub written : tape' ≡ trades_in (log r w (as_lent r w (length tape) calls)) ++ drop (length (trades_in (log r w (as_lent r w (length tape) calls)))) tape

-- ---- a floor and the tally of all its calls go together, and so the law holds of them
pub record GoesOn (r : Rule) (w : World) (y : Tally) : Type 0 where
  pub together : Together r w y
  pub lawful : Law r w y
