-- The lines that answer.
use Rattle.std.specs.Prelude.{ℕ, cond, ◌&&◌, List, ◌++◌, Some, None, codes, decimal, Option, ◌==◌}
use Rattle.register.specs.declared.faults.Account.{Account}
use Rattle.model.specs.declared.calls.Answer.{Answer}
use Rattle.model.specs.declared.calls.Answer.TheVariants.{Done, Placed, Cancelled, Opened, Refused}
use Rattle.model.specs.declared.calls.Call.{Call}
use Rattle.model.specs.declared.words.Session.{Session}
use Rattle.model.specs.Texts.{session_text, fault_line, receipt_line}
use Rattle.telling.specs.declared.answers.Entry.{Entry}
use Rattle.script.specs.declared.reading.LineFault.{LineFault}
use Rattle.script.specs.Faults.{line_text}
use Rattle.telling.specs.Texts.{done_text}

-- the line that answers a call
abbrev pub call_line : Call → Answer → List ℕ
call_line c Done = codes "ok " ++ done_text c
call_line c (Placed receipt) = receipt_line receipt
call_line c (Cancelled lots) = codes "ok cancelled " ++ decimal lots
call_line c (Opened count) = codes "ok opened " ++ decimal count
call_line c (Refused fault) = fault_line fault

-- account HOLDER ASSET FREE BLOCKED CAP
abbrev pub entry_line : Entry → List ℕ
entry_line e =
    codes "account " ++ (decimal e.holder ++ (codes " " ++ (decimal e.asset ++ (codes " " ++ (decimal e.account.free
    ++ (codes " " ++ (decimal e.account.blocked ++ (codes " " ++ decimal e.account.limit))))))))

-- a listing shows no account that has nothing free and nothing blocked
abbrev pub listed : ℕ → ℕ → Account → Option Entry
listed h a x = cond (x.free == 0 && x.blocked == 0) None (Some (record { holder = h; asset = a; account = x }))

-- - stands for no average
abbrev pub average_text : Option ℕ → List ℕ
average_text None = codes "-"
average_text (Some price) = decimal price

abbrev pub average_line : ℕ → Option ℕ → List ℕ
average_line ticker average = codes "average " ++ (decimal ticker ++ (codes " " ++ average_text average))

abbrev pub session_line : Session → List ℕ
session_line s = codes "session " ++ session_text s

-- the line for line n, which is no call
abbrev pub error_line : ℕ → LineFault → List ℕ
error_line n f = codes "error " ++ (decimal n ++ (codes ": " ++ line_text f))
