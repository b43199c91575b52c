-- What calls return, as the answers of the definitions: an answer fixes what was returned, but for the pass.
use Rattle.std.specs.Prelude.{ℕ, Some, None, Ok, Err, Option, Result}
use Rattle.model.specs.declared.words.Receipt.{Receipt}
use Rattle.model.specs.declared.faults.Cause.{Cause}
use Rattle.model.specs.declared.faults.CallKind.{CallKind}
use Rattle.model.specs.declared.faults.Fault.{Fault}
use Rattle.model.specs.declared.calls.Answer.{Answer}
use Rattle.model.specs.declared.calls.Answer.TheVariants.{Done, Placed, Cancelled, Opened, Refused}

-- of a call that is done or refused
abbrev pub done : {X : Type 0} → Result X Fault → Answer
done (Ok x) = Done
done (Err f) = Refused f

abbrev pub placed : Result Receipt Fault → Answer
placed (Ok r) = Placed r
placed (Err f) = Refused f

abbrev pub cancelled : Result ℕ Fault → Answer
cancelled (Ok n) = Cancelled n
cancelled (Err f) = Refused f

-- of a change of session, where a refusal hands the pass back
abbrev pub changed : {P Q : Type 0} → Result Q (Fault × P) → Answer
changed (Ok q) = Done
changed (Err e) = Refused e.0

abbrev pub opened : {P Q : Type 0} → Result (Q × ℕ) (Fault × P) → Answer
opened (Ok r) = Opened r.1
opened (Err e) = Refused e.0

-- the fault of a call that is refused for a cause
abbrev pub raised : {X : Type 0} → CallKind → ℕ → Result X Cause → Result X Fault
raised kind t (Ok x) = Ok x
raised kind t (Err e) = Err (record { cause = e; call = kind; ticker = t })

-- what an inner step returns, where its call is refused by the first of its checks that fails
abbrev pub unless : {X : Type 0} → Option Cause → X → Result X Cause
unless None x = Ok x
unless (Some e) x = Err e
