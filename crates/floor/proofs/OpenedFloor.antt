-- The checks of an opening. Assumes nothing.
use Rattle.std.proofs.Common.{◌≡◌, ℕ, true, false, leb, List, Some, None, Ok, Err, Result, sym, refl, ap, arith}
use Rattle.rules.specs.Rules.{Rule}
use Rattle.model.specs.declared.calls.Call.TheVariants.{Open}
use Rattle.model.specs.declared.calls.Answer.TheVariants.{Opened, Refused}
use Rattle.model.specs.declared.faults.Cause.{Cause}
use Rattle.model.specs.declared.faults.Cause.TheVariants.{Floor as ByFloor}
use Rattle.model.specs.declared.faults.CallKind.{CallKind}
use Rattle.model.specs.declared.faults.Fault.{Fault}
use Rattle.model.specs.declared.calls.Answer.{Answer}
use Rattle.model.specs.declared.faults.FloorRefusal.TheVariants.{WrongSession, ShortStrip}
use Rattle.model.specs.Market.{is_pre_trading, opening_room}
use Rattle.model.specs.World.{World}
use Rattle.model.specs.Checks.{why}
use Rattle.model.specs.declared.words.Trade.{Trade}
use Rattle.floor.specs.Fairness.{FairOpening}
use Rattle.floor.specs.Replies.{raised}
use Rattle.floor.proofs.Passing.{pass, fail}

-- a refused opening promises nothing of the strip
pub none-fair : (w : World) (res : Result ℕ Cause) (y : Cause) (strip : List Trade) → res ≡ Err y → FairOpening w res strip
none-fair w (Ok n) y strip e = absurd (let z : ◌≡◌ {A = ℕ} 0 1 = cc in omega arith)
none-fair w (Err e) y strip p = tt

module _ (r : Rule) (w : World) (room : ℕ) where
  pub session-refuses : is_pre_trading w.session ≡ false → why r w (Open room) ≡ Some (ByFloor WrongSession)
  session-refuses a = sym (fail _ WrongSession _ a)

  pub strip-refuses : is_pre_trading w.session ≡ true → leb opening_room room ≡ false → why r w (Open room) ≡ Some (ByFloor ShortStrip)
  strip-refuses a b = sym (pass _ WrongSession _ _ a (fail _ ShortStrip _ b))

  pub open-taken : is_pre_trading w.session ≡ true → leb opening_room room ≡ true → why r w (Open room) ≡ None
  open-taken a b = sym (pass _ WrongSession _ _ a (pass _ ShortStrip _ _ b refl))

-- how an opening is told
abbrev pub opening : Result ℕ Fault → Answer
opening (Ok n) = Opened n
opening (Err f) = Refused f

-- what was not refused was not raised
pub raised-ok : (kind : CallKind) (t : ℕ) (res : Result ℕ Cause) (m : ℕ) → Ok m ≡ raised kind t res → res ≡ Ok m
raised-ok kind t (Ok x) m p = let s : m ≡ x = cc in ap Ok (sym s)
raised-ok kind t (Err e) m p = absurd (let z : ◌≡◌ {A = ℕ} 0 1 = cc in omega arith)
