-- Checks that are passed one after the other. Assumes nothing.
use Rattle.std.proofs.Common.{◌≡◌, ℕ, Bool, true, false, cond, List, [], ◌∷◌, ◌++◌, Some, None, Ok, Err, refl, ap, ◌∙◌, arith}
use Rattle.model.specs.declared.words.Session.{Session}
use Rattle.model.specs.declared.faults.FloorRefusal.{FloorRefusal}
use Rattle.model.specs.declared.faults.FloorRefusal.TheVariants.{WrongSession}
use Rattle.model.specs.declared.faults.Cause.TheVariants.{Floor as ByFloor}
use Rattle.model.specs.Checks.{Check, must, or_next, first_failing}
use Rattle.floor.specs.declared.events.Event.{Event}
use Rattle.floor.specs.Events.{runs_in, leads_to, allowed_in}
use Rattle.floor.specs.Asking.{kept, cause_of}

-- a check of the floor that answered Ok was met, and one that did not was not
pub kept-met : (b : Bool) (e : FloorRefusal) (u : Unit {0}) → Ok u ≡ kept b e → b ≡ true
kept-met true e u p = refl
kept-met false e u p = absurd (let z : ◌≡◌ {A = ℕ} 0 1 = cc in omega arith)

pub kept-not : (b : Bool) (e f : FloorRefusal) → Err f ≡ kept b e → (b ≡ false) × (f ≡ e)
kept-not true e f p = absurd (let z : ◌≡◌ {A = ℕ} 0 1 = cc in omega arith)
kept-not false e f p = (refl, cc)

pub kept-cause : (b : Bool) (e : FloorRefusal) → cause_of (kept b e) ≡ must b e
kept-cause true e = refl
kept-cause false e = refl

-- likewise of the table of sessions
pub allowed-met : (s : Session) (event : Event) (x : Session) → Ok x ≡ allowed_in s event → (runs_in event s ≡ true) × (x ≡ leads_to event s)
allowed-met s event x = by (runs_in event s)
  where
    by : (b : Bool) → Ok x ≡ cond b (Ok (leads_to event s)) (Err WrongSession) → (b ≡ true) × (x ≡ leads_to event s)
    by true p = (refl, cc)
    by false p = absurd (let z : ◌≡◌ {A = ℕ} 0 1 = cc in omega arith)

pub allowed-not : (s : Session) (event : Event) (f : FloorRefusal) → Err f ≡ allowed_in s event → (runs_in event s ≡ false) × (f ≡ WrongSession)
allowed-not s event f = by (runs_in event s)
  where
    by : (b : Bool) → Err f ≡ cond b (Ok (leads_to event s)) (Err WrongSession) → (b ≡ false) × (f ≡ WrongSession)
    by true p = absurd (let z : ◌≡◌ {A = ℕ} 0 1 = cc in omega arith)
    by false p = (refl, cc)

-- a check that is met leaves the word to the next, one that is not refuses
pub pass : (b : Bool) (e : FloorRefusal) (x y : Check) → b ≡ true → x ≡ y → x ≡ or_next (must b e) y
pass true e x y p q = q
pass false e x y p q = absurd (let z : ◌≡◌ {A = ℕ} 0 1 = cc in omega arith)

pub fail : (b : Bool) (e : FloorRefusal) (y : Check) → b ≡ false → Some (ByFloor e) ≡ or_next (must b e) y
fail true e y p = absurd (let z : ◌≡◌ {A = ℕ} 0 1 = cc in omega arith)
fail false e y p = refl

pub last-check : (c : Check) → c ≡ or_next c None
last-check None = refl
last-check (Some e) = refl

pub first-join : (xs ys : List Check) → first_failing (xs ++ ys) ≡ or_next (first_failing xs) (first_failing ys)
first-join [] ys = refl
first-join (x ∷ xs) ys = ap (or_next x) (first-join xs ys) ∙ next x (first_failing xs) (first_failing ys)
  where
    next : (a b c : Check) → or_next a (or_next b c) ≡ or_next (or_next a b) c
    next None b c = refl
    next (Some e) b c = refl
