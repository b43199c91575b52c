-- One call after another.
use Rattle.std.proofs.Common.{◌≡◌, ℕ, ◌<◌, ◌≤◌, Some, None, Ok, Err, Option, sym, refl, ap, ◌∙◌, subst, arith}
use Rattle.std.proofs.lemmas.Bool.Decides.{nat_tests}
use Rattle.register.specs.declared.faults.RegisterFault.{RegisterFault}
use Rattle.register.specs.declared.slips.Slip.{Slip}
use Rattle.register.specs.Books.{Book}
use Rattle.register.specs.Moves.{Deposit, Block, Release, refusal, moved, after_move, granted, handed_back, reading}
use Rattle.register.specs.Laws.{shown}
use Rattle.register.proofs.Accounts.{at_here, at-covered, book-ext}
use Rattle.register.proofs.Grants
use Rattle.register.proofs.Proved.{reading-shows}

-- a call that answers Ok was not refused, and answers what it had to
pub granted-none : {A : Type 0} (r : Option RegisterFault) (x y : A) → Ok y ≡ granted r x → r ≡ None
granted-none None x y e = refl
granted-none (Some f) x y e = cc

pub granted-value : {A : Type 0} (r : Option RegisterFault) (x y : A) → Ok y ≡ granted r x → y ≡ x
granted-value None x y e = cc
granted-value (Some f) x y e = cc

-- a movement that is not refused hands no slip back
pub never_back : (r : Option RegisterFault) (s : Slip) (e : RegisterFault × Slip) → r ≡ None → Err e ≡ handed_back r s → ⊥
never_back None s e n q = let z : ◌≡◌ {A = ℕ} 0 1 = cc in omega arith
never_back (Some f) s e n q = let z : ◌≡◌ {A = ℕ} 0 1 = cc in omega arith

-- what a block has put aside, a release finds
pub release-granted : (b : Book) (h a n : ℕ) → h < 16 → a < 12 → refusal (moved b (Block h a n)) (Release h a n) ≡ None
release-granted b h a n hh aa =
    let le : n ≤ (moved b (Block h a n)).blocked h a = omega (arith, at_here h a n) in
    grind (arith, nat_tests)

pub release-undoes : (b : Book) (h a n : ℕ) → n ≤ b.free h a → moved (moved b (Block h a n)) (Release h a n) ≡ b
release-undoes b h a n le =
    book-ext _ _ (λ x y. omega (arith, at-covered b.free h a n x y le)) (λ x y. omega arith) (λ x y. refl) (λ x y m. refl)

-- a block that gave the slip s, and then its release
pub record Released (b : Book) (h a n : ℕ) (s : Slip) : Type 0 where
  pub blocked : refusal b (Block h a n) ≡ None
  pub granted : refusal (after_move b (Block h a n)) (Release s.holder s.asset s.amount) ≡ None
  pub same : after_move (after_move b (Block h a n)) (Release s.holder s.asset s.amount) ≡ b

pub released : (b : Book) (h a n : ℕ) (s : Slip) → Ok s ≡ granted (refusal b (Block h a n)) (record { holder = h; asset = a; amount = n }) → Released b h a n s
released b h a n s e =
    let none = granted-none (refusal b (Block h a n)) _ s e in
    let value = granted-value (refusal b (Block h a n)) (record { holder = h; asset = a; amount = n }) s e in
    subst (λ (z : Slip). Released b h a n z) (sym value) (of none)
  where
    of : refusal b (Block h a n) ≡ None → Released b h a n (record { holder = h; asset = a; amount = n })
    of none =
        let k = Grants.known-block b h a n none in
        let made = Grants.after-made b (Block h a n) none in
        let ok = release-granted b h a n k.holder k.asset in
        record {
          blocked = none;
          granted = ap (λ (c : Book). refusal c (Release h a n)) made ∙ ok;
          same = ap (λ (c : Book). after_move c (Release h a n)) made ∙ Grants.after-made (moved b (Block h a n)) (Release h a n) ok ∙ release-undoes b h a n (Grants.free-block b h a n none);
        }

-- a deposit that was taken, and then a reading
pub read_back : (b : Book) (h a n : ℕ) (u : Unit {0}) → Ok u ≡ granted (refusal b (Deposit h a n)) tt →
    reading (after_move b (Deposit h a n)) h a ≡ granted (refusal b (Deposit h a n)) (shown b h a n)
read_back b h a n u e =
    let none = granted-none (refusal b (Deposit h a n)) tt u e in
    reading-shows b h a n none ∙ ap (λ (r : Option RegisterFault). granted r (shown b h a n)) (sym none)
