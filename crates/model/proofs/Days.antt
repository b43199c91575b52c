-- The numbers of a day, over the log of any calls.
use Rattle.model.specs.Words.{ℕ, suc, refl, Bool, true, false, List, [], AllByRecursion, Option, Some, None}
use Rattle.std.proofs.Common.{◌≤◌, ◌<◌, ◌≡◌, ◌∷◌, ◌++◌, sym, ap, ◌∙◌, subst, arith}
use Rattle.std.proofs.lemmas.Bool.{true≢false}
use Rattle.model.specs.Market.{Call, Start, Deposit, Withdraw, Place, Cancel, Open, EndTrading, EndPostTrading, Cause, Listing, Receipt}
use Rattle.model.specs.Market.{Answer, Done, Placed, Cancelled, Opened, Refused}
use Rattle.model.specs.World.{World}
use Rattle.model.specs.Checks.{why}
use Rattle.model.specs.Calls.{answer, after, accepted, next, decided, fault_of_lem}
use Rattle.model.specs.Tally.{Entry, is_refused}
use Rattle.model.specs.Runs.{entry_of, log}
use Rattle.model.specs.Corollaries.{NumbersApart}
use Rattle.model.proofs.Soundness.{by-why}
use Rattle.model.proofs.Following.{numbers-rise}
use Rattle.rules.specs.Rules.{Rule}

-- ---- one call
-- only a bid is answered with a number
abbrev is_placed : Answer → Bool
is_placed Done = false
is_placed (Placed x) = true
is_placed (Cancelled n) = false
is_placed (Opened n) = false
is_placed (Refused f) = false

unplaced : (r : Rule) (w : World) (c : Call) (x : Receipt) → is_placed (accepted w c) ≡ false → answer r w c ≡ Placed x → ⊥
unfolding answer
unplaced r w c x p e =
    true≢false (sym (ap is_placed e) ∙ by-why (λ a. is_placed a ≡ false) (why r w c) (accepted w c) (λ z. Refused (fault_of_lem c z)) (λ _. p) (λ _. refl))

record Gives (given number given' : ℕ) : Type 0 where
  number_is : number ≡ suc given
  given_is : given' ≡ suc given

gives : (r : Rule) (w : World) (c : Call) (x : Receipt) → answer r w c ≡ Placed x → Gives w.given x.number (after r w c).given
gives r w (Start l) x e = absurd (unplaced r w (Start l) x refl e)
gives r w (Deposit h a n) x e = absurd (unplaced r w (Deposit h a n) x refl e)
gives r w (Withdraw h a n) x e = absurd (unplaced r w (Withdraw h a n) x refl e)
gives r w (Place shown b room) x e = let p = numbers-rise r w shown b room x e in record { number_is = p.0; given_is = p.1 }
gives r w (Cancel shown h t k) x e = absurd (unplaced r w (Cancel shown h t k) x refl e)
gives r w (Open room) x e = absurd (unplaced r w (Open room) x refl e)
gives r w EndTrading x e = absurd (unplaced r w EndTrading x refl e)
gives r w EndPostTrading x e = absurd (unplaced r w EndPostTrading x refl e)

-- every start is refused
abbrev NoStart : Entry → Type 0
NoStart n = (l : Listing) → n.call ≡ Start l → is_refused n.answer ≡ true

-- but for a start, no call takes a number back
next-given : (w : World) (c : Call) → ((l : Listing) → c ≡ Start l → ⊥) → w.given ≤ (next w c).given
next-given w (Start l) ne = absurd (ne l refl)
next-given w (Deposit h a n) ne = omega arith
next-given w (Withdraw h a n) ne = omega arith
next-given w (Place shown b room) ne = omega arith
next-given w (Cancel shown h t k) ne = omega arith
next-given w (Open room) ne = omega arith
next-given w EndTrading ne = omega arith
next-given w EndPostTrading ne = omega arith

keeps : (r : Rule) (w : World) (c : Call) → NoStart (entry_of r w c) → w.given ≤ (after r w c).given
unfolding after answer
keeps r w c still = go (why r w c) still
  where
    accepts : (l : Listing) → c ≡ Start l → is_refused (accepted w c) ≡ true → ⊥
    accepts l e h = true≢false (sym h ∙ ap (λ (z : Call). is_refused (accepted w z)) e)

    go : (o : Option Cause) → ((l : Listing) → c ≡ Start l → is_refused (decided o (accepted w c) (λ z. Refused (fault_of_lem c z))) ≡ true) → w.given ≤ (decided o (next w c) (λ z. w)).given
    go None h = next-given w c (λ l e. accepts l e (h l e))
    go (Some z) h = omega arith

-- ---- a log
-- the first entry of a log, and the others
head-is : (d e : Entry) (xs ys : List Entry) → d ∷ xs ≡ e ∷ ys → d ≡ e
head-is d e xs ys p = cc

tail-is : (d e : Entry) (xs ys : List Entry) → d ∷ xs ≡ e ∷ ys → xs ≡ ys
tail-is d e xs ys p = cc

empty-not : (e : Entry) (front ys : List Entry) → [] ≡ front ++ e ∷ ys → ⊥
empty-not e [] ys p = let z : ◌≡◌ {A = ℕ} 0 1 = cc in omega arith
empty-not e (f ∷ front) ys p = let z : ◌≡◌ {A = ℕ} 0 1 = cc in omega arith

-- a later bid's number is above all that were given
later : (r : Rule) (w : World) (cs : List Call) (middle behind : List Entry) (e : Entry) (y : Receipt)
    → log r w cs ≡ middle ++ e ∷ behind → AllByRecursion NoStart middle → e.answer ≡ Placed y → w.given < y.number
later r w [] middle behind e y p still q = absurd (empty-not e middle behind p)
later r w (c ∷ cs) [] behind e y p still q =
    let h = head-is (entry_of r w c) e (log r (after r w c) cs) behind p in
    let g = gives r w c y (ap (λ (n : Entry). n.answer) h ∙ q) in
    omega (arith, g.number_is)
later r w (c ∷ cs) (m ∷ middle) behind e y p still q =
    let h = head-is (entry_of r w c) m (log r (after r w c) cs) (middle ++ e ∷ behind) p in
    let k = keeps r w c (subst NoStart (sym h) still.0) in
    let l = later r (after r w c) cs middle behind e y (tail-is (entry_of r w c) m (log r (after r w c) cs) (middle ++ e ∷ behind) p) still.1 q in
    omega arith

pub numbers_apart : NumbersApart 1
numbers_apart r w [] front middle behind d e x y p u still v = absurd (empty-not d front (middle ++ e ∷ behind) p)
numbers_apart r w (c ∷ cs) [] middle behind d e x y p u still v =
    let h = head-is (entry_of r w c) d (log r (after r w c) cs) (middle ++ e ∷ behind) p in
    let g = gives r w c x (ap (λ (n : Entry). n.answer) h ∙ u) in
    let l = later r (after r w c) cs middle behind e y (tail-is (entry_of r w c) d (log r (after r w c) cs) (middle ++ e ∷ behind) p) still v in
    omega (arith, g.number_is, g.given_is)
numbers_apart r w (c ∷ cs) (f ∷ front) middle behind d e x y p u still v =
    numbers_apart r (after r w c) cs front middle behind d e x y (tail-is (entry_of r w c) f (log r (after r w c) cs) (front ++ d ∷ (middle ++ e ∷ behind)) p) u still v
