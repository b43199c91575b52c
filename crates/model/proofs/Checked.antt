-- The laws of the checks: one induction over the list of checks.
use Rattle.model.specs.Words.{refl, List, [], AllByRecursion, Some, None}
use Rattle.std.proofs.Common.{◌≡◌, ◌∷◌, ◌++◌, ◌⊎◌, sym, ap, ◌∙◌, inl, inr, arith}
use Rattle.model.specs.Market.{Call, Start, Deposit, Withdraw, Place, Cancel, Open, EndTrading, EndPostTrading, Cause, Refused, Fault}
use Rattle.model.specs.World.{World}
use Rattle.model.specs.Checks.{Check, checks, why, first_failing, or_next}
use Rattle.model.specs.Movements.{moves_made}
use Rattle.model.specs.Calls.{answer, trades, moves, after, accepted, trades_made, next, fault_of_lem, decided}
use Rattle.model.specs.CheckLaws.{Registered, RefusedByFirst, EveryCallIsDecided, Unaltered, RefusalsAlterNothing}
use Rattle.rules.specs.Rules.{Rule}

-- ---- the first failing check
data First : List Check → Check → Type 0 where
  all : {cs : List Check} → AllByRecursion (λ x. x ≡ None) cs → First cs None
  fails : {cs : List Check} (e : Cause) (front behind : List Check) → cs ≡ front ++ Some e ∷ behind → AllByRecursion (λ x. x ≡ None) front → First cs (Some e)

first_more : (c : Check) (cs : List Check) (f : Check) → First cs f → First (c ∷ cs) (or_next c f)
first_more (Some e) cs f k = fails e [] cs refl tt
first_more None cs None (all a) = all (refl, a)
first_more None cs (Some e) (fails _ front behind o a) = fails e (None ∷ front) behind (ap (λ z. None ∷ z) o) (refl, a)

first : (cs : List Check) → First cs (first_failing cs)
first [] = all tt
first (c ∷ cs) = first_more c cs (first_failing cs) (first cs)

pub accepted-is-no-refusal : (w : World) (c : Call) (f : Fault) → accepted w c ≡ Refused f → ⊥
accepted-is-no-refusal w (Start l) f e = grind arith
accepted-is-no-refusal w (Deposit h a n) f e = grind arith
accepted-is-no-refusal w (Withdraw h a n) f e = grind arith
accepted-is-no-refusal w (Place p b n) f e = grind arith
accepted-is-no-refusal w (Cancel p h t k) f e = grind arith
accepted-is-no-refusal w (Open n) f e = grind arith
accepted-is-no-refusal w EndTrading f e = grind arith
accepted-is-no-refusal w EndPostTrading f e = grind arith

-- what becomes of a call, by why it is refused
pub when-passed : (r : Rule) (w : World) (c : Call) → why r w c ≡ None → AllByRecursion (λ x. x ≡ None) (checks r w c) → Registered r w c
unfolding answer trades moves after
when-passed r w c e a = record {
  passed = a;
  answers = ap (λ z. decided z (accepted w c) (λ x. Refused (fault_of_lem c x))) e;
  trades = ap (λ z. decided z (trades_made w c) (λ x. [])) e;
  moves = ap (λ z. decided z (moves_made w c) (λ x. [])) e;
  world = ap (λ z. decided z (next w c) (λ x. w)) e;
}

pub when-refused : (r : Rule) (w : World) (c : Call) (x : Cause) (front behind : List Check) → why r w c ≡ Some x
    → checks r w c ≡ front ++ Some x ∷ behind → AllByRecursion (λ y. y ≡ None) front → RefusedByFirst r w c
unfolding answer trades moves after
when-refused r w c x front behind e o a =
    record {
      cause = x;
      front = front;
      behind = behind;
      order = o;
      passed = a;
      answers = ap (λ z. decided z (accepted w c) (λ x. Refused (fault_of_lem c x))) e;
      trades = ap (λ z. decided z (trades_made w c) (λ x. [])) e;
      moves = ap (λ z. decided z (moves_made w c) (λ x. [])) e;
      world = ap (λ z. decided z (next w c) (λ x. w)) e;
    }

pub every-call-is-decided : EveryCallIsDecided
every-call-is-decided r w c = record { either = step (why r w c) refl (first (checks r w c)); never_both = λ p q. accepted-is-no-refusal w c (fault_of_lem c q.cause) (sym p.answers ∙ q.answers) }
  where
    step : (o : Check) → why r w c ≡ o → First (checks r w c) o → Registered r w c ⊎ RefusedByFirst r w c
    step None e (all a) = inl (when-passed r w c e a)
    step (Some x) e (fails _ front behind o a) = inr (when-refused r w c x front behind e o a)

pub refusals-alter-nothing : RefusalsAlterNothing
refusals-alter-nothing r w c f e = step (every-call-is-decided r w c).either
  where
    step : Registered r w c ⊎ RefusedByFirst r w c → Unaltered r w c
    step (inl p) = absurd (accepted-is-no-refusal w c f (sym p.answers ∙ e))
    step (inr q) = record { world = q.world; trades = q.trades; moves = q.moves }
