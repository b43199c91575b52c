-- What is claimed of the checks: exactly one thing becomes of a call, and a refusal alters nothing.
use Rattle.model.specs.Words.{ℕ, true, eqb, List, [], AllByRecursion, Some, None, any_of}
use Rattle.model.specs.Market.{Call, Start, Deposit, Withdraw, Place, Cancel, Open, EndTrading, EndPostTrading, Cause, Refused, Fault}
use Rattle.model.specs.Numbers.{number_of}
use Rattle.model.specs.World.{World}
use Rattle.model.specs.Checks.{Check, checks}
use Rattle.model.specs.Movements.{moves_made}
use Rattle.model.specs.Calls.{answer, trades, moves, after, accepted, trades_made, next, fault_of_lem}
use Rattle.rules.specs.Rules.{Rule}
use Rattle.std.specs.Prelude.{◌≡◌, ◌≢◌, ◌∷◌, ◌++◌, ◌⊎◌}

-- registered: every check is passed, and the call does what the definitions of an accepted call say
pub record Registered (r : Rule) (w : World) (c : Call) : Type 0 where
  pub passed : AllByRecursion (λ x. x ≡ None) (checks r w c)
  pub answers : answer r w c ≡ accepted w c
  pub trades : trades r w c ≡ trades_made w c
  pub moves : moves r w c ≡ moves_made w c
  pub world : after r w c ≡ next w c

-- refused: some check fails, all before it are passed, it gives the cause, and nothing is altered
pub record RefusedByFirst (r : Rule) (w : World) (c : Call) : Type 0 where
  pub cause : Cause
  pub front : List Check
  pub behind : List Check
  pub order : checks r w c ≡ front ++ Some cause ∷ behind
  pub passed : AllByRecursion (λ x. x ≡ None) front
  pub answers : answer r w c ≡ Refused (fault_of_lem c cause)
  pub trades : trades r w c ≡ []
  pub moves : moves r w c ≡ []
  pub world : after r w c ≡ w

-- exactly one of the two
pub record Decided (r : Rule) (w : World) (c : Call) : Type 0 where
  pub either : Registered r w c ⊎ RefusedByFirst r w c
  pub never_both : Registered r w c → RefusedByFirst r w c → ⊥

abbrev pub EveryCallIsDecided : Type 0
EveryCallIsDecided = (r : Rule) (w : World) (c : Call) → Decided r w c

-- whatever is answered by a refusal left the world as it was, with no trades and no movements
pub record Unaltered (r : Rule) (w : World) (c : Call) : Type 0 where
  pub world : after r w c ≡ w
  pub trades : trades r w c ≡ []
  pub moves : moves r w c ≡ []

abbrev pub RefusalsAlterNothing : Type 0
RefusalsAlterNothing = (r : Rule) (w : World) (c : Call) (f : Fault) → answer r w c ≡ Refused f → Unaltered r w c

-- ---- the numbers that each check of a call can give, in the order of the checks
abbrev pub numbers_in : Call → List (List ℕ)
numbers_in (Start listing) = (3 ∷ []) ∷ (1 ∷ []) ∷ (2 ∷ []) ∷ []
numbers_in (Deposit holder asset amount) = (31 ∷ 32 ∷ 33 ∷ []) ∷ []
numbers_in (Withdraw holder asset amount) = (31 ∷ 32 ∷ 34 ∷ []) ∷ []
numbers_in (Place shown b room) =
    (3 ∷ []) ∷ (4 ∷ []) ∷ (5 ∷ []) ∷ (6 ∷ []) ∷ (7 ∷ []) ∷ (8 ∷ []) ∷ (9 ∷ [])
    ∷ (21 ∷ 22 ∷ 23 ∷ 24 ∷ [])
    ∷ (10 ∷ [])
    ∷ (31 ∷ 32 ∷ 34 ∷ 35 ∷ [])
    ∷ []
numbers_in (Cancel shown holder t number) = (3 ∷ []) ∷ (5 ∷ []) ∷ (11 ∷ []) ∷ []
numbers_in (Open room) = (3 ∷ []) ∷ (4 ∷ []) ∷ []
numbers_in EndTrading = (3 ∷ []) ∷ []
numbers_in EndPostTrading = (3 ∷ []) ∷ []

-- a check is passed, or gives one of these numbers
abbrev pub Gives : Check → List ℕ → Type 0
Gives None numbers = Unit {0}
Gives (Some e) numbers = any_of (eqb (number_of e)) numbers ≡ true

abbrev pub GivesEach : List Check → List (List ℕ) → Type 0
GivesEach [] [] = Unit {0}
GivesEach [] (n ∷ ns) = ⊥
GivesEach (c ∷ cs) [] = ⊥
GivesEach (c ∷ cs) (n ∷ ns) = Gives c n × GivesEach cs ns

abbrev pub NumbersInOrder : Type 0
NumbersInOrder = (r : Rule) (w : World) (c : Call) → GivesEach (checks r w c) (numbers_in c)

-- no refusal of a floor has this number
abbrev pub Never : ℕ → Type 0
Never number = (r : Rule) (w : World) (c : Call) (f : Fault) → answer r w c ≡ Refused f → number_of f.cause ≢ number
