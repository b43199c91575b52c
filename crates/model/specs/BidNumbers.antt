-- Which numbers a bid on a sound floor can be refused by.
use Rattle.std.specs.Prelude.{◌≡◌, ◌∷◌}
use Rattle.model.specs.Words.{ℕ, true, eqb, List, [], any_of}
use Rattle.model.specs.Market.{Session, Bid, Place, Refused, Fault}
use Rattle.model.specs.Numbers.{number_of}
use Rattle.model.specs.World.{World}
use Rattle.model.specs.Calls.{answer}
use Rattle.model.specs.Sound.{Sound}
use Rattle.rules.specs.Rules.{Rule}

abbrev pub bid_numbers : List ℕ
bid_numbers = 3 ∷ 4 ∷ 5 ∷ 6 ∷ 7 ∷ 8 ∷ 9 ∷ 21 ∷ 22 ∷ 23 ∷ 24 ∷ 10 ∷ 34 ∷ 35 ∷ []

-- by these and no others: a bid that comes as far as the register names an account there is, and an amount it takes
abbrev pub BidsRefusedBy : List ℕ → Type 0
BidsRefusedBy numbers =
    (r : Rule) (w : World) (shown : Session) (b : Bid) (room : ℕ) (f : Fault)
    → Sound r.step w
    → answer r w (Place shown b room) ≡ Refused f
    → any_of (eqb (number_of f.cause)) numbers ≡ true
