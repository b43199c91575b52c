-- What is claimed of the invariant: every made floor has it, every call keeps it, and what a call does stays within its means.
use Rattle.model.specs.Words.{ℕ, List, length, AllByRecursion}
use Rattle.model.specs.Market.{Side, Call, Start, Deposit, Withdraw, Place, Cancel, Open, EndTrading, EndPostTrading}
use Rattle.model.specs.World.{World, made, queue}
use Rattle.model.specs.Movements.{Granted}
use Rattle.model.specs.Calls.{trades, moves, after}
use Rattle.model.specs.Runs.{run}
use Rattle.model.specs.Sound.{Sound}
use Rattle.register.specs.Books.{Book}
use Rattle.register.specs.Moves as move
use Rattle.register.specs.Moves.{Move}
use Rattle.rules.specs.Rules.{Rule, Lawful}
use Rattle.std.specs.Prelude.{◌≤◌, ◌<◌, ◌^◌}

-- every call keeps it, whatever is asked, accepted or refused; so it holds after every list of calls
abbrev pub CallsKeepSound : Type 0
CallsKeepSound = (r : Rule) → Lawful r → (w : World) (c : Call) → Sound r.step w → Sound r.step (after r w c)

abbrev pub AlwaysSound : Type 0
AlwaysSound = (r : Rule) → Lawful r → (b : Book) (cs : List Call) → Sound r.step (run r (made b) cs)

-- so many bids at most stand in a queue, and so many numbers at most are given, after every list of calls
pub record WithinLimits (places numbers : ℕ) (w : World) : Type 0 where
  pub queued : (t : ℕ) (side : Side) → length (queue w t side) ≤ places
  pub numbered : w.given ≤ numbers

abbrev pub AlwaysWithin : ℕ → ℕ → Type 0
AlwaysWithin places numbers = (r : Rule) → Lawful r → (b : Book) (cs : List Call) → WithinLimits places numbers (run r (made b) cs)

-- the register grants every movement of a call at its turn: no release and no payment is kept back for want of a block
abbrev pub MovementsAreGranted : Type 0
MovementsAreGranted = (r : Rule) → Lawful r → (w : World) (c : Call) → Sound r.step w → Granted (moves r w c) w.book

-- a movement is of accounts there are: of a holder, or of payer and payee, and an asset, each below so much
abbrev pub OfAccounts : ℕ → ℕ → Move → Type 0
OfAccounts holders assets (move.Deposit h a n) = (h < holders) × (a < assets)
OfAccounts holders assets (move.Withdraw h a n) = (h < holders) × (a < assets)
OfAccounts holders assets (move.Block h a n) = (h < holders) × (a < assets)
OfAccounts holders assets (move.Release h a n) = (h < holders) × (a < assets)
OfAccounts holders assets (move.Pay h a n payee) = (h < holders) × (a < assets) × (payee < holders)

abbrev pub MovementsNameAccounts : ℕ → ℕ → Type 0
MovementsNameAccounts holders assets =
    (r : Rule) → Lawful r → (w : World) (c : Call) → Sound r.step w → AllByRecursion (OfAccounts holders assets) (moves r w c)

-- the records of the strip that a call brings
abbrev pub room_of_lem : Call → ℕ
room_of_lem (Start listing) = 0
room_of_lem (Deposit holder asset amount) = 0
room_of_lem (Withdraw holder asset amount) = 0
room_of_lem (Place shown b room) = room
room_of_lem (Cancel shown holder t number) = 0
room_of_lem (Open room) = room
room_of_lem EndTrading = 0
room_of_lem EndPostTrading = 0

-- the trades of a call have room on its strip
abbrev pub StripsSuffice : Type 0
StripsSuffice = (r : Rule) → Lawful r → (w : World) (c : Call) → Sound r.step w → length (trades r w c) ≤ room_of_lem c

-- the sums of the day fit so many bits
pub record SumsWithin (bits : ℕ) (w : World) (t : ℕ) : Type 0 where
  pub worth : (w.sheets t).worth < 2 ^ bits
  pub traded : (w.sheets t).traded < 2 ^ bits

abbrev pub SumsFit : ℕ → Type 0
SumsFit bits = (step : ℕ) (w : World) (t : ℕ) → Sound step w → SumsWithin bits w t
