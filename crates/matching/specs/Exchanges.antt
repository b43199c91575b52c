-- What two slips move in a trade.
use Rattle.std.specs.Prelude.{ℕ, ◌-◌, List, [], ◌∷◌}
use Rattle.register.specs.Moves.{Move, Pay, Release}
use Rattle.register.specs.declared.slips.Slip.{Slip}
use Rattle.rules.specs.declared.bid.Side.{Side}
use Rattle.rules.specs.declared.bid.Side.TheVariants.{Buy, Sell}

-- the goods go to the holder of the cash, so much of the cash to the holder of the goods, and the rest of the cash back to its own holder
abbrev pub exchange : Slip → Slip → ℕ → List Move
exchange cash goods worth =
    Pay goods.holder goods.asset goods.amount cash.holder
    ∷ Pay cash.holder cash.asset worth goods.holder
    ∷ Release cash.holder cash.asset (cash.amount - worth)
    ∷ []

-- the same by side: a buy brings the cash, a sell the goods
abbrev pub exchange_by : Side → Slip → Slip → ℕ → List Move
exchange_by Buy mine theirs worth = exchange mine theirs worth
exchange_by Sell mine theirs worth = exchange theirs mine worth
