use Rattle.model.proofs.invariant.trades_move_exactly.Goals as goal
use Rattle.model.proofs.Swaps.{a-trade-moves, only-trades-move}

pub returns : goal.returns
returns c = record { trade = a-trade-moves; call = only-trades-move }
