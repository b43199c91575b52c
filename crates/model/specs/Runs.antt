-- Lists of calls: the world after them, and the log of what was called, answered and traded.
use Rattle.std.specs.Prelude.{◌∷◌}
use Rattle.model.specs.Words.{List, []}
use Rattle.model.specs.Market.{Call}
use Rattle.model.specs.World.{World}
use Rattle.model.specs.Calls.{answer, trades, after}
use Rattle.model.specs.Tally.{Entry}
use Rattle.rules.specs.Rules.{Rule}

abbrev pub entry_of : Rule → World → Call → Entry
entry_of r w c = record { call = c; answer = answer r w c; trades = trades r w c }

abbrev pub run : Rule → World → List Call → World
run r w [] = w
run r w (c ∷ cs) = run r (after r w c) cs

abbrev pub log : Rule → World → List Call → List Entry
log r w [] = []
log r w (c ∷ cs) = entry_of r w c ∷ log r (after r w c) cs
