-- Movements one after the other: what is granted and what is moved in two parts. Assumes nothing.
use Rattle.std.proofs.Common.{◌≡◌, List, [], ◌∷◌, ◌++◌, refl}
use Rattle.register.specs.Books.{Book}
use Rattle.register.specs.Moves.{Move, moved}
use Rattle.model.specs.Movements.{Granted, moved_all}

pub granted-front : (ms ns : List Move) (b : Book) → Granted (ms ++ ns) b → Granted ms b
granted-front [] ns b g = tt
granted-front (m ∷ ms) ns b g = (g.0, granted-front ms ns (moved b m) g.1)

pub granted-behind : (ms ns : List Move) (b : Book) → Granted (ms ++ ns) b → Granted ns (moved_all ms b)
granted-behind [] ns b g = g
granted-behind (m ∷ ms) ns b g = granted-behind ms ns (moved b m) g.1

pub moved-join : (ms ns : List Move) (b : Book) → moved_all (ms ++ ns) b ≡ moved_all ns (moved_all ms b)
moved-join [] ns b = refl
moved-join (m ∷ ms) ns b = moved-join ms ns (moved b m)
