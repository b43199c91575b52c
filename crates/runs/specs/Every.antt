-- All scripts.
use Rattle.std.specs.Prelude.{◌∷◌}
use Rattle.model.specs.Words.{List, [], AllByRecursion}
use Rattle.runs.specs.Scripts.{Script, Agrees}
use Rattle.runs.specs.FullDay as full_day
use Rattle.runs.specs.SecondDay as second_day
use Rattle.runs.specs.Governed as governed
use Rattle.runs.specs.Edges as edges
use Rattle.runs.specs.Blocked as blocked
use Rattle.runs.specs.Capped as capped
use Rattle.runs.specs.Mixed as mixed
use Rattle.runs.specs.MixedTens as mixed_tens

abbrev pub scripts : List Script
scripts =
    full_day.script
    ∷ second_day.script
    ∷ governed.script
    ∷ edges.script
    ∷ blocked.script
    ∷ capped.script
    ∷ mixed.script
    ∷ mixed_tens.script
    ∷ []

abbrev pub EveryScriptAgrees : Type 0
EveryScriptAgrees = AllByRecursion Agrees scripts
