use Rattle.model.specs.Words.{refl}
use Rattle.model.proofs.laws.figures_hold.Goals as goal
use Rattle.model.proofs.Shown.{figures-hold}

pub returns : goal.returns
returns c = record { hold = figures-hold; rows = refl }
