-- The figures, by computing. Like every computed example this opens all definitions, the average's rounding too.
use Rattle.model.specs.Words.{refl}
use Rattle.model.specs.Average.{average_price_lem}
use Rattle.model.specs.Matching.{meet}
use Rattle.model.specs.Opening.{demand, supply, tradable, gap, better, opening_price_lem, uncross, opening}
use Rattle.model.specs.Figures.{FiguresHold}

pub figures-hold : FiguresHold
unfolding average_price_lem meet demand supply tradable gap better opening_price_lem uncross opening
figures-hold = (refl, (refl, (refl, (refl, (refl, (refl, (refl, (refl, (refl, (refl, (refl, (refl, (refl, (refl, (refl, (refl, tt))))))))))))))))
