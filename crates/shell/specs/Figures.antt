-- The checked figures of the two rules and of the functions on numbers, as one table.
use Rattle.std.specs.Prelude.{◌∷◌, ◌++◌}
use Rattle.rules.specs.Words.{ℕ, List, []}
use Rattle.rules.specs.Rules.{Rule, corporate, government}
use Rattle.rules.specs.Figures.{Row, row, figures}
use Rattle.shell.specs.Terminal.{tested, numbers, obligation_number, beyond_limits_lem}

-- a test of a buy or sell of a holder with no opposite bid: side, price, lots, best buy, best sell, settlement price
abbrev pub test : Rule → ℕ → ℕ → ℕ → ℕ → ℕ → ℕ → ℕ
test rule side p n b s t = tested rule (numbers side p n b s t 0)

-- numbers beyond the limits, each beside numbers that are within
abbrev pub beyond : Rule → List Row
beyond rule =
    row (test rule 2 100 10 0 0 0) beyond_limits_lem
    ∷ row (test rule 0 10000001 10 0 0 0) beyond_limits_lem
    ∷ row (test rule 0 10000000 10 0 0 0) 0
    ∷ row (test rule 0 100 10 10000001 0 0) beyond_limits_lem
    ∷ row (test rule 0 100 10 0 10000001 0) beyond_limits_lem
    ∷ row (test rule 0 100 10 0 0 10000001) beyond_limits_lem
    ∷ row (test rule 0 100 0 0 0 0) beyond_limits_lem
    ∷ row (test rule 0 100 1000001 0 0 0) beyond_limits_lem
    ∷ row (test rule 0 100 1000000 0 0 0) 0
    ∷ []

abbrev pub obligations : List Row
obligations =
    row (obligation_number 2 100 10) 0
    ∷ row (obligation_number 0 10000001 10) 0
    ∷ row (obligation_number 0 100 0) 0
    ∷ row (obligation_number 0 100 1000001) 0
    ∷ row (obligation_number 0 10000000 1000000) 10000000000000
    ∷ row (obligation_number 1 100 10) 10
    ∷ row (obligation_number 0 0 10) 0
    ∷ []

abbrev pub shell_figures : List Row
shell_figures = figures ++ (beyond corporate ++ (beyond government ++ obligations))
