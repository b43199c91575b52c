-- The checked figures of the two rules, as one table.
use Rattle.std.specs.Prelude.{◌≡◌, ◌∷◌}
use Rattle.rules.specs.Words.{ℕ, false, List, [], AllByRecursion, Option, Some, None, Buy, Question}
use Rattle.rules.specs.Rules.{Rule, corporate, government, verdict_number}

-- a row: what the definitions give, and the figure
pub record Row : Type 0 where
  pub found : ℕ
  pub figure : ℕ

abbrev pub row : ℕ → ℕ → Row
row x y = record { found = x; figure = y }

-- a priced buy of a holder with no opposite bid: price, lots, best buy, best sell, settlement price
abbrev pub buy : ℕ → ℕ → Option ℕ → Option ℕ → Option ℕ → Question
buy p n b s t = record { side = Buy; price = Some p; lots = n; best_buy = b; best_sell = s; settlement = t; opposite = false }

abbrev pub on : Rule → Question → ℕ
on rule q = verdict_number (rule.on_bid q)

abbrev pub figures : List Row
figures =
    row (on corporate (buy 1100 1 None (Some 1000) None)) 0
    ∷ row (on corporate (buy 1101 1 None (Some 1000) None)) 22
    ∷ row (on corporate (buy 905 1 (Some 1005) None None)) 0
    ∷ row (on corporate (buy 904 1 (Some 1005) None None)) 22
    ∷ row (on corporate (buy 850 1 None None (Some 1000))) 0
    ∷ row (on corporate (buy 849 1 None None (Some 1000))) 23
    ∷ row (on government (buy 950 10 (Some 1000) None None)) 0
    ∷ row (on government (buy 949 10 (Some 1000) None None)) 22
    ∷ row (on government (buy 950 15 (Some 1000) None None)) 21
    ∷ []

-- each row's figure is what the definitions give
abbrev pub Hold : List Row → Type 0
Hold = AllByRecursion (λ r. r.found ≡ r.figure)
