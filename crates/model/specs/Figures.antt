-- The checked figures, as one table. The rules' figures stand in it too.
use Rattle.std.specs.Prelude.{◌-◌, ◌*◌, ◌≡◌, ◌∷◌, ◌++◌}
use Rattle.model.specs.Words.{ℕ, true, false, List, [], map, sum_of, AllByRecursion, Option, Some, None}
use Rattle.model.specs.Market.{Buy, Trading, Bid, Standing, Trade}
use Rattle.model.specs.Average.{cost_of, lots_of, average}
use Rattle.model.specs.Matching.{Deal, encounter, trades_of, to_block}
use Rattle.model.specs.Opening.{opening_price_lem, opening}
use Rattle.rules.specs.Figures as rule

-- a row: what the definitions give, and the figure
pub record Row : Type 0 where
  pub found : List ℕ
  pub figure : List ℕ

abbrev pub row : List ℕ → List ℕ → Row
row x y = record { found = x; figure = y }

abbrev pub shown : Option ℕ → List ℕ
shown (Some n) = n ∷ []
shown None = []

-- ---- what stands: number, price, lots
abbrev pub stands : ℕ → ℕ → ℕ → Standing
stands k p n = record { number = k; holder = 1; price = p; lots = n }

abbrev pub buys : List Standing
buys = stands 1 105 10 ∷ stands 2 103 20 ∷ stands 3 100 10 ∷ []

abbrev pub sells : List Standing
sells = stands 4 101 15 ∷ stands 5 103 10 ∷ stands 6 106 20 ∷ []

abbrev pub offers : List Standing
offers = stands 1 101 5 ∷ stands 2 102 5 ∷ []

-- ---- a buy at 102 by another holder, in trading, against the two offers
abbrev pub buy : ℕ → Bid
buy n = record { holder = 2; ticker = 4; side = Buy; price = Some 102; lots = n; entire = false; keep = true }

abbrev pub entire_buy : ℕ → Bid
entire_buy n = record { holder = 2; ticker = 4; side = Buy; price = Some 102; lots = n; entire = true; keep = true }

abbrev pub deals_of : Bid → List Deal
deals_of b = (encounter Trading 3 b b.price offers).deals

abbrev pub lots_each : List Deal → List ℕ
lots_each deals = map (λ x. x.lots) (trades_of deals)

-- what it blocks, what it pays, and what is freed of the block
abbrev pub money_of : Bid → List ℕ
money_of b =
    let deals = deals_of b in
    to_block b.side b.price b.lots (trades_of deals)
    ∷ cost_of (trades_of deals)
    ∷ sum_of (λ d. d.held * d.trade.lots - d.trade.price * d.trade.lots) deals
    ∷ []

-- one lot at a price
abbrev pub lot_at : ℕ → Trade
lot_at p = record { ticker = 4; buyer = 1; seller = 2; buy = 1; sell = 2; price = p; lots = 1 }

abbrev pub average_of_both : Option ℕ
average_of_both = let xs = lot_at 101 ∷ lot_at 102 ∷ [] in average (cost_of xs) (lots_of xs)

-- ---- the table
abbrev pub market_figures : List Row
market_figures =
    row (shown (opening_price_lem buys sells)) (103 ∷ [])
    ∷ row (lots_of (trades_of (opening 4 buys sells).deals) ∷ []) (25 ∷ [])
    ∷ row (lots_each (opening 4 buys sells).deals) (10 ∷ 5 ∷ 10 ∷ [])
    ∷ row (shown (opening_price_lem (stands 1 102 10 ∷ []) (stands 2 100 10 ∷ []))) (100 ∷ [])
    ∷ row (money_of (buy 8)) (816 ∷ 811 ∷ 5 ∷ [])
    ∷ row (lots_each (deals_of (entire_buy 11))) []
    ∷ row (shown average_of_both) (101 ∷ [])
    ∷ []

abbrev pub figures : List Row
figures = map (λ r. row (r.found ∷ []) (r.figure ∷ [])) rule.figures ++ market_figures

-- each row's figure is what the definitions give
abbrev pub FiguresHold : Type 0
FiguresHold = AllByRecursion (λ r. r.found ≡ r.figure) figures
