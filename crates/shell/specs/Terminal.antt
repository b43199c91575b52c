-- The obligation and the rule tests on plain numbers, as a C program states them: a side is 0 for buy and 1 for sell, and a price of 0
-- means none.
use Rattle.std.specs.Prelude.{◌&&◌}
use Rattle.rules.specs.Words.{ℕ, Bool, true, false, cond, not, leb, eqb, Option, Some, None, Result, Ok, Err}
use Rattle.rules.specs.declared.bid.Side.{Side}
use Rattle.rules.specs.declared.bid.Side.TheVariants.{Buy, Sell}
use Rattle.rules.specs.declared.bid.Question.{Question}
use Rattle.rules.specs.Bids.{most_price, is_lots_lem, obligation_of}
use Rattle.rules.specs.Rules.{Rule, verdict_number}
use Rattle.shell.specs.declared.Numbers.{Numbers}
use Rattle.shell.specs.declared.BeyondLimits.{BeyondLimits}

abbrev pub side_of : ℕ → Side
side_of n = cond (eqb n 0) Buy Sell

abbrev pub price_of_lem : ℕ → Option ℕ
price_of_lem n = cond (eqb n 0) None (Some n)

-- no price, or one within the limits
abbrev pub is_price_or_none_lem : ℕ → Bool
is_price_or_none_lem n = leb n most_price

-- the numbers state a bid: a side, a price or none, and lots within the limits
abbrev pub is_bid_lem : ℕ → ℕ → ℕ → Bool
is_bid_lem side price lots = leb side 1 && (is_price_or_none_lem price && is_lots_lem lots)

-- the numbers state a question: a bid, and three prices or none within the limits
abbrev pub is_question_lem : Numbers → Bool
is_question_lem n =
    is_bid_lem n.side n.price n.lots
    && (is_price_or_none_lem n.best_buy && (is_price_or_none_lem n.best_sell && is_price_or_none_lem n.settlement))

-- the question that they state; any number but 0 says that there is an opposite standing bid
abbrev pub question_of : Numbers → Question
question_of n = record {
  side = side_of n.side;
  price = price_of_lem n.price;
  lots = n.lots;
  best_buy = price_of_lem n.best_buy;
  best_sell = price_of_lem n.best_sell;
  settlement = price_of_lem n.settlement;
  opposite = not (eqb n.opposite 0);
}

-- what numbers state, where they are within the limits
abbrev pub stated : {A : Type 0} → Bool → A → Result A BeyondLimits
stated true x = Ok x
stated false x = Err (record {})

-- a test's answer to numbers that state no question
abbrev pub beyond_limits_lem : ℕ
beyond_limits_lem = 6

-- a rule's test: 0 where it admits, the refusal's number where it does not
abbrev pub tested : Rule → Numbers → ℕ
tested rule n = cond (is_question_lem n) (verdict_number (rule.on_bid (question_of n))) beyond_limits_lem

-- side, price, lots: what the bid obliges to, and 0 where the numbers state no bid
abbrev pub obligation_number : ℕ → ℕ → ℕ → ℕ
obligation_number side price lots = cond (is_bid_lem side price lots) (obligation_of (side_of side) (price_of_lem price) lots) 0

-- the numbers in the order in which the tests take them
abbrev pub numbers : ℕ → ℕ → ℕ → ℕ → ℕ → ℕ → ℕ → Numbers
numbers side price lots buy sell settlement opposite = record {
  side = side;
  price = price;
  lots = lots;
  best_buy = buy;
  best_sell = sell;
  settlement = settlement;
  opposite = opposite;
}
