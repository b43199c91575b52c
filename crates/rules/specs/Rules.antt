-- Market rules: what a rule means, its law, and the rules of the two markets.
use Rattle.std.specs.Prelude.{◌*◌, ◌%◌, ◌≤◌, ◌≡◌, ◌&&◌, List, codes}
use Rattle.rules.specs.Words.{ℕ, Bool, true, false, not, leb, eqb, Option, Some, None, Result, Ok, Err}
use Rattle.rules.specs.Words.{Side, Buy, Sell, Question, RuleRefusal, NotWholeSteps, OffBest, OffSettlement, OppositeBid}

-- the meaning of a rule: its step, and its verdict on each question about a bid: the refusal, or None where the bid is admitted
pub record Rule : Type 0 where
  pub step : ℕ
  pub on_bid : Question → Option RuleRefusal

-- the law of every rule: what it admits is a whole number of steps
pub record Lawful (rule : Rule) : Type 0 where
  pub step : 1 ≤ rule.step
  pub whole : (q : Question) → rule.on_bid q ≡ None → q.lots % rule.step ≡ 0

-- how a verdict is answered
abbrev pub answered : Option RuleRefusal → Result (Unit {0}) RuleRefusal
answered None = Ok tt
answered (Some refusal) = Err refusal

abbrev pub refusal_number : RuleRefusal → ℕ
refusal_number NotWholeSteps = 21
refusal_number OffBest = 22
refusal_number OffSettlement = 23
refusal_number OppositeBid = 24

-- why a rule refuses
abbrev pub refusal_text : RuleRefusal → List ℕ
refusal_text NotWholeSteps = codes "the lots are not whole steps"
refusal_text OffBest = codes "the price is too far from the best"
refusal_text OffSettlement = codes "the price is too far from the settlement price"
refusal_text OppositeBid = codes "the holder has a standing bid on the other side"

-- the number of a verdict: 0 where the bid is admitted
abbrev pub verdict_number : Option RuleRefusal → ℕ
verdict_number None = 0
verdict_number (Some refusal) = refusal_number refusal

-- checks in order: the first that is not met gives its refusal
abbrev pub need : Bool → RuleRefusal → Option RuleRefusal → Option RuleRefusal
need true refusal rest = rest
need false refusal rest = Some refusal

-- the price is at least so many per cent of the other; a test without its number is passed
abbrev pub at_least : ℕ → Option ℕ → Option ℕ → Bool
at_least percent (Some price) (Some other) = leb (percent * other) (100 * price)
at_least percent (Some price) None = true
at_least percent None other = true

-- the price is at most so many per cent of the other
abbrev pub at_most : ℕ → Option ℕ → Option ℕ → Bool
at_most percent (Some price) (Some other) = leb (100 * price) (percent * other)
at_most percent (Some price) None = true
at_most percent None other = true

-- corporate securities, buys and sells alike: at least 90 per cent of the best buy and at most 110 of the best sell, and between 85 and
-- 115 per cent of the settlement price
abbrev pub corporate : Rule
corporate = record {
  step = 1;
  on_bid = λ q.
      need (at_least 90 q.price q.best_buy && at_most 110 q.price q.best_sell) OffBest
      (need (at_least 85 q.price q.settlement && at_most 115 q.price q.settlement) OffSettlement
      None);
}

-- a buy is held to the best buy, a sell to the best sell
abbrev pub near_best_lem : Question → Side → Bool
near_best_lem q Buy = at_least 95 q.price q.best_buy
near_best_lem q Sell = at_most 105 q.price q.best_sell

-- government bonds: lots in tens, a price near the best of the bid's own side, and no bid against an own standing one
abbrev pub government : Rule
government = record {
  step = 10;
  on_bid = λ q.
      need (eqb (q.lots % 10) 0) NotWholeSteps
      (need (near_best_lem q q.side) OffBest
      (need (not q.opposite) OppositeBid
      None));
}
