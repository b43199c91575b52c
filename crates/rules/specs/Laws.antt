-- The two rules and the obligation in the market's words: what is admitted, why the rest is refused, and what a bid can oblige to.
use Rattle.std.specs.Prelude.{◌-◌, ◌*◌, ◌%◌, ◌≤◌, ◌≡◌}
use Rattle.rules.specs.Words.{ℕ, T, true, false, Option, Some, None}
use Rattle.rules.specs.Words.{Side, Buy, Sell, Question, NotWholeSteps, OffBest, OffSettlement, OppositeBid}
use Rattle.rules.specs.Bids.{is_price_lem, is_lots_lem, obligation_of}
use Rattle.rules.specs.Rules.{corporate, government}

-- what the price lacks of the other is at most so many per cent of the other
abbrev pub NotFarBelow : ℕ → ℕ → ℕ → Type 0
NotFarBelow percent price other = 100 * (other - price) ≤ percent * other

-- what the price has over the other is at most so many per cent of the other
abbrev pub NotFarAbove : ℕ → ℕ → ℕ → Type 0
NotFarAbove percent price other = 100 * (price - other) ≤ percent * other

-- it holds of the two prices, where both are there
abbrev pub WhereBoth : (ℕ → ℕ → Type 0) → Option ℕ → Option ℕ → Type 0
WhereBoth P (Some price) (Some other) = P price other
WhereBoth P (Some price) None = Unit {0}
WhereBoth P None other = Unit {0}

-- two statements that hold together or not at all
pub record Iff (P Q : Type 0) : Type 0 where
  pub to : P → Q
  pub from : Q → P

-- the price is at most so many per cent below the best buy, and at most so many above the best sell
pub record NearBests (percent : ℕ) (q : Question) : Type 0 where
  pub buy : WhereBoth (NotFarBelow percent) q.price q.best_buy
  pub sell : WhereBoth (NotFarAbove percent) q.price q.best_sell

-- the price is at most so many per cent below or above the settlement price
pub record NearSettlement (percent : ℕ) (q : Question) : Type 0 where
  pub below : WhereBoth (NotFarBelow percent) q.price q.settlement
  pub above : WhereBoth (NotFarAbove percent) q.price q.settlement

-- corporate securities: which bids are admitted, and which refusal meets the others
pub record CorporateLaw (best settlement : ℕ) : Type 0 where
  pub admitted : (q : Question) → Iff (corporate.on_bid q ≡ None) (NearBests best q × NearSettlement settlement q)
  pub off_best : (q : Question) → Iff (corporate.on_bid q ≡ Some OffBest) (NearBests best q → ⊥)
  pub off_settlement : (q : Question) → Iff (corporate.on_bid q ≡ Some OffSettlement) (NearBests best q × (NearSettlement settlement q → ⊥))

-- a buy is at most so many per cent below the best buy, a sell at most so many above the best sell
abbrev pub NearOwnBest : ℕ → Question → Side → Type 0
NearOwnBest percent q Buy = WhereBoth (NotFarBelow percent) q.price q.best_buy
NearOwnBest percent q Sell = WhereBoth (NotFarAbove percent) q.price q.best_sell

-- government bonds: which bids are admitted, and which refusal meets the others
pub record GovernmentLaw (step best : ℕ) : Type 0 where
  pub admitted : (q : Question) → Iff (government.on_bid q ≡ None) ((q.lots % step ≡ 0) × NearOwnBest best q q.side × (q.opposite ≡ false))
  pub not_whole : (q : Question) → Iff (government.on_bid q ≡ Some NotWholeSteps) (q.lots % step ≡ 0 → ⊥)
  pub off_best : (q : Question) → Iff (government.on_bid q ≡ Some OffBest) ((q.lots % step ≡ 0) × (NearOwnBest best q q.side → ⊥))
  pub opposite : (q : Question) → Iff (government.on_bid q ≡ Some OppositeBid) ((q.lots % step ≡ 0) × NearOwnBest best q q.side × (q.opposite ≡ true))

-- a priced bid within the limits obliges to something, and to no more than this
pub record ObligationLaw (most : ℕ) : Type 0 where
  pub something : (side : Side) (price lots : ℕ) → T (is_price_lem price) → T (is_lots_lem lots) → 1 ≤ obligation_of side (Some price) lots
  pub bounded : (side : Side) (price lots : ℕ) → T (is_price_lem price) → T (is_lots_lem lots) → obligation_of side (Some price) lots ≤ most
