-- The words that the other files use: numbers, tests, and the declared words of bids and rules.
pub use Rattle.std.specs.Prelude.{◌≡◌, refl, Bool, true, false, cond, not, ◌&&◌, List, [], ◌∷◌, ◌++◌, ℕ, ◌+◌, ◌-◌, ◌*◌, ◌%◌, ◌≤◌, T, leb, eqb}
pub use Rattle.std.specs.List.{AllByRecursion}
pub use Rattle.std.specs.declared.option.Option.{Option}
pub use Rattle.std.specs.declared.option.Option.TheVariants.{Some, None}
pub use Rattle.std.specs.declared.result.Result.{Result}
pub use Rattle.std.specs.declared.result.Result.TheVariants.{Ok, Err}
pub use Rattle.rules.specs.declared.bid.Side.{Side}
pub use Rattle.rules.specs.declared.bid.Side.TheVariants.{Buy, Sell}
pub use Rattle.rules.specs.declared.bid.Question.{Question}
pub use Rattle.rules.specs.declared.rule.RuleRefusal.{RuleRefusal}
pub use Rattle.rules.specs.declared.rule.RuleRefusal.TheVariants.{NotWholeSteps, OffBest, OffSettlement, OppositeBid}
