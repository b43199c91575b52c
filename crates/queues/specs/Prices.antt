-- Which of two prices of a side is served first, and that the ranking by price is an order. Assumes nothing.
use Rattle.std.specs.Prelude.{◌≡◌, ℕ, Bool, true, false, nat_lt}
use Rattle.std.proofs.Common.{arith}
use Rattle.std.proofs.lemmas.Bool.Decides.{nat_tests}
use Rattle.rules.specs.declared.bid.Side.{Side}
use Rattle.rules.specs.declared.bid.Side.TheVariants.{Buy, Sell}
use Rattle.model.specs.declared.words.Standing.{Standing}
use Rattle.model.specs.Queues.{by_price}

-- of buys the higher price is served first, of sells the lower
abbrev pub better : Side → ℕ → ℕ → Bool
better Buy p q = nat_lt q p
better Sell p q = nat_lt p q

pub price_irreflexive : (s : Side) (a : Standing) → by_price s a a ≡ false
price_irreflexive Buy a = grind (arith, nat_tests)
price_irreflexive Sell a = grind (arith, nat_tests)

pub price_transitive : (s : Side) (a b c : Standing) → by_price s a b ≡ true → by_price s b c ≡ true → by_price s a c ≡ true
price_transitive Buy a b c h k = grind (arith, nat_tests)
price_transitive Sell a b c h k = grind (arith, nat_tests)

pub price_negative : (s : Side) (a b c : Standing) → by_price s a b ≡ false → by_price s b c ≡ false → by_price s a c ≡ false
price_negative Buy a b c h k = grind (arith, nat_tests)
price_negative Sell a b c h k = grind (arith, nat_tests)
