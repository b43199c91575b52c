-- What a priced bid within the limits can oblige to.
use Rattle.rules.specs.Words.{ℕ, T, Some, Side, Buy, Sell}
use Rattle.rules.specs.Bids.{most_price, most_lots, is_price_lem, is_lots_lem, obligation_of}
use Rattle.std.proofs.Common.{◌*◌, ◌≤◌, mul-le-mul, arith, rules}

price-bounds : (n : ℕ) → T (is_price_lem n) → (1 ≤ n) × (n ≤ most_price)
price-bounds n t = search rules

lots-bounds : (n : ℕ) → T (is_lots_lem n) → (1 ≤ n) × (n ≤ most_lots)
lots-bounds n t = search rules

pub something : (side : Side) (price lots : ℕ) → T (is_price_lem price) → T (is_lots_lem lots) → 1 ≤ obligation_of side (Some price) lots
something Buy price lots p n = mul-le-mul (price-bounds price p).0 (lots-bounds lots n).0
something Sell price lots p n = (lots-bounds lots n).0

pub bounded : (side : Side) (price lots : ℕ) → T (is_price_lem price) → T (is_lots_lem lots) → obligation_of side (Some price) lots ≤ most_price * most_lots
bounded Buy price lots p n = mul-le-mul (price-bounds price p).1 (lots-bounds lots n).1
bounded Sell price lots p n = omega (arith, (lots-bounds lots n).1)
