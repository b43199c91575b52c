-- One balance of a book, read and written.
use Rattle.std.specs.Prelude.{ℕ, cond, ◌&&◌, ◌==◌}
use Rattle.register.specs.Books.{Book, Sums}
use Rattle.registers.specs.declared.balances.Balance.{Balance}

abbrev pub balance_of : Book → ℕ → ℕ → Balance
balance_of b h a = record { free = b.free h a; blocked = b.blocked h a }

-- f with v at one holder and asset
abbrev pub put : Sums → ℕ → ℕ → ℕ → Sums
put f h a v = λ x y. cond (x == h && y == a) v (f x y)

abbrev pub with_balance : Book → ℕ → ℕ → Balance → Book
with_balance b h a x = record { free = put b.free h a x.free; blocked = put b.blocked h a x.blocked; limit = b.limit; tag = b.tag }
