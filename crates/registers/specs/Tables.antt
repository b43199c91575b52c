-- A table of 192 balances as a book: holder h and asset a stand at place 12 * h + a.
use Rattle.std.specs.Prelude.{ℕ, ◌+◌, ◌*◌, ◌<◌, ◌≤◌, cond, List, slice_index_or}
use Rattle.register.specs.Books.{Book, total, most_amount, asset_known}
use Rattle.registers.specs.declared.balances.Balance.{Balance}

abbrev pub nothing : Balance
nothing = record { free = 0; blocked = 0 }

abbrev pub balance_at : List Balance → ℕ → ℕ → Balance
balance_at xs h a = cond (asset_known a) (slice_index_or xs (12 * h + a) nothing) nothing

abbrev pub table_book : List Balance → Book
table_book xs = record { free = λ h a. (balance_at xs h a).free; blocked = λ h a. (balance_at xs h a).blocked; limit = λ h a. most_amount; tag = λ h a n. 0 }

-- all holders together have no more of an asset than there can be
abbrev pub Bounded : List Balance → Type 0
Bounded xs = (a : ℕ) → a < 12 → total (table_book xs) a ≤ most_amount
