-- A list of entries as a book: an account has the balance of its first entry, and nothing where it has no entry.
use Rattle.std.specs.Prelude.{ℕ, ◌<◌, ◌≤◌, Bool, ◌&&◌, ◌||◌, List, ◌==◌, nat_lt}
use Rattle.ranking.specs.Ranks.{first_entry}
use Rattle.register.specs.Books.{Book, total, most_amount, holder_known_lem, asset_known}
use Rattle.registers.specs.declared.balances.Balance.{Balance}
use Rattle.registers.specs.declared.entries.Entry.{Entry}
use Rattle.registers.specs.Tables.{nothing}

-- accounts rank by holder, and those of one holder by asset
abbrev pub account_before : Entry → Entry → Bool
account_before x y = nat_lt x.holder y.holder || (x.holder == y.holder && nat_lt x.asset y.asset)

abbrev pub is_of : ℕ → ℕ → Entry → Bool
is_of h a x = h == x.holder && a == x.asset

abbrev pub no_entry : Entry
no_entry = record { holder = 0; asset = 0; balance = nothing }

abbrev pub balance_in : List Entry → ℕ → ℕ → Balance
balance_in xs h a = (first_entry (is_of h a) no_entry xs).balance

abbrev pub list_book : List Entry → Book
list_book xs = record { free = λ h a. (balance_in xs h a).free; blocked = λ h a. (balance_in xs h a).blocked; limit = λ h a. most_amount; tag = λ h a n. 0 }

-- the entry is of an account that there is
abbrev pub is_known_lem : Entry → Bool
is_known_lem x = holder_known_lem x.holder && asset_known x.asset

-- something is free or blocked
abbrev pub is_filled : Entry → Bool
is_filled x = nat_lt 0 x.balance.free || nat_lt 0 x.balance.blocked

-- all holders together have no more of an asset than there can be
abbrev pub TotalsBounded : List Entry → Type 0
TotalsBounded xs = (a : ℕ) → a < 12 → total (list_book xs) a ≤ most_amount
