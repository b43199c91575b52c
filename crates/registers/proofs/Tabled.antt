-- A table of balances: one place written, the empty table, and what all holders have of an asset.
use Rattle.std.proofs.Common.{◌≡◌, ℕ, ◌+◌, ◌*◌, ◌^◌, ◌<◌, ◌≤◌, cond, ◌&&◌, eqb, List, length, get_or, set, replicate, sum_by, sym, refl, ap, ◌∙◌, subst, arith, get_or-set_other, get_or-set_same}
use lib.ListN.{get_or-replicate, length-replicate}
use Rattle.std.specs.List.{range_with_len}
use Rattle.std.proofs.lemmas.List.{get_or_past}
use Rattle.std.proofs.lemmas.List.FromFn.{get_or-range_with_len}
use Rattle.std.proofs.lemmas.Bool.Decides.{nat_tests}
use Rattle.register.specs.Books.{Book, total, most_amount, empty_book}
use Rattle.register.proofs.Accounts.{book-ext}
use Rattle.register.proofs.Sums.{sum_to-none, part-sum_to, sum_to-range}
use Rattle.registers.specs.declared.balances.Balance.{Balance}
use Rattle.registers.specs.Balances.{with_balance}
use Rattle.registers.specs.Tables.{nothing, balance_at, table_book, Bounded}
use Rattle.registers.proofs.Written.{bounded-written}

module _ (xs : List Balance) (p h a : ℕ) (x : Balance) (long : length xs ≡ 192) (at : p ≡ 12 * h + a) (hh : h < 16) (aa : a < 12) where
  balance-set : (k c : ℕ) → balance_at (set xs p x) k c ≡ cond (eqb k h && eqb c a) x (balance_at xs k c)
  balance-set k c = grind (arith, nat_tests, get_or-set_same xs p x nothing, get_or-set_other xs p (12 * k + c) x nothing)

  pub book-set : table_book (set xs p x) ≡ with_balance (table_book xs) h a x
  book-set = book-ext _ _ (λ k c. rw (balance-set k c) (grind (arith, nat_tests))) (λ k c. rw (balance-set k c) (grind (arith, nat_tests))) (λ k c. refl) (λ k c n. refl)

  pub bounded-set : Bounded xs → total (table_book xs) a + (x.free + x.blocked) ≤ most_amount + ((balance_at xs h a).free + (balance_at xs h a).blocked) → Bounded (set xs p x)
  bounded-set b room c l = subst (λ (v : Book). total v c ≤ most_amount) (sym book-set) (bounded-written (table_book xs) h a x hh b room c l)

-- at any length, so that no list of 192 is written out
balance-filled : (m : ℕ) → (k c : ℕ) → balance_at (replicate m nothing) k c ≡ nothing
balance-filled m k c = grind (arith, nat_tests, get_or-replicate m (12 * k + c) nothing nothing, get_or_past (replicate m nothing) (12 * k + c) nothing, length-replicate m nothing)

pub empty-table : (m : ℕ) → table_book (replicate m nothing) ≡ empty_book
empty-table m =
    book-ext _ _ (λ k c. ap (λ (y : Balance). y.free) (balance-filled m k c)) (λ k c. ap (λ (y : Balance). y.blocked) (balance-filled m k c))
    (λ k c. refl) (λ k c n. refl)

pub empty-bounded : (m : ℕ) → Bounded (replicate m nothing)
empty-bounded m a l =
    subst (λ (v : Book). total v a ≤ most_amount) (sym (empty-table m)) (omega (arith, sum_to-none 16 (λ h. empty_book.free h a + empty_book.blocked h a) (λ i h. refl)))

-- what a holder has of an asset, free and blocked
abbrev pub held_by : List Balance → ℕ → ℕ → ℕ
held_by xs a h = (balance_at xs h a).free + (balance_at xs h a).blocked

module _ (xs : List Balance) (a : ℕ) where
  pub held-total : total (table_book xs) a ≡ sum_by (held_by xs a) (range_with_len 0 16)
  held-total = sum_to-range 16 (held_by xs a)

  pub held-fits : a < 12 → Bounded xs → sum_by (held_by xs a) (range_with_len 0 16) < 2 ^ 64
  held-fits aa b = omega (arith, held-total, b a aa)

  pub each-holder : a < 12 → Bounded xs → (k h : ℕ) → k < 16 → h ≡ get_or (range_with_len 0 16) k h → (h < 16) × (held_by xs a h < 2 ^ 64)
  each-holder aa b k h l at =
      let is : h ≡ 0 + k = at ∙ get_or-range_with_len 0 16 k h l in
      let hh : h < 16 = omega arith in
      (hh, omega (arith, part-sum_to 16 (held_by xs a) h hh, b a aa))
