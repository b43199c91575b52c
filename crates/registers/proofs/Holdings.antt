-- What all entries of a list have of an asset is what all holders have of it.
use Rattle.std.proofs.Common.{◌≡◌, ℕ, ◌+◌, ◌<◌, Bool, true, false, cond, eqb, List, [], ◌∷◌, filter, sum_by, sym, refl, ap, subst, inl, inr, arith}
use Rattle.std.specs.List.{AllByRecursion}
use Rattle.std.proofs.lemmas.List.Sums.{sum_by-cons}
use Rattle.std.proofs.lemmas.Bool.{cond-true, cond-false, cond_both, cases_eq, eq-eqb, ne_eqb}
use Rattle.std.proofs.lemmas.Bool.Decides.{nat_tests}
use Rattle.ranking.specs.Ranks.{first_entry}
use Rattle.ranking.proofs.Lookups.{first_entry-none}
use Rattle.register.specs.Books.{Book, total}
use Rattle.register.proofs.Sums.{sum_to-none}
use Rattle.registers.specs.declared.balances.Balance.{Balance}
use Rattle.registers.specs.declared.entries.Entry.{Entry}
use Rattle.registers.specs.Balances.{with_balance}
use Rattle.registers.specs.Tables.{nothing}
use Rattle.registers.specs.Lists.{is_of, no_entry, balance_in, list_book, is_known_lem, TotalsBounded}
use Rattle.registers.proofs.Written.{total-written, total-unwritten}
use Rattle.registers.proofs.Listed.{Apart, Writes, of_entry, own, absent, book-writes}

-- what an entry has, free and blocked
abbrev pub whole : Entry → ℕ
whole x = x.balance.free + x.balance.blocked

abbrev pub of_asset : ℕ → Entry → Bool
of_asset a x = eqb x.asset a

-- what an entry has of an asset
abbrev pub held_in : ℕ → Entry → ℕ
held_in a x = cond (eqb x.asset a) (x.balance.free + x.balance.blocked) 0

-- what all entries have of an asset is what all holders have
holder_known : (x : Entry) → is_known_lem x ≡ true → x.holder < 16
holder_known x k = grind (arith, nat_tests)

cons-writes : (x : Entry) (xs : List Entry) → Writes xs x (x ∷ xs)
cons-writes x xs h a = elim (is_of h a x) as (λ b. (cond b x (first_entry (is_of h a) no_entry xs)).balance ≡ cond b x.balance (balance_in xs h a)) [ true ↦ refl | false ↦ refl ]

pub held-total : (a : ℕ) (xs : List Entry) → Apart xs → AllByRecursion (λ x. is_known_lem x ≡ true) xs → total (list_book xs) a ≡ sum_by (held_in a) xs
held-total a [] u k = sum_to-none 16 (λ h. 0 + 0) (λ i l. refl)
held-total a (x ∷ xs) u k =
    let b = list_book xs in
    let hx = x.holder in
    let rest = held-total a xs u.1 k.1 in
    let sum = sum_by-cons (held_in a) x xs in
    let after : total (list_book (x ∷ xs)) a ≡ total (with_balance b hx x.asset x.balance) a = ap (λ (v : Book). total v a) (book-writes xs (x ∷ xs) x (cons-writes x xs)) in
    let none : balance_in xs hx x.asset ≡ nothing = ap of_entry (first_entry-none (is_of hx x.asset) no_entry xs (absent x xs u.0 hx x.asset (own x))) in
    elim (cases_eq x.asset a) [
      | inl e ↦
          let free : b.free hx a ≡ 0 = subst (λ y. b.free hx y ≡ 0) e (ap (λ (v : Balance). v.free) none) in
          let blocked : b.blocked hx a ≡ 0 = subst (λ y. b.blocked hx y ≡ 0) e (ap (λ (v : Balance). v.blocked) none) in
          let w : total (with_balance b hx x.asset x.balance) a + (b.free hx a + b.blocked hx a) ≡ total b a + (x.balance.free + x.balance.blocked) =
          subst (λ y. total (with_balance b hx x.asset x.balance) y + (b.free hx y + b.blocked hx y) ≡ total b y + (x.balance.free + x.balance.blocked)) e (total-written b hx x.asset x.balance (holder_known x k.0)) in
          let here : held_in a x ≡ x.balance.free + x.balance.blocked = cond-true _ _ _ (eq-eqb x.asset a e) in
          omega arith
      | inr ne ↦
          let w = total-unwritten b hx x.asset x.balance a (λ q. ne (sym q)) in
          let here : held_in a x ≡ 0 = cond-false _ _ _ (ne_eqb x.asset a ne) in
          omega arith
    ]

-- the entries of an asset have what all entries have of it
pub held-filtered : (a : ℕ) (xs : List Entry) → sum_by whole (filter (of_asset a) xs) ≡ sum_by (held_in a) xs
held-filtered a [] = refl
held-filtered a (x ∷ xs) =
    cond_both (of_asset a x) (x ∷ filter (of_asset a) xs) (filter (of_asset a) xs) (λ l. sum_by whole l ≡ sum_by (held_in a) (x ∷ xs))
    (λ t. omega (arith, held-filtered a xs, sum_by-cons whole x (filter (of_asset a) xs), sum_by-cons (held_in a) x xs, cond-true _ (whole x) 0 t))
    (λ f. omega (arith, held-filtered a xs, sum_by-cons (held_in a) x xs, cond-false _ (whole x) 0 f))

pub empty-bounded : TotalsBounded []
empty-bounded a l = omega (arith, sum_to-none 16 (λ h. 0 + 0) (λ i m. refl))
