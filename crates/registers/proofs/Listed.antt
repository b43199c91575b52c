-- Accounts in a list of entries: what is read of one, and what a change of one entry writes.
use Rattle.std.proofs.Common.{◌≡◌, ℕ, ◌<◌, true, false, cond, List, [], ◌∷◌, length, get_or, set, Some, None, sym, refl, ap, ◌∙◌, arith}
use Rattle.std.specs.List.{remove, AllByRecursion}
use Rattle.std.proofs.ByRecursion.{All-weaker}
use Rattle.std.proofs.lemmas.Bool.{cond_both}
use Rattle.std.proofs.lemmas.Bool.Decides.{nat_tests}
use Rattle.ranking.specs.Ranks.{insert_ranked, ties, tie_place}
use Rattle.ranking.proofs.Ties.{Untied, none-ties, tie-found}
use Rattle.ranking.proofs.Lookups.{Once, first_entry-none, first_entry-once, first_entry-insert-new, first_entry-insert-other, first_entry-removed-once, first_entry-removed-other, first_entry-set-once, first_entry-set-other}
use Rattle.register.proofs.Accounts.{book-ext}
use Rattle.registers.specs.declared.balances.Balance.{Balance}
use Rattle.registers.specs.declared.entries.Entry.{Entry}
use Rattle.registers.specs.Balances.{with_balance}
use Rattle.registers.specs.Tables.{nothing}
use Rattle.registers.specs.Lists.{account_before, is_of, no_entry, balance_in, list_book, is_filled}

-- no two entries are of one account
abbrev pub Apart : List Entry → Type 0
Apart xs = Untied account_before xs

-- entries tie that are of one account
tied_of : (h a : ℕ) (x y : Entry) → ties account_before x y ≡ true → is_of h a y ≡ is_of h a x
tied_of h a x y t = grind (arith, nat_tests)

untied-of : (h a : ℕ) (x y : Entry) → ties account_before x y ≡ false → is_of h a x ≡ true → is_of h a y ≡ false
untied-of h a x y f t = grind (arith, nat_tests)

pub tied-before : (x y z : Entry) → ties account_before x y ≡ true → (account_before x z ≡ account_before y z) × (account_before z x ≡ account_before z y)
tied-before x y z t = (grind (arith, nat_tests), grind (arith, nat_tests))

-- an entry is of its own account
pub own : (x : Entry) → is_of x.holder x.asset x ≡ true
own x = grind (arith, nat_tests)

once : (h a : ℕ) (xs : List Entry) → Apart xs → Once (is_of h a) no_entry xs
once h a [] u = tt
once h a (x ∷ xs) u = (All-weaker (λ y. ties account_before x y ≡ false) (λ y. is_of h a x ≡ true → is_of h a y ≡ false) (λ y f. untied-of h a x y f) xs u.0, once h a xs u.1)

-- an account of which no entry is
pub absent : (e : Entry) (xs : List Entry) → AllByRecursion (λ x. ties account_before e x ≡ false) xs → (h a : ℕ) → is_of h a e ≡ true → AllByRecursion (λ x. is_of h a x ≡ false) xs
absent e xs n h a t = All-weaker (λ x. ties account_before e x ≡ false) (λ x. is_of h a x ≡ false) (λ x f. untied-of h a e x f t) xs n

abbrev pub of_entry : Entry → Balance
of_entry x = x.balance

-- the list ys is the list xs but for the account of e, which has the balance of e
abbrev pub Writes : List Entry → Entry → List Entry → Type 0
Writes xs e ys = (h a : ℕ) → balance_in ys h a ≡ cond (is_of h a e) e.balance (balance_in xs h a)

module _ (xs ys : List Entry) (e : Entry) where
  by-account : ((h a : ℕ) → is_of h a e ≡ true → balance_in ys h a ≡ e.balance) → ((h a : ℕ) → is_of h a e ≡ false → balance_in ys h a ≡ balance_in xs h a) → Writes xs e ys
  by-account here other h a =
      cond_both (is_of h a e) e.balance (balance_in xs h a) (λ v. balance_in ys h a ≡ v) (λ t. here h a t) (λ f. other h a f)

  pub book-writes : Writes xs e ys → list_book ys ≡ with_balance (list_book xs) e.holder e.asset e.balance
  book-writes w = book-ext _ _ (λ h a. rw (w h a) (grind (arith, nat_tests))) (λ h a. rw (w h a) (grind (arith, nat_tests))) (λ h a. refl) (λ h a n. refl)

-- the ways to write the account of e
module _ (xs : List Entry) (e : Entry) where
  pub writes-inserted : tie_place account_before e xs ≡ None → Writes xs e (insert_ranked account_before e xs)
  writes-inserted n =
      by-account xs (insert_ranked account_before e xs) e
      (λ h a t. ap of_entry (first_entry-insert-new (is_of h a) no_entry account_before e xs t (absent e xs (none-ties account_before e xs n) h a t)))
      (λ h a f. ap of_entry (first_entry-insert-other (is_of h a) no_entry account_before e xs f))

  pub writes_nothing : tie_place account_before e xs ≡ None → e.balance ≡ nothing → Writes xs e xs
  writes_nothing n z =
      by-account xs xs e
      (λ h a t. ap of_entry (first_entry-none (is_of h a) no_entry xs (absent e xs (none-ties account_before e xs n) h a t)) ∙ sym z)
      (λ h a f. refl)

  -- the place i has the entry of the account
  module _ (u : Apart xs) (i : ℕ) (found : tie_place account_before e xs ≡ Some i) where
    inside : i < length xs
    inside = (tie-found account_before e xs i found).0

    of-found : (h a : ℕ) → is_of h a (get_or xs i no_entry) ≡ is_of h a e
    of-found h a = tied_of h a e (get_or xs i no_entry) ((tie-found account_before e xs i found).1 no_entry)

    pub read_found : balance_in xs e.holder e.asset ≡ (get_or xs i no_entry).balance
    read_found =
        let h = e.holder in
        let a = e.asset in
        ap of_entry (first_entry-once (is_of h a) no_entry xs i no_entry inside (once h a xs u) (of-found h a ∙ own e))

    pub writes-set : Writes xs e (set xs i e)
    writes-set =
        by-account xs (set xs i e) e
        (λ h a t. ap of_entry (first_entry-set-once (is_of h a) no_entry xs i e no_entry inside (once h a xs u) (of-found h a ∙ t) t))
        (λ h a f. ap of_entry (first_entry-set-other (is_of h a) no_entry xs i e no_entry inside (of-found h a ∙ f) f))

    pub writes-removed : e.balance ≡ nothing → Writes xs e (remove xs i)
    writes-removed z =
        by-account xs (remove xs i) e
        (λ h a t. ap of_entry (first_entry-removed-once (is_of h a) no_entry xs i no_entry inside (once h a xs u) (of-found h a ∙ t)) ∙ sym z)
        (λ h a f. ap of_entry (first_entry-removed-other (is_of h a) no_entry xs i no_entry inside (of-found h a ∙ f)))

  pub read-absent : tie_place account_before e xs ≡ None → balance_in xs e.holder e.asset ≡ nothing
  read-absent n = ap of_entry (first_entry-none (is_of e.holder e.asset) no_entry xs (absent e xs (none-ties account_before e xs n) e.holder e.asset (own e)))

pub empty-balance : (e : Entry) → is_filled e ≡ false → e.balance ≡ nothing
empty-balance e f = grind (arith, nat_tests)
