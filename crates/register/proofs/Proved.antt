-- The laws of the movements.
use Rattle.std.proofs.Common.{◌≡◌, ℕ, ◌+◌, ◌<◌, ◌≤◌, Some, None, Ok, Option, sym, refl, ap, ◌∙◌, subst, inl, inr, arith}
use Rattle.std.proofs.lemmas.Bool.Decides.{nat_tests}
use Rattle.std.proofs.lemmas.Bool.{cases_eq}
use Rattle.register.specs.declared.faults.Account.{Account}
use Rattle.register.specs.declared.faults.RegisterFault.{RegisterFault}
use Rattle.register.specs.Books.{Book, total, at, most_amount}
use Rattle.register.specs.Moves.{Move, Deposit, Withdraw, Block, Release, Pay, refusal, moved, after_move, unless, account_of, reading}
use Rattle.register.specs.Laws.{RefusedChangesNothing, Deposited, DepositsAdd, WithdrawalsTake, TotalsKept, ReadingShows, TotalsAreBounded}
use Rattle.register.proofs.Accounts.{at_here, at-apart, at-other-asset, at-covered}
use Rattle.register.proofs.Grants
use Rattle.register.proofs.Totals.{total-deposit, total-withdraw, total-block, total-release, total-pay}

pub refused-changes-nothing : RefusedChangesNothing
refused-changes-nothing = Grants.after-refused

account-same : (f k l f' k' l' : ℕ) → f ≡ f' → k ≡ k' → l ≡ l' →
    ◌≡◌ {A = Account} (record { free = f; blocked = k; limit = l }) (record { free = f'; blocked = k'; limit = l' })
account-same f k l f' k' l' p q r = λ i. record { free = p i; blocked = q i; limit = r i }

-- what a deposit leaves, from the balance of the free amounts
module _ (b c : Book) (h a n : ℕ) (l : h < 16) (free : (x y : ℕ) → c.free x y ≡ b.free x y + at h a n x y)
    (blocked : c.blocked ≡ b.blocked) (limit : c.limit ≡ b.limit) (tags : c.tag ≡ b.tag)
    (sums : (y : ℕ) → total c y ≡ total b y + at h a n h y) where
  pub deposited : Deposited b c h a n
  deposited = record {
    account = account-same _ _ _ _ _ _ (omega (arith, free h a, at_here h a n)) (ap (λ (f : ℕ → ℕ → ℕ). f h a) blocked) (ap (λ (f : ℕ → ℕ → ℕ). f h a) limit);
    only = record {
      others = λ x y ne. account-same _ _ _ _ _ _ (omega (arith, free x y, at-apart h a n x y ne)) (ap (λ (f : ℕ → ℕ → ℕ). f x y) blocked) (ap (λ (f : ℕ → ℕ → ℕ). f x y) limit);
      tags = tags;
    };
    sum = omega (arith, sums a, at_here h a n);
    sums = λ y ne. omega (arith, sums y, at-other-asset h a n h y ne);
  }

pub deposits-add : DepositsAdd
deposits-add b h a n e =
    let l = (Grants.known-deposit b h a n e).holder in
    subst (λ (c : Book). Deposited b c h a n) (sym (Grants.after-made b (Deposit h a n) e))
    (deposited b (moved b (Deposit h a n)) h a n l (λ x y. refl) refl refl refl (λ y. total-deposit b h a n y l))

pub withdrawals-take : WithdrawalsTake
withdrawals-take b h a n e =
    let l = (Grants.known-withdraw b h a n e).holder in
    let le = Grants.free-withdraw b h a n e in
    subst (λ (c : Book). Deposited c b h a n) (sym (Grants.after-made b (Withdraw h a n) e))
    (deposited (moved b (Withdraw h a n)) b h a n l (λ x y. omega (arith, at-covered b.free h a n x y le)) refl refl refl
    (λ y. sym (total-withdraw b h a n y l le)))

pub reading-shows : ReadingShows
reading-shows b h a n e =
    let k = Grants.known-deposit b h a n e in
    let hh : h < 16 = k.holder in
    let aa : a < 12 = k.asset in
    reads (after_move b (Deposit h a n)) hh aa ∙ ap (λ (x : Account). Ok x) (deposits-add b h a n e).account
  where
    reads : (c : Book) → h < 16 → a < 12 → reading c h a ≡ Ok (account_of c h a)
    reads c hh aa = grind (arith, nat_tests)

-- what holds of the book as it was and, where the movement is made, of the book that it makes
by-refusal : (b : Book) (m : Move) (P : Book → Type 0) → P b → (refusal b m ≡ None → P (moved b m)) → P (after_move b m)
by-refusal b m P p made = go (refusal b m) refl
  where
    go : (r : Option RegisterFault) → refusal b m ≡ r → P (unless r (moved b m) b)
    go None e = made e
    go (Some f) e = p

pub totals-kept : TotalsKept
totals-kept = record {
  block = λ b h a n y. by-refusal b (Block h a n) (λ c. total c y ≡ total b y) refl (λ e. total-block b h a n y (Grants.free-block b h a n e));
  release = λ b h a n y. by-refusal b (Release h a n) (λ c. total c y ≡ total b y) refl (λ e. total-release b h a n y (Grants.blocked-release b h a n e));
  pay = λ b h a n p y. by-refusal b (Pay h a n p) (λ c. total c y ≡ total b y) refl
      (λ e. total-pay b h a n y p (Grants.known-pay b h a n p e).holder (Grants.payee-known b h a n p e) (Grants.blocked-pay b h a n p e));
}

deposit-bounded : (b : Book) (h a n y : ℕ) → total b y ≤ most_amount → refusal b (Deposit h a n) ≡ None → total (moved b (Deposit h a n)) y ≤ most_amount
deposit-bounded b h a n y t e =
    let sums = total-deposit b h a n y (Grants.known-deposit b h a n e).holder in
    elim (cases_eq y a) [
      | inl q ↦ rw q (omega (arith, total-deposit b h a n a (Grants.known-deposit b h a n e).holder, at_here h a n, Grants.room-deposit b h a n e))
      | inr ne ↦ omega (arith, sums, at-other-asset h a n h y ne)
    ]

pub totals-bounded : TotalsAreBounded
totals-bounded b (Deposit h a n) y t = by-refusal b (Deposit h a n) (λ c. total c y ≤ most_amount) t (deposit-bounded b h a n y t)
totals-bounded b (Withdraw h a n) y t =
    by-refusal b (Withdraw h a n) (λ c. total c y ≤ most_amount) t
    (λ e. omega (arith, t, total-withdraw b h a n y (Grants.known-withdraw b h a n e).holder (Grants.free-withdraw b h a n e)))
totals-bounded b (Block h a n) y t = omega (arith, t, totals-kept.block b h a n y)
totals-bounded b (Release h a n) y t = omega (arith, t, totals-kept.release b h a n y)
totals-bounded b (Pay h a n p) y t = omega (arith, t, totals-kept.pay b h a n p y)
