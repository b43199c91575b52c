-- One balance written in a book: its totals, and the movement that it makes.
use Rattle.std.proofs.Common.{◌≡◌, ℕ, ◌+◌, ◌-◌, ◌<◌, ◌≤◌, ap, inl, inr, arith}
use mathlib.Core.Path.{fun_ext}
use Rattle.std.proofs.lemmas.Bool.Decides.{nat_tests}
use Rattle.std.proofs.lemmas.Bool.{cases_eq}
use Rattle.register.specs.Books.{Book, Sums, at, plus, minus, total, most_amount}
use Rattle.register.specs.Moves.{Deposit, Withdraw, Block, Release, moved, holding}
use Rattle.register.proofs.Accounts.{at-is, at_here, sum_to-at}
use Rattle.register.proofs.Sums.{sum_to-same, sum_to-balance}
use Rattle.registers.specs.declared.balances.Balance.{Balance}
use Rattle.registers.specs.Balances.{put, with_balance, balance_of}

pub put_same : (f : Sums) (h a v : ℕ) → v ≡ f h a → put f h a v ≡ f
put_same f h a v e = fun_ext (λ x. fun_ext (λ y. grind (arith, nat_tests)))

pub put-plus : (f : Sums) (h a n v : ℕ) → v ≡ f h a + n → put f h a v ≡ plus f h a n
put-plus f h a n v e = fun_ext (λ x. fun_ext (λ y. rw (at-is h a n x y) (grind (arith, nat_tests))))

pub put-minus : (f : Sums) (h a n v : ℕ) → v ≡ f h a - n → put f h a v ≡ minus f h a n
put-minus f h a n v e = fun_ext (λ x. fun_ext (λ y. rw (at-is h a n x y) (grind (arith, nat_tests))))

-- a balance written is a change of what is free and of what is blocked
pub written : (b : Book) (h a : ℕ) (x : Balance) (f k : Sums) → put b.free h a x.free ≡ f → put b.blocked h a x.blocked ≡ k → with_balance b h a x ≡ holding b f k
written b h a x f k p q = λ i. record { free = p i; blocked = q i; limit = b.limit; tag = b.tag }

module _ (b : Book) (h a n : ℕ) (x : Balance) (e : x ≡ balance_of b h a) where
  free-is : x.free ≡ b.free h a
  free-is = ap (λ (y : Balance). y.free) e

  blocked-is : x.blocked ≡ b.blocked h a
  blocked-is = ap (λ (y : Balance). y.blocked) e

  pub written-deposit : with_balance b h a (record { free = x.free + n; blocked = x.blocked }) ≡ moved b (Deposit h a n)
  written-deposit = written b h a _ _ _ (put-plus b.free h a n _ (ap (λ i. i + n) free-is)) (put_same b.blocked h a _ blocked-is)

  pub written-withdraw : with_balance b h a (record { free = x.free - n; blocked = x.blocked }) ≡ moved b (Withdraw h a n)
  written-withdraw = written b h a _ _ _ (put-minus b.free h a n _ (ap (λ i. i - n) free-is)) (put_same b.blocked h a _ blocked-is)

  pub written-block : with_balance b h a (record { free = x.free - n; blocked = x.blocked + n }) ≡ moved b (Block h a n)
  written-block = written b h a _ _ _ (put-minus b.free h a n _ (ap (λ i. i - n) free-is)) (put-plus b.blocked h a n _ (ap (λ i. i + n) blocked-is))

  pub written-release : with_balance b h a (record { free = x.free + n; blocked = x.blocked - n }) ≡ moved b (Release h a n)
  written-release = written b h a _ _ _ (put-plus b.free h a n _ (ap (λ i. i + n) free-is)) (put-minus b.blocked h a n _ (ap (λ i. i - n) blocked-is))

  -- the first of a payment's two writes
  pub written-taken : with_balance b h a (record { free = x.free; blocked = x.blocked - n }) ≡ holding b b.free (minus b.blocked h a n)
  written-taken = written b h a _ _ _ (put_same b.free h a _ free-is) (put-minus b.blocked h a n _ (ap (λ i. i - n) blocked-is))

-- the totals of a book with one balance written
pub total-written : (b : Book) (h a : ℕ) (x : Balance) → h < 16 → total (with_balance b h a x) a + (b.free h a + b.blocked h a) ≡ total b a + (x.free + x.blocked)
total-written b h a x l =
    let n = b.free h a + b.blocked h a in
    let m = x.free + x.blocked in
    let before : ℕ → ℕ = λ k. b.free k a + b.blocked k a in
    let after : ℕ → ℕ = λ k. put b.free h a x.free k a + put b.blocked h a x.blocked k a in
    omega (
      arith,
      sum_to-at 16 h a n a l,
      at_here h a n,
      sum_to-at 16 h a m a l,
      at_here h a m,
      sum_to-balance 16 after before (λ k. at h a n k a) (λ k. at h a m k a) (λ k j. here k),
    )
  where
    here : (k : ℕ) → (put b.free h a x.free k a + put b.blocked h a x.blocked k a) + at h a (b.free h a + b.blocked h a) k a ≡ (b.free k a + b.blocked k a) + at h a (x.free + x.blocked) k a
    here k = rw (at-is h a (b.free h a + b.blocked h a) k a, at-is h a (x.free + x.blocked) k a) (grind (arith, nat_tests))

pub total-unwritten : (b : Book) (h a : ℕ) (x : Balance) (y : ℕ) → (y ≡ a → ⊥) → total (with_balance b h a x) y ≡ total b y
total-unwritten b h a x y ne = sum_to-same 16 _ _ (λ k l. grind (arith, nat_tests))

-- a write that keeps one asset's total within the most keeps all within it
pub bounded-written : (b : Book) (h a : ℕ) (x : Balance) → h < 16 → ((y : ℕ) → y < 12 → total b y ≤ most_amount) →
    total b a + (x.free + x.blocked) ≤ most_amount + (b.free h a + b.blocked h a) → (y : ℕ) → y < 12 → total (with_balance b h a x) y ≤ most_amount
bounded-written b h a x hh le room y l =
    elim (cases_eq y a) [
      | inl e ↦ rw e (omega (arith, total-written b h a x hh))
      | inr ne ↦ omega (arith, total-unwritten b h a x y ne, le y l)
    ]
