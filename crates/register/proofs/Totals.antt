-- What the movements do to an asset's total.
use Rattle.std.proofs.Common.{◌≡◌, ℕ, ◌+◌, ◌<◌, ◌≤◌, arith}
use Rattle.register.specs.Books.{Book, total, at}
use Rattle.register.specs.Moves.{Deposit, Withdraw, Block, Release, Pay, moved}
use Rattle.register.proofs.Sums.{sum_to-balance, sum_to-same, part-sum_to}
use Rattle.register.proofs.Accounts.{at-covered, at_own, at_none, sum_to-at}

-- what one account holds is within the total
pub within-total : (b : Book) (h a : ℕ) → h < 16 → b.free h a + b.blocked h a ≤ total b a
within-total b h a l = part-sum_to 16 (λ k. b.free k a + b.blocked k a) h l

-- an amount that comes and an amount that goes, at two accounts, in the total
module _ (b c : Book) (h p a n m y : ℕ) where
  pub total-balance : h < 16 → p < 16 →
      ((x : ℕ) → (c.free x y + c.blocked x y) + at h a n x y ≡ (b.free x y + b.blocked x y) + at p a m x y) →
      total c y + at h a n h y ≡ total b y + at p a m p y
  total-balance hh pp e =
      omega (
        arith,
        sum_to-at 16 h a n y hh,
        sum_to-at 16 p a m y pp,
        sum_to-balance 16 (λ x. c.free x y + c.blocked x y) (λ x. b.free x y + b.blocked x y) (λ x. at h a n x y) (λ x. at p a m x y) (λ x l. e x),
      )

module _ (b : Book) (h a n y : ℕ) where
  pub total-deposit : h < 16 → total (moved b (Deposit h a n)) y ≡ total b y + at h a n h y
  total-deposit l =
      omega (
        arith,
        at_none h a h y,
        total-balance b (moved b (Deposit h a n)) h h a 0 n y l l (λ x. omega (arith, at_none h a x y)),
      )

  pub total-withdraw : h < 16 → n ≤ b.free h a → total (moved b (Withdraw h a n)) y + at h a n h y ≡ total b y
  total-withdraw l le =
      omega (
        arith,
        at_none h a h y,
        total-balance b (moved b (Withdraw h a n)) h h a n 0 y l l (λ x. omega (arith, at_none h a x y, at-covered b.free h a n x y le)),
      )

  pub total-block : n ≤ b.free h a → total (moved b (Block h a n)) y ≡ total b y
  total-block le = sum_to-same 16 _ _ (λ x l. omega (arith, at-covered b.free h a n x y le))

  pub total-release : n ≤ b.blocked h a → total (moved b (Release h a n)) y ≡ total b y
  total-release le = sum_to-same 16 _ _ (λ x l. omega (arith, at-covered b.blocked h a n x y le))

  pub total-pay : (p : ℕ) → h < 16 → p < 16 → n ≤ b.blocked h a → total (moved b (Pay h a n p)) y ≡ total b y
  total-pay p hh pp le =
      omega (
        arith,
        at_own h p a n y,
        total-balance b (moved b (Pay h a n p)) h p a n n y hh pp (λ x. omega (arith, at-covered b.blocked h a n x y le)),
      )
