-- What the movements promise, in the words of an account's holder.
use Rattle.std.specs.Prelude.{◌≡◌, ℕ, ◌+◌, ◌≤◌, Some, None, Ok, ◌≢◌}
use Rattle.register.specs.declared.faults.Account.{Account}
use Rattle.register.specs.declared.faults.RegisterFault.{RegisterFault}
use Rattle.register.specs.Books.{Book, total, most_amount}
use Rattle.register.specs.Moves.{Move, Deposit, Withdraw, Block, Release, Pay, refusal, after_move, account_of, reading}

-- a refused call changes nothing
abbrev pub RefusedChangesNothing : Type 0
RefusedChangesNothing = (b : Book) (m : Move) (f : RegisterFault) → refusal b m ≡ Some f → after_move b m ≡ b

-- one account of a book and no other differs
pub record Only (b c : Book) (h a : ℕ) : Type 0 where
  pub others : (x y : ℕ) → ((x ≡ h) × (y ≡ a) → ⊥) → account_of c x y ≡ account_of b x y
  pub tags : c.tag ≡ b.tag

-- an account with n more of it free
abbrev pub shown : Book → ℕ → ℕ → ℕ → Account
shown b h a n = record { free = b.free h a + n; blocked = b.blocked h a; limit = b.limit h a }

-- a deposit that is taken adds its amount to what one holder has free of one asset, and to the asset's total
pub record Deposited (b c : Book) (h a n : ℕ) : Type 0 where
  pub account : account_of c h a ≡ shown b h a n
  pub only : Only b c h a
  pub sum : total c a ≡ total b a + n
  pub sums : (y : ℕ) → (y ≢ a) → total c y ≡ total b y

abbrev pub DepositsAdd : Type 0
DepositsAdd = (b : Book) (h a n : ℕ) → refusal b (Deposit h a n) ≡ None → Deposited b (after_move b (Deposit h a n)) h a n

-- a withdrawal takes exactly what a deposit of the same amount would bring
abbrev pub WithdrawalsTake : Type 0
WithdrawalsTake = (b : Book) (h a n : ℕ) → refusal b (Withdraw h a n) ≡ None → Deposited (after_move b (Withdraw h a n)) b h a n

-- a block, a release and a payment, made or refused, keep every asset's total
pub record TotalsKept : Type 0 where
  pub block : (b : Book) (h a n y : ℕ) → total (after_move b (Block h a n)) y ≡ total b y
  pub release : (b : Book) (h a n y : ℕ) → total (after_move b (Release h a n)) y ≡ total b y
  pub pay : (b : Book) (h a n p y : ℕ) → total (after_move b (Pay h a n p)) y ≡ total b y

-- reading after a deposit that is taken shows it
abbrev pub ReadingShows : Type 0
ReadingShows = (b : Book) (h a n : ℕ) → refusal b (Deposit h a n) ≡ None →
    reading (after_move b (Deposit h a n)) h a ≡ Ok (shown b h a n)

-- no movement takes an asset's total past the most there can be
abbrev pub TotalsAreBounded : Type 0
TotalsAreBounded = (b : Book) (m : Move) (y : ℕ) → total b y ≤ most_amount → total (after_move b m) y ≤ most_amount
