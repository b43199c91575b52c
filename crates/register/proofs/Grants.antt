-- What is known of a movement that is not refused.
use Rattle.std.proofs.Common.{◌≡◌, ℕ, ◌+◌, ◌<◌, ◌≤◌, Some, None, Option, ap, arith}
use Rattle.std.proofs.lemmas.Bool.Decides.{nat_tests}
use Rattle.register.specs.declared.faults.RegisterFault.{RegisterFault}
use Rattle.register.specs.Books.{Book, total, most_amount}
use Rattle.register.specs.Moves.{Move, Deposit, Withdraw, Block, Release, Pay, refusal, moved, after_move, unless}

pub record AccountKnown (h a : ℕ) : Type 0 where
  pub holder : h < 16
  pub asset : a < 12

pub known-deposit : (b : Book) (h a n : ℕ) → refusal b (Deposit h a n) ≡ None → AccountKnown h a
known-deposit b h a n e = record { holder = grind (arith, nat_tests); asset = grind (arith, nat_tests) }

pub known-withdraw : (b : Book) (h a n : ℕ) → refusal b (Withdraw h a n) ≡ None → AccountKnown h a
known-withdraw b h a n e = record { holder = grind (arith, nat_tests); asset = grind (arith, nat_tests) }

pub known-block : (b : Book) (h a n : ℕ) → refusal b (Block h a n) ≡ None → AccountKnown h a
known-block b h a n e = record { holder = grind (arith, nat_tests); asset = grind (arith, nat_tests) }

pub known-release : (b : Book) (h a n : ℕ) → refusal b (Release h a n) ≡ None → AccountKnown h a
known-release b h a n e = record { holder = grind (arith, nat_tests); asset = grind (arith, nat_tests) }

pub known-pay : (b : Book) (h a n p : ℕ) → refusal b (Pay h a n p) ≡ None → AccountKnown h a
known-pay b h a n p e = record { holder = grind (arith, nat_tests); asset = grind (arith, nat_tests) }

pub payee-known : (b : Book) (h a n p : ℕ) → refusal b (Pay h a n p) ≡ None → p < 16
payee-known b h a n p e = grind (arith, nat_tests)

pub room-deposit : (b : Book) (h a n : ℕ) → refusal b (Deposit h a n) ≡ None → total b a + n ≤ most_amount
room-deposit b h a n e = grind (arith, nat_tests)

pub free-withdraw : (b : Book) (h a n : ℕ) → refusal b (Withdraw h a n) ≡ None → n ≤ b.free h a
free-withdraw b h a n e = grind (arith, nat_tests)

pub free-block : (b : Book) (h a n : ℕ) → refusal b (Block h a n) ≡ None → n ≤ b.free h a
free-block b h a n e = grind (arith, nat_tests)

pub blocked-release : (b : Book) (h a n : ℕ) → refusal b (Release h a n) ≡ None → n ≤ b.blocked h a
blocked-release b h a n e = grind (arith, nat_tests)

pub blocked-pay : (b : Book) (h a n p : ℕ) → refusal b (Pay h a n p) ≡ None → n ≤ b.blocked h a
blocked-pay b h a n p e = grind (arith, nat_tests)

-- the book after a movement, by its refusal
pub after-made : (b : Book) (m : Move) → refusal b m ≡ None → after_move b m ≡ moved b m
after-made b m e = ap (λ (r : Option RegisterFault). unless r (moved b m) b) e

pub after-refused : (b : Book) (m : Move) (f : RegisterFault) → refusal b m ≡ Some f → after_move b m ≡ b
after-refused b m f e = ap (λ (r : Option RegisterFault). unless r (moved b m) b) e
