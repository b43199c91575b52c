-- The writes of a bottom register make the movements of the book.
use Rattle.std.proofs.Common.{◌≡◌, ℕ, ◌+◌, ◌-◌, ◌<◌, ◌≤◌, Bool, true, false, leb, None, Ok, sym, ap, ◌∙◌, arith}
use Rattle.std.proofs.lemmas.Bool.Decides.{nat_tests}
use Rattle.register.specs.declared.faults.RegisterCause.TheVariants.{BadAmount}
use Rattle.register.specs.declared.faults.RegisterFault.{RegisterFault}
use Rattle.register.specs.Books.{Book, total, most_amount}
use Rattle.register.specs.Moves.{Move, Deposit, Withdraw, Block, Release, Pay, refusal, moved, after_move, granted, need, fault, lawful_amount}
use Rattle.register.proofs.Grants.{AccountKnown, after-made}
use Rattle.register.proofs.Totals.{within-total}
use Rattle.registers.specs.declared.accounts.Known.{Known}
use Rattle.registers.specs.declared.balances.Balance.{Balance}
use Rattle.registers.specs.Balances.{with_balance, balance_of}
use Rattle.registers.proofs.Written.{written-deposit, written-withdraw, written-block, written-release, written-taken, total-written}

pub account_is : (x : Known) → AccountKnown x.holder x.asset
account_is x = record { holder = x.holder_known; asset = x.asset_known }

-- the account of a movement is the one that was asked for
pub moved_at : (f : ℕ → ℕ → Book) {h k a c : ℕ} → h ≡ k → a ≡ c → f h a ≡ f k c
moved_at f {h} {k} {a} {c} e d = ap (λ x. f x a) e ∙ ap (λ y. f k y) d

pub amount-lawful : (h a n : ℕ) (u : Unit {0}) → Ok u ≡ granted (need (lawful_amount n) (fault BadAmount h a 0) None) tt → lawful_amount n ≡ true
amount-lawful h a n u e = grind (arith, nat_tests)

pub covered : (n m : ℕ) (f : RegisterFault) (u : Unit {0}) → Ok u ≡ granted (need (leb n m) f None) tt → n ≤ m
covered n m f u e = grind (arith, nat_tests)

-- a balance that was asked to cover an amount
had-is : (b : Bool) (f : RegisterFault) (x y : Balance) → Ok x ≡ granted (need b f None) y → x ≡ y
had-is true f x y e = cc
had-is false f x y e = absurd (let z : ◌≡◌ {A = ℕ} 0 1 = cc in omega arith)

had-covers : (n m : ℕ) (f : RegisterFault) (x y : Balance) → Ok x ≡ granted (need (leb n m) f None) y → n ≤ m
had-covers n m f x y e = grind (arith, nat_tests)

module _ (b : Book) (h a n : ℕ) (x : Balance) (f : RegisterFault) where
  pub had-free : Ok x ≡ granted (need (leb n (b.free h a)) f None) (balance_of b h a) → (x ≡ balance_of b h a) × (n ≤ x.free)
  had-free e = let is = had-is _ f x _ e in (is, omega (arith, had-covers n _ f x _ e, ap (λ (v : Balance). v.free) is))

  pub had-blocked : Ok x ≡ granted (need (leb n (b.blocked h a)) f None) (balance_of b h a) → (x ≡ balance_of b h a) × (n ≤ x.blocked)
  had-blocked e = let is = had-is _ f x _ e in (is, omega (arith, had-covers n _ f x _ e, ap (λ (v : Balance). v.blocked) is))

-- no balance is above the most
pub small : (b : Book) (h a : ℕ) → AccountKnown h a → ((y : ℕ) → y < 12 → total b y ≤ most_amount) → b.free h a + b.blocked h a ≤ most_amount
small b h a k le = omega (arith, within-total b h a k.holder, le a k.asset)

-- the movement m is made and takes the book b to c
pub record Made (b : Book) (m : Move) (c : Book) : Type 0 where
  pub none : refusal b m ≡ None
  pub after : c ≡ after_move b m

made : (b : Book) (m : Move) (c : Book) → refusal b m ≡ None → c ≡ moved b m → Made b m c
made b m c n e = record { none = n; after = e ∙ sym (after-made b m n) }

module _ (b : Book) (h a n : ℕ) (x : Balance) (k : AccountKnown h a) (e : x ≡ balance_of b h a) where
  pub deposit-made : lawful_amount n ≡ true → total b a + n ≤ most_amount → Made b (Deposit h a n) (with_balance b h a (record { free = x.free + n; blocked = x.blocked }))
  deposit-made l r = made b (Deposit h a n) _ (grind (arith, nat_tests)) (written-deposit b h a n x e)

  pub withdraw-made : lawful_amount n ≡ true → n ≤ x.free → Made b (Withdraw h a n) (with_balance b h a (record { free = x.free - n; blocked = x.blocked }))
  withdraw-made l r = made b (Withdraw h a n) _ (grind (arith, nat_tests)) (written-withdraw b h a n x e)

  pub block_made : lawful_amount n ≡ true → n ≤ x.free → x.blocked + n ≤ most_amount → ((p q : ℕ) → b.limit p q ≡ most_amount) →
      Made b (Block h a n) (with_balance b h a (record { free = x.free - n; blocked = x.blocked + n }))
  block_made l r s caps = let m = caps h a in made b (Block h a n) _ (grind (arith, nat_tests)) (written-block b h a n x e)

  pub release-made : n ≤ x.blocked → Made b (Release h a n) (with_balance b h a (record { free = x.free + n; blocked = x.blocked - n }))
  release-made r = made b (Release h a n) _ (grind (arith, nat_tests)) (written-release b h a n x e)

-- a payment's two writes: what the payer had blocked, and what the payee has free
module _ (b c : Book) (h a n p : ℕ) (x y : Balance) (k : AccountKnown h a) where
  pub pay-made : p < 16 → x ≡ balance_of b h a → c ≡ with_balance b h a (record { free = x.free; blocked = x.blocked - n }) → y ≡ balance_of c p a → n ≤ x.blocked →
      Made b (Pay h a n p) (with_balance c p a (record { free = y.free + n; blocked = y.blocked }))
  pay-made l e t f r =
      made b (Pay h a n p) _ (grind (arith, nat_tests))
      (written-deposit c p a n y f ∙ ap (λ (d : Book). moved d (Deposit p a n)) (t ∙ written-taken b h a n x e))

  -- what is taken from the payer makes room for what the payee is given
  pub pay-room : x ≡ balance_of b h a → c ≡ with_balance b h a (record { free = x.free; blocked = x.blocked - n }) → y ≡ balance_of c p a → n ≤ x.blocked →
      ((q : ℕ) → q < 12 → total b q ≤ most_amount) →
      total c a + ((y.free + n) + y.blocked) ≤ most_amount + (c.free p a + c.blocked p a)
  pay-room e t f r le =
      let z : Balance = record { free = x.free; blocked = x.blocked - n } in
      omega (
        arith,
        ap (λ (v : Balance). v.free) f,
        ap (λ (v : Balance). v.blocked) f,
        ap (λ (v : Balance). v.free) e,
        ap (λ (v : Balance). v.blocked) e,
        ap (λ (v : Book). total v a) t,
        total-written b h a z k.holder,
        le a k.asset,
      )
