-- A book under caps: what an account that was read says of a block that its cap refuses.
use Rattle.std.proofs.Common.{◌≡◌, ℕ, ◌+◌, ◌-◌, ◌<◌, ◌≤◌, Some, None, Ok, ap, arith}
use Rattle.std.proofs.lemmas.Bool.Decides.{nat_tests}
use Rattle.register.specs.declared.faults.Account.{Account}
use Rattle.register.specs.declared.faults.RegisterCause.TheVariants.{NoAccount, OverCap}
use Rattle.register.specs.Books.{Book, total, most_amount}
use Rattle.register.specs.Moves.{Block, need, fault, known, refusal, account_of, reading}
use Rattle.register.proofs.Totals.{within-total}
use Rattle.register.proofs.Chains.{granted-none, granted-value}
use Rattle.layers.specs.declared.caps.Caps.{Caps}
use Rattle.layers.specs.Layers.{cap_for, capped}

module _ (caps : Caps) (b : Book) where
  -- the layer's own refusal
  pub capped-over : (h a n : ℕ) → h < 16 → a < 12 → 1 ≤ n → n ≤ most_amount → n ≤ b.free h a → cap_for caps a < b.blocked h a + n →
      refusal (capped caps b) (Block h a n) ≡ Some (fault OverCap h a caps.tag)
  capped-over h a n hh aa one most free over = grind (arith, nat_tests)

-- an account that was read
pub record Read (b : Book) (h a : ℕ) (x : Account) : Type 0 where
  pub holder : h < 16
  pub asset : a < 12
  pub account : x ≡ account_of b h a

pub was_read : (b : Book) (h a : ℕ) (x : Account) → Ok x ≡ reading b h a → Read b h a x
was_read b h a x e =
    let none = granted-none (need (known h a) (fault NoAccount h a 0) None) (account_of b h a) x e in
    record {
      holder = grind (arith, nat_tests);
      asset = grind (arith, nat_tests);
      account = granted-value (need (known h a) (fault NoAccount h a 0) None) (account_of b h a) x e;
    }

-- after a read, with `room` for what may still be blocked under the layer's cap: more than that, and free
-- covers it, is the layer's own to refuse
module _ (caps : Caps) (b : Book) (h a n : ℕ) (x : Account) (read : Read b h a x) where
  pub own-refusal : ((y : ℕ) → y < 12 → total b y ≤ most_amount) → cap_for caps a - x.blocked < n → n ≤ x.free →
      refusal (capped caps b) (Block h a n) ≡ Some (fault OverCap h a caps.tag)
  own-refusal bounded over covered =
      let f = ap (λ (y : Account). y.free) read.account in
      let k = ap (λ (y : Account). y.blocked) read.account in
      let small : n ≤ most_amount = omega (arith, within-total b h a read.holder, bounded a read.asset) in
      capped-over caps b h a n read.holder read.asset (omega arith) small (omega arith) (omega arith)
