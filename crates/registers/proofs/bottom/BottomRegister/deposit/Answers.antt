use Rattle.std.proofs.Common.{◌+◌, ◌≤◌, ◌∙◌, ap, arith, rules}
use Rattle.register.specs.Books.{total, most_amount}
use Rattle.registers.proofs.Moved.{covered, account_is, moved_at, amount-lawful, small, deposit-made}
use Rattle.register.specs.Moves.{Deposit, after_move}
use Rattle.registers.proofs.bottom.BottomRegister.deposit.Goals as goal

pub overflow_add-after : goal.overflow_add-after
overflow_add-after g c =
    let b = g.A.Accounts.book c.args.self.now.accounts in
    let account = c.in_ok-account.account in
    let h = account.holder in
    let a = account.asset in
    let k = account_is account in
    let s = small b h a k (g.met.A.Accounts.bounded c.args.self.now.accounts) in
    search rules

pub returns-clause-after : goal.returns-clause-after
returns-clause-after g c =
    let b = g.A.Accounts.book c.args.self.now.accounts in
    let account = c.in_ok-account.account in
    let h = account.holder in
    let a = account.asset in
    let n = c.args.amount in
    let k = account_is account in
    let l = amount-lawful _ _ n _ c.in_ok-check_amount.ensures in
    let room : total b a + n ≤ most_amount = omega (arith, covered _ _ _ _ c.in_ok-check.ensures, c.held-held.ensures, ap (total b) c.in_ok-account.ensures.1) in
    c.put.ensures ∙ (deposit-made b h a n c.balance-before.result k c.balance-before.ensures l room).after ∙ moved_at (λ x y. after_move b (Deposit x y c.args.amount)) c.in_ok-account.ensures.0 c.in_ok-account.ensures.1
