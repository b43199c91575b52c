use Rattle.std.proofs.Common.{◌∙◌}
use Rattle.registers.proofs.Moved.{account_is, moved_at, amount-lawful, had-free, withdraw-made}
use Rattle.register.specs.Moves.{Withdraw, after_move}
use Rattle.registers.proofs.bottom.BottomRegister.withdraw.Goals as goal

pub returns-clause-after : goal.returns-clause-after
returns-clause-after g c =
    let b = g.A.Accounts.book c.args.self.now.accounts in
    let account = c.in_ok-account.account in
    let h = account.holder in
    let a = account.asset in
    let k = account_is account in
    let had = had-free b h a c.args.amount c.in_ok-before.before _ c.in_ok-before.ensures in
    let l = amount-lawful _ _ c.args.amount _ c.in_ok-check_amount.ensures in
    c.put.ensures ∙ (withdraw-made b h a c.args.amount c.in_ok-before.before k had.0 l had.1).after ∙ moved_at (λ x y. after_move b (Withdraw x y c.args.amount)) c.in_ok-account.ensures.0 c.in_ok-account.ensures.1
