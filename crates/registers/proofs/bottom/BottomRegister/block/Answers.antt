use Rattle.std.proofs.Common.{◌∙◌, ap, rules}
use Rattle.registers.specs.declared.balances.Balance.{Balance}
use Rattle.registers.proofs.Moved.{covered, account_is, moved_at, amount-lawful, had-free, small, block_made}
use Rattle.register.specs.Moves.{Block, after_move}
use Rattle.registers.proofs.bottom.BottomRegister.block.Goals as goal

pub overflow_add-blocked : goal.overflow_add-blocked
overflow_add-blocked g c =
    let b = g.A.Accounts.book c.args.self.now.accounts in
    let account = c.in_ok-account.account in
    let h = account.holder in
    let a = account.asset in
    let k = account_is account in
    let had = had-free b h a c.args.amount c.in_ok-free.field-0 _ c.in_ok-free.ensures in
    let is = ap (λ (v : Balance). v.blocked) had.0 in
    let s = small b h a k (g.met.A.Accounts.bounded c.args.self.now.accounts) in
    let l = amount-lawful _ _ c.args.amount _ c.in_ok-check_amount.ensures in
    search rules

pub returns-clause-after : goal.returns-clause-after
returns-clause-after g c =
    let b = g.A.Accounts.book c.args.self.now.accounts in
    let account = c.in_ok-account.account in
    let h = account.holder in
    let a = account.asset in
    let k = account_is account in
    let had = had-free b h a c.args.amount c.in_ok-free.field-0 _ c.in_ok-free.ensures in
    let l = amount-lawful _ _ c.args.amount _ c.in_ok-check_amount.ensures in
    c.put.ensures ∙ (block_made b h a c.args.amount c.in_ok-free.field-0 k had.0 l had.1 (covered _ _ _ _ c.in_ok-check.ensures) (g.met.A.Accounts.capped c.args.self.now.accounts)).after ∙ moved_at (λ x y. after_move b (Block x y c.args.amount)) c.in_ok-account.ensures.0 c.in_ok-account.ensures.1
