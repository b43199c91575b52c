use Rattle.std.proofs.Common.{◌∙◌, ap, rules}
use Rattle.registers.specs.declared.balances.Balance.{Balance}
use Rattle.registers.proofs.Moved.{account_is, moved_at, had-blocked, small, release-made}
use Rattle.register.specs.Moves.{Release, after_move}
use Rattle.registers.proofs.bottom.Bottom.free_again.Goals as goal

pub overflow_add-after : goal.overflow_add-after
overflow_add-after g c =
    let b = g.A.Accounts.book c.args.self.now.accounts in
    let account = c.in_ok-account.account in
    let h = account.holder in
    let a = account.asset in
    let k = account_is account in
    let had = had-blocked b h a c.args.amount c.in_ok-free.field-0 _ c.in_ok-free.ensures in
    let is = ap (λ (v : Balance). v.free) had.0 in
    let s = small b h a k (g.met.A.Accounts.bounded c.args.self.now.accounts) in
    search rules

pub returns-clause-after : goal.returns-clause-after
returns-clause-after g c =
    let b = g.A.Accounts.book c.args.self.now.accounts in
    let account = c.in_ok-account.account in
    let h = account.holder in
    let a = account.asset in
    let k = account_is account in
    let had = had-blocked b h a c.args.amount c.in_ok-free.field-0 _ c.in_ok-free.ensures in
    c.put.ensures ∙ (release-made b h a c.args.amount c.in_ok-free.field-0 k had.0 had.1).after ∙ moved_at (λ x y. after_move b (Release x y c.args.amount)) c.in_ok-account.ensures.0 c.in_ok-account.ensures.1
