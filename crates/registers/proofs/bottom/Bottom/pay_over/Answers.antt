use Rattle.std.proofs.Common.{◌≡◌, ◌+◌, ◌≤◌, ◌∙◌, sym, ap, subst, rules}
use Rattle.register.specs.Books.{total, most_amount}
use Rattle.register.specs.Moves.{Pay, after_move}
use Rattle.registers.specs.declared.balances.Balance.{Balance}
use Rattle.registers.specs.Balances.{balance_of, with_balance}
use Rattle.registers.proofs.Moved.{account_is, moved_at, had-blocked, small, pay-made, pay-room}
use Rattle.registers.proofs.bottom.Bottom.pay_over.Goals as goal

pub overflow_add-given : goal.overflow_add-given
overflow_add-given g c =
    let b = g.A.Accounts.book c.args.self.now.accounts in
    let from = c.in_ok-payer.payer in
    let to = c.in_ok-payee.payee in
    let had = had-blocked b from.holder from.asset c.args.amount c.in_ok-from.from _ c.in_ok-from.ensures in
    let is = ap (λ (v : Balance). v.blocked) had.0 in
    let s = small b from.holder from.asset (account_is from) (g.met.A.Accounts.bounded c.args.self.now.accounts) in
    let t = small (g.A.Accounts.book c.put.new.self) to.holder to.asset (account_is to) (g.met.A.Accounts.bounded c.put.new.self) in
    search rules

pub put-requires-2 : goal.put-requires-2
put-requires-2 g c =
    let b = g.A.Accounts.book c.args.self.now.accounts in
    let d = g.A.Accounts.book c.put.new.self in
    let from = c.in_ok-payer.payer in
    let to = c.in_ok-payee.payee in
    let same : to.asset ≡ from.asset = c.in_ok-payee.ensures.1 ∙ sym c.in_ok-payer.ensures.1 in
    let had = had-blocked b from.holder from.asset c.args.amount c.in_ok-from.from _ c.in_ok-from.ensures in
    let x = c.balance-to.result in
    subst (λ y. total d y + ((x.free + c.args.amount) + x.blocked) ≤ most_amount + (d.free to.holder y + d.blocked to.holder y)) (sym same)
    (pay-room b d from.holder from.asset c.args.amount to.holder c.in_ok-from.from x (account_is from) had.0 c.put.ensures
    (c.balance-to.ensures ∙ ap (balance_of d to.holder) same) had.1 (g.met.A.Accounts.bounded c.args.self.now.accounts))

pub returns-clause-after : goal.returns-clause-after
returns-clause-after g c =
    let b = g.A.Accounts.book c.args.self.now.accounts in
    let d = g.A.Accounts.book c.put.new.self in
    let from = c.in_ok-payer.payer in
    let to = c.in_ok-payee.payee in
    let same : to.asset ≡ from.asset = c.in_ok-payee.ensures.1 ∙ sym c.in_ok-payer.ensures.1 in
    let had = had-blocked b from.holder from.asset c.args.amount c.in_ok-from.from _ c.in_ok-from.ensures in
    let x = c.balance-to.result in
    c.put-2.ensures ∙ ap (λ y. with_balance d to.holder y (record { free = x.free + c.args.amount; blocked = x.blocked })) same ∙
    (pay-made b d from.holder from.asset c.args.amount to.holder c.in_ok-from.from x (account_is from) (account_is to).holder had.0 c.put.ensures
    (c.balance-to.ensures ∙ ap (balance_of d to.holder) same) had.1).after ∙
    ap (λ p. after_move b (Pay from.holder from.asset c.args.amount p)) c.in_ok-payee.ensures.0 ∙
    moved_at (λ h a. after_move b (Pay h a c.args.amount c.args.payee)) c.in_ok-payer.ensures.0 c.in_ok-payer.ensures.1
