use Rattle.std.proofs.Common.{◌∙◌, length-set}
use Rattle.registers.proofs.Tabled.{bounded-set, book-set}
use Rattle.registers.proofs.table.TableAccounts.put.Goals as goal

pub invariant_of-self : goal.invariant_of-self
invariant_of-self c =
    let t = c.args.self.now in
    record {
      sized = length-set t.balances _ c.args.balance ∙ t.sized;
      bounded = bounded-set t.balances _ c.args.account.holder c.args.account.asset c.args.balance t.sized c.place-at.ensures c.args.account.holder_known c.args.account.asset_known t.bounded c.requires;
    }

pub returns : goal.returns
returns c =
    let t = c.args.self.now in
    book-set t.balances _ c.args.account.holder c.args.account.asset c.args.balance t.sized c.place-at.ensures c.args.account.holder_known c.args.account.asset_known
