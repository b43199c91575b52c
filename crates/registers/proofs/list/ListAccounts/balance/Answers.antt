use Rattle.std.proofs.Common.{◌≡◌, sym, ap, ◌∙◌, get_or, rules}
use Rattle.registers.specs.declared.entries.Entry.{Entry}
use Rattle.registers.specs.Lists.{no_entry}
use Rattle.registers.specs.Tables.{nothing}
use Rattle.registers.proofs.Listed.{of_entry, read_found, read-absent}
use Rattle.registers.proofs.Kept.{kept-apart}
use Rattle.registers.proofs.list.ListAccounts.balance.Goals as goal

pub returns-in-Some : goal.returns-in-Some
returns-in-Some c =
    let t = c.args.self.now in
    let xs = t.entries.items in
    let e : Entry = record { holder = c.args.account.holder; asset = c.args.account.asset; balance = nothing } in
    let read : get_or c.deref.result.now c.in-Some.at no_entry ≡ get_or xs c.in-Some.at no_entry = search rules in
    ap of_entry read ∙ sym (read_found xs e (kept-apart t) c.in-Some.at (sym c.in-Some.ensures))

pub returns-in-None : goal.returns-in-None
returns-in-None c =
    let e : Entry = record { holder = c.args.account.holder; asset = c.args.account.asset; balance = nothing } in
    let none : c.default.result ≡ nothing = search rules in
    none ∙ sym (read-absent c.args.self.now.entries.items e (sym c.in-None.ensures))
