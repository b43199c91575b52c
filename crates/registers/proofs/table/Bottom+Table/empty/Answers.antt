use Rattle.std.proofs.Common.{◌≡◌, replicate, sym, ap, ◌∙◌, subst, refl, rules}
use Rattle.registers.specs.Tables.{nothing, table_book, Bounded}
use Rattle.registers.proofs.Tabled.{empty-table, empty-bounded}
use Rattle.registers.proofs.table.Bottom+Table.empty.Goals as goal

pub invariant_of-over : goal.invariant_of-over
invariant_of-over c =
    let none : c.default.result ≡ nothing = search rules in
    record { sized = refl; bounded = subst (λ y. Bounded (replicate 192 y)) (sym none) (empty-bounded 192) }

pub returns : goal.returns
returns c =
    let none : c.default.result ≡ nothing = search rules in
    ap (λ s. table_book s.accounts.balances) c.over.ensures ∙ ap (λ y. table_book (replicate 192 y)) none ∙ empty-table 192
