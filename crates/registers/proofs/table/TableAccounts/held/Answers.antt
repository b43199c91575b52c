use Rattle.std.proofs.Common.{sym, refl, ◌∙◌, rules}
use Rattle.std.specs.List.{range_with_len}
use Rattle.std.proofs.lemmas.Iterator.{YieldsList-from_range, YieldsList-from_map}
use Rattle.std.proofs.lemmas.Iterator.Consumers.{YieldsList-at, sum_by_from_yields_List, fits_by_from_yields_list}
use Rattle.std.proofs.lemmas.Iterator.Adapters.{serves_from_places}
use Rattle.registers.proofs.Tabled.{held_by, held-total, held-fits, each-holder}
use Rattle.registers.proofs.table.TableAccounts.held.Goals as goal

pub sum-requires-clause-can : goal.sum-requires-clause-can
sum-requires-clause-can c =
    let t = c.args.self.now in
    let a = c.args.asset in
    (tt, serves_from_places (YieldsList-at c.map.ensures.source (YieldsList-from_range 0 16 16 refl refl)) (λ x q k. search rules) (λ x k l at. let w = each-holder t.balances a c.requires t.bounded k x l at in search rules))

pub sum-requires-clause-fits : goal.sum-requires-clause-fits
sum-requires-clause-fits c =
    let t = c.args.self.now in
    let a = c.args.asset in
    fits_by_from_yields_list (held_by t.balances a) (range_with_len 0 16) c.map.result _ (YieldsList-from_map _ (held_by t.balances a) (YieldsList-at c.map.ensures.source (YieldsList-from_range 0 16 16 refl refl)) c.map.ensures.closure (λ x r q k. search rules)) (held-fits t.balances a c.requires t.bounded)

pub returns : goal.returns
returns c =
    let t = c.args.self.now in
    let a = c.args.asset in
    sum_by_from_yields_List (held_by t.balances a) (range_with_len 0 16) c.map.result _ c.sum.ensures.ran (YieldsList-from_map _ (held_by t.balances a) (YieldsList-at c.map.ensures.source (YieldsList-from_range 0 16 16 refl refl)) c.map.ensures.closure (λ x r q k. search rules)) ∙ sym (held-total t.balances a)
