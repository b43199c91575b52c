use Rattle.std.proofs.Common.{filter, sym, ◌∙◌, rules, tests, of_calls}
use Rattle.std.proofs.lemmas.Iterator.{YieldsList-from_slice, YieldsList-from_map}
use Rattle.std.proofs.lemmas.Iterator.Consumers.{YieldsList-at, YieldsList-from_filter, sum_by_from_yields_List, fits_by_from_yields_list}
use Rattle.std.proofs.lemmas.Iterator.Adapters.{serves_from_places}
use Rattle.registers.proofs.Holdings.{whole, of_asset}
use Rattle.registers.proofs.Kept.{kept, total-filtered, filtered-within, filtered-each}
use Rattle.registers.proofs.list.ListAccounts.held.Goals as goal

pub sum-requires-clause-can : goal.sum-requires-clause-can
sum-requires-clause-can c =
    let t = c.args.self.now in
    let a = c.args.asset in (
      (tt, tt, search of_calls),
      serves_from_places (YieldsList-at c.map.ensures.source (YieldsList-from_filter _ (of_asset a) (YieldsList-at c.filter.ensures.source (YieldsList-from_slice t.entries.items cc)) c.filter.ensures.closure (λ x b q k. search (rules, tests)))) (λ x q k. search rules) (λ x k l at. let w = filtered-each t.entries.items a (kept t) c.requires k x.now l at in search rules),
    )

pub sum-requires-clause-fits : goal.sum-requires-clause-fits
sum-requires-clause-fits c =
    let t = c.args.self.now in
    let a = c.args.asset in
    fits_by_from_yields_list whole (filter (of_asset a) t.entries.items) c.map.result _ (YieldsList-from_map _ whole (YieldsList-at c.map.ensures.source (YieldsList-from_filter _ (of_asset a) (YieldsList-at c.filter.ensures.source (YieldsList-from_slice t.entries.items cc)) c.filter.ensures.closure (λ x b q k. search (rules, tests)))) c.map.ensures.closure (λ x r q k. search rules)) (filtered-within t.entries.items a (kept t) c.requires)

pub returns : goal.returns
returns c =
    let t = c.args.self.now in
    let a = c.args.asset in
    sum_by_from_yields_List whole (filter (of_asset a) t.entries.items) c.map.result _ c.sum.ensures.ran (YieldsList-from_map _ whole (YieldsList-at c.map.ensures.source (YieldsList-from_filter _ (of_asset a) (YieldsList-at c.filter.ensures.source (YieldsList-from_slice t.entries.items cc)) c.filter.ensures.closure (λ x b q k. search (rules, tests)))) c.map.ensures.closure (λ x r q k. search rules)) ∙ sym (total-filtered t.entries.items a (kept t))
