use Rattle.std.proofs.Common.{◌≡◌, Option, length, unwrap_or, ap, ◌∙◌, rules, tests}
use Rattle.std.specs.List.{position}
use Rattle.std.proofs.lemmas.Iterator.{YieldsList-from_slice}
use Rattle.std.proofs.lemmas.Iterator.Search.{position_from_yields_List}
use Rattle.ranking.proofs.Places.{position-or-end}
use Rattle.ranking.proofs.lists.place.Goals as goal

pub returns-clause-place : goal.returns-clause-place
returns-clause-place g c =
    let test = g.K.Ranking.before c.args.item.now in
    let xs = c.args.slots.now in
    let found : c.position.result ≡ position test xs = position_from_yields_List test _ _ _ c.position.ensures.ran (YieldsList-from_slice xs cc) (λ x b q k. search (rules, tests)) in
    let or_end : c.unwrap_or.result ≡ unwrap_or c.position.result (length xs) = search rules in
    or_end ∙ ap (λ (o : Option _). unwrap_or o (length xs)) found ∙ position-or-end test xs
