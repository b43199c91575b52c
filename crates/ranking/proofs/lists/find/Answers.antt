use Rattle.std.proofs.Common.{◌∙◌, rules, tests}
use Rattle.std.proofs.lemmas.Iterator.{YieldsList-from_slice}
use Rattle.std.proofs.lemmas.Iterator.Search.{position_from_yields_List}
use Rattle.ranking.specs.Ranks.{ties}
use Rattle.ranking.proofs.Places.{position-first}
use Rattle.ranking.proofs.lists.find.Goals as goal

pub returns : goal.returns
returns g c =
    let test = ties g.K.Ranking.before c.args.item.now in
    let xs = c.args.slots.now in
    position_from_yields_List test _ _ _ c.position.ensures.ran (YieldsList-from_slice xs cc) (λ x b q k. search (rules, tests)) ∙ position-first test xs
