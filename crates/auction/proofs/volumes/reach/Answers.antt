use Rattle.std.proofs.Common.{◌≡◌, Option, not, length, unwrap_or, ap, ◌∙◌, rules, tests}
use Rattle.std.specs.List.{position}
use Rattle.std.proofs.lemmas.Iterator.{YieldsList-from_slice}
use Rattle.std.proofs.lemmas.Iterator.Search.{position_from_yields_List}
use Rattle.model.specs.declared.words.Standing.{Standing}
use Rattle.ranking.proofs.Places.{position-or-end}
use Rattle.auction.specs.Volumes.{reaches_at}
use Rattle.auction.proofs.volumes.reach.Goals as goal

pub returns-clause-place : goal.returns-clause-place
returns-clause-place c =
    let test = λ (x : Standing). not (reaches_at c.args.side c.args.price x) in
    let xs = c.args.bids.now in
    let found : c.position-end.result ≡ position test xs = position_from_yields_List test _ _ _ c.position-end.ensures.ran (YieldsList-from_slice xs cc) (λ x b q k. search (rules, tests)) in
    let or_end : c.unwrap_or.result ≡ unwrap_or c.position-end.result (length xs) = search rules in
    or_end ∙ ap (λ (o : Option _). unwrap_or o (length xs)) found ∙ position-or-end test xs
