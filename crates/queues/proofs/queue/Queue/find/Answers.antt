use Rattle.queues.specs.Entries.{entries}
use Rattle.std.proofs.Common.{◌∙◌, rules, tests, arith}
use Rattle.std.proofs.lemmas.Grind.{common_steps}
use Rattle.std.proofs.lemmas.Iterator.{YieldsList-from_slice}
use Rattle.std.proofs.lemmas.Iterator.Search.{position_from_yields_List}
use Rattle.model.specs.Queues.{named}
use Rattle.ranking.proofs.Places.{position-first}
use Rattle.queues.proofs.queue.Queue.find.Goals as goal

pub returns : goal.returns
returns c =
    let test = named c.args.holder c.args.number in
    let xs = entries c.args.self.now in
    let looked = YieldsList-from_slice xs (c.iter.ensures.rest ∙ grind (arith, common_steps, c.bids.ensures)) in
    position_from_yields_List test _ _ _ c.position.ensures.ran looked (λ x b q k. search (rules, tests)) ∙ position-first test xs
