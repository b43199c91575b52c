use Rattle.queues.specs.Entries.{entries}
use Rattle.std.proofs.Common.{◌∙◌, rules, tests}
use Rattle.std.proofs.lemmas.Iterator.{YieldsList-from_slice}
use Rattle.std.proofs.lemmas.Iterator.Search.{any_from_yields_List}
use Rattle.queues.proofs.Heads.{list_any-any_of, of_holder}
use Rattle.queues.proofs.queue.Queue.has_holder.Goals as goal

pub returns : goal.returns
returns c =
    let test = of_holder c.args.holder in
    let xs = entries c.args.self.now in
    any_from_yields_List test _ _ _ c.any.ensures.ran (YieldsList-from_slice xs cc) (λ x b q k. search (rules, tests)) ∙ list_any-any_of test xs
