use Rattle.std.proofs.Common.{arith}
use Rattle.std.proofs.lemmas.List.{length-take-le}
use Rattle.queues.specs.Entries.{entries}
use Rattle.queues.proofs.Named.{first_taken}
use Rattle.queues.proofs.queue.Queue.pop.Goals as goal

pub returns-else-self-eq0 : goal.returns-else-self-eq0
returns-else-self-eq0 c =
    let q = c.args.self.now in
    let l = length-take-le q.len q.bids (omega arith) in
    record { taken = first_taken (entries q) c.remove.result (omega arith) c.remove.ensures.taken; left = c.remove.ensures.left }
