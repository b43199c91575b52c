use Rattle.std.proofs.Common.{◌≡◌, map, length}
use Rattle.model.specs.Movements.{Granted, moved_all}
use Rattle.queues.specs.Entries.{entries}
use Rattle.matching.specs.Closings.{freeing_by}
use Rattle.matching.proofs.closing.void_queue.Given as goal

-- what is left of the queue is still to be released
abbrev pub invariant-loop-bid : goal.invariant-loop-bid
invariant-loop-bid g l =
    let k = g.R.Register.means in
    Granted (map (freeing_by l.side l.asset) (entries l.queue)) (k l.register)
    × (moved_all (map (freeing_by l.side l.asset) (entries l.queue)) (k l.register) ≡ moved_all (map (freeing_by l.side l.asset) (entries l.initial.queue)) (k l.initial.register))

abbrev pub decreases-loop-bid : goal.decreases-loop-bid
decreases-loop-bid g l = length (entries l.queue)
