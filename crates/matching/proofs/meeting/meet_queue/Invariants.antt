use Rattle.std.proofs.Common.{◌≡◌, ◌+◌, ◌≤◌, length, take, drop}
use Rattle.queues.specs.Entries.{entries}
use Rattle.matching.specs.Dealing.{met_by}
use Rattle.matching.proofs.Turns.{Turn}
use Rattle.matching.proofs.meeting.meet_queue.Given as goal

abbrev pub invariant-loop-trade : goal.invariant-loop-trade
invariant-loop-trade g l =
    let k = g.R.Register.means in
    Turn l.newcomer (entries l.initial.queue) (entries l.queue) (k l.initial.register) (k l.register) l.slip l.left (take l.count l.strip)
    × (drop l.count l.strip ≡ drop l.count l.initial.strip)
    × (l.count + length (met_by l.newcomer l.left (entries l.queue)).deals ≤ length l.strip)

abbrev pub decreases-loop-trade : goal.decreases-loop-trade
decreases-loop-trade g l = length (met_by l.newcomer l.left (entries l.queue)).deals
