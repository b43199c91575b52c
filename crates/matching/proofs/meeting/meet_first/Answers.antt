use Rattle.std.proofs.Common.{sym}
use Rattle.queues.specs.Entries.{entries}
use Rattle.matching.proofs.Turns.{settles}
use Rattle.matching.proofs.meeting.meet_first.Goals as goal

pub settle_with-requires : goal.settle_with-requires
settle_with-requires g c =
    let a = c.args in
    settles a.newcomer.now a.left c.min-lots.result (entries a.queue.now) (g.R.Register.means a.register.now) a.slip.now c.in_ok-maker.maker c.requires c.in_ok-maker.ensures (sym c.if-not-is_met.ensures) c.min-lots.ensures
