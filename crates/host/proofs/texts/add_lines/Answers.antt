use Rattle.std.proofs.Common.{refl}
use Rattle.host.proofs.Growing.{shown-line, each_more, each_all}
use Rattle.host.proofs.texts.add_lines.Goals as goal

pub loop-item-init : goal.loop-item-init
loop-item-init g c = λ line tells. refl

pub loop-item-preserved : goal.loop-item-preserved
loop-item-preserved g c = λ line tells.
    each_more line c.args.items.now _ _ c.loop-item.item-index (c.loop-item.invariant line tells) c.item-item.result _ c.loop-item-test.true
    (shown-line _ _ line _ _ _ tells c.item-item.is c.in_ok-writeln.ensures.bytes)

pub returns : goal.returns
returns g c = λ line tells. each_all line c.args.items.now _ _ c.loop-item.item-index (c.loop-item.invariant line tells) c.loop-item-test.false
