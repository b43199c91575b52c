use Rattle.std.proofs.Common.{arith, rules}
use Rattle.queues.proofs.Filed.{blank-filed}
use Rattle.floor.proofs.desk.Desk.closed.Goals as goal

pub returns : goal.returns
returns c =
    let made = c.from_fn.ensures.items in
    let blank = blank-filed c.from_fn.result (λ i d h. let k = made.at i d (omega (arith, h, made.long)) in search rules) in
    λ book. search rules
