use Rattle.std.proofs.Common.{◌+◌, ◌<◌, length, ap, ◌∙◌, arith, rules}
use Rattle.auction.proofs.Reaching.{lots-none, lots-first}
use Rattle.auction.proofs.volumes.+lots_to.Goals as goal

pub returns-then-is_empty : goal.returns-then-is_empty
returns-then-is_empty t c = record { lots = lots-none c.args.bids.now c.args.place (search rules); within = search rules }

pub returns : goal.returns
returns t c =
    let some : 0 < length c.args.bids.now = search rules in
    record { lots = ap (λ n. n + c.lots_to.result) c.from.ensures ∙ lots-first c.args.bids.now _ c.args.place c.lots_to.result (omega arith) some c.lots_to.ensures.lots; within = search rules }
