use Rattle.std.proofs.Common.{◌≡◌, ◌*◌, List, ap, ◌∙◌, rules}
use Rattle.register.specs.Moves.{Move}
use Rattle.model.specs.Movements.{moved_all}
use Rattle.matching.proofs.Dealt.{theirs_of, mine-is, rest-is, exchange-is, payable}
use Rattle.matching.proofs.meeting.settle_with.Goals as goal

pub settle_by-requires : goal.settle_by-requires
settle_by-requires g c =
    let a = c.args in
    let k = g.R.Register.means a.register.now in
    let mine = mine-is a.newcomer.now a.maker a.lots k a.slip.now c.cut_off-mine.result c.used.result c.requires c.used.ensures c.cut_off-mine.ensures.part in
    let theirs : c.slip_of-theirs.result ≡ theirs_of a.newcomer.now a.maker a.lots = search rules in
    let worth : c.from.result * c.from-2.result ≡ a.maker.price * a.lots = search rules in
    payable a.newcomer.now a.maker a.lots k a.slip.now _ _ _ c.requires mine theirs worth

pub returns : goal.returns
returns g c =
    let a = c.args in
    let k = g.R.Register.means a.register.now in
    let mine = mine-is a.newcomer.now a.maker a.lots k a.slip.now c.cut_off-mine.result c.used.result c.requires c.used.ensures c.cut_off-mine.ensures.part in
    let theirs : c.slip_of-theirs.result ≡ theirs_of a.newcomer.now a.maker a.lots = search rules in
    let worth : c.from.result * c.from-2.result ≡ a.maker.price * a.lots = search rules in
    record {
      book = c.settle_by.ensures ∙ ap (λ (ms : List Move). moved_all ms k) (exchange-is a.newcomer.now a.maker a.lots _ _ _ mine theirs worth);
      slip = rest-is a.newcomer.now a.maker a.lots k a.slip.now c.cut_off-mine.new.self c.used.result c.requires c.used.ensures c.cut_off-mine.ensures.rest;
    }
