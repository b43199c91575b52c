use Rattle.std.proofs.Common.{◌-◌, ◌<◌, List, length, take, sym, refl, subst, arith, length-set}
use Rattle.std.proofs.lemmas.List.{take_more_set}
use Rattle.model.specs.declared.words.Trade.{Trade}
use Rattle.queues.specs.Entries.{entries}
use Rattle.matching.proofs.Turns.{Turn, turn-start, turned, swept, few, behind_more}
use Rattle.matching.proofs.meeting.meet_queue.Goals as goal

pub loop-trade-init : goal.loop-trade-init
loop-trade-init g c =
    let a = c.args in
    let f = few a.newcomer.now a.newcomer.now.bid.lots (entries a.queue.now) in
    (turn-start a.newcomer.now (entries a.queue.now) (g.R.Register.means a.register.now) a.slip.now c.requires.ready, refl, omega (arith, f, c.requires.room))

pub bounds-strip-count : goal.bounds-strip-count
bounds-strip-count g c =
    let a = c.args in
    let l = c.loop-trade in
    let k = g.R.Register.means in
    let o = c.in-Some.ensures in
    let t = turned a.newcomer.now (entries a.queue.now) (entries l.queue) (entries c.meet_first.new.queue) (k a.register.now) (k l.register) (k c.meet_first.new.register) l.slip c.meet_first.new.slip l.left (take l.count l.strip) c.in-Some.trade l.invariant.0 o.answer o.book o.queue o.slip in
    omega (arith, t.fewer, l.invariant.2)

pub loop-trade-smaller : goal.loop-trade-smaller
loop-trade-smaller g c =
    let a = c.args in
    let l = c.loop-trade in
    let k = g.R.Register.means in
    let o = c.in-Some.ensures in
    let t = turned a.newcomer.now (entries a.queue.now) (entries l.queue) (entries c.meet_first.new.queue) (k a.register.now) (k l.register) (k c.meet_first.new.register) l.slip c.meet_first.new.slip l.left (take l.count l.strip) c.in-Some.trade l.invariant.0 o.answer o.book o.queue o.slip in
    omega (arith, t.fewer)

pub loop-trade-preserved : goal.loop-trade-preserved
loop-trade-preserved g c =
    let a = c.args in
    let l = c.loop-trade in
    let k = g.R.Register.means in
    let o = c.in-Some.ensures in
    let t = turned a.newcomer.now (entries a.queue.now) (entries l.queue) (entries c.meet_first.new.queue) (k a.register.now) (k l.register) (k c.meet_first.new.register) l.slip c.meet_first.new.slip l.left (take l.count l.strip) c.in-Some.trade l.invariant.0 o.answer o.book o.queue o.slip in
    let room : l.count < length l.strip = omega (arith, t.fewer, l.invariant.2) in
    let done = take_more_set l.strip l.count c.in-Some.trade room in
    let len = length-set l.strip l.count c.in-Some.trade in (
      subst (λ (ts : List Trade). Turn a.newcomer.now (entries a.queue.now) (entries c.meet_first.new.queue) (k a.register.now) (k c.meet_first.new.register) c.meet_first.new.slip (l.left - c.in-Some.trade.lots) ts) (sym done) t.turn,
      behind_more l.strip a.strip.now l.count c.in-Some.trade l.invariant.1,
      omega (arith, t.fewer, l.invariant.2),
    )

pub returns : goal.returns
returns g c =
    let a = c.args in
    let l = c.loop-trade in
    let k = g.R.Register.means in
    let o = c.in_default.ensures in
    swept a.newcomer.now (entries a.queue.now) (entries l.queue) (entries c.meet_first.new.queue) (k a.register.now) (k l.register) (k c.meet_first.new.register) l.slip c.meet_first.new.slip l.left l.count a.strip.now l.strip l.invariant.0 l.invariant.1 (omega (arith, l.invariant.2)) o.answer o.book o.queue o.slip
