use Rattle.std.proofs.Common.{ℕ, ◌+◌, ◌≤◌, length, take, set, sym, refl, ap, ◌∙◌, subst, arith}
use Rattle.std.proofs.lemmas.List.{length-take-le}
use Rattle.std.proofs.lemmas.List.{get_or_default}
use Rattle.floor.specs.Floors.{seen}
use Rattle.floor.proofs.Listed.{Going, going_start, going-made, tape-left, gone, ran-lawful}
use Rattle.floor.proofs.runner.resume.Goals as goal

pub loop-i-init : goal.loop-i-init
loop-i-init g c =
    let a = c.args in
    (going_start (g.M.MarketRule.means a.floor.now.state.rule) (seen g.R.Register.means a.floor.now.state) (take c.min-limit.result a.calls.now) a.answers.now a.tape.now, refl)

pub lend_call-answer-requires : goal.lend_call-answer-requires
lend_call-answer-requires g c =
    let l = c.loop-i in
    omega (arith, l.invariant.0.within, l.auto.tape)

pub overflow_add-used : goal.overflow_add-used
overflow_add-used g c =
    let l = c.loop-i in
    let e = c.lend_call-answer in
    let n = tape-left g.R.Register.means g.M.MarketRule.means _ l.used l.floor.state e.new.floor.state l.tape e.new.tape e.result e.ensures in
    omega (arith, c.count_of-used.ensures, n)

pub loop-i-preserved : goal.loop-i-preserved
loop-i-preserved g c =
    let a = c.args in
    let l = c.loop-i in
    let m = g.M.MarketRule.means in
    let k = g.R.Register.means in
    let limit = c.min-limit.result in
    let short : limit ≤ length a.calls.now = omega (arith, c.min-limit.ensures) in
    let n = length-take-le limit a.calls.now short in
    let e = c.lend_call-answer in
    let next = going-made k m _ l.used l.floor.state e.new.floor.state l.tape e.new.tape e.result e.ensures (m a.floor.now.state.rule) (ap m l.invariant.1) (seen k a.floor.now.state) (take limit a.calls.now) a.answers.now l.answers a.tape.now l.i l.invariant.0 l.auto.tape (get_or_default (take limit a.calls.now) l.i _ _ c.loop-i-test.true) (omega arith) (omega (arith, c.min-limit.ensures, l.auto.answers)) in (
      subst (λ (i : ℕ). Going (m a.floor.now.state.rule) (seen k a.floor.now.state) (take limit a.calls.now) a.answers.now a.tape.now (l.i + 1) (l.used + i) (seen k e.new.floor.state) (set l.answers l.i e.result) e.new.tape) (sym c.count_of-used.ensures) next,
      e.ensures.kept ∙ l.invariant.1,
    )

pub returns : goal.returns
returns g c =
    let a = c.args in
    let l = c.loop-i in
    let m = g.M.MarketRule.means in
    let k = g.R.Register.means in
    let cs = take c.min-limit.result a.calls.now in
    let n = length-take-le c.min-limit.result a.calls.now (omega (arith, c.min-limit.ensures)) in
    let ran = gone (m a.floor.now.state.rule) (seen k a.floor.now.state) cs a.answers.now a.tape.now l.i l.used (seen k l.floor.state) l.answers l.tape l.invariant.0 l.auto.tape (omega arith) (omega (arith, c.min-limit.ensures)) (omega arith) in
    record {
      made = c.min-limit.ensures;
      ran = ran;
      rule = l.invariant.1;
      law = λ y t. ran-lawful (m a.floor.now.state.rule) (g.met.M.MarketRule.lawful a.floor.now.state.rule) (seen k a.floor.now.state) (seen k l.floor.state) cs a.answers.now l.answers a.tape.now l.tape y ran t;
    }
