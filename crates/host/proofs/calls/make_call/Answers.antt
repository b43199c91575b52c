use Rattle.std.proofs.Common.{take, ap, ◌∙◌, arith}
use Rattle.floor.specs.Floors.{seen}
use Rattle.host.proofs.Lending.{called}
use Rattle.host.proofs.calls.make_call.Goals as goal

pub returns : goal.returns
returns g c =
    let a = c.args in
    let e = c.resume in
    let m =
    called (g.M.MarketRule.means a.floor.now.state.rule) (seen g.R.Register.means a.floor.now.state) a.call e.result (seen g.R.Register.means e.new.floor.state)
    e.new.answers a.tape.now.records e.new.tape (omega (arith, a.tape.now.long)) e.ensures.made e.ensures.ran in
    record {
      answer = m.answers;
      count = omega (arith, c.count_of.ensures, m.count);
      trades = ap (λ i. take i e.new.tape) c.count_of.ensures ∙ m.traded;
      leaves = record { world = m.world; rule = e.ensures.rule };
    }
