use Rattle.std.proofs.Common.{string_bytes, refl}
use Rattle.std.proofs.lemmas.Result.{IfOk-weaker}
use Rattle.model.specs.Texts.{trade_line}
use Rattle.floor.specs.Floors.{seen}
use Rattle.host.proofs.Lending.{call-told}
use Rattle.host.proofs.calls.tell_call.Goals as goal

pub returns : goal.returns
returns g c =
    let a = c.args in
    let m = c.make_call-answer in
    record {
      text = IfOk-weaker c.add_lines.result _ _
          (λ u e. call-told (g.M.MarketRule.means a.floor.now.state.rule) (seen g.R.Register.means a.floor.now.state) a.call m.result.0 m.result.1 m.new.tape.records
          (string_bytes a.text.now) (string_bytes c.writeln.new.self) _ m.ensures.answer m.ensures.trades c.in_ok-writeln.ensures.bytes e)
          (c.add_lines.ensures trade_line (λ x. refl));
      leaves = record { world = m.ensures.leaves.world; rule = m.ensures.leaves.rule };
    }
