use Rattle.std.proofs.Common.{◌≡◌, take}
use Rattle.floor.specs.Floors.{seen}
use Rattle.floor.proofs.Listed.{Going}
use Rattle.floor.proofs.runner.resume.Given as goal

abbrev pub invariant-loop-i : goal.invariant-loop-i
invariant-loop-i g l =
    let k = g.R.Register.means in
    let m = g.M.MarketRule.means in
    Going (m l.initial.floor.state.rule) (seen k l.initial.floor.state) (take l.limit l.calls) l.initial.answers l.initial.tape l.i l.used (seen k l.floor.state) l.answers l.tape
    × (l.floor.state.rule ≡ l.initial.floor.state.rule)
