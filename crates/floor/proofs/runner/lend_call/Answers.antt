use Rattle.std.proofs.Common.{◌≡◌, ℕ, ◌+◌, ◌-◌, min, length, ap, ◌∙◌, arith}
use Rattle.model.specs.SoundLaws.{room_of_lem}
use Rattle.floor.proofs.Running.{lent-made}
use Rattle.floor.proofs.runner.lend_call.Goals as goal

pub returns : goal.returns
returns g c =
    let a = c.args in
    let k : (a.used + c.min.result) - a.used ≡ min (room_of_lem a.call) (length a.tape.now - a.used) =
    omega (arith, c.min.ensures ∙ ap (λ (n : ℕ). min n (length a.tape.now - a.used)) c.room_of.ensures) in
    lent-made g.R.Register.means g.M.MarketRule.means a.call a.floor.now.state c.make_call.new.floor.state a.tape.now c.make_call.new.strip a.used ((a.used + c.min.result) - a.used) c.make_call.result (g.met.M.MarketRule.lawful a.floor.now.state.rule) a.floor.now.sound c.requires k c.make_call.ensures
