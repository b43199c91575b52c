use Rattle.std.proofs.Common.{◌-◌, ◌<◌, ◌≤◌, Option, sym, ap, arith}
use Rattle.register.specs.declared.faults.RegisterFault.{RegisterFault}
use Rattle.register.specs.Moves.{granted}
use Rattle.layers.specs.Layers.{cap_for}
use Rattle.layers.proofs.Capping.{was_read, own-refusal}
use Rattle.layers.proofs.caps.CapLayerRegister.block.Goals as goal

pub returns-then-amount-free-clause-answer : goal.returns-then-amount-free-clause-answer
returns-then-amount-free-clause-answer g c =
    let s = c.args.self.now in
    let x = c.in_ok-account.account in
    let n = c.args.amount in
    let b = g.R.Register.means s.below in
    let read = was_read b c.args.holder c.args.asset x c.in_ok-account.ensures in
    let over : cap_for s.caps c.args.asset - x.blocked < n = omega (arith, c.saturating_sub-room.ensures) in
    let covered : n ≤ x.free = omega arith in
    let refused = own-refusal s.caps b c.args.holder c.args.asset n x read (g.met.R.Register.bounded s.below) over covered in
    ap (λ (r : Option RegisterFault). granted r (record { holder = c.args.holder; asset = c.args.asset; amount = n })) (sym refused)
