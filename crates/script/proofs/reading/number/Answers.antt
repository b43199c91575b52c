use Rattle.std.proofs.Common.{◌≡◌, ℕ, ◌+◌, ◌-◌, ◌*◌, get_or, drop, sym, subst, arith}
use Rattle.script.specs.Reading.{value}
use Rattle.script.proofs.Digits.{value-more, too_large, just}
use Rattle.script.proofs.reading.number.Goals as goal

pub returns-then-next-from : goal.returns-then-next-from
returns-then-next-from c =
    too_large c.args.word.now c.loop-byte.total c.loop-byte.byte-index c.loop-byte.invariant.0 c.args.most c.loop-byte-test.true (sym c.if-not-is_number.ensures)
    (omega (arith, c.from.ensures, c.from-in-loop-byte.ensures, c.from-in-loop-byte-2.ensures, c.saturating_sub.ensures, c.if-next-from.true))

pub loop-byte-preserved : goal.loop-byte-preserved
loop-byte-preserved c =
    let n = c.loop-byte.total in
    let i = c.loop-byte.byte-index in
    let w = c.args.word.now in
    let e : 10 * n + (get_or w i 0 - 48) ≡ 10 * c.from.result + c.from-in-loop-byte.result = omega (arith, c.from.ensures, c.from-in-loop-byte.ensures, c.saturating_sub.ensures) in (
      subst (λ (m : ℕ). value m (drop (i + 1) w) ≡ value 0 w) e (value-more w n i c.loop-byte.invariant.0 c.loop-byte-test.true),
      omega (arith, c.from-in-loop-byte-2.ensures, c.if-next-from.false),
    )

pub returns : goal.returns
returns c = just c.args.word.now c.loop-byte.total c.loop-byte.byte-index c.loop-byte.invariant.0 c.args.most c.loop-byte-test.false (sym c.if-not-is_number.ensures) c.loop-byte.invariant.1
