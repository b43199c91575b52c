use Rattle.std.proofs.Common.{sym, subst, rules}
use Rattle.registers.proofs.Kept.{Sound, empty-sound, sound-fits}
use Rattle.registers.proofs.list.Bottom+List.empty.Goals as goal

pub invariant_of-over : goal.invariant_of-over
invariant_of-over c =
    let s = subst Sound (sym (search rules)) empty-sound in
    record { within = sound-fits _ s; ranked = s.ranked; apart = s.apart; known = s.known; filled = s.filled; bounded = s.bounded }
