use Rattle.std.proofs.Common.{◌≡◌, ◌≤◌, drop}
use Rattle.script.specs.Reading.{value}
use Rattle.script.proofs.reading.number.Given as goal

abbrev pub invariant-loop-byte : goal.invariant-loop-byte
invariant-loop-byte l = (value l.total (drop l.byte-index l.word) ≡ value 0 l.word) × (l.total ≤ l.most)
