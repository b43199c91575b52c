use Rattle.std.proofs.Common.{◌≡◌, ℕ, List, ◌++◌, Some, drop, string_bytes}
use Rattle.host.specs.Answering.{told_each}
use Rattle.host.proofs.texts.add_lines.Given as goal

abbrev pub invariant-loop-item : goal.invariant-loop-item
invariant-loop-item g l =
    (line : g.row.L.Denot → List ℕ) → ((x : g.row.L.Denot) → g.L.Display.output x ≡ Some (line x)) →
    string_bytes l.text ++ told_each line (drop l.item-index l.items) ≡ string_bytes l.initial.text ++ told_each line l.items
