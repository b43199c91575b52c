-- The text of a queue's refusal.
use Rattle.std.specs.Prelude.{ℕ, List, codes}

abbrev pub full_text : List ℕ
full_text = codes "the queue is full"
