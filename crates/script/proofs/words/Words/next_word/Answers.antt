use Rattle.std.proofs.Common.{sym, ◌∙◌, arith, rules, true-eqb, false-eqb}
use Rattle.script.specs.Lines.{blank}
use Rattle.script.proofs.Cut.{word, cut-none, cut-some}
use Rattle.script.proofs.words.Words.next_word.Goals as goal

pub returns-then-is_empty : goal.returns-then-is_empty
returns-then-is_empty c =
    sym c.self.view_is
    ∙ cut-none c.self.inside.rest.now _ _ (c.run_length.ensures.run blank (λ b r e. e)) (c.run_length-2.ensures.run word (λ b r e. search (rules, e)))
    (omega (arith, c.split_at.ensures.front_len, true-eqb _ 0 c.if-is_empty.ensures))

pub returns : goal.returns
returns c =
    sym c.self.view_is
    ∙ cut-some c.self.inside.rest.now _ _ (c.run_length.ensures.run blank (λ b r e. e)) (c.run_length-2.ensures.run word (λ b r e. search (rules, e))) _ _ c.split_at.ensures.front c.split_at.ensures.back
    (omega (arith, c.split_at.ensures.front_len, false-eqb _ 0 c.if-is_empty.ensures))
