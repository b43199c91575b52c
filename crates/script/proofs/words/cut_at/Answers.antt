use Rattle.std.proofs.Common.{rules}
use Rattle.script.specs.Lines.{other_than}
use Rattle.script.proofs.Cut.{cut-sign}
use Rattle.script.proofs.words.cut_at.Goals as goal

pub returns : goal.returns
returns c =
    cut-sign c.args.sign c.args.word.now _ (c.run_length.ensures.run (other_than c.args.sign) (λ b r e. search (rules, e))) _ _ c.split_at.ensures.front c.split_at.ensures.back
    c.in_default-len1-up.len_at_least
