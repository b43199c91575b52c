use Rattle.std.proofs.Common.{not, rules, tests}
use Rattle.std.proofs.lemmas.Iterator.{YieldsList-from_slice}
use Rattle.std.proofs.lemmas.Iterator.Search.{position_from_yields_List}
use Rattle.script.proofs.Cut.{run_found}
use Rattle.script.proofs.words.run_length.Goals as goal

pub returns-clause-run : goal.returns-clause-run
returns-clause-run g c p h =
    run_found p c.args.text.now _ _
    (position_from_yields_List (λ b. not (p b)) _ _ c.position.result c.position.ensures.ran (YieldsList-from_slice _ c.iter.ensures.rest) (λ x b q k. search (rules, tests, h)))
    c.unwrap_or.ensures
