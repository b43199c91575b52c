use Rattle.std.proofs.Common.{◌∙◌, rules, tests}
use Rattle.std.proofs.lemmas.Iterator.{YieldsList-from_slice}
use Rattle.std.proofs.lemmas.Iterator.Search.{all_from_yields_List}
use Rattle.floor.specs.Desks.{valid_quote}
use Rattle.floor.proofs.Starting.{all-same}
use Rattle.floor.proofs.desk.filing.are_valid.Goals as goal

pub returns : goal.returns
returns c =
    all_from_yields_List valid_quote _ _ c.all.result c.all.ensures.ran (YieldsList-from_slice _ c.iter.ensures.rest) (λ x b q k. search (rules, tests))
    ∙ all-same valid_quote c.args.quotes.now
