use Rattle.std.proofs.Common.{◌≡◌, rules, tests, sym, ap, ◌∙◌}
use Rattle.std.specs.Option.{option_map}
use Rattle.std.specs.List.{find}
use Rattle.std.specs.Str.{bytes_eq}
use Rattle.std.proofs.lemmas.Iterator.{YieldsList-from_slice}
use Rattle.std.proofs.lemmas.Iterator.Search.{find_from_yields_List}
use Rattle.script.proofs.Choices.{given, first_named}
use Rattle.script.proofs.words.one_of.Given as given_at
use Rattle.script.proofs.words.one_of.Goals as goal
use Rattle.script.proofs.words.one_of.Goals.{After-find}

found : (g : given_at.Over) (c : After-find g) → option_map (λ x. x.now) c.find.result ≡ find (λ p. bytes_eq c.args.word.now p.0.now) c.args.table.now
found g c =
    find_from_yields_List (λ p. bytes_eq c.args.word.now p.0.now) _ _ c.find.result c.find.ensures.ran (YieldsList-from_slice _ c.iter.ensures.rest) (λ x b q k. search (rules, tests))

pub returns-in-Some : goal.returns-in-Some
returns-in-Some g c =
    ap (given c.args.fault) (ap (option_map (λ x. x.now)) (sym c.in-Some.is) ∙ found g (goal.at.returns-in-Some g c).After-find) ∙ sym (first_named c.args.word.now c.args.table.now c.args.fault)

pub returns-in-None : goal.returns-in-None
returns-in-None g c =
    ap (given c.args.fault) (ap (option_map (λ x. x.now)) (sym c.in-None.is) ∙ found g (goal.at.returns-in-None g c).After-find) ∙ sym (first_named c.args.word.now c.args.table.now c.args.fault)
