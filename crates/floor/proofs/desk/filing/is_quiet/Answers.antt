use Rattle.std.proofs.Common.{ℕ, eqb, refl, ◌∙◌, rules, tests}
use Rattle.std.proofs.lemmas.Iterator.{YieldsList-from_range}
use Rattle.std.proofs.lemmas.Iterator.Search.{all_from_yields_List}
use Rattle.register.specs.Books.{sum_to}
use Rattle.floor.proofs.Starting.{none-below}
use Rattle.floor.proofs.desk.filing.is_quiet.Goals as goal

pub returns : goal.returns
returns g c =
    let of : ℕ → ℕ = λ h. sum_to 12 (λ a. (g.R.Register.means c.args.register.now).blocked h a) in
    all_from_yields_List (λ h. eqb (of h) 0) _ _ c.all.result c.all.ensures.ran (YieldsList-from_range 0 16 16 refl refl) (λ x b q k. search (rules, tests))
    ∙ none-below 16 of
