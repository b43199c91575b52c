use Rattle.std.proofs.Common.{ℕ, eqb, refl, ◌∙◌, rules, tests}
use Rattle.std.proofs.lemmas.Iterator.{YieldsList-from_range}
use Rattle.std.proofs.lemmas.Iterator.Search.{all_from_yields_List}
use Rattle.floor.proofs.Starting.{none-below}
use Rattle.floor.proofs.desk.filing.is_free.Goals as goal

pub returns : goal.returns
returns g c =
    let of : ℕ → ℕ = λ a. (g.R.Register.means c.args.register.now).blocked c.args.holder a in
    all_from_yields_List (λ a. eqb (of a) 0) _ _ c.all.result c.all.ensures.ran (YieldsList-from_range 0 12 12 refl refl) (λ x b q k. search (rules, tests))
    ∙ none-below 12 of
