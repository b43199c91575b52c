use Rattle.std.proofs.Common.{arith, rules}
use Rattle.std.proofs.lemmas.List.{same_lists, places}
use Rattle.ranking.proofs.gaps.close_gap.Goals as goal

pub returns : goal.returns
returns g c = record {
  front = same_lists _ _ (search (rules, places)) (λ k d h. grind (arith, places));
  behind = same_lists _ _ (search (rules, places)) (λ k d h. grind (arith, places));
}
