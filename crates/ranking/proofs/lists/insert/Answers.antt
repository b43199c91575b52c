use Rattle.std.proofs.Common.{◌≡◌, ◌+◌, ◌++◌, take, drop, arith, rules}
use Rattle.std.specs.List.{insert}
use Rattle.ranking.specs.Ranks.{place_of, OrderLaws}
use Rattle.ranking.proofs.Slots.{insert-front, insert-behind, insert-same, insert-ranked, insert-tested}
use Rattle.ranking.proofs.lists.insert.Goals as goal

pub returns : goal.returns
returns g c =
    let b = g.K.Ranking.before in
    let met = g.met.K.Ranking in
    let laws : OrderLaws b = record { irreflexive = met.irreflexive; transitive = met.transitive; negative = met.negative } in
    let e = c.args.item in
    let n = c.args.len in
    let slots = c.args.slots.now in
    let exit = c.insert_at.new.slots in
    let at = c.place-at.result in
    let is : at ≡ place_of b e (take n slots) = search rules in
    let left : exit ≡ insert (take n slots) at e ++ drop (n + 1) slots = search rules in
    let front = insert-front b e slots exit n at (omega arith) is left in
    record {
      place = is;
      front = front;
      behind = insert-behind b e slots exit n at (omega arith) is left;
      same = insert-same b e _ _ front;
      ranked = insert-ranked b e _ _ front laws;
      tested = insert-tested b e _ _ front laws;
    }
