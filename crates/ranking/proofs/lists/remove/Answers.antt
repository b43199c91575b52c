use Rattle.std.proofs.Common.{◌≡◌, ◌-◌, ◌<◌, length, take, arith, rules}
use Rattle.std.specs.List.{remove}
use Rattle.std.proofs.lemmas.List.{length-take-le}
use Rattle.ranking.proofs.Slots.{read-front, remove-same, remove-ranked, remove-tested}
use Rattle.ranking.proofs.lists.remove.Goals as goal

pub returns : goal.returns
returns g c =
    let b = g.K.Ranking.before in
    let n = c.args.len in
    let slots = c.args.slots.now in
    let xs = take n slots in
    let ys = take (n - 1) c.close_gap.new.slots in
    let front : ys ≡ remove xs c.args.at = search rules in
    let inside : c.args.at < length xs = omega (arith, length-take-le n slots (omega arith)) in
    let taken = read-front slots n c.args.at _ (omega arith) (omega arith) (search rules) in
    record {
      taken = taken;
      front = front;
      behind = c.close_gap.ensures.behind;
      same = remove-same b xs ys c.args.at front _ inside (taken _);
      ranked = remove-ranked b xs ys c.args.at front;
      tested = remove-tested b xs ys c.args.at front;
    }
