use Rattle.std.proofs.Common.{sym, ap, ◌∙◌, arith}
use Rattle.model.specs.World.{Sheet, average_of}
use Rattle.queues.specs.Sheets.{sheets_of}
use Rattle.floor.proofs.Outlined.{average-within}
use Rattle.floor.proofs.desk.Desk.limit.Goals as goal

pub map-requires : goal.map-requires
map-requires c = λ price e _ _.
    let s = sheets_of c.args.self.now.books c.args.bid.now.ticker in
    let average = sym e ∙ c.average.ensures ∙ ap (λ (x : Sheet). average_of x) c.book.ensures in
    let h = average-within s.worth s.traded price average c.requires.dearest in
    omega arith
