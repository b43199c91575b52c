use Rattle.std.proofs.Common.{◌≡◌, map, length, refl, ◌∙◌, arith}
use Rattle.std.proofs.lemmas.List.{length-map}
use Rattle.model.specs.Calls.{new_day}
use Rattle.queues.specs.Sheets.{sheet_of}
use Rattle.queues.proofs.Filed.{changed-all, sheets-mapped, changed-next}
use Rattle.floor.proofs.desk.filing.start_books.Goals as goal

pub loop-book-preserved : goal.loop-book-preserved
loop-book-preserved c =
    let l = c.loop-book in
    changed-next new_day l.book-index c.args.books.now l.books c.book-item.result c.start_day.new.self (omega arith) (omega arith) l.invariant c.start_day.ensures

pub returns : goal.returns
returns c =
    let l = c.loop-book in
    let n : length (map sheet_of c.args.books.now) ≡ length c.args.books.now = length-map c.args.books.now sheet_of in
    sheets-mapped new_day l.books c.args.books.now refl (l.invariant ∙ changed-all new_day l.book-index (map sheet_of c.args.books.now) (omega arith))
