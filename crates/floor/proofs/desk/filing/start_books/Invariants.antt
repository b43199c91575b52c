use Rattle.std.proofs.Common.{◌≡◌, map}
use Rattle.model.specs.Calls.{new_day}
use Rattle.queues.specs.Sheets.{sheet_of}
use Rattle.queues.proofs.Filed.{changed}
use Rattle.floor.proofs.desk.filing.start_books.Given as goal

abbrev pub invariant-loop-book : goal.invariant-loop-book
invariant-loop-book l = map sheet_of l.books ≡ changed new_day l.book-index (map sheet_of l.initial.books)
