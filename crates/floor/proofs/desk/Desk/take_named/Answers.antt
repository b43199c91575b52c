use Rattle.std.proofs.Common.{ap, ◌∙◌}
use Rattle.model.specs.World.{Sheet}
use Rattle.model.specs.Calls.{with_sheet}
use Rattle.queues.specs.Sheets.{sheets_of, sheet_named, sheet_less}
use Rattle.queues.proofs.Filed.{filed, refiled}
use Rattle.floor.proofs.desk.Desk.take_named.Goals as goal

pub returns : goal.returns
returns c =
    let a = c.args in
    let s = a.self.now in
    let here = filed s.books a.ticker c.index-books-ticker.result s.eight c.requires in
    let sheet = c.take_named.ensures.left ∙ ap (λ (z : Sheet). sheet_less a.holder a.number z) here in
    let sheets = refiled s.books a.ticker c.take_named.new.self s.eight c.requires ∙ ap (with_sheet (sheets_of s.books) a.ticker) sheet in
    record {
      taken = c.take_named.ensures.taken ∙ ap (λ (z : Sheet). sheet_named a.holder a.number z) here;
      left = λ b i. record { book = b; session = s.session; listing = s.listing; given = s.given; sheets = sheets i };
    }
