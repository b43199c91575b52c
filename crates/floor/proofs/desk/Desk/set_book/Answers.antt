use Rattle.std.proofs.Common.{refl}
use Rattle.queues.proofs.Filed.{refiled}
use Rattle.floor.proofs.desk.Desk.set_book.Goals as goal

pub returns : goal.returns
returns c =
    let desk = c.args.self.now in
    record { sheets = refiled desk.books c.args.ticker c.args.book desk.eight c.requires; session = refl; listing = refl; given = refl }
