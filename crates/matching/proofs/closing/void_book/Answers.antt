use Rattle.queues.specs.Sheets.{sheet_of}
use Rattle.matching.proofs.Voided.{buys-granted, sells-granted, sheet-moved}
use Rattle.matching.proofs.closing.void_book.Goals as goal

pub void_queue-requires : goal.void_queue-requires
void_queue-requires g c =
    let a = c.args in
    buys-granted a.listing.now a.ticker c.asset_of-money.result (sheet_of a.book.now) (g.R.Register.means a.register.now) c.asset_of-money.ensures c.requires

pub void_queue-requires-2 : goal.void_queue-requires-2
void_queue-requires-2 g c =
    let a = c.args in
    let k = g.R.Register.means in
    sells-granted a.listing.now a.ticker c.asset_of-money.result (sheet_of a.book.now) (k a.register.now) c.asset_of-money.ensures c.requires (k c.void_queue.new.register) c.void_queue.ensures.book

pub returns : goal.returns
returns g c =
    let a = c.args in
    let k = g.R.Register.means in
    record {
      book = sheet-moved a.listing.now a.ticker c.asset_of-money.result (sheet_of a.book.now) (k a.register.now) c.asset_of-money.ensures c.requires (k c.void_queue.new.register) c.void_queue.ensures.book (k c.void_queue-2.new.register) c.void_queue-2.ensures.book;
      sheet = λ i. record { buys = c.void_queue.ensures.queue i; sells = c.void_queue-2.ensures.queue i; worth = a.book.now.worth; traded = a.book.now.traded };
    }
