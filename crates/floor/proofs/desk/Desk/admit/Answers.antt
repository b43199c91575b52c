use Rattle.std.proofs.Common.{◌-◌, length}
use Rattle.queues.specs.Sheets.{sheets_of}
use Rattle.matching.proofs.Facing.{left-within}
use Rattle.floor.proofs.Bidden.{enters-here, entered_here, refiled-here}
use Rattle.floor.proofs.desk.Desk.admit.Goals as goal

pub enter-count-requires : goal.enter-count-requires
enter-count-requires g c =
    let a = c.args in
    let f = a.self.now in
    enters-here f.session a.newcomer.now a.outlook f.books c.index-books-newcomer.result c.args.self.now.eight c.requires.known (g.R.Register.means a.register.now) a.slip (length a.strip.now) c.requires.enters

pub overflow_sub-result : goal.overflow_sub-result
overflow_sub-result g c =
    let a = c.args in
    let f = a.self.now in
    left-within f.session a.newcomer.now a.outlook (sheets_of f.books a.newcomer.now.bid.ticker) (g.R.Register.means a.register.now) a.slip (length a.strip.now) c.requires.enters

pub returns : goal.returns
returns g c =
    let a = c.args in
    let f = a.self.now in
    let n = a.newcomer.now in
    let k = g.R.Register.means in
    let e = c.enter-count in
    let en = entered_here f.session n a.outlook f.books c.index-books-newcomer.result c.args.self.now.eight c.requires.known e.new.book (k a.register.now) (k e.new.register) a.strip.now e.new.strip e.result e.ensures in
    let sheets = refiled-here f.session n a.outlook f.books c.index-books-newcomer.result c.args.self.now.eight c.requires.known e.new.book _ en.sheet_is in
    record {
      receipt = λ i. record { number = n.number; traded = n.bid.lots - a.outlook.left; standing = c.rest.ensures i; count = en.count i };
      written = en.written;
      world = λ i. record { book = en.book i; session = f.session; listing = f.listing; given = n.number; sheets = sheets i };
    }
