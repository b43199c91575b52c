use Rattle.std.proofs.Common.{length, arith}
use Rattle.queues.specs.Sheets.{sheet_of}
use Rattle.matching.proofs.Facing.{enters-ready, left-within, worth-fits, traded-fits, place-left, rest-granted, entered}
use Rattle.matching.proofs.entering.enter.Goals as goal

pub face-count-requires : goal.face-count-requires
face-count-requires g c =
    let a = c.args in
    record {
      ready = enters-ready a.session a.newcomer.now a.outlook (sheet_of a.book.now) (g.R.Register.means a.register.now) a.slip (length a.strip.now) c.requires;
      room = c.requires.strip;
    }

pub overflow_sub-newcomer : goal.overflow_sub-newcomer
overflow_sub-newcomer g c =
    let a = c.args in
    left-within a.session a.newcomer.now a.outlook (sheet_of a.book.now) (g.R.Register.means a.register.now) a.slip (length a.strip.now) c.requires

pub count_trades-requires : goal.count_trades-requires
count_trades-requires g c =
    let a = c.args in
    let k = g.R.Register.means in
    let f = c.face-count in
    let w = worth-fits a.session a.newcomer.now a.outlook (sheet_of a.book.now) (k a.register.now) a.slip (length a.strip.now) c.requires (sheet_of f.new.book) (k f.new.register) a.strip.now f.new.strip f.new.slip f.result f.ensures in
    let t = traded-fits a.session a.newcomer.now a.outlook (sheet_of a.book.now) (k a.register.now) a.slip (length a.strip.now) c.requires (sheet_of f.new.book) (k f.new.register) a.strip.now f.new.strip f.new.slip f.result f.ensures in
    record { worth = omega (arith, w, c.requires.worth); traded = omega (arith, t, c.requires.traded) }

pub lodge-requires : goal.lodge-requires
lodge-requires g c =
    let a = c.args in
    let k = g.R.Register.means in
    let f = c.face-count in
    place-left a.session a.newcomer.now a.outlook (sheet_of a.book.now) (k a.register.now) a.slip (length a.strip.now) c.requires (sheet_of f.new.book) (k f.new.register) a.strip.now f.new.strip f.new.slip f.result f.ensures c.rest-rest.result (sheet_of c.count_trades.new.book) c.rest-rest.ensures c.count_trades.ensures

pub settle_rest-requires : goal.settle_rest-requires
settle_rest-requires g c =
    let a = c.args in
    let k = g.R.Register.means in
    let f = c.face-count in
    rest-granted a.session a.newcomer.now a.outlook (sheet_of a.book.now) (k a.register.now) a.slip (length a.strip.now) c.requires (sheet_of f.new.book) (k f.new.register) a.strip.now f.new.strip f.new.slip f.result f.ensures c.rest-rest.result c.rest-rest.ensures

pub returns : goal.returns
returns g c =
    let a = c.args in
    let k = g.R.Register.means in
    let f = c.face-count in
    entered a.session a.newcomer.now a.outlook (sheet_of a.book.now) (k a.register.now) a.slip (length a.strip.now) c.requires (sheet_of f.new.book) (k f.new.register) a.strip.now f.new.strip f.new.slip f.result f.ensures c.rest-rest.result (sheet_of c.count_trades.new.book) (sheet_of c.lodge.new.book) (k c.settle_rest.new.register) c.rest-rest.ensures c.count_trades.ensures c.lodge.ensures c.settle_rest.ensures
