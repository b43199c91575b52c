use Rattle.std.proofs.Common.{arith}
use Rattle.matching.proofs.Voided.{voiding-start, here-granted, voiding-more, voided}
use Rattle.matching.proofs.closing.void_books.Goals as goal

pub loop-i-init : goal.loop-i-init
loop-i-init g c = voiding-start c.args.listing.now c.args.books.now (g.R.Register.means c.args.register.now) c.requires.eight c.requires.granted

pub void_book-requires : goal.void_book-requires
void_book-requires g c =
    let a = c.args in
    let l = c.loop-i in
    let k = g.R.Register.means in
    here-granted a.listing.now l.i a.books.now l.books (k a.register.now) (k l.register) c.requires.eight (omega arith) c.index-books-i.result l.invariant

pub loop-i-preserved : goal.loop-i-preserved
loop-i-preserved g c =
    let a = c.args in
    let l = c.loop-i in
    let k = g.R.Register.means in
    voiding-more a.listing.now l.i a.books.now l.books (k a.register.now) (k l.register) c.requires.eight (omega arith) c.index-books-i.result l.invariant c.void_book.new.book (k c.void_book.new.register) c.void_book.ensures.sheet c.void_book.ensures.book

pub returns : goal.returns
returns g c =
    let a = c.args in
    let l = c.loop-i in
    let k = g.R.Register.means in
    let v = voided a.listing.now l.i a.books.now l.books (k a.register.now) (k l.register) c.requires.eight (omega arith) l.invariant in
    record { book = v.0; sheets = v.1 }
