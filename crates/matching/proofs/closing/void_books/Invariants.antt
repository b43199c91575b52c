use Rattle.matching.proofs.Voided.{Voiding}
use Rattle.matching.proofs.closing.void_books.Given as goal

abbrev pub invariant-loop-i : goal.invariant-loop-i
invariant-loop-i g l = let k = g.R.Register.means in Voiding l.listing l.i l.initial.books l.books (k l.initial.register) (k l.register)
