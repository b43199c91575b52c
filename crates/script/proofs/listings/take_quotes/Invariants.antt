use Rattle.script.proofs.Quotes.{Reading}
use Rattle.script.proofs.listings.take_quotes.Given as goal

abbrev pub invariant-loop-quote : goal.invariant-loop-quote
invariant-loop-quote l = Reading l.quote-index l.quote-items l.words l.fn.words
