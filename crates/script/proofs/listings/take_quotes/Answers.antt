use Rattle.std.proofs.Common.{length-set}
use Rattle.std.proofs.lemmas.Result.{err_from_is_err_and}
use Rattle.script.proofs.Quotes.{quotes-more, quotes-fault, quotes-all}
use Rattle.script.proofs.listings.take_quotes.Goals as goal

pub returns-in_err-quote : goal.returns-in_err-quote
returns-in_err-quote c =
    let p = err_from_is_err_and c.from_residual.result c.from_residual.ensures.1 in
    rw (p.1, p.2) (quotes-fault _ _ _ _ c.loop-quote.invariant _ c.loop-quote-test.true c.in_err-quote.ensures)

pub loop-quote-preserved : goal.loop-quote-preserved
loop-quote-preserved c = (
  simp length-set c.loop-quote.invariant.0,
  quotes-more _ _ _ _ c.loop-quote.invariant _ _ c.loop-quote-test.true c.in_ok-quote.ensures,
)

pub returns : goal.returns
returns c = quotes-all _ _ _ _ c.loop-quote.invariant c.loop-quote-test.false
