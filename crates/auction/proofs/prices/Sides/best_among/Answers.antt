use Rattle.std.proofs.Common.{rules}
use Rattle.auction.proofs.Choosing.{among-more, among-end}
use Rattle.auction.proofs.prices.Sides.best_among.Goals as goal

pub loop-bid-preserved : goal.loop-bid-preserved
loop-bid-preserved c = search (rules, among-more)

pub returns : goal.returns
returns c = search (rules, among-end)
