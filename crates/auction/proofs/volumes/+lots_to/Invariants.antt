use Rattle.std.proofs.Common.{length}
use Rattle.auction.proofs.volumes.+lots_to.Given as goal

abbrev pub decreases-lots_to : goal.decreases-lots_to
decreases-lots_to l = length l.bids.now
