use Rattle.std.proofs.Common.{◌≡◌, drop}
use Rattle.model.specs.Opening.{prices_of}
use Rattle.auction.specs.Prices.{best_among_lem}
use Rattle.auction.proofs.prices.Sides.best_among.Given as goal

-- what is left gives the best of all
abbrev pub invariant-loop-bid : goal.invariant-loop-bid
invariant-loop-bid l = best_among_lem l.self.buys.now l.self.sells.now l.best (prices_of (drop l.bid-index l.queue)) ≡ best_among_lem l.self.buys.now l.self.sells.now l.initial.best (prices_of l.queue)
