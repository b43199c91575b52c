use Rattle.auction.proofs.Choosing.{numbers-are}
use Rattle.auction.proofs.prices.Sides.numbers_at.Goals as goal

pub returns : goal.returns
returns c =
    numbers-are c.args.self.now.buys.now c.args.self.now.sells.now c.args.price c.volume-demand.result c.volume-supply.result c.min.result c.abs_diff.result
    c.volume-demand.ensures c.volume-supply.ensures c.min.ensures c.abs_diff.ensures
