use Rattle.std.proofs.Common.{◌≡◌, ◌∙◌, rules}
use Rattle.auction.proofs.Choosing.{price_in, chosen}
use Rattle.auction.proofs.prices.opening_price.Goals as goal

pub returns : goal.returns
returns c =
    let priced : c.map.result ≡ price_in c.best_among.result = search rules in
    priced ∙ chosen c.args.buys.now c.args.sells.now c.best_among-of_buys.result c.best_among.result c.best_among-of_buys.ensures c.best_among.ensures
