use Rattle.std.proofs.Common.{◌≡◌, ◌*◌, ◌≤◌, sym, subst, rules}
use Rattle.model.specs.Movements.{Granted}
use Rattle.matching.specs.Exchanges.{exchange}
use Rattle.auction.proofs.Pairing.{exchange-granted, exchange-enough}
use Rattle.auction.proofs.pairs.Auction.settle_pair.Goals as goal

pub settle-requires : goal.settle-requires
settle-requires g c =
    let a = c.args in
    let k = g.R.Register.means a.register.now in
    let cash = c.slip_of-cash.result in
    let goods = c.slip_of-goods.result in
    let worth : c.from.result * c.from-2.result ≡ a.self.now.price * c.min-lots.result = search rules in
    record {
      granted = subst (λ w. Granted (exchange cash goods w) k) (sym worth) (exchange-granted a.self.now.currency a.self.now.ticker a.self.now.price a.buy a.sell c.min-lots.result cash goods
          c.min-lots.ensures c.slip_of-cash.ensures c.slip_of-goods.ensures k c.requires.granted);
      enough = subst (λ w. w ≤ cash.amount) (sym worth) (exchange-enough a.self.now.currency a.self.now.ticker a.self.now.price a.buy a.sell c.min-lots.result cash goods
          c.min-lots.ensures c.slip_of-cash.ensures c.slip_of-goods.ensures c.requires.reached);
    }
