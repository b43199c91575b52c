use Rattle.rules.specs.declared.bid.Side.TheVariants.{Buy, Sell}
use Rattle.queues.specs.Sheets.{sheet_of}
use Rattle.queues.specs.Entries.{entries}
use Rattle.matching.proofs.Facing.{faced}
use Rattle.matching.proofs.entering.face.Goals as goal

pub returns-in-Buy : goal.returns-in-Buy
returns-in-Buy g c =
    let a = c.args in
    let k = g.R.Register.means in
    faced a.newcomer.now a.trades (sheet_of a.book.now) (entries c.meet_queue.new.queue) (k a.register.now) (k c.meet_queue.new.register) a.strip.now c.meet_queue.new.strip c.meet_queue.new.slip c.meet_queue.result c.if-not-trades.false Buy c.in-Buy.is c.meet_queue.ensures

pub returns-in-Sell : goal.returns-in-Sell
returns-in-Sell g c =
    let a = c.args in
    let k = g.R.Register.means in
    faced a.newcomer.now a.trades (sheet_of a.book.now) (entries c.meet_queue-in-Sell.new.queue) (k a.register.now) (k c.meet_queue-in-Sell.new.register) a.strip.now c.meet_queue-in-Sell.new.strip c.meet_queue-in-Sell.new.slip c.meet_queue-in-Sell.result c.if-not-trades.false Sell c.in-Sell.is c.meet_queue-in-Sell.ensures
