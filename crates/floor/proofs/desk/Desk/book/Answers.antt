use Rattle.queues.proofs.Filed.{filed}
use Rattle.floor.proofs.desk.Desk.book.Goals as goal

pub returns : goal.returns
returns c = filed c.args.self.now.books c.args.ticker _ c.args.self.now.eight c.requires
