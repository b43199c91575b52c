use Rattle.floor.proofs.Agreeing.{events-agree}
use Rattle.floor.proofs.events.events_agree.Goals as goal

pub returns : goal.returns
returns c = events-agree
