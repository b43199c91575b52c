use Rattle.model.proofs.laws.queues_stand.Goals as goal
use Rattle.model.proofs.Ordered.{price-then-time}
use Rattle.model.proofs.Cancelling.{cancels-take-own}

pub returns : goal.returns
returns c = record { order = price-then-time; cancel = cancels-take-own }
