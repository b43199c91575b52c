use Rattle.model.proofs.laws.bids_stand.Goals as goal
use Rattle.model.proofs.Bids.{bids-are-right}
use Rattle.model.proofs.BidNumbered.{bids-refused-by}

pub returns : goal.returns
returns c = record { right = bids-are-right; refused = bids-refused-by }
