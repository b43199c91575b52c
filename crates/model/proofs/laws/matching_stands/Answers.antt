use Rattle.model.proofs.laws.matching_stands.Goals as goal
use Rattle.model.proofs.Matched.{rankings-are-lawful, matching-is-right, entire-is-whole, queues-stay-ranked}

pub returns : goal.returns
returns c = record { lawful = rankings-are-lawful; right = matching-is-right; entire = entire-is-whole; ranked = queues-stay-ranked }
