use Rattle.matching.proofs.Turns.{Surveyed}
use Rattle.matching.proofs.meeting.survey.Given as goal

abbrev pub invariant-loop-bid : goal.invariant-loop-bid
invariant-loop-bid l = Surveyed l.newcomer l.bids l.bid-index l.left l.cost
