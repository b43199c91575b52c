use Rattle.std.proofs.Common.{◌≡◌, ℕ, ◌+◌, ◌-◌, ◌*◌, ◌≤◌, get_or, sym, ap, ◌∙◌, subst, arith}
use Rattle.model.specs.declared.words.Standing.{Standing}
use Rattle.matching.proofs.Turns.{Surveyed, surveyed-start, surveyed-more, surveyed-stop, surveyed-end}
use Rattle.matching.proofs.meeting.survey.Goals as goal

none : Standing
none = record { number = 0; holder = 0; price = 0; lots = 0 }

pub loop-bid-init : goal.loop-bid-init
loop-bid-init c = surveyed-start c.args.newcomer.now c.args.bids.now

pub returns-then-not-is_met : goal.returns-then-not-is_met
unfolding none
returns-then-not-is_met c =
    let l = c.loop-bid in
    let s = surveyed-stop c.args.newcomer.now c.args.bids.now l.bid-index l.left l.cost 0 none l.invariant c.loop-bid-test.true (sym c.if-not-is_met.ensures) in
    record { left = s.0; cost = s.1 }

further : (c : goal.After-from-in-loop-bid) → Surveyed c.args.newcomer.now c.args.bids.now (c.loop-bid.bid-index + 1) (c.loop-bid.left - c.min-lots.result) (c.loop-bid.cost + c.from.result * c.from-in-loop-bid.result)
unfolding none
further c =
    let a = c.args in
    let l = c.loop-bid in
    let x = get_or a.bids.now l.bid-index none in
    let pr : x.price ≤ 4294967295 = omega arith in
    let cost : x.price * c.min-lots.result ≡ c.from.result * c.from-in-loop-bid.result =
    ap (λ (p : ℕ). p * c.min-lots.result) (sym c.from.ensures) ∙ ap (λ (n : ℕ). c.from.result * n) (sym c.from-in-loop-bid.ensures) in
    subst (λ (n : ℕ). Surveyed a.newcomer.now a.bids.now (l.bid-index + 1) (l.left - c.min-lots.result) (l.cost + n)) cost
    (surveyed-more a.newcomer.now a.bids.now l.bid-index l.left l.cost c.min-lots.result none l.invariant c.loop-bid-test.true (sym c.if-not-is_met.ensures) c.min-lots.ensures pr)

pub overflow_add-cost : goal.overflow_add-cost
overflow_add-cost c = let s = (further c).small in omega arith

pub loop-bid-preserved : goal.loop-bid-preserved
loop-bid-preserved c = further c

pub returns : goal.returns
returns c =
    let l = c.loop-bid in
    let s = surveyed-end c.args.newcomer.now c.args.bids.now l.bid-index l.left l.cost 0 none l.invariant c.loop-bid-test.false in
    record { left = s.0; cost = s.1 }
