use Rattle.std.proofs.Common.{sym, ap, ◌∙◌}
use Rattle.floor.specs.Asking.{cause_of}
use Rattle.floor.specs.declared.events.Event.TheVariants.{Bid}
use Rattle.floor.proofs.Passing.{kept-met, allowed-met, kept-cause, pass, last-check}
use Rattle.floor.proofs.desk.Desk.check_form.Goals as goal

pub returns : goal.returns
returns c =
    let session = (allowed-met c.args.self.now.session (Bid c.args.shown) _ c.in_ok-allowed.ensures).0 in
    let room = kept-met _ _ _ c.in_ok-check.ensures in
    let known = sym c.is_known.ensures ∙ kept-met _ _ _ c.in_ok-check-2.ensures in
    let limits = sym c.is_within_limits.ensures ∙ kept-met _ _ _ c.in_ok-check-3.ensures in
    let form = sym c.is_taken.ensures ∙ kept-met _ _ _ c.in_ok-check-4.ensures in
    let average = sym c.has_average.ensures ∙ kept-met _ _ _ c.in_ok-check-5.ensures in
    pass _ _ _ _ session (pass _ _ _ _ room (pass _ _ _ _ known (pass _ _ _ _ limits (pass _ _ _ _ form (pass _ _ _ _ average
    (ap cause_of c.check-6.ensures ∙ kept-cause _ _ ∙ last-check _))))))
