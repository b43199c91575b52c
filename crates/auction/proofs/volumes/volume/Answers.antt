use Rattle.std.proofs.Common.{ℕ, take, ap, ◌∙◌}
use Rattle.model.specs.Words.{sum_of}
use Rattle.auction.proofs.Reaching.{volume-front}
use Rattle.auction.proofs.volumes.volume.Goals as goal

pub returns : goal.returns
returns c =
    let a = c.args in
    c.lots_to.ensures.lots ∙ ap (λ (n : ℕ). sum_of (λ x. x.lots) (take n a.bids.now)) c.reach.ensures.place ∙ volume-front a.side a.price a.bids.now c.requires.ranked
