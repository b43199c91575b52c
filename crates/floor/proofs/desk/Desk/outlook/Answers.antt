use Rattle.std.proofs.Common.{sym, ap, ◌∙◌}
use Rattle.register.specs.Books.{empty_book}
use Rattle.model.specs.Market.{other}
use Rattle.model.specs.World.{Sheet, queue_of}
use Rattle.model.specs.Checks.{must}
use Rattle.model.specs.declared.faults.FloorRefusal.TheVariants.{QueueFull}
use Rattle.floor.specs.Desks.{world_of}
use Rattle.floor.proofs.Passing.{kept-met}
use Rattle.floor.proofs.Outlined.{outlined, place_found}
use Rattle.floor.proofs.desk.Desk.outlook.Goals as goal

pub returns : goal.returns
returns c =
    let a = c.args in
    let n = a.newcomer.now in
    let w = world_of empty_book a.self.now in
    let q = c.bids.ensures ∙ c.facing.ensures ∙ ap (λ (s : Sheet). queue_of s (other n.bid.side)) c.book-book.ensures in
    let own = ap (λ (s : Sheet). queue_of s n.bid.side) c.book-book.ensures in
    let e = c.look_ahead-outlook.ensures in
    let out = outlined w n _ c.look_ahead-outlook.result c.requires.newcomer q e.trades e.left e.cost in
    let b = place_found w n _ c.look_ahead-outlook.result c.rest-rest.result c.has_place.result c.requires.newcomer own out c.rest-rest.ensures c.has_place.ensures in
    let met = sym b ∙ kept-met _ _ _ c.in_ok-check.ensures in
    record { full = sym (ap (λ x. must x QueueFull) met); outlook = out }
