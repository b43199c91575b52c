-- What the end of a session leaves.
use Rattle.std.specs.Prelude.{◌≡◌, ℕ, ◌<◌, cond, []}
use Rattle.rules.specs.declared.bid.Side.{Side}
use Rattle.model.specs.Movements.{moved_all, void_moves}
use Rattle.model.specs.World.{World, queue}
use Rattle.model.specs.Calls.{void_sheet}
use Rattle.floor.specs.declared.events.Event.{Event}
use Rattle.floor.specs.Events.{runs_in, leads_to}

-- every bid is void, where the event may run
abbrev pub ended_by : Event → World → World
ended_by event w =
    cond (runs_in event w.session)
    (record { book = moved_all (void_moves w) w.book; session = leads_to event w.session; listing = w.listing; given = w.given; sheets = λ t. void_sheet (w.sheets t) })
    w

-- no bid stands, and nothing is blocked
pub record NothingStands (w : World) : Type 0 where
  pub queues : (t : ℕ) (side : Side) → queue w t side ≡ []
  pub blocked : (h a : ℕ) → h < 16 → a < 12 → w.book.blocked h a ≡ 0
