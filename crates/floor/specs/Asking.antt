-- What a bid finds at the desk, and how the floor's own checks answer.
use Rattle.std.specs.Prelude.{◌≡◌, ℕ, ◌*◌, ◌≤◌, Bool, true, cond, ◌&&◌, List, [], ◌∷◌, Some, None, Ok, Err, Result, nat_le, nat_lt}
use Rattle.register.specs.Books.{holder_known_lem}
use Rattle.model.specs.declared.faults.FloorRefusal.{FloorRefusal}
use Rattle.model.specs.declared.faults.FloorRefusal.TheVariants.{WrongSession, ShortStrip, NoHolderOrTicker, BeyondLimits, FormNotTaken, NoAverage, NumbersSpent}
use Rattle.model.specs.declared.faults.Cause.TheVariants.{Floor as ByFloor}
use Rattle.model.specs.declared.words.Bid.{Bid}
use Rattle.model.specs.declared.words.Session.{Session}
use Rattle.model.specs.Market.{serves, bid_room, most_numbers, ticker_known, other}
use Rattle.model.specs.Checks.{Check, must, within_limits, form_taken, has_average_lem}
use Rattle.model.specs.Listings.{quote_of}
use Rattle.model.specs.World.{World, queue}
use Rattle.model.specs.Bidding.{limit_of, next_number, met}
use Rattle.matching.specs.declared.newcomers.Newcomer.{Newcomer}
use Rattle.matching.specs.declared.entering.Outlook.{Outlook}
use Rattle.matching.specs.Enterings.{foreseen}
use Rattle.queues.specs.Sheets.{sheets_of}
use Rattle.rules.specs.Bids.{most_price}
use Rattle.floor.specs.declared.desk.Desk.{Desk}
use Rattle.model.specs.Average.{cost_of}
use Rattle.model.specs.Matching.{trades_of}

-- a check as it is answered: met, or refused
abbrev pub kept : Bool → FloorRefusal → Result (Unit {0}) FloorRefusal
kept test e = cond test (Ok tt) (Err e)

-- the check that an answer of the floor stands for
abbrev pub cause_of : {X : Type 0} → Result X FloorRefusal → Check
cause_of (Ok x) = None
cause_of (Err e) = Some (ByFloor e)

-- the checks of a bid that look at no queue and ask no one else
abbrev pub form_checks : World → Session → Bid → ℕ → List Check
form_checks w shown b room =
    must (serves shown w.session) WrongSession
    ∷ must (nat_le bid_room room) ShortStrip
    ∷ must (holder_known_lem b.holder && ticker_known b.ticker) NoHolderOrTicker
    ∷ must (within_limits b) BeyondLimits
    ∷ must (form_taken w.session b) FormNotTaken
    ∷ must (has_average_lem w b) NoAverage
    ∷ must (nat_lt w.given most_numbers) NumbersSpent
    ∷ []

-- the bid as it meets the queues
abbrev pub newcomer_of : World → Bid → Newcomer
newcomer_of w b = record { number = next_number w; bid = b; limit = limit_of w b; currency = (quote_of w.listing b.ticker).currency }

-- what a bid must find at the desk: its ticker's book, with an average within the limits of a price
pub record Askable (desk : Desk) (b : Bid) : Type 0 where
  pub known : ticker_known b.ticker ≡ true
  pub dearest : (sheets_of desk.books b.ticker).worth ≤ most_price * (sheets_of desk.books b.ticker).traded

-- what is foreseen of it is what will become of it
pub record Outlined (w : World) (b : Bid) (o : Outlook) : Type 0 where
  pub trades : met w b ≡ foreseen o.trades (newcomer_of w b) (queue w b.ticker (other b.side))
  pub left : o.left ≡ (met w b).left
  pub cost : o.cost ≡ cost_of (trades_of (met w b).deals)
