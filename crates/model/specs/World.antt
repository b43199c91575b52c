-- The world of a floor: all that its calls look at and change.
use Rattle.model.specs.Words.{ℕ, List, [], Option}
use Rattle.model.specs.Market.{Side, Buy, Sell, Session, Closed, Standing, Listing}
use Rattle.model.specs.Listings.{no_listing}
use Rattle.model.specs.Average.{average}
use Rattle.register.specs.Books.{Book}

-- ---- the sheet of a ticker: its two queues, and of its trades in opening and trading the sum of price × lots and the lots
pub record Sheet : Type 0 where
  pub buys : List Standing
  pub sells : List Standing
  pub worth : ℕ
  pub traded : ℕ

abbrev pub blank_sheet : Sheet
blank_sheet = record { buys = []; sells = []; worth = 0; traded = 0 }

abbrev pub queue_of : Sheet → Side → List Standing
queue_of sheet Buy = sheet.buys
queue_of sheet Sell = sheet.sells

-- a sheet by the queue of one side and the queue of the other
abbrev pub sheet_by : Side → List Standing → List Standing → ℕ → ℕ → Sheet
sheet_by Buy own others worth traded = record { buys = own; sells = others; worth = worth; traded = traded }
sheet_by Sell own others worth traded = record { buys = others; sells = own; worth = worth; traded = traded }

abbrev pub average_of : Sheet → Option ℕ
average_of sheet = average sheet.worth sheet.traded

-- ---- the world: `given` counts the registration numbers of the day
pub record World : Type 0 where
  pub book : Book
  pub session : Session
  pub listing : Listing
  pub given : ℕ
  pub sheets : ℕ → Sheet

-- the standing bids of a ticker and side, in ranking order
abbrev pub queue : World → ℕ → Side → List Standing
queue w t side = queue_of (w.sheets t) side

-- a floor as it is made over a register: closed, with no day behind it
abbrev pub made : Book → World
made book = record { book = book; session = Closed; listing = no_listing; given = 0; sheets = λ t. blank_sheet }
