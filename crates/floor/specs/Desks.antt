-- What a desk stands for.
use Rattle.std.specs.Prelude.{Bool, ◌&&◌, nat_le}
use Rattle.rules.specs.Bids.{most_price}
use Rattle.model.specs.declared.words.Quote.{Quote}
use Rattle.register.specs.Books.{Book}
use Rattle.model.specs.World.{World}
use Rattle.queues.specs.Sheets.{sheets_of}
use Rattle.floor.specs.declared.desk.Desk.{Desk}

-- the world that a desk and the book of a register make up
abbrev pub world_of : Book → Desk → World
world_of book desk = record { book = book; session = desk.session; listing = desk.listing; given = desk.given; sheets = sheets_of desk.books }

-- a line of a listing that a day may start with
abbrev pub valid_quote : Quote → Bool
valid_quote q = nat_le q.currency 3 && nat_le q.settlement most_price
