-- What ticker books stand for: the sheets of their tickers.
use Rattle.std.specs.Prelude.{ℕ, ◌-◌, cond, List, map, Some, None, Option, slice_index_or}
use Rattle.rules.specs.declared.bid.Side.{Side}
use Rattle.rules.specs.declared.bid.Side.TheVariants.{Buy, Sell}
use Rattle.model.specs.declared.words.Standing.{Standing}
use Rattle.model.specs.Market.{ticker_known}
use Rattle.model.specs.World.{Sheet, blank_sheet}
use Rattle.queues.specs.declared.books.TickerBook.{TickerBook}
use Rattle.queues.specs.Entries.{entries, entry_named, less_named}

abbrev pub sheet_of : TickerBook → Sheet
sheet_of b = record { buys = entries b.buys; sells = entries b.sells; worth = b.worth; traded = b.traded }

-- the books of the tickers from 4 on; what is no ticker has a blank sheet
abbrev pub sheets_of : List TickerBook → ℕ → Sheet
sheets_of books t = cond (ticker_known t) (slice_index_or (map sheet_of books) (t - 4) blank_sheet) blank_sheet

-- the bid of a holder and number on a sheet, with its side: a buy, or else a sell
abbrev pub or_sell : Option Standing → Option Standing → Option (Side × Standing)
or_sell (Some x) y = Some (Buy, x)
or_sell None (Some y) = Some (Sell, y)
or_sell None None = None

abbrev pub sheet_named : ℕ → ℕ → Sheet → Option (Side × Standing)
sheet_named holder number s = or_sell (entry_named holder number s.buys) (entry_named holder number s.sells)

-- the sheet less that bid
abbrev pub unless_buy : Option Standing → List Standing → List Standing → List Standing
unless_buy (Some x) sells less = sells
unless_buy None sells less = less

abbrev pub sheet_less : ℕ → ℕ → Sheet → Sheet
sheet_less holder number s = record {
  buys = less_named holder number s.buys;
  sells = unless_buy (entry_named holder number s.buys) s.sells (less_named holder number s.sells);
  worth = s.worth;
  traded = s.traded;
}
