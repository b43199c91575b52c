-- The opening of one ticker and of all, and when it can be made.
use Rattle.std.specs.Prelude.{◌≡◌, ℕ, ◌+◌, ◌≤◌, true, List, ◌++◌, length, take, drop}
use Rattle.std.specs.List.{flat_map, AllByRecursion}
use Rattle.rules.specs.declared.bid.Side.{Side}
use Rattle.rules.specs.declared.bid.Side.TheVariants.{Buy, Sell}
use Rattle.register.specs.Books.{Book}
use Rattle.model.specs.declared.words.Session.TheVariants.{PreTrading}
use Rattle.model.specs.declared.words.Trade.{Trade}
use Rattle.model.specs.declared.words.Listing.{Listing}
use Rattle.model.specs.Market.{ticker_known, tickers}
use Rattle.model.specs.Queues.{by_price}
use Rattle.model.specs.Average.{cost_of, lots_of}
use Rattle.model.specs.Matching.{trades_of}
use Rattle.model.specs.Opening.{Opened, uncross, opening}
use Rattle.model.specs.World.{Sheet, World, queue}
use Rattle.model.specs.Movements.{Granted, moved_all, settlement, opened_at, open_moves}
use Rattle.model.specs.Calls.{open_sheet}
use Rattle.ranking.specs.Ranks.{Ranked}
use Rattle.auction.specs.Pairs.{SumsHeld}
use Rattle.auction.specs.Fair.{OpenedFairly}

-- trades written from a place of the strip on; the records in front and behind stay
abbrev pub written : ℕ → List Trade → List Trade → List Trade
written from xs strip = take from strip ++ (xs ++ drop (from + length xs) strip)

-- ---- one ticker
-- its trades and the queues left: at a price, and at its opening price
abbrev pub opening_at_price : ℕ → ℕ → Sheet → Opened
opening_at_price t price s = uncross t price s.buys s.sells

abbrev pub opening_of : ℕ → Sheet → Opened
opening_of t s = opening t s.buys s.sells

-- a sheet after an opening: the queues that are left, and the sums with its trades
abbrev pub opened_with : Opened → Sheet → Sheet
opened_with o s = let xs = trades_of o.deals in record { buys = o.buys; sells = o.sells; worth = s.worth + cost_of xs; traded = s.traded + lots_of xs }

-- a sheet can be opened so: its queues are ranked, each buy has lots, the register grants the settlements, and the sums fit
pub record Openable (currency : ℕ) (s : Sheet) (o : Opened) (b : Book) : Type 0 where
  pub buys_ranked : Ranked (by_price Buy) s.buys
  pub sells_ranked : Ranked (by_price Sell) s.sells
  pub buys_lots : AllByRecursion (λ x. 1 ≤ x.lots) s.buys
  pub granted : Granted (flat_map (settlement currency) o.deals) b
  pub sums : SumsHeld (opened_with o s)

-- an opening is made: so many trades, at the front of the strip; book and sheet as they settle it
pub record Made (currency : ℕ) (o : Opened) (s0 : Sheet) (b0 : Book) (strip0 : List Trade) (s : Sheet) (b : Book) (strip : List Trade) (count : ℕ) : Type 0 where
  pub trades : count ≡ length o.deals
  pub strips : strip ≡ written 0 (trades_of o.deals) strip0
  pub book : b ≡ moved_all (flat_map (settlement currency) o.deals) b0
  pub sheet : s ≡ opened_with o s0

-- ---- all tickers
-- a world with this book, this listing and these sheets: an opening looks at no session and at no number given
abbrev pub opening_world : Book → Listing → (ℕ → Sheet) → World
opening_world book listing sheets = record { book = book; session = PreTrading; listing = listing; given = 0; sheets = sheets }

-- the trades of an opening, ticker by ticker in rising order
abbrev pub open_trades : World → List Trade
open_trades w = flat_map (λ t. trades_of (opened_at w t).deals) tickers

-- all that an opening asks of the world before it
pub record ReadyToOpen (w : World) : Type 0 where
  pub ranked : (t : ℕ) (side : Side) → Ranked (by_price side) (queue w t side)
  pub lots : (t : ℕ) (side : Side) → AllByRecursion (λ x. 1 ≤ x.lots) (queue w t side)
  pub granted : Granted (open_moves w) w.book
  pub sums : (t : ℕ) → SumsHeld (open_sheet w t)

-- what an opening leaves: how many trades, the strip, the book, the sheets; and what it promises of the trades on the strip
pub record OpenedAll (w : World) (strip0 : List Trade) (n : ℕ) (strip1 : List Trade) (book1 : Book) (sheets1 : ℕ → Sheet) : Type 0 where
  pub count : n ≡ length (open_trades w)
  pub strip : strip1 ≡ open_trades w ++ drop (length (open_trades w)) strip0
  pub book : book1 ≡ moved_all (open_moves w) w.book
  pub sheets : sheets1 ≡ open_sheet w
  pub fair : (t : ℕ) → ticker_known t ≡ true → OpenedFairly w t (take n strip1)
