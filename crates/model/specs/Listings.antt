-- The listing of a day: each ticker's currency and settlement price.
use Rattle.std.specs.Prelude.{◌-◌}
use Rattle.model.specs.Words.{ℕ, cond, eqb, get_or, replicate, Option, Some, None}
use Rattle.model.specs.Market.{Side, Buy, Sell, Quote, Listing}

abbrev pub no_quote : Quote
no_quote = record { currency = 0; settlement = 0 }

abbrev pub no_listing : Listing
no_listing = record { quotes = replicate 8 no_quote }

-- the line of a ticker: tickers are numbered from 4 on
abbrev pub quote_of : Listing → ℕ → Quote
quote_of listing t = get_or listing.quotes (t - 4) no_quote

-- the settlement price, where 0 means none
abbrev pub settlement_of : Listing → ℕ → Option ℕ
settlement_of listing t = cond (eqb (quote_of listing t).settlement 0) None (Some (quote_of listing t).settlement)

-- what a bid on a ticker is paid with: a buy with the ticker's currency, a sell with the ticker itself
abbrev pub asset_of_lem : Listing → ℕ → Side → ℕ
asset_of_lem listing t Buy = (quote_of listing t).currency
asset_of_lem listing t Sell = t
