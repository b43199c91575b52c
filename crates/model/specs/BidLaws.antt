-- What is claimed of a bid as a whole, in every session.
use Rattle.std.specs.Prelude.{◌+◌, ◌*◌, ◌≤◌, ◌<◌, ◌≡◌, ◌≢◌}
use Rattle.model.specs.Words.{ℕ, true, false, [], AllByRecursion, Memᴰ, Some, None, is_some, sum_of}
use Rattle.model.specs.Market.{Side, Buy, Sell, other, is_pre_trading, is_trading, is_post_trading, Bid, Standing}
use Rattle.model.specs.Average.{lots_of}
use Rattle.model.specs.Matching.{Deal}
use Rattle.model.specs.Queues.{best_price_lem}
use Rattle.model.specs.Listings.{quote_of}
use Rattle.model.specs.World.{World, queue, average_of}
use Rattle.model.specs.Bidding.{limit_of, question, met, bid_trades, rest, owed}
use Rattle.model.specs.Checks.{form_taken}
use Rattle.rules.specs.Bids.{obligation_of}

-- what of the newcomer's block a deal uses up: of a buy what was blocked for the lots, of a sell the lots
abbrev pub used : Side → Deal → ℕ
used Buy d = d.held * d.trade.lots
used Sell d = d.trade.lots

pub record BidLaw (least : ℕ) (w : World) (b : Bid) : Type 0 where
  -- every lot is traded or left, and an entire bid has all of its lots traded or none
  pub lots : lots_of (bid_trades w b) + (met w b).left ≡ b.lots
  pub entire : b.entire ≡ true → 0 < (met w b).left → bid_trades w b ≡ []
  -- in pre-trading nothing trades
  pub pre_trading : is_pre_trading w.session ≡ true → bid_trades w b ≡ []
  -- where at least so many lots stand, they are all that is left, of a partial keep bid with a price, stated or the average
  pub stands : least ≤ rest w b → (rest w b ≡ (met w b).left) × (is_some (limit_of w b) ≡ true) × (b.entire ≡ false) × (b.keep ≡ true)
  -- a bid that pre-trading takes stands with all its lots
  pub all_stands : is_pre_trading w.session ≡ true → form_taken w.session b ≡ true → rest w b ≡ b.lots
  -- a bid without a price never stands in trading; in post-trading the average is the price
  pub unpriced : is_trading w.session ≡ true → is_some b.price ≡ false → rest w b ≡ 0
  pub average : is_post_trading w.session ≡ true → limit_of w b ≡ average_of (w.sheets b.ticker)
  -- the rule is told the first price of each queue, but in post-trading none
  pub told : is_post_trading w.session ≡ false
      → ((question w b).best_buy ≡ best_price_lem (queue w b.ticker Buy)) × ((question w b).best_sell ≡ best_price_lem (queue w b.ticker Sell))
  pub told_none : is_post_trading w.session ≡ true → ((question w b).best_buy ≡ None) × ((question w b).best_sell ≡ None)
  -- of the settlement price it is told what is listed, but none where 0 is listed
  pub settled : 0 < (quote_of w.listing b.ticker).settlement → (question w b).settlement ≡ Some (quote_of w.listing b.ticker).settlement
  pub unsettled : (quote_of w.listing b.ticker).settlement ≡ 0 → (question w b).settlement ≡ None
  -- and of an opposite bid, whether the holder has one standing on the other side of the ticker
  pub opposite : (x : Standing) → Memᴰ x (queue w b.ticker (other b.side)) → x.holder ≡ b.holder → (question w b).opposite ≡ true
  pub unopposed : AllByRecursion (λ x. x.holder ≢ b.holder) (queue w b.ticker (other b.side)) → (question w b).opposite ≡ false
  -- the block comes out: it is what the deals use up and what the lots left oblige to, no unit more or less
  pub block : owed w b ≡ sum_of (used b.side) (met w b).deals + obligation_of b.side (limit_of w b) (met w b).left

abbrev pub BidsAreRight : ℕ → Type 0
BidsAreRight least = (w : World) (b : Bid) → BidLaw least w b
