-- What a bid finds on the floor, and what would become of it.
use Rattle.model.specs.Words.{ℕ, suc, cond, eqb, List, any_of, Option, None, or_else}
use Rattle.model.specs.Market.{Side, Buy, Sell, other, is_post_trading, Bid, Standing, Trade, Question}
use Rattle.model.specs.Queues.{best_price_lem}
use Rattle.model.specs.Matching.{Met, trades_of, encounter, standing, to_block}
use Rattle.model.specs.Listings.{settlement_of}
use Rattle.model.specs.World.{World, queue, average_of}

-- the price that a bid trades and blocks at: the stated one, in post-trading the average
abbrev pub limit_of : World → Bid → Option ℕ
limit_of w b = cond (is_post_trading w.session) (average_of (w.sheets b.ticker)) b.price

-- the best price of the bid's ticker that the rule is told; in post-trading it is told none
abbrev pub best_told : World → Bid → Side → Option ℕ
best_told w b side = cond (is_post_trading w.session) None (best_price_lem (queue w b.ticker side))

-- what the market rule is asked: a bid is opposite where its holder has a standing bid on the other side of the ticker
abbrev pub question : World → Bid → Question
question w b = record {
  side = b.side;
  price = b.price;
  lots = b.lots;
  best_buy = best_told w b Buy;
  best_sell = best_told w b Sell;
  settlement = settlement_of w.listing b.ticker;
  opposite = any_of (λ x. eqb x.holder b.holder) (queue w b.ticker (other b.side));
}

-- the number that the bid would have
abbrev pub next_number : World → ℕ
next_number w = suc w.given

-- what it would make of the other queue, its trades, and the lots of it that would stand
abbrev pub met : World → Bid → Met
met w b = encounter w.session (next_number w) b (limit_of w b) (queue w b.ticker (other b.side))

abbrev pub bid_trades : World → Bid → List Trade
bid_trades w b = trades_of (met w b).deals

abbrev pub rest : World → Bid → ℕ
rest w b = standing b (limit_of w b) (met w b)

-- what it has to block
abbrev pub owed : World → Bid → ℕ
owed w b = to_block b.side (limit_of w b) b.lots (bid_trades w b)

-- the record that its rest would have in the queue
abbrev pub newcomer : World → Bid → Standing
newcomer w b = record { number = next_number w; holder = b.holder; price = or_else (limit_of w b) 0; lots = rest w b }
