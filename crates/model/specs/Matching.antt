-- Matching: which bids a newcomer crosses, what it trades with them, and what is left of both.
use Rattle.std.specs.Prelude.{◌-◌, ◌&&◌, ◌∷◌}
use Rattle.model.specs.Words.{ℕ, Bool, true, cond, not, leb, ltb, List, [], map, Option, Some, None, is_some, or_else}
use Rattle.model.specs.Market.{Side, Buy, Sell, Session, by_session, Bid, Standing, Trade}
use Rattle.model.specs.Queues.{with_lots}
use Rattle.model.specs.Average.{cost_of}
use Rattle.rules.specs.Bids.{obligation_of}

-- a newcomer of this side with this limit crosses a standing price: a buy one at or below its limit, a sell one at or above it;
-- without a limit it crosses every price
abbrev pub crosses : Side → Option ℕ → ℕ → Bool
crosses Buy (Some limit) price = leb price limit
crosses Buy None price = true
crosses Sell (Some limit) price = leb limit price
crosses Sell None price = true

-- ---- deals: a trade, and what the buyer has blocked for each of its lots
pub record Deal : Type 0 where
  pub trade : Trade
  pub held : ℕ

abbrev pub trades_of : List Deal → List Trade
trades_of deals = map (λ d. d.trade) deals

-- the newcomer of this number takes n lots of a standing bid, always at the standing price; without a limit a buy has blocked just that
abbrev pub taking : ℕ → Bid → Option ℕ → Side → Standing → ℕ → Deal
taking number b limit Buy x n = record {
  trade = record { ticker = b.ticker; buyer = b.holder; seller = x.holder; buy = number; sell = x.number; price = x.price; lots = n };
  held = or_else limit x.price;
}
taking number b limit Sell x n = record {
  trade = record { ticker = b.ticker; buyer = x.holder; seller = b.holder; buy = x.number; sell = number; price = x.price; lots = n };
  held = x.price;
}

-- ---- meeting a queue: the deals made, the queue that is left, and the newcomer's lots that are left
pub record Met : Type 0 where
  pub deals : List Deal
  pub queue : List Standing
  pub left : ℕ

abbrev pub untouched : ℕ → List Standing → Met
untouched n queue = record { deals = []; queue = queue; left = n }

-- n lots meet the queue in its order, while the test of the price passes: each bid is taken whole, the last one as far as the lots go
unfoldable pub meet : (ℕ → Bool) → (Standing → ℕ → Deal) → ℕ → List Standing → Met
meet test deal n [] = untouched n []
meet test deal n (x ∷ xs) =
    let r = meet test deal (n - x.lots) xs in
    cond
    (ltb 0 n && test x.price)
    (cond
    (leb x.lots n)
    (record { deals = deal x x.lots ∷ r.deals; queue = r.queue; left = r.left })
    (record { deals = deal x n ∷ []; queue = with_lots x (x.lots - n) ∷ xs; left = 0 }))
    (untouched n (x ∷ xs))

-- an entire bid that cannot be filled whole trades nothing
abbrev pub whole_or_none : Bid → List Standing → Met → Met
whole_or_none b queue m = cond (b.entire && ltb 0 m.left) (untouched b.lots queue) m

-- what a newcomer makes of the other queue: in trading and post-trading it meets it, else nothing trades
abbrev pub encounter : Session → ℕ → Bid → Option ℕ → List Standing → Met
encounter session number b limit queue =
    let none = untouched b.lots queue in
    let met = whole_or_none b queue (meet (crosses b.side limit) (taking number b limit b.side) b.lots queue) in
    by_session none none met met session

-- the lots that stand afterwards: what is left of a partial keep bid with a limit
abbrev pub standing : Bid → Option ℕ → Met → ℕ
standing b limit m = cond (is_some limit && not b.entire && b.keep) m.left 0

-- what is blocked for a newcomer before it trades: its obligation, but for a buy without a limit what its trades cost
abbrev pub to_block : Side → Option ℕ → ℕ → List Trade → ℕ
to_block Buy (Some limit) lots trades = obligation_of Buy (Some limit) lots
to_block Buy None lots trades = cost_of trades
to_block Sell limit lots trades = obligation_of Sell limit lots
