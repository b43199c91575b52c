-- How trades serve a queue: words that the laws of matching and of the opening share.
use Rattle.std.specs.Prelude.{◌<◌, ◌∷◌}
use Rattle.model.specs.Words.{ℕ, cond, eqb, List, [], map, sum_of}
use Rattle.model.specs.Market.{Side, Buy, Sell, Standing, Trade}
use Rattle.model.specs.Queues.{with_lots}

-- a queue before and after it is served from the front: some bids are filled whole, the next in part at most, all behind not at all
pub data Served : List Standing → List Standing → Type 0 where
  none : {queue : List Standing} → Served queue queue
  part : {x : Standing} {queue : List Standing} (n : ℕ) → 0 < n → n < x.lots → Served (x ∷ queue) (with_lots x n ∷ queue)
  whole : {x : Standing} {queue left : List Standing} → Served queue left → Served (x ∷ queue) left

-- the first list names entries of the second, and never goes back in it
pub data Along : List ℕ → List ℕ → Type 0 where
  end : {places : List ℕ} → Along [] places
  here : {k : ℕ} {names places : List ℕ} → Along names (k ∷ places) → Along (k ∷ names) (k ∷ places)
  later : {k : ℕ} {names places : List ℕ} → Along names places → Along names (k ∷ places)

abbrev pub numbers_of : List Standing → List ℕ
numbers_of queue = map (λ x. x.number) queue

-- the number, in a trade, of its bid of one side
abbrev pub number_in : Side → Trade → ℕ
number_in Buy x = x.buy
number_in Sell x = x.sell

-- the holder, in a trade, of its bid of one side
abbrev pub holder_in : Side → Trade → ℕ
holder_in Buy x = x.buyer
holder_in Sell x = x.seller

-- the lots that the bid of a number traded, and those it has left
abbrev pub traded_by : Side → ℕ → List Trade → ℕ
traded_by side k trades = sum_of (λ x. cond (eqb (number_in side x) k) x.lots 0) trades

abbrev pub left_of : ℕ → List Standing → ℕ
left_of k queue = sum_of (λ x. cond (eqb x.number k) x.lots 0) queue
