-- The tally: what the calls, their answers and their trades say by themselves of who has what and which bids stand. It sees no world.
use Rattle.std.specs.Prelude.{◌-◌, ◌*◌, ◌&&◌, ◌||◌, ◌∷◌, ◌++◌}
use Rattle.model.specs.Words.{ℕ, Bool, true, false, cond, not, ltb, eqb, List, [], map, joined, Option, Some, None, only, kept, or_else}
use Rattle.model.specs.Market.{Side, same_side, Bid, Standing, Trade, Listing, Call, Start, Deposit, Withdraw, Place, Cancel, Open, EndTrading, EndPostTrading}
use Rattle.model.specs.Market.{Answer, Done, Placed, Cancelled, Opened, Refused}
use Rattle.model.specs.Average.{average, cost_of, lots_of}
use Rattle.model.specs.Listings.{no_listing, quote_of, asset_of_lem}
use Rattle.register.specs.Books.{Book, Sums, at, plus, minus}
use Rattle.rules.specs.Bids.{obligation_of}

-- what is noted of a call: the call, its answer, and the trades on its strip as the call left them
pub record Entry : Type 0 where
  pub call : Call
  pub answer : Answer
  pub trades : List Trade

-- a standing bid: its number, the bid as its holder stated it, and the lots left
pub record Kept : Type 0 where
  pub number : ℕ
  pub bid : Bid
  pub lots : ℕ

-- a sum for each holder and asset, the day's listing, its trades in opening and trading, the standing bids, and whether trading runs
pub record Tally : Type 0 where
  pub sums : Sums
  pub listing : Listing
  pub trades : List Trade
  pub standing : List Kept
  pub running : Bool

-- at the making the sums are what the holders have free, and no bid stands
abbrev pub blank : Book → Tally
blank b = record { sums = b.free; listing = no_listing; trades = []; standing = []; running = false }

-- ---- trades
-- lots of the ticker go from seller to buyer, and price × lots of the ticker's currency from buyer to seller
abbrev pub exchanged : Listing → Trade → Sums → Sums
exchanged l x f =
    let money = (quote_of l x.ticker).currency in
    let goods = plus (minus f x.seller x.ticker x.lots) x.buyer x.ticker x.lots in
    plus (minus goods x.buyer money (x.price * x.lots)) x.seller money (x.price * x.lots)

abbrev pub exchanges : Listing → List Trade → Sums → Sums
exchanges l [] f = f
exchanges l (x ∷ xs) f = exchanges l xs (exchanged l x f)

-- a trade takes its lots from each standing bid that has one of its two numbers; a bid with none left is gone
unfoldable pub reduced_by : Trade → Kept → List Kept
reduced_by x k =
    cond
    (eqb k.number x.buy || eqb k.number x.sell)
    (only (ltb x.lots k.lots) (record { number = k.number; bid = k.bid; lots = k.lots - x.lots }))
    (k ∷ [])

abbrev pub takings : List Trade → List Kept → List Kept
takings [] ks = ks
takings (x ∷ xs) ks = takings xs (joined (reduced_by x) ks)

-- ---- an accepted call
-- the bid enters with the lots standing that it answers, if above 0
abbrev pub joining : Bid → Answer → List Kept
joining b (Placed r) = only (ltb 0 r.standing) (record { number = r.number; bid = b; lots = r.standing })
joining b Done = []
joining b (Cancelled n) = []
joining b (Opened n) = []
joining b (Refused f) = []

abbrev pub fed : Call → Answer → List Trade → Tally → Tally
fed (Start l) a xs y = record { sums = y.sums; listing = l; trades = []; standing = y.standing; running = y.running }
fed (Deposit h s n) a xs y =
    record { sums = plus y.sums h s n; listing = y.listing; trades = y.trades; standing = y.standing; running = y.running }
fed (Withdraw h s n) a xs y =
    record { sums = minus y.sums h s n; listing = y.listing; trades = y.trades; standing = y.standing; running = y.running }
fed (Place shown b room) a xs y = record {
  sums = exchanges y.listing xs y.sums;
  listing = y.listing;
  trades = y.trades ++ cond y.running xs [];
  standing = takings xs y.standing ++ joining b a;
  running = y.running;
}
fed (Cancel shown h t k) a xs y =
    record { sums = y.sums; listing = y.listing; trades = y.trades; standing = kept (λ x. not (eqb x.number k)) y.standing; running = y.running }
fed (Open room) a xs y = record {
  sums = exchanges y.listing xs y.sums;
  listing = y.listing;
  trades = y.trades ++ xs;
  standing = takings xs y.standing;
  running = true;
}
fed EndTrading a xs y = record { sums = y.sums; listing = y.listing; trades = y.trades; standing = []; running = false }
fed EndPostTrading a xs y = record { sums = y.sums; listing = y.listing; trades = y.trades; standing = []; running = y.running }

-- a refused call changes nothing
abbrev pub is_refused : Answer → Bool
is_refused Done = false
is_refused (Placed r) = false
is_refused (Cancelled n) = false
is_refused (Opened n) = false
is_refused (Refused f) = true

unfoldable pub tallied : Entry → Tally → Tally
tallied e y = cond (is_refused e.answer) y (fed e.call e.answer e.trades y)

abbrev pub tally_of : Tally → List Entry → Tally
tally_of y [] = y
tally_of y (e ∷ es) = tally_of (tallied e y) es

-- ---- what the tally says of its standing bids
-- the price that a bid is held to: its own, or the day's average of its ticker
abbrev pub held_to : Tally → Bid → Option ℕ
held_to y b =
    let xs = kept (λ x. eqb x.ticker b.ticker) y.trades in
    elim b.price [ Some p ↦ Some p | None ↦ average (cost_of xs) (lots_of xs) ]

-- what it obliges its holder to, as a sum at one holder and asset
abbrev pub obliges : Tally → Kept → Sums
obliges y k =
    at k.bid.holder (asset_of_lem y.listing k.bid.ticker k.bid.side) (obligation_of k.bid.side (held_to y k.bid) k.lots)

-- the standing bids of a ticker and side, as records of a queue
abbrev pub as_standing : Tally → Kept → Standing
as_standing y k = record { number = k.number; holder = k.bid.holder; price = or_else (held_to y k.bid) 0; lots = k.lots }

abbrev pub standing_of : Tally → ℕ → Side → List Standing
standing_of y t side = map (as_standing y) (kept (λ k. eqb k.bid.ticker t && same_side side k.bid.side) y.standing)
