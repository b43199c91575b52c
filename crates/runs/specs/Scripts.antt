-- Scripts of calls with the answers, trades and ends that an independent program worked out, and what it means that they agree.
use Rattle.std.specs.Prelude.{◌≡◌, ◌&&◌, ◌∷◌}
use Rattle.runs.specs.Words.{ℕ, zero, suc, Bool, true, false, cond, ltb, eqb, List, [], map, sum_of, length, Option}
use Rattle.runs.specs.Words.{Side, Trading, Bid, Standing, Trade, Quote, Listing, Cause, CallKind, Call, Answer, Placed, Refused}
use Rattle.model.specs.Words.{kept}
use Rattle.model.specs.Average.{cost_of, lots_of}
use Rattle.model.specs.Listings.{no_listing}
use Rattle.model.specs.World as world
use Rattle.model.specs.World.{World, blank_sheet}
use Rattle.model.specs.Tally.{Entry, Tally, blank, tally_of, obliges}
use Rattle.model.specs.Movements.{taken_apart}
use Rattle.model.specs.Runs.{run, log}
use Rattle.register.specs.Books.{Book, at, most_amount}
use Rattle.rules.specs.Rules.{Rule}

-- ---- short names for what the scripts hold
abbrev pub quote : ℕ → ℕ → Quote
quote currency settlement = record { currency = currency; settlement = settlement }

abbrev pub listing : List Quote → Listing
listing quotes = record { quotes = quotes }

abbrev pub partial : Bool
partial = false

abbrev pub entire : Bool
entire = true

abbrev pub keep : Bool
keep = true

abbrev pub withdraw : Bool
withdraw = false

abbrev pub bid : ℕ → ℕ → Side → Option ℕ → ℕ → Bool → Bool → Bid
bid holder ticker side price lots whole kept = record { holder = holder; ticker = ticker; side = side; price = price; lots = lots; entire = whole; keep = kept }

abbrev pub stands : ℕ → ℕ → ℕ → ℕ → Standing
stands number holder price lots = record { number = number; holder = holder; price = price; lots = lots }

abbrev pub trade : ℕ → ℕ → ℕ → ℕ → ℕ → ℕ → ℕ → Trade
trade ticker buyer seller buy sell price lots =
    record { ticker = ticker; buyer = buyer; seller = seller; buy = buy; sell = sell; price = price; lots = lots }

abbrev pub placed : ℕ → ℕ → ℕ → ℕ → Answer
placed number traded standing count = Placed (record { number = number; traded = traded; standing = standing; count = count })

abbrev pub refused : Cause → CallKind → ℕ → Answer
refused cause call ticker = Refused (record { cause = cause; call = call; ticker = ticker })

abbrev pub on : Call → Answer → List Trade → Entry
on call answer trades = record { call = call; answer = answer; trades = trades }

-- ---- registers and floors to begin with
-- holders 0 to 3 have so much free of each asset, holder 1 has something of ticker 5 blocked, and currency 2 has a cap with a tag
abbrev pub plenty : ℕ → ℕ → ℕ → ℕ → Book
plenty each blocked most tag = record {
  free = λ h a. cond (ltb h 4 && ltb a 12) each 0;
  blocked = at 1 5 blocked;
  limit = λ h a. cond (eqb a 2) most most_amount;
  tag = λ h a n. tag;
}

-- so many buys of 2 lots at 100 by holder 0, numbered from k on
abbrev pub buys_from : ℕ → ℕ → List Standing
buys_from zero k = []
buys_from (suc n) k = stands k 0 100 2 ∷ buys_from n (suc k)

-- a floor in trading with two numbers left and a full queue of buys
abbrev pub edge : World
edge = record {
  book = record { free = λ h a. cond (ltb h 4 && ltb a 12) 100000 0; blocked = at 0 0 12800; limit = λ h a. most_amount; tag = λ h a n. 0 };
  session = Trading;
  listing = no_listing;
  given = 99998;
  sheets = λ t. cond (eqb t 4) (record { buys = buys_from 64 1; sells = []; worth = 0; traded = 0 }) blank_sheet;
}

-- ---- what is compared at the end
-- an account: free and blocked at the register, by the tally its sum and what its standing bids oblige to, and what would be free if the
-- floor were taken apart
pub record Account : Type 0 where
  pub holder : ℕ
  pub asset : ℕ
  pub free : ℕ
  pub blocked : ℕ
  pub sum : ℕ
  pub obliged : ℕ
  pub apart : ℕ

abbrev pub account : ℕ → ℕ → ℕ → ℕ → ℕ → ℕ → ℕ → Account
account h a free blocked sum obliged apart = record { holder = h; asset = a; free = free; blocked = blocked; sum = sum; obliged = obliged; apart = apart }

abbrev pub account_in : World → Tally → ℕ → ℕ → Account
account_in w y h a =
    account h a (w.book.free h a) (w.book.blocked h a) (y.sums h a) (sum_of (λ k. obliges y k h a) y.standing) ((taken_apart w).free h a)

pub record Queue : Type 0 where
  pub ticker : ℕ
  pub side : Side
  pub bids : List Standing

abbrev pub queue : ℕ → Side → List Standing → Queue
queue ticker side bids = record { ticker = ticker; side = side; bids = bids }

-- the trades of a ticker that count for its average: what they cost and their lots, on the floor and by the tally
pub record Sums : Type 0 where
  pub ticker : ℕ
  pub worth : ℕ
  pub traded : ℕ
  pub cost : ℕ
  pub lots : ℕ

abbrev pub sums : ℕ → ℕ → ℕ → ℕ → ℕ → Sums
sums ticker worth traded cost lots = record { ticker = ticker; worth = worth; traded = traded; cost = cost; lots = lots }

abbrev pub sums_in : World → Tally → ℕ → Sums
sums_in w y t =
    let xs = kept (λ x. eqb x.ticker t) y.trades in
    sums t (w.sheets t).worth (w.sheets t).traded (cost_of xs) (lots_of xs)

pub record Left : Type 0 where
  pub number : ℕ
  pub lots : ℕ

abbrev pub left : ℕ → ℕ → Left
left number lots = record { number = number; lots = lots }

-- ---- a script
pub record Script : Type 0 where
  pub rule : Rule
  pub start : World
  pub entries : List Entry
  pub accounts : List Account
  pub queues : List Queue
  pub sums : List Sums
  pub standing : List Left
  pub running : Bool

abbrev pub calls_of : Script → List Call
calls_of s = map (λ e. e.call) s.entries

abbrev pub end_of : Script → World
end_of s = run s.rule s.start (calls_of s)

abbrev pub tally_in : Script → Tally
tally_in s = tally_of (blank s.start.book) s.entries

-- every answer and every trade is as it was worked out, and so are the accounts, the queues and the tally at the end
pub record Agrees (s : Script) : Type 0 where
  pub entries : log s.rule s.start (calls_of s) ≡ s.entries
  pub accounts : map (λ x. account_in (end_of s) (tally_in s) x.holder x.asset) s.accounts ≡ s.accounts
  pub queues : map (λ x. queue x.ticker x.side (world.queue (end_of s) x.ticker x.side)) s.queues ≡ s.queues
  pub sums : map (λ x. sums_in (end_of s) (tally_in s) x.ticker) s.sums ≡ s.sums
  pub standing : map (λ k. left k.number k.lots) (tally_in s).standing ≡ s.standing
  pub running : (tally_in s).running ≡ s.running

abbrev pub call_count : List Script → ℕ
call_count scripts = sum_of (λ s. length s.entries) scripts
