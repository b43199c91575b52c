-- What a bid makes of the other queue, in each session: all that the invariant asks of it.
use Rattle.model.specs.Words.{ℕ, refl, Bool, true, false, cond, not, ltb, List, [], AllByRecursion, length, sum_of, Option, Some, None, is_some}
use Rattle.std.proofs.Common.{◌+◌, ◌%◌, ◌≤◌, ◌<◌, ◌≡◌, ◌&&◌, sym, ◌∙◌, arith}
use Rattle.std.proofs.lemmas.Bool.Decides.{nat_tests}
use Rattle.std.proofs.lemmas.Bool.{true≢false}
use Rattle.model.specs.Market.{Side, Buy, Sell, other, Session, Closed, PreTrading, Trading, PostTrading, is_trading, Bid, Standing, Listing}
use Rattle.model.specs.Queues.{by_price}
use Rattle.model.specs.Average.{lots_of}
use Rattle.model.specs.Listings.{quote_of, asset_of_lem}
use Rattle.model.specs.Matching.{Met, trades_of, crosses, taking, to_block, untouched, whole_or_none, encounter, standing}
use Rattle.model.specs.MatchingLaws.{meeting}
use Rattle.model.specs.Serving.{Served}
use Rattle.model.specs.Serving.Served.{none}
use Rattle.model.specs.Sound.{owing, standing_lots}
use Rattle.model.proofs.Meeting.{meet-graph, meets-served, meets-own}
use Rattle.model.proofs.Matched.{matching-is-right}
use Rattle.model.proofs.Paying.{uses, Payable}
use Rattle.model.proofs.Facing.{spent, taking-lots, meeting-payable, meeting-uses, meeting-theirs, meets-count, meets-steps, meeting-prices, blocks-spent}
use Rattle.register.specs.Books.{at}
use Rattle.register.proofs.Accounts.{at_none}
use Rattle.ranking.specs.Ranks.{Ranked}
use Rattle.rules.specs.Bids.{most_price, obligation_of}

pub record Faced (l : Listing) (step : ℕ) (b : Bid) (limit : Option ℕ) (q : List Standing) (session : Session) (m : Met) : Type 0 where
  pub payable : AllByRecursion (Payable b.ticker) m.deals
  pub uses : (h a : ℕ) → sum_of (λ d. uses (quote_of l b.ticker).currency d h a) m.deals + owing l b.ticker (other b.side) m.queue h a
      ≡ owing l b.ticker (other b.side) q h a + at b.holder (asset_of_lem l b.ticker b.side) (spent b.side m.deals) h a
  pub blocks : spent b.side m.deals + obligation_of b.side limit m.left ≡ to_block b.side limit b.lots (trades_of m.deals)
  pub own : lots_of (trades_of m.deals) + m.left ≡ b.lots
  pub theirs : standing_lots q ≡ lots_of (trades_of m.deals) + standing_lots m.queue
  pub count : length (trades_of m.deals) ≤ length q
  pub left_steps : m.left % step ≡ 0
  pub steps : AllByRecursion (λ x. x.lots % step ≡ 0) m.queue
  pub prices : AllByRecursion (λ x. (1 ≤ x.price) × (x.price ≤ most_price)) (trades_of m.deals)
  pub served : Served q m.queue
  pub done : is_trading session ≡ true → b.entire ≡ false → Ranked (by_price (other b.side)) q → 0 < m.left → AllByRecursion (λ x. crosses b.side limit x.price ≡ false) m.queue

module _ (l : Listing) (step number : ℕ) (b : Bid) (limit : Option ℕ) (q : List Standing) (i : b.holder < 16) (e : b.lots % step ≡ 0)
    (hs : AllByRecursion (λ x. x.holder < 16) q) (ss : AllByRecursion (λ x. x.lots % step ≡ 0) q) (ps : AllByRecursion (λ x. (1 ≤ x.price) × (x.price ≤ most_price)) q) where
  -- nothing trades
  still-blocks : (side : Side) (limit : Option ℕ) (n : ℕ) → 0 + obligation_of side limit n ≡ to_block side limit n []
  still-blocks Buy None n = omega arith
  still-blocks Buy (Some p) n = omega arith
  still-blocks Sell limit n = omega arith

  nothing-spent : (side : Side) → spent side [] ≡ 0
  nothing-spent side = refl

  untouched-faced : (session : Session) → (is_trading session ≡ true → b.entire ≡ false → ⊥) → Faced l step b limit q session (untouched b.lots q)
  untouched-faced session never = record {
    payable = tt;
    uses = λ h a. omega (arith, at_none b.holder (asset_of_lem l b.ticker b.side) h a);
    blocks = still-blocks b.side limit b.lots;
    own = omega arith;
    theirs = omega arith;
    count = omega arith;
    left_steps = e;
    steps = ss;
    prices = tt;
    served = none;
    done = λ t f. absurd (never t f);
  }

  m : Met
  m = meeting number b limit q

  meeting-faced : (session : Session) → Faced l step b limit q session m
  unfolding m
  meeting-faced session =
      let g = meet-graph (crosses b.side limit) (taking number b limit b.side) b.lots q in
      let st = meets-steps step g e ss in
      record {
        payable = meeting-payable l number b limit b.side i g hs;
        uses = λ h a. meeting-uses l number b limit b.side h a g;
        blocks = blocks-spent number b b.side limit g;
        own = meets-own (taking-lots l number b limit b.side) g;
        theirs = meeting-theirs l number b limit b.side g;
        count = meets-count g;
        left_steps = st.0;
        steps = st.1;
        prices = meeting-prices l number b limit b.side (λ p. (1 ≤ p) × (p ≤ most_price)) g ps;
        served = meets-served g;
        done = λ t f r z. (matching-is-right number b limit q).done r z;
      }

  whole-faced : (session : Session) → Faced l step b limit q session (whole_or_none b q m)
  whole-faced session = by b.entire (ltb 0 m.left) refl
    where
      by : (u v : Bool) → b.entire ≡ u → Faced l step b limit q session (cond (u && v) (untouched b.lots q) m)
      by true true f = untouched-faced session (λ t g. true≢false (sym f ∙ g))
      by true false f = meeting-faced session
      by false v f = meeting-faced session

  pub faced : (session : Session) → Faced l step b limit q session (encounter session number b limit q)
  unfolding m
  faced Closed = untouched-faced Closed (λ t f. true≢false (sym t))
  faced PreTrading = untouched-faced PreTrading (λ t f. true≢false (sym t))
  faced Trading = whole-faced Trading
  faced PostTrading = whole-faced PostTrading

-- ---- what stands of it
pub record Rests (b : Bid) (limit : Option ℕ) (m : Met) : Type 0 where
  pub limit_price : ℕ
  pub limited : limit ≡ Some limit_price
  pub partial : b.entire ≡ false
  pub all_left : standing b limit m ≡ m.left

pub rests : (b : Bid) (limit : Option ℕ) (m : Met) → 0 < standing b limit m → Rests b limit m
rests b None m h = absurd (omega arith)
rests b (Some p) m h = by b.entire b.keep refl refl h
  where
    by : (u v : Bool) → b.entire ≡ u → b.keep ≡ v → 0 < cond (true && (not u && v)) m.left 0 → Rests b (Some p) m
    by false true e f h = record { limit_price = p; limited = refl; partial = e; all_left = left e f }
      where
        left : b.entire ≡ false → b.keep ≡ true → cond (true && (not b.entire && b.keep)) m.left 0 ≡ m.left
        left e f = grind (arith, nat_tests)
    by false false e f h = absurd (omega arith)
    by true v e f h = absurd (omega arith)

pub stands-within : (b : Bid) (limit : Option ℕ) (m : Met) → standing b limit m ≤ m.left
stands-within b limit m = by (is_some limit && not b.entire && b.keep)
  where
    by : (u : Bool) → cond u m.left 0 ≤ m.left
    by true = omega arith
    by false = omega arith
