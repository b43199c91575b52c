-- The opening's trades follow in rising order of the tickers.
use Rattle.model.specs.Words.{ℕ, refl, Bool, true, false, cond, leb, ltb, List, [], AllByRecursion, joined, only, Option, Some, None}
use Rattle.std.proofs.Common.{◌≤◌, ◌≡◌, ◌∷◌, ◌++◌, arith}
use Rattle.std.proofs.ByRecursion.{All-weaker, All-append}
use Rattle.model.specs.Market.{Buy, Sell, Standing, Trade, tickers}
use Rattle.model.specs.Queues.{with_lots}
use Rattle.model.specs.Matching.{trades_of, meet}
use Rattle.model.specs.Opening.{unopened, auctioned, uncross, opening_at, opening, opening_price_lem}
use Rattle.model.specs.World.{World, queue}
use Rattle.model.specs.Movements.{opened_at}
use Rattle.model.specs.OpeningLaws.{TickersRise}
use Rattle.model.proofs.Meeting.{meet-graph, meets-made}
use Rattle.model.proofs.Matched.{all_map}
use Rattle.ranking.specs.Ranks.{Pairwise}

-- ---- all trades of a ticker's opening are of this ticker
uncross-ticker : (t o : ℕ) (buys sells : List Standing) → AllByRecursion (λ d. d.trade.ticker ≡ t) (uncross t o buys sells).deals
unfolding uncross
uncross-ticker t o [] sells = tt
uncross-ticker t o (b ∷ buys) sells = step (leb o b.price) (uncross-ticker t o buys (meet (λ p. leb p o) (auctioned t o b) b.lots sells).queue)
  where
    step : (u : Bool) → let m = meet (λ p. leb p o) (auctioned t o b) b.lots sells in
        let r = uncross t o buys m.queue in
        AllByRecursion (λ d. d.trade.ticker ≡ t) r.deals
        → AllByRecursion (λ d. d.trade.ticker ≡ t)
        (cond u (record { deals = m.deals ++ r.deals; buys = only (ltb 0 m.left) (with_lots b m.left) ++ r.buys; sells = r.sells }) (unopened (b ∷ buys) sells)).deals
    step true ih =
        All-append (λ d. d.trade.ticker ≡ t) _ _ (meets-made (λ d. d.trade.ticker ≡ t) (meet-graph (λ p. leb p o) (auctioned t o b) b.lots sells) (λ x k m e. refl)) ih
    step false ih = tt

opened-ticker : (w : World) (t : ℕ) → AllByRecursion (λ x. x.ticker ≡ t) (trades_of (opened_at w t).deals)
unfolding opening
opened-ticker w t =
    all_map (λ d. d.trade.ticker ≡ t) (λ x. x.ticker ≡ t) (λ d. d.trade) (λ d h. h) (opened_at w t).deals (step (opening_price_lem (queue w t Buy) (queue w t Sell)))
  where
    step : (o : Option ℕ) → AllByRecursion (λ d. d.trade.ticker ≡ t) (opening_at t o (queue w t Buy) (queue w t Sell)).deals
    step None = tt
    step (Some o) = uncross-ticker t o (queue w t Buy) (queue w t Sell)

-- ---- lists made ticker by ticker
Rises : List Trade → Type 0
Rises = Pairwise (λ x y. x.ticker ≤ y.ticker)

before-all : (t : ℕ) (xs ys : List Trade) → AllByRecursion (λ x. x.ticker ≡ t) xs → AllByRecursion (λ y. t ≤ y.ticker) ys → Rises ys → Rises (xs ++ ys)
unfolding Rises
before-all t [] ys a b r = r
before-all t (x ∷ xs) ys a b r =
    let e = a.0 in (
      All-append (λ y. x.ticker ≤ y.ticker) xs ys (All-weaker (λ y. y.ticker ≡ t) (λ y. x.ticker ≤ y.ticker) (λ y h. omega arith) xs a.1)
          (All-weaker (λ y. t ≤ y.ticker) (λ y. x.ticker ≤ y.ticker) (λ y h. omega arith) ys b),
      before-all t xs ys a.1 b r,
    )

module _ (f : ℕ → List Trade) (own : (t : ℕ) → AllByRecursion (λ x. x.ticker ≡ t) (f t)) where
  all-later : (t : ℕ) (ts : List ℕ) → AllByRecursion (λ u. t ≤ u) ts → AllByRecursion (λ y. t ≤ y.ticker) (joined f ts)
  all-later t [] a = tt
  all-later t (u ∷ ts) a =
      let l = a.0 in
      All-append (λ y. t ≤ y.ticker) (f u) (joined f ts) (All-weaker (λ y. y.ticker ≡ u) (λ y. t ≤ y.ticker) (λ y h. omega arith) (f u) (own u)) (all-later t ts a.1)

  joined-rises : (ts : List ℕ) → Pairwise (λ t u. t ≤ u) ts → Rises (joined f ts)
  unfolding Rises
  joined-rises [] p = tt
  joined-rises (t ∷ ts) p = before-all t (f t) (joined f ts) (own t) (all-later t ts p.0) (joined-rises ts p.1)

pub tickers-rise : TickersRise
unfolding Rises
tickers-rise w room = joined-rises (λ t. trades_of (opened_at w t).deals) (opened-ticker w) tickers up
  where
    up : Pairwise (λ t u. t ≤ u) tickers
    up = (
      (omega arith, (omega arith, (omega arith, (omega arith, (omega arith, (omega arith, (omega arith, tt))))))),
      (
        (omega arith, (omega arith, (omega arith, (omega arith, (omega arith, (omega arith, tt)))))),
        (
          (omega arith, (omega arith, (omega arith, (omega arith, (omega arith, tt))))),
          (
            (omega arith, (omega arith, (omega arith, (omega arith, tt)))),
            (
              (omega arith, (omega arith, (omega arith, tt))),
              (
                (omega arith, (omega arith, tt)),
                ((omega arith, tt), (tt, tt)),
              ),
            ),
          ),
        ),
      ),
    )
