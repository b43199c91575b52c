-- On a sound floor a bid's block is refused by 34 and 35 alone.
use Rattle.model.specs.Words.{ℕ, refl, Bool, true, false, cond, eqb, List, AllByRecursion, Option, Some, None}
use Rattle.std.proofs.Common.{◌*◌, ◌≤◌, ◌≡◌, mul-le-mul, arith}
use Rattle.std.proofs.lemmas.Bool.Decides.{nat_tests}
use Rattle.std.proofs.lemmas.Bool.{and_parts}
use Rattle.std.proofs.ByRecursion.{All-weaker}
use Rattle.model.specs.Market.{Side, Buy, Sell, other, is_post_trading, Bid, Trade}
use Rattle.model.specs.Average.{cost_of, average_price_lem}
use Rattle.model.specs.World.{World, Sheet, queue, average_of}
use Rattle.model.specs.Bidding.{limit_of, next_number, bid_trades, owed}
use Rattle.model.specs.Matching.{trades_of, to_block}
use Rattle.model.specs.Checks.{within_limits}
use Rattle.model.specs.Sound.{Sound, Fit}
use Rattle.rules.specs.Bids.{most_price, most_lots, is_price_lem, is_lots_lem}
use Rattle.rules.specs.Rules.{Rule}
use Rattle.model.specs.MatchingLaws.{Fair, meeting}
pub use Rattle.model.proofs.Sheets.{asset-known}
use Rattle.model.proofs.Rounding.{average-laws, cost-most}
use Rattle.model.proofs.Bids.{bids-are-right}
use Rattle.model.proofs.Matched.{matching-is-right, encounter-by}
use Rattle.model.proofs.Opened.{all-mem}

-- ---- the amount it blocks
within-price : (b : Bid) (p : ℕ) → b.price ≡ Some p → within_limits b ≡ true → p ≤ most_price
within-price b p e h = step b.price e (and_parts _ (is_lots_lem b.lots) h).0
  where
    step : (o : Option ℕ) → o ≡ Some p → ◌≡◌ {A = Bool} (elim o [ Some z ↦ is_price_lem z | None ↦ true ]) true → p ≤ most_price
    step (Some z) f g = let k : z ≡ p = cc in grind (arith, nat_tests)
    step None f g = absurd (let z : ◌≡◌ {A = ℕ} 0 1 = cc in omega arith)

within-lots : (b : Bid) → within_limits b ≡ true → b.lots ≤ most_lots
within-lots b h = let k = (and_parts _ (is_lots_lem b.lots) h).1 in grind (arith, nat_tests)

-- the average is at most the highest price
average-most : (s : Sheet) (p : ℕ) → s.worth ≤ most_price * s.traded → average_of s ≡ Some p → p ≤ most_price
average-most s p h e = step (eqb s.traded 0) refl e
  where
    step : (t : Bool) → eqb s.traded 0 ≡ t → cond t None (Some (average_price_lem s.worth s.traded)) ≡ Some p → p ≤ most_price
    step true f g = absurd (let z : ◌≡◌ {A = ℕ} 0 1 = cc in omega arith)
    step false f g =
        let k : average_price_lem s.worth s.traded ≡ p = cc in
        let l = average-laws.most s.worth s.traded most_price (grind (arith, nat_tests)) h in
        omega arith

to-block-most : (side : Side) (limit : Option ℕ) (lots : ℕ) (xs : List Trade) → ((p : ℕ) → limit ≡ Some p → p ≤ most_price) → lots ≤ most_lots
    → cost_of xs ≤ most_price * most_lots → to_block side limit lots xs ≤ most_price * most_lots
to-block-most Buy (Some p) lots xs h l c = mul-le-mul (h p refl) l
to-block-most Buy None lots xs h l c = c
to-block-most Sell limit lots xs h l c = omega arith

module _ (r : Rule) (w : World) (b : Bid) (sound : Sound r.step w) (within : within_limits b ≡ true) where
  limit-most : (p : ℕ) → limit_of w b ≡ Some p → p ≤ most_price
  limit-most p = step (is_post_trading w.session)
    where
      step : (t : Bool) → cond t (average_of (w.sheets b.ticker)) b.price ≡ Some p → p ≤ most_price
      step true e = average-most (w.sheets b.ticker) p (sound.dearest b.ticker) e
      step false e = within-price b p e within

  prices-most : AllByRecursion (λ x. x.price ≤ most_price) (bid_trades w b)
  prices-most =
      let q = queue w b.ticker (other b.side) in
      encounter-by w b (λ m. AllByRecursion (λ x. x.price ≤ most_price) (trades_of m.deals)) tt
      (All-weaker (Fair b.side (limit_of w b) q) (λ x. x.price ≤ most_price)
      (λ x f. let e = f.price in let h = (all-mem (Fit r.step w.given) (sound.fit b.ticker (other b.side)) f.stood).highest in omega arith)
      (trades_of (meeting (next_number w) b (limit_of w b) q).deals) (matching-is-right (next_number w) b (limit_of w b) q).fair)

  cost-bounded : cost_of (bid_trades w b) ≤ most_price * most_lots
  cost-bounded =
      let c = cost-most (bid_trades w b) most_price prices-most in
      let l = (bids-are-right w b).lots in
      let k = within-lots b within in
      omega arith

  pub owed-most : owed w b ≤ most_price * most_lots
  owed-most = to-block-most b.side (limit_of w b) b.lots (bid_trades w b) limit-most (within-lots b within) cost-bounded
