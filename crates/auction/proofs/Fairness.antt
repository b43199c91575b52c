-- What an opening promises, of a world that is ready for it.
use Rattle.std.proofs.Common.{◌≡◌, ℕ, ◌+◌, ◌≤◌, min, Bool, true, cond, eqb, List, [], ◌∷◌, ◌++◌, length, Some, None, Option, sym, refl, ap, ◌∙◌, subst, inl, inr, arith}
use Rattle.std.specs.List.{flat_map, AllByRecursion}
use Rattle.std.proofs.lemmas.List.{append-nil, length-map}
use Rattle.std.proofs.ByRecursion.{All-weaker}
use Rattle.std.proofs.lemmas.Bool.{cases_eq, eq-eqb, ne_eqb}
use Rattle.std.proofs.lemmas.Bool.Decides.{nat_tests}
use Rattle.rules.specs.declared.bid.Side.TheVariants.{Buy, Sell}
use Rattle.model.specs.declared.words.Standing.{Standing}
use Rattle.model.specs.declared.words.Trade.{Trade}
use Rattle.model.specs.Words.{only, sum_of}
use Rattle.model.specs.Market.{ticker_known, tickers}
use Rattle.model.specs.Average.{lots_of}
use Rattle.model.specs.Matching.{trades_of}
use Rattle.model.specs.Opening.{demand, supply, tradable, opening_price_lem, opening_at, opening}
use Rattle.model.specs.OpeningLaws.{OpenedWell}
use Rattle.model.specs.World.{World, queue}
use Rattle.model.specs.Movements.{opened_at}
use Rattle.model.proofs.OpeningPrice.{opening-price-is-best}
use Rattle.model.proofs.Opened.{opening-clears}
use Rattle.model.proofs.Sums.{alone}
use Rattle.model.proofs.Takings.{joined-append}
use Rattle.auction.specs.Openings.{open_trades, ReadyToOpen}
use Rattle.auction.specs.Fair.{of_ticker, OpenedFairly}

-- ---- the trades of one ticker among those of several
of-append : (t : ℕ) (xs ys : List Trade) → of_ticker t (xs ++ ys) ≡ of_ticker t xs ++ of_ticker t ys
of-append t xs ys = joined-append (λ x. only (eqb x.ticker t) x) xs ys

of-own : (t : ℕ) (xs : List Trade) → AllByRecursion (λ x. x.ticker ≡ t) xs → of_ticker t xs ≡ xs
of-own t [] a = refl
of-own t (x ∷ xs) a = ap (λ (b : Bool). only b x ++ of_ticker t xs) (eq-eqb x.ticker t a.0) ∙ ap (λ (z : List Trade). x ∷ z) (of-own t xs a.1)

of_other : (t u : ℕ) (xs : List Trade) → (u ≡ t → ⊥) → AllByRecursion (λ x. x.ticker ≡ u) xs → of_ticker t xs ≡ []
of_other t u [] ne a = refl
of_other t u (x ∷ xs) ne a = ap (λ (b : Bool). only b x ++ of_ticker t xs) (ne_eqb x.ticker t (λ e. ne (sym a.0 ∙ e))) ∙ of_other t u xs ne a.1

module _ (X : ℕ → List Trade) (own : (t : ℕ) → AllByRecursion (λ x. x.ticker ≡ t) (X t)) (t : ℕ) where
  of_none : (ts : List ℕ) → sum_of (λ u. cond (eqb u t) 1 0) ts ≡ 0 → of_ticker t (flat_map X ts) ≡ []
  of_none [] e = refl
  of_none (u ∷ ts) e =
      let ne : u ≡ t → ⊥ = λ z. grind (arith, nat_tests) in
      of-append t (X u) (flat_map X ts) ∙ ap (λ (z : List Trade). z ++ of_ticker t (flat_map X ts)) (of_other t u (X u) ne (own u)) ∙ of_none ts (grind (arith, nat_tests))

  of-joined : (ts : List ℕ) → sum_of (λ u. cond (eqb u t) 1 0) ts ≡ 1 → of_ticker t (flat_map X ts) ≡ X t
  of-joined [] e = absurd (omega arith)
  of-joined (u ∷ ts) e = elim (cases_eq u t) [
    | inl z ↦
        of-append t (X u) (flat_map X ts)
        ∙ ap (λ (y : List Trade). of_ticker t (X u) ++ y) (of_none ts (let q = eq-eqb u t z in grind (arith, nat_tests)))
        ∙ append-nil (of_ticker t (X u))
        ∙ ap (λ (v : ℕ). of_ticker t (X v)) z
        ∙ of-own t (X t) (own t)
    | inr ne ↦
        of-append t (X u) (flat_map X ts)
        ∙ ap (λ (y : List Trade). y ++ of_ticker t (flat_map X ts)) (of_other t u (X u) ne (own u))
        ∙ of-joined ts (let q = ne_eqb u t ne in grind (arith, nat_tests))
  ]

no-demand : (buys sells : List Standing) (p : ℕ) → opening_price_lem buys sells ≡ None → min (demand buys p) (supply sells p) ≡ 0
unfolding opening_price_lem demand
no-demand [] sells p e = omega arith
no-demand (b ∷ buys) sells p e = absurd (let z : ◌≡◌ {A = ℕ} 0 1 = cc in omega arith)

-- ---- a world that is ready
module _ (w : World) (ready : ReadyToOpen w) where
  well : (t o : ℕ) → opening_price_lem (queue w t Buy) (queue w t Sell) ≡ Some o → OpenedWell t o (queue w t Buy) (queue w t Sell) (opened_at w t)
  well t o e = opening-clears t o (queue w t Buy) (queue w t Sell) (ready.ranked t Buy) (ready.ranked t Sell) (ready.lots t Buy) (ready.lots t Sell) e

  nothing : (t : ℕ) → opening_price_lem (queue w t Buy) (queue w t Sell) ≡ None → trades_of (opened_at w t).deals ≡ []
  unfolding opening
  nothing t e = ap (λ (o : Option ℕ). trades_of (opening_at t o (queue w t Buy) (queue w t Sell)).deals) e

  own-trades : (t : ℕ) → AllByRecursion (λ x. x.ticker ≡ t) (trades_of (opened_at w t).deals)
  own-trades t = by (opening_price_lem (queue w t Buy) (queue w t Sell)) refl
    where
      by : (o : Option ℕ) → opening_price_lem (queue w t Buy) (queue w t Sell) ≡ o → AllByRecursion (λ x. x.ticker ≡ t) (trades_of (opened_at w t).deals)
      by None e = subst (AllByRecursion (λ x. x.ticker ≡ t)) (sym (nothing t e)) tt
      by (Some o) e = All-weaker (λ x. (x.ticker ≡ t) × (x.price ≡ o)) (λ x. x.ticker ≡ t) (λ x h. h.0) (trades_of (opened_at w t).deals) (well t o e).price

  -- at most as many trades as bids stood
  pub few-trades : (t : ℕ) → length (trades_of (opened_at w t).deals) ≤ length (queue w t Buy) + length (queue w t Sell)
  few-trades t = by (opening_price_lem (queue w t Buy) (queue w t Sell)) refl
    where
      by : (o : Option ℕ) → opening_price_lem (queue w t Buy) (queue w t Sell) ≡ o → length (trades_of (opened_at w t).deals) ≤ length (queue w t Buy) + length (queue w t Sell)
      by None e = omega (arith, ap (λ (z : List Trade). length z) (nothing t e))
      by (Some o) e = omega (arith, length-map (opened_at w t).deals (λ d. d.trade), (well t o e).few)

  ticker-trades : (t : ℕ) → ticker_known t ≡ true → of_ticker t (open_trades w) ≡ trades_of (opened_at w t).deals
  ticker-trades t k = of-joined (λ u. trades_of (opened_at w u).deals) own-trades t tickers (alone 1 t k)

  pub fair : (t : ℕ) → ticker_known t ≡ true → OpenedFairly w t (open_trades w)
  unfolding tradable
  fair t k =
      let same = ticker-trades t k in
      let smaller : (o : ℕ) → opening_price_lem (queue w t Buy) (queue w t Sell) ≡ Some o → lots_of (of_ticker t (open_trades w)) ≡ min (demand (queue w t Buy) o) (supply (queue w t Sell) o)
      = λ o e. ap lots_of same ∙ (well t o e).smaller in
      let most : (p : ℕ) (z : Option ℕ) → opening_price_lem (queue w t Buy) (queue w t Sell) ≡ z → min (demand (queue w t Buy) p) (supply (queue w t Sell) p) ≤ lots_of (of_ticker t (open_trades w))
      = λ p z. elim z as (λ y. opening_price_lem (queue w t Buy) (queue w t Sell) ≡ y → min (demand (queue w t Buy) p) (supply (queue w t Sell) p) ≤ lots_of (of_ticker t (open_trades w))) [
        | None ↦ λ e. omega (arith, no-demand (queue w t Buy) (queue w t Sell) p e)
        | Some o ↦ λ e. omega (arith, smaller o e, (opening-price-is-best (queue w t Buy) (queue w t Sell) o e).most p)
      ] in
      record {
        most = λ p. most p (opening_price_lem (queue w t Buy) (queue w t Sell)) refl;
        smaller = smaller;
        price = λ o e. subst (AllByRecursion (λ x. x.price ≡ o)) (sym same) (All-weaker (λ x. (x.ticker ≡ t) × (x.price ≡ o)) (λ x. x.price ≡ o) (λ x h. h.1) (trades_of (opened_at w t).deals) (well t o e).price);
        none = λ e. same ∙ nothing t e;
      }
