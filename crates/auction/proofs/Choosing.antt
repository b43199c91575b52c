-- The best price with its numbers at hand is the opening price.
use Rattle.std.proofs.Common.{◌≡◌, ℕ, ◌+◌, ◌-◌, ◌<◌, ◌≤◌, min, Bool, true, false, cond, List, [], ◌∷◌, ◌++◌, length, get_or, drop, Some, None, Option, sym, refl, ap, ◌∙◌}
use Rattle.std.proofs.lemmas.List.{at_drop_more, at_drop_all}
use Rattle.model.specs.declared.words.Standing.{Standing}
use Rattle.model.specs.Opening.{demand, supply, tradable, gap, better, best_from, best_of, prices_of, opening_price_lem}
use Rattle.auction.specs.declared.prices.Candidate.{Candidate}
use Rattle.auction.specs.Prices.{candidate_at, better_than, better_of_lem, best_among_lem}

-- the price of a candidate, if there is one
abbrev pub price_in : Option Candidate → Option ℕ
price_in None = None
price_in (Some c) = Some c.price

module _ (buys sells : List Standing) where
  pub numbers-are : (p d s lots apart : ℕ) → d ≡ demand buys p → s ≡ supply sells p → lots ≡ min d s → apart ≡ (d - s) + (s - d)
      → ◌≡◌ {A = Candidate} (record { price = p; lots = lots; apart = apart }) (candidate_at buys sells p)
  unfolding tradable gap
  numbers-are p d s lots apart e f g h =
      let m = g ∙ ap (λ (x : ℕ). min x s) e ∙ ap (λ (x : ℕ). min (demand buys p) x) f in
      let n = h ∙ ap (λ (x : ℕ). (x - s) + (s - x)) e ∙ ap (λ (x : ℕ). (demand buys p - x) + (x - demand buys p)) f in
      λ i. record { price = p; lots = m i; apart = n i }

  -- one price more, and none left
  pub among-more : (best : Option Candidate) (queue : List Standing) (i : ℕ) (d : Standing) → i < length queue
      → best_among_lem buys sells best (prices_of (drop i queue)) ≡ best_among_lem buys sells (Some (better_of_lem best (candidate_at buys sells (get_or queue i d).price))) (prices_of (drop (i + 1) queue))
  among-more best queue i d h = at_drop_more (λ q. best_among_lem buys sells best (prices_of q)) queue i d h

  pub among-end : (best : Option Candidate) (queue : List Standing) (i : ℕ) → length queue ≤ i → best_among_lem buys sells best (prices_of (drop i queue)) ≡ best
  among-end best queue i h = at_drop_all (λ q. best_among_lem buys sells best (prices_of q)) queue i h

  among-join : (best : Option Candidate) (ps qs : List ℕ) → best_among_lem buys sells best (ps ++ qs) ≡ best_among_lem buys sells (best_among_lem buys sells best ps) qs
  among-join best [] qs = refl
  among-join best (p ∷ ps) qs = among-join (Some (better_of_lem best (candidate_at buys sells p))) ps qs

  one : (p q : ℕ) → better_of_lem (Some (candidate_at buys sells p)) (candidate_at buys sells q) ≡ candidate_at buys sells (cond (better buys sells q p) q p)
  unfolding better
  one p q = step (better_than (candidate_at buys sells q) (candidate_at buys sells p))
    where
      step : (b : Bool) → cond b (candidate_at buys sells q) (candidate_at buys sells p) ≡ candidate_at buys sells (cond b q p)
      step true = refl
      step false = refl

  among-from : (p : ℕ) (ps : List ℕ) → best_among_lem buys sells (Some (candidate_at buys sells p)) ps ≡ Some (candidate_at buys sells (best_from (better buys sells) p ps))
  among-from p [] = refl
  among-from p (q ∷ ps) = ap (λ c. best_among_lem buys sells (Some c) ps) (one p q) ∙ among-from (cond (better buys sells q p) q p) ps

  abbrev numbered : Option ℕ → Option Candidate
  numbered None = None
  numbered (Some p) = Some (candidate_at buys sells p)

  among_of : (ps : List ℕ) → best_among_lem buys sells None ps ≡ numbered (best_of (better buys sells) ps)
  among_of [] = refl
  among_of (p ∷ ps) = among-from p ps

  priced : (o : Option ℕ) → price_in (numbered o) ≡ o
  priced None = refl
  priced (Some p) = refl

  pub chosen : (c d : Option Candidate) → c ≡ best_among_lem buys sells None (prices_of buys) → d ≡ best_among_lem buys sells c (prices_of sells) → price_in d ≡ opening_price_lem buys sells
  unfolding opening_price_lem
  chosen c d e f =
      ap price_in (f ∙ ap (λ x. best_among_lem buys sells x (prices_of sells)) e ∙ sym (among-join None (prices_of buys) (prices_of sells)) ∙ among_of (prices_of buys ++ prices_of sells))
      ∙ priced (best_of (better buys sells) (prices_of buys ++ prices_of sells))
