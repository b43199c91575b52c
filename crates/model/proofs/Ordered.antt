-- The queues of a sound floor stand in the order of price and then time.
use Rattle.model.specs.Words.{ℕ, refl, true, false, List, [], AllByRecursion, Option, Some}
use Rattle.std.proofs.Common.{◌+◌, ◌≤◌, ◌≡◌, ◌≢◌, ◌∷◌, arith}
use Rattle.std.proofs.lemmas.Bool.Decides.{nat_tests}
use Rattle.model.specs.Market.{Side, Buy, Sell, Session, Closed, PreTrading, Trading, PostTrading, is_post_trading, Standing}
use Rattle.model.specs.Queues.{before}
use Rattle.model.specs.World.{World, queue, average_of}
use Rattle.model.specs.Sound.{Sound, times_in}
use Rattle.model.specs.QueueLaws.{NoWorse, PriceThenTime}
use Rattle.model.proofs.Opened.{all-mem}
use Rattle.model.proofs.Tallies.{all_from, mem-times, in_queue}
use Rattle.ranking.specs.Ranks.{Pairwise}

-- ---- pairs of a list
module _ {X : Type 0} where
  all_both : (P Q R : X → Type 0) → ((x : X) → P x → Q x → R x) → (xs : List X) → AllByRecursion P xs → AllByRecursion Q xs → AllByRecursion R xs
  all_both P Q R f [] a b = tt
  all_both P Q R f (x ∷ xs) a b = (f x a.0 b.0, all_both P Q R f xs a.1 b.1)

  pairs-both : (P Q R : X → X → Type 0) → ((x y : X) → P x y → Q x y → R x y) → (xs : List X) → Pairwise P xs → Pairwise Q xs → Pairwise R xs
  pairs-both P Q R f [] a b = tt
  pairs-both P Q R f (x ∷ xs) a b = (all_both (P x) (Q x) (R x) (f x) xs a.0 b.0, pairs-both P Q R f xs a.1 b.1)

  pairs-from : (P : X → Type 0) (R : X → X → Type 0) → ((x y : X) → P x → P y → R x y) → (xs : List X) → AllByRecursion P xs → Pairwise R xs
  pairs-from P R f [] a = tt
  pairs-from P R f (x ∷ xs) a = (all_both P P (R x) (λ y p q. f x y a.0 q) xs a.1 a.1, pairs-from P R f xs a.1)

-- numbers that stand once differ
numbers-differ : (q : List Standing) → ((n : ℕ) → times_in n q ≤ 1) → Pairwise (λ x y. x.number ≢ y.number) q
numbers-differ [] h = tt
numbers-differ (x ∷ q) h = (
  all_from (λ y. x.number ≢ y.number) q (λ y m e. twice y e (mem-times m) (h y.number)),
  numbers-differ q (λ n. fewer n (h n)),
)
  where
    twice : (y : Standing) → x.number ≡ y.number → 1 ≤ times_in y.number q → times_in y.number (x ∷ q) ≤ 1 → ⊥
    twice y e m l = grind (arith, nat_tests)

    fewer : (n : ℕ) → times_in n (x ∷ q) ≤ 1 → times_in n q ≤ 1
    fewer n l = omega arith

-- ---- one bid in front of another
record Ahead (side : Side) (x y : Standing) : Type 0 where
  price : NoWorse side x.price y.price
  time : x.price ≡ y.price → x.number ≤ y.number

same : (side : Side) (x y : Standing) → x.price ≡ y.price → NoWorse side x.price y.price
same Buy x y e = omega arith
same Sell x y e = omega arith

by-price : (side : Side) (x y : Standing) → before Closed side y x ≡ false → Ahead side x y
by-price Buy x y e = record { price = grind (arith, nat_tests); time = λ p. grind (arith, nat_tests) }
by-price Sell x y e = record { price = grind (arith, nat_tests); time = λ p. grind (arith, nat_tests) }

ahead : (session : Session) (side : Side) (x y : Standing) → before session side y x ≡ false → (is_post_trading session ≡ true → x.price ≡ y.price) → Ahead side x y
ahead Closed side x y e p = by-price side x y e
ahead PreTrading side x y e p = by-price side x y e
ahead Trading side x y e p = by-price side x y e
ahead PostTrading side x y e p = record { price = same side x y (p refl); time = λ _. grind (arith, nat_tests) }

one-price : {o : Option ℕ} (x y : Standing) → o ≡ Some x.price → o ≡ Some y.price → x.price ≡ y.price
one-price x y p q = cc

module _ (step : ℕ) (w : World) (s : Sound step w) (t : ℕ) (side : Side) where
  abbrev q : List Standing
  q = queue w t side

  -- in post-trading all stand at the average
  level : Pairwise (λ x y. is_post_trading w.session ≡ true → x.price ≡ y.price) q
  level =
      pairs-from (λ x. is_post_trading w.session ≡ true → average_of (w.sheets t) ≡ Some x.price) (λ x y. is_post_trading w.session ≡ true → x.price ≡ y.price)
      (λ x y f g z. one-price x y (f z) (g z)) q
      (all_from (λ x. is_post_trading w.session ≡ true → average_of (w.sheets t) ≡ Some x.price) q
      (λ x m z. all-mem (λ x. average_of (w.sheets t) ≡ Some x.price) (s.averaged z t side) m))

  in-front : Pairwise (Ahead side) q
  in-front =
      pairs-both (λ x y. before w.session side y x ≡ false) (λ x y. is_post_trading w.session ≡ true → x.price ≡ y.price) (Ahead side)
      (λ x y e p. ahead w.session side x y e p) q (s.ranked t side) level

  apart : Pairwise (λ x y. x.number ≢ y.number) q
  apart = numbers-differ q (λ n. in_queue step w s n t side)

pub price-then-time : PriceThenTime 1
price-then-time step w s t side = record {
  price = pairs-both (Ahead side) (λ x y. x.number ≢ y.number) (λ x y. NoWorse side x.price y.price) (λ x y a n. a.price) (queue w t side) (in-front step w s t side) (apart step w s t side);
  time = pairs-both (Ahead side) (λ x y. x.number ≢ y.number) (λ x y. x.price ≡ y.price → x.number + 1 ≤ y.number)
      (λ x y a n e. let l = a.time e in omega arith) (queue w t side) (in-front step w s t side) (apart step w s t side);
}
