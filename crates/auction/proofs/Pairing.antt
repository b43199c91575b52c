-- The slips of a pair settle its deal.
use Rattle.std.proofs.Common.{◌≡◌, ℕ, ◌*◌, ◌≤◌, min, List, sym, ap, ◌∙◌, subst, mul-le-mul_right}
use Rattle.register.specs.Books.{Book}
use Rattle.register.specs.Moves.{Move}
use Rattle.register.specs.declared.slips.Slip.{Slip}
use Rattle.model.specs.declared.words.Standing.{Standing}
use Rattle.model.specs.Movements.{Granted, settlement}
use Rattle.matching.specs.Exchanges.{exchange}
use Rattle.auction.specs.Pairs.{pair_deal}

module _ (currency t price : ℕ) (b s : Standing) (lots : ℕ) (cash goods : Slip) (least : lots ≡ min b.lots s.lots)
    (paid : cash ≡ record { holder = b.holder; asset = currency; amount = b.price * lots }) (sold : goods ≡ record { holder = s.holder; asset = t; amount = lots }) where
  exchanged : exchange cash goods (price * lots) ≡ settlement currency (pair_deal t price b s)
  exchanged =
      ap (λ (z : Slip). exchange z goods (price * lots)) paid
      ∙ ap (λ (z : Slip). exchange (record { holder = b.holder; asset = currency; amount = b.price * lots }) z (price * lots)) sold
      ∙ ap (λ (n : ℕ). exchange (record { holder = b.holder; asset = currency; amount = b.price * n }) (record { holder = s.holder; asset = t; amount = n }) (price * n)) least

  pub exchange-granted : (k : Book) → Granted (settlement currency (pair_deal t price b s)) k → Granted (exchange cash goods (price * lots)) k
  exchange-granted k g = subst (λ (ms : List Move). Granted ms k) (sym exchanged) g

  pub exchange-enough : price ≤ b.price → price * lots ≤ cash.amount
  exchange-enough h = subst (λ (n : ℕ). price * lots ≤ n) (sym (ap (λ (z : Slip). z.amount) paid)) (mul-le-mul_right lots h)
