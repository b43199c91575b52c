-- Looking: the account or ticker is there, or it is not.
use Rattle.model.specs.Words.{ℕ, refl, Bool, true, false, leb, ltb, None}
use Rattle.std.proofs.Common.{◌≤◌, ◌<◌, ◌≡◌, Ok, sym, ap, subst, inl, inr}
use Rattle.std.proofs.lemmas.Bool.{cases_Bool, and_from, and_parts, ltb-true, leb-true, lt-ltb, le-leb}
use Rattle.model.specs.Market.{NoHolderOrTicker, ticker_known}
use Rattle.model.specs.World.{queue, average_of}
use Rattle.model.specs.Checks.{must, by_register}
use Rattle.model.specs.Looks.{looked}
use Rattle.model.specs.LookLaws.{RefusedBy, LooksAreRight}
use Rattle.register.specs.Moves.{need, fault, known, account_of}
use Rattle.register.specs.declared.faults.RegisterCause.TheVariants.{NoAccount}

account-there : (h a : ℕ) → h < 16 → a < 12 → known h a ≡ true
account-there h a i j = and_from (ltb h 16) (ltb a 12) (lt-ltb h 16 i) (lt-ltb a 12 j)

pub ticker-there : (t : ℕ) → 4 ≤ t → t ≤ 11 → ticker_known t ≡ true
ticker-there t i j = and_from (leb 4 t) (leb t 11) (le-leb 4 t i) (le-leb t 11 j)

account-missing : (h a : ℕ) → (h < 16 → a < 12 → ⊥) → known h a ≡ false
account-missing h a ne = elim (cases_Bool (known h a)) [
  | inl e ↦ let p = and_parts (ltb h 16) (ltb a 12) e in absurd (ne (ltb-true h 16 p.0) (ltb-true a 12 p.1))
  | inr e ↦ e
]

ticker-missing : (t : ℕ) → (4 ≤ t → t ≤ 11 → ⊥) → ticker_known t ≡ false
ticker-missing t ne = elim (cases_Bool (ticker_known t)) [
  | inl e ↦ let p = and_parts (leb 4 t) (leb t 11) e in absurd (ne (leb-true 4 t p.0) (leb-true t 11 p.1))
  | inr e ↦ e
]

-- a look whose test passes, and one whose test fails
module _ {X : Type 0} (t : ℕ) (x : X) where
  seen : (b : Bool) → b ≡ true → looked (must b NoHolderOrTicker) t x ≡ Ok x
  seen b e = ap (λ (z : Bool). looked (must z NoHolderOrTicker) t x) e

  unseen : (b : Bool) → b ≡ false → RefusedBy 5 t (looked (must b NoHolderOrTicker) t x)
  unseen b e = subst (λ (z : Bool). RefusedBy 5 t (looked (must z NoHolderOrTicker) t x)) (sym e) (refl, refl)

pub looks-are-right : LooksAreRight 31 5
looks-are-right = record {
  accounts = λ w h a i j. ap (λ (z : Bool). looked (by_register (need z (fault NoAccount h a 0) None)) 0 (account_of w.book h a)) (account-there h a i j);
  no_account = λ w h a ne. subst (λ (z : Bool). RefusedBy 31 0 (looked (by_register (need z (fault NoAccount h a 0) None)) 0 (account_of w.book h a))) (sym (account-missing h a ne)) (refl, refl);
  queues = λ w t side i j. seen t (queue w t side) (ticker_known t) (ticker-there t i j);
  no_queue = λ w t side ne. unseen t (queue w t side) (ticker_known t) (ticker-missing t ne);
  averages = λ w t i j. seen t (average_of (w.sheets t)) (ticker_known t) (ticker-there t i j);
  no_average = λ w t ne. unseen t (average_of (w.sheets t)) (ticker_known t) (ticker-missing t ne);
}
