-- Two books as one: a movement of an asset is that movement of the book that keeps it.
use Rattle.std.specs.Prelude.{◌≡◌, ℕ, Bool, true, false, not, ◌⊎◌, Option, ◌≢◌, nat_lt}
use Rattle.std.proofs.Common.{sym, ap, ◌∙◌, inl, inr, arith}
use Rattle.std.proofs.lemmas.Bool.Decides.{nat_tests}
use Rattle.register.specs.declared.faults.RegisterFault.{RegisterFault}
use Rattle.register.specs.Books.{Book, total}
use Rattle.register.specs.Moves.{Move, refusal, moved, after_move}
use Rattle.layers.specs.Layers.{split}
use Rattle.layers.specs.Agreeing.{Agree, books-agree, agree-sym, agree_trans, total-agree, asset_of_lem, refusal-agree, moved-agree, moved-elsewhere, after-lifted}

-- the two sides of a split, so that each fact is said once: `keeps s a` says that asset a is kept by the
-- first book where s is true, else by the second; `whole s v u` is the split with u on that side and v on
-- the other
abbrev pub keeps : Bool → ℕ → Type 0
keeps s a = s ≡ nat_lt a 4

abbrev pub whole : Bool → Book → Book → Book
whole true v u = split u v
whole false v u = split v u

one-keeps : (s : Bool) (a : ℕ) → keeps s a ⊎ keeps (not s) a
one-keeps true a = grind (arith, nat_tests)
one-keeps false a = grind (arith, nat_tests)

other-asset : (s : Bool) (y a : ℕ) → keeps (not s) y → keeps s a → y ≢ a
other-asset true y a k l e = grind (arith, nat_tests)
other-asset false y a k l e = grind (arith, nat_tests)

-- at the assets that a side keeps the split is that side's book
pub own : (s : Bool) (u v : Book) (a : ℕ) → keeps s a → Agree a (whole s v u) u
own true u v a k = record { free = λ h. grind arith; blocked = λ h. grind arith; limit = λ h. grind arith; tag = λ h n. grind arith }
own false u v a k = record { free = λ h. grind arith; blocked = λ h. grind arith; limit = λ h. grind arith; tag = λ h n. grind arith }

-- and at the others it does not matter what that side has
others : (s : Bool) (u w v : Book) (a : ℕ) → keeps (not s) a → Agree a (whole s v u) (whole s v w)
others true u w v a k = agree_trans (own false v u a k) (agree-sym (own false v w a k))
others false u w v a k = agree_trans (own true v u a k) (agree-sym (own true v w a k))

pub whole-total : (s : Bool) (u v : Book) (a : ℕ) → keeps s a → total (whole s v u) a ≡ total u a
whole-total s u v a k = total-agree a (whole s v u) u (own s u v a k)

module _ (s : Bool) (u v : Book) (m : Move) (k : keeps s (asset_of_lem m)) where
  whole-refusal : refusal (whole s v u) m ≡ refusal u m
  whole-refusal = refusal-agree (whole s v u) u m (own s u v (asset_of_lem m) k)

  whole-moved : moved (whole s v u) m ≡ whole s v (moved u m)
  whole-moved =
      books-agree _ _ (λ y. elim (one-keeps s y) [
        | inl l ↦ agree_trans (moved-agree _ u m y (own s u v y l)) (agree-sym (own s (moved u m) v y l))
        | inr l ↦ agree_trans (moved-elsewhere _ m y (other-asset s y (asset_of_lem m) l k)) (others s u (moved u m) v y l)
      ])

  -- what the side answers is what the split has to answer, and what it leaves is what the split has to leave
  pub whole-answer : {A : Type 0} (answer : Option RegisterFault → A) (r : A) → r ≡ answer (refusal u m) → r ≡ answer (refusal (whole s v u) m)
  whole-answer answer r e = e ∙ ap answer (sym whole-refusal)

  pub whole-after : (w : Book) → w ≡ after_move u m → whole s v w ≡ after_move (whole s v u) m
  whole-after w e = ap (whole s v) e ∙ sym (after-lifted (whole s v) u m whole-refusal whole-moved)
