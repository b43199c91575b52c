-- A cancellation keeps the tally tied to the queues.
use Rattle.model.specs.Words.{ℕ, refl, Bool, true, false, cond, not, eqb, List, [], AllByRecursion, sum_of, kept, only, any_of, Option, Permᴰ}
use Rattle.std.proofs.Common.{◌+◌, ◌≤◌, ◌≡◌, ◌&&◌, ◌||◌, ◌∷◌, ◌++◌, sym, ap, ◌∙◌, subst, inl, inr, append-nil, arith}
use Rattle.std.proofs.lemmas.Bool.Decides.{nat_tests}
use Rattle.std.proofs.ByRecursion.{All-weaker}
use Rattle.std.proofs.lemmas.Bool.{cases_eq}
use Rattle.model.specs.Market.{Side, Buy, Sell, Session, Bid, Standing}
use Rattle.model.specs.Queues.{named, without}
use Rattle.model.specs.World.{World, Sheet, queue, queue_of}
use Rattle.model.specs.Calls.{cancel_sheet, with_sheet}
use Rattle.model.specs.Tally.{Tally, Kept, held_to, standing_of}
use Rattle.model.specs.Sound.{Sound, times_in}
use Rattle.model.specs.Law.{Tied}
use Rattle.model.proofs.Sums.{sum-join}
use Rattle.model.proofs.Sheets.{sheet-here, sheet-there}
use Rattle.model.proofs.Quiet.{Cancellable}
use Rattle.model.proofs.Takings.{listed, here, belongs, shown, joined-append, joined-perm, joined_same, Absent, absent}
use Rattle.model.proofs.Tallies.{standing-listed, in_both, in_two}
use Rattle.rules.specs.Rules.{Rule}

-- ---- those kept by their number
abbrev other-number : ℕ → Standing → Bool
other-number n x = not (eqb x.number n)

one_kept : (held : Bid → Option ℕ) (t : ℕ) (side : Side) (n : ℕ) (k : Kept) → listed held t side (only (not (eqb k.number n)) k) ≡ kept (other-number n) (here held t side k)
one_kept held t side n k = left (not (eqb k.number n)) ∙ sym (right (belongs held t side k))
  where
    left : (c : Bool) → listed held t side (only c k) ≡ only (c && belongs held t side k) (shown held t side k)
    left true = append-nil _
    left false = refl

    one : (c : Bool) → only c (shown held t side k) ++ [] ≡ only (c && true) (shown held t side k)
    one true = refl
    one false = refl

    no_one : (c : Bool) → [] ≡ only (c && false) (shown held t side k)
    no_one true = refl
    no_one false = refl

    right : (q : Bool) → kept (other-number n) (only q (shown held t side k)) ≡ only (not (eqb k.number n) && q) (shown held t side k)
    right true = one (not (eqb k.number n))
    right false = no_one (not (eqb k.number n))

listed_kept : (held : Bid → Option ℕ) (t : ℕ) (side : Side) (n : ℕ) (ks : List Kept) → listed held t side (kept (λ k. not (eqb k.number n)) ks) ≡ kept (other-number n) (listed held t side ks)
listed_kept held t side n [] = refl
listed_kept held t side n (k ∷ ks) =
    joined-append (here held t side) (only (not (eqb k.number n)) k) (kept (λ k. not (eqb k.number n)) ks)
    ∙ ap (λ z. z ++ listed held t side (kept (λ k. not (eqb k.number n)) ks)) (one_kept held t side n k)
    ∙ ap (λ z. kept (other-number n) (here held t side k) ++ z) (listed_kept held t side n ks)
    ∙ sym (joined-append (λ x. only (other-number n x) x) (here held t side k) (listed held t side ks))

kept_same : {X : Type 0} (p q : X → Bool) (xs : List X) → AllByRecursion (λ x. p x ≡ q x) xs → kept p xs ≡ kept q xs
kept_same p q [] a = refl
kept_same p q (x ∷ xs) a = ap (λ (b : Bool). only b x ++ kept p xs) a.0 ∙ ap (λ z. only (q x) x ++ z) (kept_same p q xs a.1)

kept-every : (n : ℕ) (q : List Standing) → Absent n q → kept (other-number n) q ≡ q
kept-every n q a = joined_same (λ x. only (other-number n x) x) q (All-weaker (λ x. x.number ≡ n → ⊥) (λ x. only (other-number n x) x ≡ x ∷ []) (λ x ne. ap (λ (b : Bool). only b x) (off x ne)) q a)
  where
    off : (x : Standing) → (x.number ≡ n → ⊥) → not (eqb x.number n) ≡ true
    off x ne = grind (arith, nat_tests)

-- ---- the bid that is named is the only one with its number
abbrev named_times : ℕ → ℕ → List Standing → ℕ
named_times h n q = sum_of (λ x. cond (named h n x) 1 0) q

named-within : (h n : ℕ) (q : List Standing) → named_times h n q ≤ times_in n q
named-within h n [] = omega arith
named-within h n (x ∷ q) = let ih = named-within h n q in grind (arith, nat_tests)

some-named : (h n : ℕ) (q : List Standing) → any_of (named h n) q ≡ true → 1 ≤ named_times h n q
some-named h n (x ∷ q) e = by (named h n x) e (some-named h n q)
  where
    by : (b : Bool) → (b || any_of (named h n) q) ≡ true → (any_of (named h n) q ≡ true → 1 ≤ named_times h n q) → 1 ≤ cond b 1 0 + named_times h n q
    by true e ih = omega arith
    by false e ih = omega (arith, ih e)
some-named h n [] e = absurd (grind (arith, nat_tests))

pointwise : (h n : ℕ) (q : List Standing) → named_times h n q ≡ times_in n q → AllByRecursion (λ x. other-number n x ≡ not (named h n x)) q
pointwise h n [] e = tt
pointwise h n (x ∷ q) e = (here (named-within h n q), pointwise h n q (rest (named-within h n q)))
  where
    here : named_times h n q ≤ times_in n q → not (eqb x.number n) ≡ not (named h n x)
    here le = grind (arith, nat_tests)

    rest : named_times h n q ≤ times_in n q → named_times h n q ≡ times_in n q
    rest le = grind (arith, nat_tests)

module _ (r : Rule) (w : World) (shown : Session) (h t n : ℕ) (c : Cancellable r w shown h t n) (s : Sound r.step w) (y : Tally) (tied : Tied w y) where
  abbrev y' : Tally
  y' = record { sums = y.sums; listing = y.listing; trades = y.trades; standing = kept (λ x. not (eqb x.number n)) y.standing; running = y.running }

  found : 1 ≤ named_times h n (queue w t Buy) + named_times h n (queue w t Sell)
  found = omega (arith, some-named h n (queue w t Buy ++ queue w t Sell) c.stands, sum-join (λ x. cond (named h n x) 1 0) (queue w t Buy) (queue w t Sell))

  here-all : (d : Side) → named_times h n (queue w t d) ≡ times_in n (queue w t d)
  here-all Buy = omega (arith, found, in_both r.step w s n t Buy, named-within h n (queue w t Buy), named-within h n (queue w t Sell))
  here-all Sell = omega (arith, found, in_both r.step w s n t Buy, named-within h n (queue w t Buy), named-within h n (queue w t Sell))

  none-there : (u : ℕ) (d : Side) → (u ≡ t → ⊥) → times_in n (queue w u d) ≡ 0
  none-there u d ne = omega (arith, found, named-within h n (queue w t Buy), named-within h n (queue w t Sell), in_two r.step w s n u t d Buy ne, in_two r.step w s n u t d Sell ne)

  kept-perm : (u : ℕ) (d : Side) → Permᴰ (standing_of y' u d) (kept (other-number n) (queue w u d))
  kept-perm u d =
      subst (λ (z : List Standing). Permᴰ z (kept (other-number n) (queue w u d))) (sym (standing-listed y' u d ∙ listed_kept (held_to y) u d n y.standing))
      (joined-perm (λ x. only (other-number n x) x) (subst (λ (z : List Standing). Permᴰ z (queue w u d)) (standing-listed y u d) (tied.queues u d)))

  cancelled-queue : (d : Side) → queue_of (cancel_sheet (w.sheets t) h n) d ≡ without h n (queue w t d)
  cancelled-queue Buy = refl
  cancelled-queue Sell = refl

  pub cancel-queues : (u : ℕ) (d : Side) → Permᴰ (standing_of y' u d) (queue_of (with_sheet w.sheets t (cancel_sheet (w.sheets t) h n) u) d)
  cancel-queues u d = elim (cases_eq u t) [
    | inl e ↦ subst (λ (z : ℕ). Permᴰ (standing_of y' z d) (queue_of (with_sheet w.sheets t (cancel_sheet (w.sheets t) h n) z) d)) (sym e)
        (subst (Permᴰ (standing_of y' t d)) (kept_same (other-number n) (λ x. not (named h n x)) (queue w t d) (pointwise h n (queue w t d) (here-all d)) ∙ sym (ap (λ (z : Sheet). queue_of z d) (sheet-here w.sheets t (cancel_sheet (w.sheets t) h n)) ∙ cancelled-queue d)) (kept-perm t d))
    | inr ne ↦ subst (Permᴰ (standing_of y' u d)) (kept-every n (queue w u d) (absent n (queue w u d) (none-there u d ne)) ∙ sym (ap (λ (z : Sheet). queue_of z d) (sheet-there w.sheets t (cancel_sheet (w.sheets t) h n) u ne))) (kept-perm u d)
  ]
