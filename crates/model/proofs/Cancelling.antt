-- A cancellation takes out one bid, its holder's own.
use Rattle.model.specs.Words.{ℕ, refl, Bool, true, false, not, eqb, List, [], Option, Some, None, only, kept, any_of, sum_of}
use Rattle.std.proofs.Common.{◌+◌, ◌≤◌, ◌≡◌, ◌≢◌, ◌||◌, ◌∷◌, ◌++◌, ◌⊎◌, sym, ap, ◌∙◌, subst, inl, inr, arith}
use Rattle.std.proofs.lemmas.Bool.Decides.{nat_tests}
use Rattle.std.proofs.lemmas.Bool.{true≢false, cases_Bool, or_cases, and_parts, eqb-true}
use Rattle.model.specs.Market.{Side, Buy, Sell, other, Session, Standing, Cancel, Cancelled, Refused, Cause}
use Rattle.model.specs.Queues.{named, without}
use Rattle.model.specs.World.{World, Sheet, queue_of, queue}
use Rattle.model.specs.Checks.{why}
use Rattle.model.specs.Movements.{cancelled}
use Rattle.model.specs.Calls.{answer, after, accepted, next, decided, fault_of_lem, cancelled_lots, cancel_sheet}
use Rattle.model.specs.Sound.{Sound, times_in}
use Rattle.model.specs.QueueLaws.{TakenOut, CancelsTakeOwn}
use Rattle.model.proofs.Sums.{sum-join}
use Rattle.model.proofs.Sheets.{sheet-here, sheet-there}
use Rattle.model.proofs.Quiet.{cancellable}
use Rattle.model.proofs.Tallies.{in_queue, in_both}
use Rattle.rules.specs.Rules.{Rule}

-- ---- in one queue
module _ (h n : ℕ) where
  named-counts : (q : List Standing) → any_of (named h n) q ≡ true → 1 ≤ times_in n q
  named-counts [] e = absurd (true≢false (sym e))
  named-counts (x ∷ q) e = by (or_cases (named h n x) (any_of (named h n) q) e) (named-counts q)
    where
      by : (named h n x ≡ true) ⊎ (any_of (named h n) q ≡ true) → (any_of (named h n) q ≡ true → 1 ≤ times_in n q) → 1 ≤ times_in n (x ∷ q)
      by (inl p) ih = let z = (and_parts (eqb x.holder h) (eqb x.number n) p).1 in grind (arith, nat_tests)
      by (inr p) ih = omega (arith, ih p)

  none_named : (q : List Standing) → times_in n q ≡ 0 → any_of (named h n) q ≡ false
  none_named q z = by (cases_Bool (any_of (named h n) q))
    where
      by : (any_of (named h n) q ≡ true) ⊎ (any_of (named h n) q ≡ false) → any_of (named h n) q ≡ false
      by (inl e) = absurd (omega (arith, named-counts q e))
      by (inr e) = e

  stays : (q : List Standing) → any_of (named h n) q ≡ false → without h n q ≡ q
  stays [] e = refl
  stays (x ∷ q) e = by (named h n x) e (stays q)
    where
      by : (b : Bool) → (b || any_of (named h n) q) ≡ false → (any_of (named h n) q ≡ false → without h n q ≡ q) → only (not b) x ++ without h n q ≡ x ∷ q
      by true e ih = absurd (true≢false e)
      by false e ih = ap (λ (z : List Standing). x ∷ z) (ih e)

  nothing : (q : List Standing) → any_of (named h n) q ≡ false → kept (named h n) q ≡ []
  nothing [] e = refl
  nothing (x ∷ q) e = by (named h n x) e (nothing q)
    where
      by : (b : Bool) → (b || any_of (named h n) q) ≡ false → (any_of (named h n) q ≡ false → kept (named h n) q ≡ []) → only b x ++ kept (named h n) q ≡ []
      by true e ih = absurd (true≢false e)
      by false e ih = ih e

  -- the one that is named, where its number stands once
  record Found (q : List Standing) : Type 0 where
    bid : Standing
    front : List Standing
    behind : List Standing
    stood : q ≡ front ++ bid ∷ behind
    stay : without h n q ≡ front ++ behind
    is : named h n bid ≡ true
    taken : kept (named h n) q ≡ bid ∷ []

  found : (q : List Standing) → any_of (named h n) q ≡ true → times_in n q ≤ 1 → Found q
  found [] e l = absurd (true≢false (sym e))
  found (x ∷ q) e l = by (named h n x) refl e (found q)
    where
      by : (b : Bool) → named h n x ≡ b → (b || any_of (named h n) q) ≡ true → (any_of (named h n) q ≡ true → times_in n q ≤ 1 → Found q) → Found (x ∷ q)
      by true p e ih =
          let z = (and_parts (eqb x.holder h) (eqb x.number n) p).1 in
          let rest = none_named q (grind (arith, nat_tests)) in
          record {
            bid = x;
            front = [];
            behind = q;
            stood = refl;
            stay = ap (λ (c : Bool). only (not c) x ++ without h n q) p ∙ stays q rest;
            is = p;
            taken = ap (λ (c : Bool). only c x ++ kept (named h n) q) p ∙ ap (λ (z : List Standing). x ∷ z) (nothing q rest);
          }
      by false p e ih =
          let f = ih e (omega arith) in
          record {
            bid = f.bid;
            front = x ∷ f.front;
            behind = f.behind;
            stood = ap (λ (z : List Standing). x ∷ z) f.stood;
            stay = ap (λ (c : Bool). only (not c) x ++ without h n q) p ∙ ap (λ (z : List Standing). x ∷ z) f.stay;
            is = f.is;
            taken = ap (λ (c : Bool). only c x ++ kept (named h n) q) p ∙ f.taken;
          }

any-join : (p : Standing → Bool) (xs ys : List Standing) → any_of p (xs ++ ys) ≡ true → (any_of p xs ≡ true) ⊎ (any_of p ys ≡ true)
any-join p [] ys e = inr e
any-join p (x ∷ xs) ys e = by (p x) e (any-join p xs ys)
  where
    by : (b : Bool) → (b || any_of p (xs ++ ys)) ≡ true → (any_of p (xs ++ ys) ≡ true → (any_of p xs ≡ true) ⊎ (any_of p ys ≡ true)) → ((b || any_of p xs) ≡ true) ⊎ (any_of p ys ≡ true)
    by true e ih = inl refl
    by false e ih = ih e

-- ---- on the floor
module _ (r : Rule) (w : World) (shown : Session) (h t n : ℕ) (s : Sound r.step w) (e : why r w (Cancel shown h t n) ≡ None) where
  abbrev w' : World
  w' = next w (Cancel shown h t n)

  here : (d : Side) → queue w' t d ≡ without h n (queue w t d)
  here d = ap (λ (z : Sheet). queue_of z d) (sheet-here w.sheets t (cancel_sheet (w.sheets t) h n)) ∙ by d
    where
      by : (d : Side) → queue_of (cancel_sheet (w.sheets t) h n) d ≡ without h n (queue w t d)
      by Buy = refl
      by Sell = refl

  there : (u : ℕ) (d : Side) → u ≢ t → queue w' u d ≡ queue w u d
  there u d ne = ap (λ (z : Sheet). queue_of z d) (sheet-there w.sheets t (cancel_sheet (w.sheets t) h n) u ne)

  lots-by : (d : Side) → cancelled_lots w h t n ≡ sum_of (λ x. x.lots) (cancelled w h t n d) + sum_of (λ x. x.lots) (cancelled w h t n (other d))
  lots-by Buy = sum-join (λ x. x.lots) (cancelled w h t n Buy) (cancelled w h t n Sell)
  lots-by Sell = omega (arith, sum-join (λ x. x.lots) (cancelled w h t n Buy) (cancelled w h t n Sell))

  on-side : (d : Side) → any_of (named h n) (queue w t d) ≡ true → TakenOut w w' h t n (cancelled_lots w h t n)
  on-side d p =
      let f = found h n (queue w t d) p (in_queue r.step w s n t d) in
      let none = none_named h n (queue w t (other d)) (omega (arith, in_both r.step w s n t d, named-counts h n (queue w t d) p)) in
      let is = and_parts (eqb f.bid.holder h) (eqb f.bid.number n) f.is in
      record {
        side = d;
        bid = f.bid;
        front = f.front;
        behind = f.behind;
        stood = f.stood;
        stay = here d ∙ f.stay;
        own = eqb-true f.bid.holder h is.0;
        named = eqb-true f.bid.number n is.1;
        left = omega (
          arith,
          lots-by d,
          ap (λ (z : List Standing). sum_of (λ x. x.lots) z) f.taken,
          ap (λ (z : List Standing). sum_of (λ x. x.lots) z) (nothing h n (queue w t (other d)) none),
        );
        other_side = here (other d) ∙ stays h n (queue w t (other d)) none;
        other_tickers = there;
      }

  taken_out : TakenOut w w' h t n (cancelled_lots w h t n)
  taken_out = by (any-join (named h n) (queue w t Buy) (queue w t Sell) (cancellable r w shown h t n e).stands)
    where
      by : (any_of (named h n) (queue w t Buy) ≡ true) ⊎ (any_of (named h n) (queue w t Sell) ≡ true) → TakenOut w w' h t n (cancelled_lots w h t n)
      by (inl p) = on-side Buy p
      by (inr p) = on-side Sell p

pub cancels-take-own : CancelsTakeOwn
unfolding answer after
cancels-take-own r w shown h t n lots s e = go (why r w (Cancel shown h t n)) refl e
  where
    go : (o : Option Cause) → why r w (Cancel shown h t n) ≡ o → decided o (accepted w (Cancel shown h t n)) (λ z. Refused (fault_of_lem (Cancel shown h t n) z)) ≡ Cancelled lots
        → TakenOut w (decided o (next w (Cancel shown h t n)) (λ z. w)) h t n lots
    go None p q = let k : cancelled_lots w h t n ≡ lots = cc in subst (TakenOut w (next w (Cancel shown h t n)) h t n) k (taken_out r w shown h t n s p)
    go (Some x) p q = absurd (grind arith)
