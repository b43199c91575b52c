-- One call and its entry in the tally: accepted or refused.
use Rattle.model.specs.Words.{refl, false, cond, [], Option, Some, None}
use Rattle.std.proofs.Common.{◌≡◌, sym, subst}
use Rattle.std.proofs.lemmas.Bool.{cond-false}
use Rattle.model.specs.Market.{Call, Start, Deposit, Withdraw, Place, Cancel, Open, EndTrading, EndPostTrading, Cause, Refused}
use Rattle.model.specs.World.{World}
use Rattle.model.specs.Checks.{why}
use Rattle.model.specs.Calls.{answer, trades, after, accepted, trades_made, next, decided, fault_of_lem}
use Rattle.model.specs.Tally.{Tally, fed, tallied, is_refused}
use Rattle.model.specs.Runs.{entry_of}
use Rattle.rules.specs.Rules.{Rule}

accepted-stands : (w : World) (c : Call) → is_refused (accepted w c) ≡ false
accepted-stands w (Start l) = refl
accepted-stands w (Deposit h a n) = refl
accepted-stands w (Withdraw h a n) = refl
accepted-stands w (Place shown b room) = refl
accepted-stands w (Cancel shown h t k) = refl
accepted-stands w (Open room) = refl
accepted-stands w EndTrading = refl
accepted-stands w EndPostTrading = refl

pub stepping : (P : World → Tally → Type 0) (r : Rule) (w : World) (c : Call) (y : Tally) → P w y → (why r w c ≡ None → P (next w c) (fed c (accepted w c) (trades_made w c) y))
    → P (after r w c) (tallied (entry_of r w c) y)
unfolding after answer trades tallied
stepping P r w c y p q = go (why r w c) refl
  where
    go : (o : Option Cause) → why r w c ≡ o
        → P (decided o (next w c) (λ e. w))
        (cond (is_refused (decided o (accepted w c) (λ e. Refused (fault_of_lem c e)))) y (fed c (decided o (accepted w c) (λ e. Refused (fault_of_lem c e))) (decided o (trades_made w c) (λ e. [])) y))
    go None e = subst (P (next w c)) (sym (cond-false (is_refused (accepted w c)) y (fed c (accepted w c) (trades_made w c) y) (accepted-stands w c))) (q e)
    go (Some x) e = p
