-- Answers tell the trades.
use Rattle.model.specs.Words.{ℕ, refl, Bool, true, false, cond, not, [], length, Option, Some, None, is_some}
use Rattle.std.proofs.Common.{◌≤◌, ◌≡◌, ◌&&◌, subst, arith}
use Rattle.model.specs.Market.{Session, Bid, Receipt, Place, Open, Placed, Opened, Refused, Cause}
use Rattle.model.specs.World.{World}
use Rattle.model.specs.Bidding.{limit_of, met, bid_trades}
use Rattle.model.specs.Checks.{why}
use Rattle.model.specs.Calls.{answer, trades, accepted, trades_made, receipt, decided, fault_of_lem}
use Rattle.model.specs.AnswerLaws.{Told, AnswersTell}
use Rattle.model.proofs.Bids.{bids-are-right}
use Rattle.rules.specs.Rules.{Rule}

within : (t : Bool) (left : ℕ) → cond t left 0 ≤ left
within true left = omega arith
within false left = omega arith

told : (w : World) (b : Bid) → Told b (receipt w b) (bid_trades w b)
told w b = record {
  traded = refl;
  count = refl;
  standing = omega (arith, (bids-are-right w b).lots, within (is_some (limit_of w b) && not b.entire && b.keep) (met w b).left);
}

bids : (r : Rule) (w : World) (shown : Session) (b : Bid) (room : ℕ) (x : Receipt) → answer r w (Place shown b room) ≡ Placed x → Told b x (trades r w (Place shown b room))
unfolding answer trades
bids r w shown b room x e = go (why r w (Place shown b room)) e
  where
    go : (o : Option Cause) → decided o (accepted w (Place shown b room)) (λ z. Refused (fault_of_lem (Place shown b room) z)) ≡ Placed x → Told b x (decided o (trades_made w (Place shown b room)) (λ z. []))
    go None e = let k : receipt w b ≡ x = cc in subst (λ (z : Receipt). Told b z (bid_trades w b)) k (told w b)
    go (Some z) e = absurd (grind arith)

openings : (r : Rule) (w : World) (room n : ℕ) → answer r w (Open room) ≡ Opened n → n ≡ length (trades r w (Open room))
unfolding answer trades
openings r w room n e = go (why r w (Open room)) e
  where
    go : (o : Option Cause) → decided o (accepted w (Open room)) (λ z. Refused (fault_of_lem (Open room) z)) ≡ Opened n → n ≡ length (decided o (trades_made w (Open room)) (λ z. []))
    go None e = cc
    go (Some z) e = absurd (grind arith)

pub answers-tell : AnswersTell
answers-tell = record { bids = bids; openings = openings }
