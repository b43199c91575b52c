-- What is claimed of answers: they tell the trades that stand on the strip.
use Rattle.std.specs.Prelude.{◌+◌, ◌≤◌, ◌≡◌}
use Rattle.model.specs.Words.{ℕ, List, length}
use Rattle.model.specs.Market.{Session, Bid, Trade, Receipt, Place, Open, Placed, Opened}
use Rattle.model.specs.Average.{lots_of}
use Rattle.model.specs.World.{World}
use Rattle.model.specs.Calls.{answer, trades}
use Rattle.rules.specs.Rules.{Rule}

-- the receipt of a bid: the lots and the count of its trades; what it traded and what stands are no more than its lots
pub record Told (b : Bid) (x : Receipt) (strip : List Trade) : Type 0 where
  pub traded : x.traded ≡ lots_of strip
  pub count : x.count ≡ length strip
  pub standing : x.traded + x.standing ≤ b.lots

pub record AnswersTell : Type 0 where
  pub bids : (r : Rule) (w : World) (shown : Session) (b : Bid) (room : ℕ) (x : Receipt)
      → answer r w (Place shown b room) ≡ Placed x
      → Told b x (trades r w (Place shown b room))
  pub openings : (r : Rule) (w : World) (room n : ℕ) → answer r w (Open room) ≡ Opened n → n ≡ length (trades r w (Open room))
