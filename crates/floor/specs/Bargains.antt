-- What a bid that is taken promises, in the words of those who bid: of the worlds before and after it, its receipt, and its trades.
use Rattle.std.specs.Prelude.{◌≡◌, ℕ, ◌+◌, ◌<◌, ◌≤◌, true, List, map, take, Some, Ok, Err, Result}
use Rattle.std.specs.List.{AllByRecursion}
use Rattle.model.specs.declared.words.Bid.{Bid}
use Rattle.model.specs.declared.words.Receipt.{Receipt}
use Rattle.model.specs.declared.words.Trade.{Trade}
use Rattle.model.specs.declared.faults.Fault.{Fault}
use Rattle.model.specs.Market.{other, is_trading, is_post_trading}
use Rattle.model.specs.Average.{lots_of}
use Rattle.model.specs.World.{World, queue, average_of}
use Rattle.model.specs.Bidding.{limit_of}
use Rattle.model.specs.Serving.{Along, number_in, numbers_of}
use Rattle.model.specs.MatchingLaws.{Fair}
use Rattle.model.specs.Sound.{Uncrossed}
use Rattle.model.specs.Tally.{exchanges}

pub record Bargain (w w' : World) (b : Bid) (r : Receipt) (xs : List Trade) : Type 0 where
  -- the lots traded are those of the trades; together with those that stand they are at most the lots bid, and where any stand they are
  -- all of them: what neither trades nor stands is withdrawn
  pub traded : r.traded ≡ lots_of xs
  pub lots : r.traded + r.standing ≤ b.lots
  pub stands : 0 < r.standing → r.traded + r.standing ≡ b.lots
  -- each trade is with a bid that stood on the other side, at its price, which is no worse than the newcomer's limit; in ranking order
  pub fair : AllByRecursion (Fair b.side (limit_of w b) (queue w b.ticker (other b.side))) xs
  pub order : Along (map (number_in (other b.side)) xs) (numbers_of (queue w b.ticker (other b.side)))
  -- in trading nothing that could trade is left standing; in post-trading each trade is at the average of opening and trading
  pub apart : is_trading w.session ≡ true → Uncrossed w' b.ticker
  pub averaged : is_post_trading w.session ≡ true → AllByRecursion (λ x. average_of (w.sheets b.ticker) ≡ Some x.price) xs
  -- what a holder has, free and blocked together, changes by these trades alone
  pub accounts : (h a : ℕ) → h < 16 → a < 12
      → w'.book.free h a + w'.book.blocked h a ≡ exchanges w.listing xs (λ x y. w.book.free x y + w.book.blocked x y) h a

-- of a bid that was answered, with the strip as it was left
abbrev pub Bargained : World → World → Bid → Result Receipt Fault → List Trade → Type 0
Bargained w w' b (Ok r) strip = Bargain w w' b r (take r.count strip)
Bargained w w' b (Err f) strip = Unit {0}
