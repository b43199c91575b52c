-- What an opening that was made promises of the trades on its strip.
use Rattle.std.specs.Prelude.{◌≡◌, ℕ, true, List, take, Ok, Err, Result}
use Rattle.model.specs.declared.faults.Cause.{Cause}
use Rattle.model.specs.declared.words.Trade.{Trade}
use Rattle.model.specs.Market.{ticker_known}
use Rattle.model.specs.World.{World}
use Rattle.auction.specs.Fair.{OpenedFairly}

-- of each ticker, among the trades that were counted
abbrev pub FairOpening : World → Result ℕ Cause → List Trade → Type 0
FairOpening w (Ok n) strip = (t : ℕ) → ticker_known t ≡ true → OpenedFairly w t (take n strip)
FairOpening w (Err e) strip = Unit {0}
