-- A sound floor in pre-trading is ready to be opened, and its opening is fair.
use Rattle.std.proofs.Common.{◌≡◌, ℕ, ◌≤◌, true, subst}
use Rattle.std.proofs.ByRecursion.{All-weaker}
use Rattle.rules.specs.Rules.{Rule}
use Rattle.model.specs.declared.words.Session.{Session}
use Rattle.model.specs.declared.words.Session.TheVariants.{PreTrading}
use Rattle.model.specs.declared.calls.Call.TheVariants.{Open}
use Rattle.model.specs.Market.{ticker_known}
use Rattle.model.specs.Queues.{before}
use Rattle.model.specs.World.{World, queue}
use Rattle.model.specs.Calls.{next, open_sheet}
use Rattle.model.specs.Sound.{Fit, Sound}
use Rattle.model.proofs.Auction.{open_made, open-sound}
use Rattle.model.proofs.Soundness.{sums-fit}
use Rattle.ranking.specs.Ranks.{Ranked}
use Rattle.auction.specs.Pairs.{SumsHeld}
use Rattle.auction.specs.Openings.{opening_world, open_trades, ReadyToOpen}
use Rattle.auction.specs.Fair.{OpenedFairly}
use Rattle.auction.proofs.Fairness.{fair}

module _ (r : Rule) (w : World) (s : Sound r.step w) (pre : w.session ≡ PreTrading) where
  held : (t : ℕ) → SumsHeld (open_sheet w t)
  held t = let h = sums-fit r.step (next w (Open 0)) t (open-sound r w s pre 0) in record { worth = h.worth; traded = h.traded }

  ready : ReadyToOpen w
  ready = record {
    ranked = λ t side. subst (λ (x : Session). Ranked (before x side) (queue w t side)) pre (s.ranked t side);
    lots = λ t side. All-weaker (Fit r.step w.given) (λ x. 1 ≤ x.lots) (λ x f. f.fewest) (queue w t side) (s.fit t side);
    granted = (open_made r w s pre).granted;
    sums = held;
  }

  pub ready-to-open : ReadyToOpen (opening_world w.book w.listing w.sheets)
  ready-to-open = record { ranked = ready.ranked; lots = ready.lots; granted = ready.granted; sums = ready.sums }

  pub opened-fairly : (t : ℕ) → ticker_known t ≡ true → OpenedFairly w t (open_trades w)
  opened-fairly = fair w ready
