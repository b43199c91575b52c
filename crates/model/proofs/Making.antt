-- A floor as it is made is sound, whatever its register holds.
use Rattle.model.specs.Words.{ℕ, refl, [], length, AllByRecursion, Some}
use Rattle.std.proofs.Common.{◌≤◌, ◌≡◌, arith}
use Rattle.std.proofs.lemmas.Bool.{true≢false}
use Rattle.model.specs.Sound.{Fit, Sound, MadeFloorsAreSound}
use Rattle.model.specs.Queues.{before}
use Rattle.model.proofs.Sums.{by_side}
use Rattle.ranking.specs.Ranks.{Ranked}
use Rattle.model.specs.World.{queue, average_of, made}
use Rattle.register.specs.Books.{Book}

pub made-sound : (step : ℕ) (b : Book) → Sound step (made b)
made-sound step b = record {
  fit = λ t. by_side (λ side. AllByRecursion (Fit step 0) (queue (made b) t side)) tt tt;
  places = λ t. by_side (λ side. length (queue (made b) t side) ≤ 64) (omega arith) (omega arith);
  ranked = λ t. by_side (λ side. Ranked (before (made b).session side) (queue (made b) t side)) tt tt;
  once = λ k. omega arith;
  strange = λ t side e. by_side (λ side. queue (made b) t side ≡ []) refl refl side;
  shut = λ e t. by_side (λ side. queue (made b) t side ≡ []) refl refl;
  listing = λ e. refl;
  backed = λ e. absurd (true≢false e);
  uncrossed = λ e t. tt;
  averaged = λ e t. by_side (λ side. AllByRecursion (λ x. average_of ((made b).sheets t) ≡ Some x.price) (queue (made b) t side)) tt tt;
  given = omega arith;
  cheapest = λ t. omega arith;
  dearest = λ t. omega arith;
  bought = λ t. omega arith;
}

pub made-floors-are-sound : MadeFloorsAreSound
made-floors-are-sound r b = made-sound r.step b
