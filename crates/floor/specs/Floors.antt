-- What a floor stands for, and what every call of it finds and leaves.
use Rattle.std.specs.Prelude.{ℕ}
use Rattle.std.specs.Coded.{le_prop}
use Rattle.std.specs.List.{AllByRecursion-prop}
use Rattle.std.proofs.Props.{props}
use Rattle.register.specs.Books.{Book}
use Rattle.rules.specs.Rules.{Rule}
use Rattle.model.specs.World.{World}
use Rattle.model.specs.Sound.{Sound}
use Rattle.auction.specs.Prices.{Pairwise-prop}
use Rattle.floor.specs.declared.state.State.{State}
use Rattle.floor.specs.Desks.{world_of}

-- the world of a floor's state, by what its register means
abbrev pub seen : {R M : Type 0} → (R → Book) → State R M → World
seen means floor = world_of (means floor.register) floor.desk

-- a floor is sound: its world is, under its rule's step
abbrev pub SoundFloor : {R M : Type 0} → (R → Book) → (M → Rule) → State R M → Type 0
SoundFloor means rule floor = Sound (rule floor.rule).step (seen means floor)

-- ---- there is one proof of it at most, so that a floor can hold it
Sound-prop : (step : ℕ) (w : World) → IsProp (Sound step w)
Sound-prop step w = hlevel (props, le_prop, AllByRecursion-prop, Pairwise-prop)

pub SoundFloor-prop : {R M : Type 0} (means : R → Book) (rule : M → Rule) (floor : State R M) → IsProp (SoundFloor means rule floor)
SoundFloor-prop means rule floor = Sound-prop (rule floor.rule).step (seen means floor)
