-- A call of a list, as it is made on a floor.
use Rattle.std.specs.Prelude.{◌≡◌, ℕ, ◌+◌, ◌≤◌, List, ◌++◌, length, take, drop}
use Rattle.register.specs.Books.{Book}
use Rattle.rules.specs.Rules.{Rule}
use Rattle.model.specs.declared.words.Trade.{Trade}
use Rattle.model.specs.declared.calls.Call.{Call}
use Rattle.model.specs.declared.calls.Answer.{Answer}
use Rattle.model.specs.World.{World}
use Rattle.model.specs.Calls.{answer, after, trades}
use Rattle.floor.specs.declared.state.State.{State}
use Rattle.floor.specs.Floors.{seen}

-- a strip with these trades written to its front
abbrev pub written : List Trade → List Trade → List Trade
written ts strip = ts ++ drop (length ts) strip

-- what a call leaves of a floor: this world, and the rule as it was
pub record Leaves {R M : Type 0} (means : R → Book) (floor floor' : State R M) (w : World) : Type 0 where
  pub world : seen means floor' ≡ w
  pub rule : floor'.rule ≡ floor.rule

-- a call as it is made, with the strip that it is lent
pub record Made {R M : Type 0} (means : R → Book) (rule : M → Rule) (c : Call) (floor floor' : State R M) (strip strip' : List Trade) (a : Answer) : Type 0 where
  pub answers : a ≡ answer (rule floor.rule) (seen means floor) c
  pub world : seen means floor' ≡ after (rule floor.rule) (seen means floor) c
  pub written : strip' ≡ written (trades (rule floor.rule) (seen means floor) c) strip
  pub kept : floor'.rule ≡ floor.rule

-- a call whose trades stand on a tape behind those before it
pub record Lent {R M : Type 0} (means : R → Book) (rule : M → Rule) (c : Call) (used : ℕ) (floor floor' : State R M) (tape tape' : List Trade) (a : Answer) : Type 0 where
  pub answers : a ≡ answer (rule floor.rule) (seen means floor) c
  pub world : seen means floor' ≡ after (rule floor.rule) (seen means floor) c
  pub written : tape' ≡ take used tape ++ (trades (rule floor.rule) (seen means floor) c ++ drop (used + length (trades (rule floor.rule) (seen means floor) c)) tape)
  pub room : used + length (trades (rule floor.rule) (seen means floor) c) ≤ length tape
  pub kept : floor'.rule ≡ floor.rule
