use Rattle.std.proofs.Common.{◌≡◌, ◌++◌, string_bytes}
use Rattle.floor.specs.Floors.{seen}
use Rattle.host.specs.Answering.{below, holder_text}
use Rattle.host.proofs.looks.list_accounts.Given as goal

abbrev pub invariant-loop-holder : goal.invariant-loop-holder
invariant-loop-holder g l = string_bytes l.text ≡ string_bytes l.initial.text ++ below l.holder (holder_text (seen g.R.Register.means l.floor.state))
