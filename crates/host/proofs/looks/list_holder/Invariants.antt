use Rattle.std.proofs.Common.{◌≡◌, ◌++◌, string_bytes}
use Rattle.model.specs.Looks.{look_account}
use Rattle.floor.specs.Floors.{seen}
use Rattle.host.specs.Answering.{below, account_text}
use Rattle.host.proofs.looks.list_holder.Given as goal

abbrev pub invariant-loop-asset : goal.invariant-loop-asset
invariant-loop-asset g l =
    string_bytes l.text
    ≡ string_bytes l.initial.text ++ below l.asset (λ a. account_text l.holder a (look_account (seen g.R.Register.means l.floor.state) l.holder a))
