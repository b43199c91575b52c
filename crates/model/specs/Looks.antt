-- Looking at a floor: an account, a queue, an average. It needs no pass and alters nothing, and is refused where there is no such thing.
use Rattle.model.specs.Words.{ℕ, List, Option, Some, None}
use Rattle.model.specs.Market.{Side, Standing, NoHolderOrTicker, Fault, ticker_known}
use Rattle.model.specs.declared.faults.CallKind.TheVariants as kind
use Rattle.model.specs.World.{World, queue, average_of}
use Rattle.model.specs.Checks.{Check, must, by_register}
use Rattle.register.specs.Moves.{need, fault, known, account_of}
use Rattle.register.specs.declared.faults.Account.{Account}
use Rattle.register.specs.declared.faults.RegisterCause.TheVariants.{NoAccount}
use Rattle.std.specs.Prelude.{Ok, Err, Result}

-- the answer, or the fault with the ticker as it was given
abbrev pub looked : {X : Type 0} → Check → ℕ → X → Result X Fault
looked None t x = Ok x
looked (Some e) t x = Err (record { cause = e; call = kind.Read; ticker = t })

abbrev pub look_account : World → ℕ → ℕ → Result Account Fault
look_account w holder asset = looked (by_register (need (known holder asset) (fault NoAccount holder asset 0) None)) 0 (account_of w.book holder asset)

abbrev pub look_queue : World → ℕ → Side → Result (List Standing) Fault
look_queue w t side = looked (must (ticker_known t) NoHolderOrTicker) t (queue w t side)

abbrev pub look_average : World → ℕ → Result (Option ℕ) Fault
look_average w t = looked (must (ticker_known t) NoHolderOrTicker) t (average_of (w.sheets t))
