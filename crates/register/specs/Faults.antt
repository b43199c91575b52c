-- The numbers and the texts of a register's refusals.
use Rattle.std.specs.Prelude.{ℕ, List, ◌++◌, codes, decimal}
use Rattle.register.specs.declared.faults.RegisterCause.{RegisterCause}
use Rattle.register.specs.declared.faults.RegisterCause.TheVariants.{NoAccount, BadAmount, OverTotal, TooLittleFree, OverCap, TooLittleBlocked}
use Rattle.register.specs.declared.faults.RegisterFault.{RegisterFault}

abbrev pub cause_number : RegisterCause → ℕ
cause_number NoAccount = 31
cause_number BadAmount = 32
cause_number OverTotal = 33
cause_number TooLittleFree = 34
cause_number OverCap = 35
cause_number TooLittleBlocked = 36

abbrev pub cause_text : RegisterCause → List ℕ
cause_text NoAccount = codes "no such holder or asset"
cause_text BadAmount = codes "the amount is 0 or more than 10000000000000000"
cause_text OverTotal = codes "all holders together would have more than 10000000000000000"
cause_text TooLittleFree = codes "less than that is free"
cause_text OverCap = codes "more than the cap would be blocked"
cause_text TooLittleBlocked = codes "less than that is blocked"

-- register HOLDER ASSET TAG: why
abbrev pub fault_text : RegisterFault → List ℕ
fault_text f =
    codes "register " ++ (decimal f.holder ++ (codes " " ++ (decimal f.asset ++ (codes " " ++ (decimal f.tag ++ (codes ": " ++ cause_text f.cause))))))
