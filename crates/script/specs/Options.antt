-- The program's options: what each word of its command line asks for.
use Rattle.std.specs.Prelude.{ℕ, true, false, cond, List, replicate, Some, None, Ok, Err, codes, Option, Result, slice_set}
use Rattle.register.specs.Books.{most_amount}
use Rattle.script.specs.declared.options.RegisterKind.{RegisterKind}
use Rattle.script.specs.declared.options.RegisterKind.TheVariants.{Table, List as ListKind, Split}
use Rattle.script.specs.declared.options.RuleKind.{RuleKind}
use Rattle.script.specs.declared.options.RuleKind.TheVariants.{Corporate, Government}
use Rattle.script.specs.declared.options.Due.{Due}
use Rattle.script.specs.declared.options.Due.TheVariants as due
use Rattle.script.specs.declared.options.Flag.{Flag}
use Rattle.script.specs.declared.options.Flag.TheVariants.{Wants, Help}
use Rattle.script.specs.declared.options.Options.{Options}
use Rattle.script.specs.declared.options.OptionFault.{OptionFault}
use Rattle.script.specs.declared.options.OptionFault.TheVariants.{UnknownOption, UnknownRegister, UnknownRule, BadCap, ValueMissing}
use Rattle.script.specs.Lines.{cut_at, same_word}
use Rattle.script.specs.Reading.{number_of, most64}

-- ASSET=AMOUNT
abbrev pub cap_of : List ℕ → Result (ℕ × ℕ) OptionFault
cap_of w =
    elim (cut_at 61 w) [
      | None ↦ Err BadCap
      | Some p ↦ elim (number_of 11 p.0) [
        | Ok a ↦ elim (number_of most64 p.1) [ Ok n ↦ Ok (a, n) | Err e ↦ Err BadCap ]
        | Err e ↦ Err BadCap
      ]
    ]

abbrev pub register_of_lem : List ℕ → Result RegisterKind OptionFault
register_of_lem w =
    cond (same_word w (codes "table")) (Ok Table)
    (cond (same_word w (codes "list")) (Ok ListKind)
    (cond (same_word w (codes "split")) (Ok Split)
    (Err UnknownRegister)))

abbrev pub rule_of_lem : List ℕ → Result RuleKind OptionFault
rule_of_lem w = cond (same_word w (codes "corporate")) (Ok Corporate) (cond (same_word w (codes "government")) (Ok Government) (Err UnknownRule))

-- with no option: a table register, the corporate rule, and every cap at the most
abbrev pub no_options_lem : Options
no_options_lem = record { register = Table; rule = Corporate; caps = replicate 12 most_amount; help = false; due = None }

abbrev pub flag_of : List ℕ → Result Flag OptionFault
flag_of w =
    cond (same_word w (codes "--register")) (Ok (Wants due.Register))
    (cond (same_word w (codes "--rule")) (Ok (Wants due.Rule))
    (cond (same_word w (codes "--cap")) (Ok (Wants due.Cap))
    (cond (same_word w (codes "--help")) (Ok Help)
    (Err UnknownOption))))

-- the options with one option more, whose value is due next where it wants one
abbrev pub with_flag : Flag → Options → Options
with_flag (Wants d) o = record { register = o.register; rule = o.rule; caps = o.caps; help = o.help; due = Some d }
with_flag Help o = record { register = o.register; rule = o.rule; caps = o.caps; help = true; due = None }

-- the options with one word more
abbrev pub with_due : Option Due → Options → List ℕ → Result Options OptionFault
with_due None o w = elim (flag_of w) [ Ok f ↦ Ok (with_flag f o) | Err e ↦ Err e ]
with_due (Some due.Register) o w =
    elim (register_of_lem w) [ Ok k ↦ Ok (record { register = k; rule = o.rule; caps = o.caps; help = o.help; due = None }) | Err e ↦ Err e ]
with_due (Some due.Rule) o w =
    elim (rule_of_lem w) [ Ok k ↦ Ok (record { register = o.register; rule = k; caps = o.caps; help = o.help; due = None }) | Err e ↦ Err e ]
with_due (Some due.Cap) o w =
    elim (cap_of w) [
      | Ok c ↦ Ok (record { register = o.register; rule = o.rule; caps = slice_set o.caps c.0 c.1; help = o.help; due = None })
      | Err e ↦ Err e
    ]

abbrev pub with_word_lem : Options → List ℕ → Result Options OptionFault
with_word_lem o w = with_due o.due o w

-- an option that wants a value and has none is refused
abbrev pub complete_due : Option Due → Options → Result Options OptionFault
complete_due None o = Ok o
complete_due (Some d) o = Err ValueMissing

abbrev pub complete : Options → Result Options OptionFault
complete o = complete_due o.due o
