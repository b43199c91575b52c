-- What is told of a line that is no call, and of options that are none.
use Rattle.std.specs.Prelude.{ℕ, List, codes}
use Rattle.script.specs.declared.options.OptionFault.{OptionFault}
use Rattle.script.specs.declared.options.OptionFault.TheVariants.{UnknownOption, UnknownRegister, UnknownRule, BadCap, ValueMissing}
use Rattle.script.specs.declared.reading.LineFault.{LineFault}
use Rattle.script.specs.declared.reading.LineFault.TheVariants.{UnknownCall, TooFewWords, TooManyWords, NotANumber, TooLarge, NoSession, NoSide, NoFill, NoRest, NoQuote}

-- why a line is no call
abbrev pub line_text : LineFault → List ℕ
line_text UnknownCall = codes "no such call"
line_text TooFewWords = codes "too few words"
line_text TooManyWords = codes "too many words"
line_text NotANumber = codes "a number is due"
line_text TooLarge = codes "a number is too large"
line_text NoSession = codes "pre, trading or post is due"
line_text NoSide = codes "buy or sell is due"
line_text NoFill = codes "partial or entire is due"
line_text NoRest = codes "keep or withdraw is due"
line_text NoQuote = codes "CURRENCY:PRICE is due"

-- why the command line has no options
abbrev pub option_text : OptionFault → List ℕ
option_text UnknownOption = codes "no such option: see --help"
option_text UnknownRegister = codes "--register takes table, list or split"
option_text UnknownRule = codes "--rule takes corporate or government"
option_text BadCap = codes "--cap takes ASSET=AMOUNT, an asset from 0 to 11"
option_text ValueMissing = codes "the last option wants a value"
