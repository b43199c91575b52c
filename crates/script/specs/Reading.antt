-- Words read from the left; the first thing wrong is told.
use Rattle.std.specs.Prelude.{◌≡◌, ℕ, ◌+◌, ◌-◌, ◌*◌, Bool, true, false, ◌&&◌, List, [], ◌∷◌, length, Ok, Err, Result, ◌==◌, nat_le, nat_lt}
use Rattle.std.specs.List.{prefix_len}
use Rattle.script.specs.declared.reading.LineFault.{LineFault}
use Rattle.script.specs.declared.reading.LineFault.TheVariants.{TooFewWords, TooManyWords, NotANumber, TooLarge}
use Rattle.script.specs.Lines.{digit}

-- the rest where the test holds, else the fault
abbrev pub check : {A : Type 0} → Bool → LineFault → Result A LineFault → Result A LineFault
check true e rest = rest
check false e rest = Err e

-- one step and then the next, which takes what the first gave; the first fault ends it
abbrev pub and_then : {A B : Type 0} → Result A LineFault → (A → Result B LineFault) → Result B LineFault
and_then (Ok x) f = f x
and_then (Err e) f = Err e

-- a word of digits and nothing else
abbrev pub is_number : List ℕ → Bool
is_number w = nat_lt 0 (length w) && prefix_len digit w == length w

-- the number that digits write in decimal, behind those that wrote n
unfoldable pub value : ℕ → List ℕ → ℕ
value n [] = n
value n (c ∷ cs) = value (10 * n + (c - 48)) cs

abbrev pub number_of : ℕ → List ℕ → Result ℕ LineFault
number_of most w = check (is_number w) NotANumber (check (nat_le (value 0 w) most) TooLarge (Ok (value 0 w)))

-- the largest numbers of 8, 32 and 64 bits
abbrev pub most8 : ℕ
most8 = 255

abbrev pub most32 : ℕ
most32 = 4294967295

abbrev pub most64 : ℕ
most64 = 18446744073709551615

-- what the first word writes, and the words behind it
abbrev pub taken : {A : Type 0} → (List ℕ → Result A LineFault) → List (List ℕ) → Result (A × List (List ℕ)) LineFault
taken reads [] = Err TooFewWords
taken reads (w ∷ ws) = and_then (reads w) (λ x. Ok (x, ws))

-- a step of the reader: where it gives a value, that value and the words that it leaves are what f says, and else the fault is
abbrev pub Reads : {A : Type 0} → (List (List ℕ) → Result (A × List (List ℕ)) LineFault) → List (List ℕ) → Result A LineFault → List (List ℕ) → Type 0
Reads f ws (Ok x) rest = f ws ≡ Ok (x, rest)
Reads f ws (Err e) rest = f ws ≡ Err e

-- HOLDER, and ASSET or TICKER
abbrev pub take_account_lem : List (List ℕ) → Result ((ℕ × ℕ) × List (List ℕ)) LineFault
take_account_lem ws = and_then (taken (number_of most8) ws) (λ h. and_then (taken (number_of most8) h.1) (λ a. Ok ((h.0, a.0), a.1)))

-- nothing may follow
abbrev pub ended : List (List ℕ) → Result (Unit {0}) LineFault
ended [] = Ok tt
ended (w ∷ ws) = Err TooManyWords

-- a last number that may be left out
abbrev pub last_or : ℕ → List (List ℕ) → Result ℕ LineFault
last_or n [] = Ok n
last_or n (w ∷ ws) = and_then (number_of most64 w) (λ m. and_then (ended ws) (λ _. Ok m))
