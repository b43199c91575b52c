-- A number as it is written: a plain word, and read as that number.
use Rattle.std.proofs.Common.{◌≡◌, ℕ, ◌^◌, ◌<◌, ◌≤◌, true, List, [], ◌∷◌, length, Ok, decimal, refl, arith, rules}
use Rattle.std.specs.List.{prefix_len}
use Rattle.std.proofs.lemmas.Fmt.{digits_decimal, digits_value-decimal, decimal_nonempty}
use Rattle.std.proofs.lemmas.Str.Parse.{IsNumeralModel, numerals_by_fold}
use Rattle.std.proofs.lemmas.Bool.Decides.{nat_tests}
use Rattle.script.specs.Lines.{digit}
use Rattle.script.specs.Reading.{is_number, number_of, value, most64}
use Rattle.script.proofs.Cut.{word}
use Rattle.lines.proofs.Plain.{Plain, no_hash, passes, leading-whole}

own : IsNumeralModel (λ ds. passes digit ds ≡ true) (value 0)
unfolding value
own = numerals_by_fold _ (search rules) value (search rules)

-- digits are neither blanks nor a comment sign
digits-words : (cs : List ℕ) → passes digit cs ≡ true → passes word cs ≡ true
digits-words [] e = refl
digits-words (c ∷ cs) e = let more = digits-words cs in grind (arith, nat_tests)

digits-hashes : (cs : List ℕ) → passes digit cs ≡ true → passes no_hash cs ≡ true
digits-hashes [] e = refl
digits-hashes (c ∷ cs) e = let more = digits-hashes cs in grind (arith, nat_tests)

module _ (n : ℕ) (small : n ≤ most64) where
  fits : n < 2 ^ 64
  fits = omega arith

  pub digits_of : passes digit (decimal n) ≡ true
  digits_of = digits_decimal own n fits

  pub plain-decimal : Plain (decimal n)
  plain-decimal = record { some = decimal_nonempty n fits; blanks = digits-words (decimal n) digits_of; hashes = digits-hashes (decimal n) digits_of }

  is-number : is_number (decimal n) ≡ true
  is-number =
      let l : prefix_len digit (decimal n) ≡ length (decimal n) = leading-whole digit (decimal n) digits_of in
      let s : 0 < length (decimal n) = decimal_nonempty n fits in
      grind (arith, nat_tests)

  pub number-back : (most : ℕ) → n ≤ most → number_of most (decimal n) ≡ Ok n
  number-back most le =
      let v : value 0 (decimal n) ≡ n = digits_value-decimal own n fits in
      let i = is-number in
      grind (arith, nat_tests)
