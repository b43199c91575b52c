-- The number that digits write.
use Rattle.std.proofs.Common.{◌≡◌, ℕ, ◌+◌, ◌-◌, ◌*◌, ◌<◌, ◌≤◌, Bool, true, eqb, List, [], ◌∷◌, length, get_or, drop, Ok, Err, sym, refl, ◌∙◌, arith}
use Rattle.std.specs.List.{prefix_len, list_all}
use Rattle.std.proofs.lemmas.List.{at_drop_more, at_drop_all}
use Rattle.std.proofs.lemmas.Bool.Decides.{nat_tests}
use Rattle.script.specs.declared.reading.LineFault.TheVariants.{TooLarge}
use Rattle.script.specs.Lines.{digit}
use Rattle.script.specs.Reading.{is_number, value, number_of}

-- every byte is of the run at the front if they all pass
all-run : (p : ℕ → Bool) (xs : List ℕ) → list_all p xs ≡ eqb (prefix_len p xs) (length xs)
all-run p [] = refl
all-run p (x ∷ xs) = let more = all-run p xs in grind (arith, nat_tests)

pub all_digits : (w : List ℕ) (r : Bool) → 0 < length w → r ≡ list_all digit w → r ≡ is_number w
all_digits w r l e = let run = all-run digit w in grind (arith, nat_tests)

pub value_grows : (n : ℕ) (cs : List ℕ) → n ≤ value n cs
unfolding value
value_grows n [] = omega arith
value_grows n (c ∷ cs) = omega (arith, value_grows (10 * n + (c - 48)) cs)

module _ (cs : List ℕ) (n i : ℕ) (inv : value n (drop i cs) ≡ value 0 cs) where
  pub value-more : i < length cs → value (10 * n + (get_or cs i 0 - 48)) (drop (i + 1) cs) ≡ value 0 cs
  unfolding value
  value-more l = sym (at_drop_more (value n) cs i 0 l) ∙ inv

  pub value-all : length cs ≤ i → n ≡ value 0 cs
  unfolding value
  value-all l = sym (at_drop_all (value n) cs i l) ∙ inv

  -- a number past the most is not made smaller by the digits behind it
  pub too_large : (most : ℕ) → i < length cs → is_number cs ≡ true → most < 10 * n + (get_or cs i 0 - 48) → Err TooLarge ≡ number_of most cs
  too_large most l num gt =
      let v = value-more l in
      let g = value_grows (10 * n + (get_or cs i 0 - 48)) (drop (i + 1) cs) in
      let past : most < value 0 cs = omega (arith, v, g) in
      grind (arith, nat_tests)

  pub just : (most : ℕ) → length cs ≤ i → is_number cs ≡ true → n ≤ most → Ok n ≡ number_of most cs
  just most l num le = let v = value-all l in grind (arith, nat_tests)
