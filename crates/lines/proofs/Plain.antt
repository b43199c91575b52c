-- Words without a blank or a comment sign, and a line that is made of them.
use Rattle.std.proofs.Common.{◌≡◌, ℕ, ◌+◌, ◌<◌, Bool, true, false, cond, not, ◌&&◌, eqb, ltb, List, [], ◌∷◌, ◌++◌, length, take, drop, refl, ap, ◌∙◌, arith}
use Rattle.std.specs.List.{prefix_len, AllByRecursion}
use Rattle.std.proofs.lemmas.List.{take_all, take_at, drop_at}
use Rattle.std.proofs.lemmas.Bool.Decides.{nat_tests}
use Rattle.script.specs.Lines.{uncommented, words_of}
use Rattle.script.proofs.Cut.{word, words-first}
use Rattle.lines.specs.Writing.{spaced}

abbrev pub no_hash : ℕ → Bool
no_hash c = not (eqb c 35)

-- what holds of every byte
abbrev pub passes : (ℕ → Bool) → List ℕ → Bool
passes p [] = true
passes p (c ∷ cs) = p c && passes p cs

-- a word of its own
pub record Plain (w : List ℕ) : Type 0 where
  pub some : 0 < length w
  pub blanks : passes word w ≡ true
  pub hashes : passes no_hash w ≡ true

-- a word that is written out
pub keyword : (w : List ℕ) → ltb 0 (length w) && (passes word w && passes no_hash w) ≡ true → Plain w
keyword w e = record { some = grind (arith, nat_tests); blanks = grind (arith, nat_tests); hashes = grind (arith, nat_tests) }

-- the run at the front of a text ends where the next byte is not of it
module _ (p : ℕ → Bool) where
  pub leading-past : (w cs : List ℕ) (d : ℕ) → passes p w ≡ true → p d ≡ false → prefix_len p (w ++ (d ∷ cs)) ≡ length w
  leading-past [] cs d e f = ap (λ (t : Bool). cond t (1 + prefix_len p cs) 0) f
  leading-past (c ∷ w) cs d e f = let more = leading-past w cs d in grind (arith, nat_tests)

  pub leading-whole : (cs : List ℕ) → passes p cs ≡ true → prefix_len p cs ≡ length cs
  leading-whole [] e = refl
  leading-whole (c ∷ cs) e = let more = leading-whole cs in grind (arith, nat_tests)

  pub passes_append : (v w : List ℕ) → passes p v ≡ true → passes p w ≡ true → passes p (v ++ w) ≡ true
  passes_append [] w e f = f
  passes_append (c ∷ v) w e f = let more = passes_append v w in grind (arith, nat_tests)

words-plain : (w cs : List ℕ) → Plain w → words_of (w ++ (32 ∷ cs)) ≡ w ∷ words_of cs
unfolding words_of
words-plain w cs h =
    let n : prefix_len word (w ++ (32 ∷ cs)) ≡ length w = leading-past word w cs 32 h.blanks refl in
    words-first (w ++ (32 ∷ cs)) (omega (arith, n, h.some))
    ∙ ap (λ i. take i (w ++ (32 ∷ cs)) ∷ words_of (drop i (w ++ (32 ∷ cs)))) n
    ∙ (λ i. take_at w (32 ∷ cs) (length w) refl i ∷ words_of (drop_at w (32 ∷ cs) (length w) refl i))

words-spaced : (ws : List (List ℕ)) → AllByRecursion Plain ws → words_of (spaced 32 ws) ≡ ws
unfolding words_of
words-spaced [] h = refl
words-spaced (w ∷ ws) h = words-plain w (spaced 32 ws) h.0 ∙ ap (λ vs. w ∷ vs) (words-spaced ws h.1)

no-hash : (ws : List (List ℕ)) → AllByRecursion Plain ws → passes no_hash (spaced 32 ws) ≡ true
no-hash [] h = refl
no-hash (w ∷ ws) h = passes_append no_hash w (32 ∷ spaced 32 ws) h.0.hashes (no-hash ws h.1)

-- the words of a line of plain words are those words
pub words_back : (ws : List (List ℕ)) → AllByRecursion Plain ws → words_of (uncommented (spaced 32 ws)) ≡ ws
words_back ws h =
    let n : prefix_len no_hash (spaced 32 ws) ≡ length (spaced 32 ws) = leading-whole no_hash (spaced 32 ws) (no-hash ws h) in
    ap words_of (take_all (prefix_len no_hash (spaced 32 ws)) (spaced 32 ws) (omega (arith, n))) ∙ words-spaced ws h
