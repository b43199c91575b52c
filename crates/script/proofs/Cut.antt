-- The first word of a text, cut off at its front.
use Rattle.std.proofs.Common.{◌≡◌, ℕ, suc, ◌+◌, ◌-◌, ◌<◌, ◌≤◌, ltb, Bool, true, false, cond, not, List, [], ◌∷◌, length, take, drop, Some, None, Option, sym, refl, ap, ◌∙◌, inl, inr, one-add, arith, length-drop, drop-drop}
use Rattle.std.specs.List.{prefix_len, position_or_len}
use Rattle.std.specs.Option.{unwrap_or}
use Rattle.std.proofs.lemmas.List.Recursion.{is_position_or_len}
use Rattle.std.proofs.lemmas.List.Sums.{prefix_len-le-length}
use Rattle.std.proofs.lemmas.Bool.Decides.{nat_tests}
use Rattle.std.proofs.lemmas.Slice.{between_to_end}
use Rattle.std.proofs.lemmas.Bool.{cases_Bool, lt-ltb}
use Rattle.script.specs.Lines.{blank, other_than, in_word, before, words_of, cut_at}

-- how a run at the front goes on, and how it ends
module _ {X : Type 0} (p : X → Bool) (x : X) (xs : List X) where
  leading-yes : p x ≡ true → prefix_len p (x ∷ xs) ≡ suc (prefix_len p xs)
  leading-yes e = ap (λ (t : Bool). cond t (1 + prefix_len p xs) 0) e ∙ one-add (prefix_len p xs)

  leading-no : p x ≡ false → prefix_len p (x ∷ xs) ≡ 0
  leading-no e = ap (λ (t : Bool). cond t (1 + prefix_len p xs) 0) e

  drop-yes : p x ≡ true → drop (prefix_len p (x ∷ xs)) (x ∷ xs) ≡ drop (prefix_len p xs) xs
  drop-yes e = ap (λ n. drop n (x ∷ xs)) (leading-yes e)

  drop-no : p x ≡ false → drop (prefix_len p (x ∷ xs)) (x ∷ xs) ≡ x ∷ xs
  drop-no e = ap (λ n. drop n (x ∷ xs)) (leading-no e)

abbrev pub word : ℕ → Bool
word c = not (blank c)

module _ (c : ℕ) (cs : List ℕ) where
  words-blank : blank c ≡ true → words_of (c ∷ cs) ≡ words_of cs
  unfolding words_of
  words-blank e = ap (λ (t : Bool). cond t (words_of cs) (before c (in_word cs) (words_of cs))) e

  words-word : blank c ≡ false → words_of (c ∷ cs) ≡ before c (in_word cs) (words_of cs)
  unfolding words_of
  words-word e = ap (λ (t : Bool). cond t (words_of cs) (before c (in_word cs) (words_of cs))) e

-- leading blanks are in no word
pub words-skip : (cs : List ℕ) → words_of cs ≡ words_of (drop (prefix_len blank cs) cs)
words-skip [] = refl
words-skip (c ∷ cs) =
    elim (cases_Bool (blank c)) [
      | inl e ↦ words-blank c cs e ∙ words-skip cs ∙ ap words_of (sym (drop-yes blank c cs e))
      | inr e ↦ ap words_of (sym (drop-no blank c cs e))
    ]

-- where no word follows the blanks, there is none
pub words-none : (cs : List ℕ) → prefix_len word (drop (prefix_len blank cs) cs) ≡ 0 → words_of cs ≡ []
unfolding words_of
words-none [] e = refl
words-none (c ∷ cs) e =
    elim (cases_Bool (blank c)) [
      | inl y ↦ words-blank c cs y ∙ words-none cs (ap (prefix_len word) (sym (drop-yes blank c cs y)) ∙ e)
      | inr n ↦ absurd (let l = leading-yes word c cs (ap not n) in let d = ap (prefix_len word) (drop-no blank c cs n) in omega arith)
    ]

in-word : (cs : List ℕ) → in_word cs ≡ true → 0 < prefix_len word cs
in-word [] e = grind arith
in-word (c ∷ cs) e = let l = leading-yes word c cs e in omega arith

not-in-word : (cs : List ℕ) → in_word cs ≡ false → prefix_len word cs ≡ 0
not-in-word [] e = refl
not-in-word (c ∷ cs) e = leading-no word c cs e

-- a text that begins within a word: that word, and the words behind it
pub words-first : (cs : List ℕ) → 0 < prefix_len word cs → words_of cs ≡ take (prefix_len word cs) cs ∷ words_of (drop (prefix_len word cs) cs)
words-first [] h = absurd (omega arith)
words-first (c ∷ cs) h =
    elim (cases_Bool (blank c)) [
      | inl y ↦ absurd (let l = leading-no word c cs (ap not y) in omega arith)
      | inr n ↦
          words-word c cs n ∙ joined (in_word cs) refl (words-first cs)
          ∙ ap (λ m. take m (c ∷ cs) ∷ words_of (drop m (c ∷ cs))) (sym (leading-yes word c cs (ap not n)))
    ]
  where
    joined : (t : Bool) → in_word cs ≡ t → (0 < prefix_len word cs → words_of cs ≡ take (prefix_len word cs) cs ∷ words_of (drop (prefix_len word cs) cs)) → before c t (words_of cs) ≡ (c ∷ take (prefix_len word cs) cs) ∷ words_of (drop (prefix_len word cs) cs)
    joined true e more = ap (before c true) (more (in-word cs e))
    joined false e more = ap (λ m. (c ∷ take m cs) ∷ words_of (drop m cs)) (sym (not-in-word cs e))

pub tail : (cs : List ℕ) (m : ℕ) → take (length cs - m) (drop m cs) ≡ drop m cs
tail cs m = between_to_end cs m (length cs) (omega arith)

-- a cut behind m blanks, and then behind n bytes of a word
module _ (cs : List ℕ) (m n : ℕ) (blanks : m ≡ prefix_len blank cs) (bytes : n ≡ prefix_len word (take (length cs - m) (drop m cs))) where
  rest : drop (prefix_len blank cs) cs ≡ take (length cs - m) (drop m cs)
  rest = sym (tail cs m ∙ ap (λ i. drop i cs) blanks)

  count : prefix_len word (drop (prefix_len blank cs) cs) ≡ n
  count = ap (prefix_len word) rest ∙ sym bytes

  pub cut-none : n ≡ 0 → words_of cs ≡ []
  cut-none e = words-none cs (count ∙ e)

  pub cut-some : (front back : List ℕ) → front ≡ take n (take (length cs - m) (drop m cs)) → back ≡ drop n (take (length cs - m) (drop m cs)) → 0 < n → words_of cs ≡ front ∷ words_of back
  cut-some front back f b h =
      let t : List ℕ = take (length cs - m) (drop m cs) in
      words-skip cs ∙ ap words_of rest ∙ words-first t (omega (arith, bytes))
      ∙ ap (λ i. take i t ∷ words_of (drop i t)) (sym bytes)
      ∙ (λ i. sym f i ∷ words_of (sym b i))

-- a cut at the first byte d
module _ (d : ℕ) (w : List ℕ) (k : ℕ) (run : k ≡ prefix_len (other_than d) w) where
  parted : ℕ → Option (List ℕ × List ℕ)
  parted i = Some (take i w, drop (i + 1) w)

  pub cut-sign : (front back : List ℕ) → front ≡ take k w → back ≡ drop k w → 1 ≤ length back → cut_at d w ≡ Some (front, take (length back - 1) (drop 1 back))
  unfolding parted
  cut-sign front back f b l =
      let n : ℕ = prefix_len (other_than d) w in
      let inside : n < length w = omega (arith, run, ap length b, length-drop k w) in
      ap (λ (t : Bool). cond t (parted n) None) (lt-ltb n (length w) inside) ∙ ap parted (sym run)
      ∙ ap (λ (x : List ℕ). Some (take k w, x)) (sym (drop-drop 1 k w) ∙ ap (drop 1) (sym b) ∙ sym (tail back 1))
      ∙ ap (λ (x : List ℕ). Some (x, take (length back - 1) (drop 1 back))) (sym f)

-- a run ends at the first byte that is not of it, or at the end
passes-run : (p : ℕ → Bool) (xs : List ℕ) → position_or_len (λ b. not (p b)) xs ≡ prefix_len p xs
passes-run p xs = sym (is_position_or_len (prefix_len p) (λ b. not (p b)) refl (λ x ys. flip (p x) (prefix_len p ys)) xs)
  where
    flip : (t : Bool) (n : ℕ) → cond t (1 + n) 0 ≡ cond (not t) 0 (1 + n)
    flip true n = refl
    flip false n = refl

pub run_found : (p : ℕ → Bool) (xs : List ℕ) (o : Option ℕ) (n : ℕ) → o ≡ cond (ltb (position_or_len (λ b. not (p b)) xs) (length xs)) (Some (position_or_len (λ b. not (p b)) xs)) None → n ≡ unwrap_or o (length xs) → n ≡ prefix_len p xs
run_found p xs o n e u =
    u ∙ ap (λ (t : Option ℕ). unwrap_or t (length xs)) (e ∙ ap (λ i. cond (ltb i (length xs)) (Some i) None) (passes-run p xs))
    ∙ up_to (prefix_len p xs) (length xs) (prefix_len-le-length p xs)
  where
    up_to : (i l : ℕ) → i ≤ l → unwrap_or (cond (ltb i l) (Some i) None) l ≡ i
    up_to i l le = grind (arith, nat_tests)
