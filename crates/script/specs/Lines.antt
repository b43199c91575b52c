-- A line of text as a list of words.
use Rattle.std.specs.Prelude.{ℕ, ◌+◌, Bool, true, false, cond, not, ◌&&◌, ◌||◌, List, [], ◌∷◌, length, take, drop, Some, None, Ok, Err, Option, Result, ◌==◌, nat_le, nat_lt}
use Rattle.std.specs.List.{prefix_len}
use Rattle.std.specs.Borrow.{Bor}
use Rattle.std.specs.Str.{bytes_eq}

-- a blank is a space, a tab or a carriage return
abbrev pub blank : ℕ → Bool
blank c = c == 32 || (c == 9 || c == 13)

abbrev pub digit : ℕ → Bool
digit c = nat_le 48 c && nat_le c 57

-- every byte but one
abbrev pub other_than : ℕ → ℕ → Bool
other_than d c = not (c == d)

-- the line up to its first '#'
abbrev pub uncommented : List ℕ → List ℕ
uncommented cs = take (prefix_len (other_than 35) cs) cs

-- whether a text goes on within a word
abbrev pub in_word : List ℕ → Bool
in_word [] = false
in_word (c ∷ cs) = not (blank c)

-- a byte before the words of the text behind it: a part of the first of them, or a word of its own
abbrev pub before : ℕ → Bool → List (List ℕ) → List (List ℕ)
before c false ws = (c ∷ []) ∷ ws
before c true [] = (c ∷ []) ∷ []
before c true (w ∷ ws) = (c ∷ w) ∷ ws

-- the longest runs with no blank, in order
unfoldable pub words_of : List ℕ → List (List ℕ)
words_of [] = []
words_of (c ∷ cs) = cond (blank c) (words_of cs) (before c (in_word cs) (words_of cs))

-- what stands in front of the first byte d and what behind it, where there is one
abbrev pub cut_at : ℕ → List ℕ → Option (List ℕ × List ℕ)
cut_at d w =
    cond (nat_lt (prefix_len (other_than d) w) (length w)) (Some (take (prefix_len (other_than d) w) w, drop (prefix_len (other_than d) w + 1) w)) None

-- byte for byte; shut, so that no proof takes a word apart
unfoldable pub same_word : List ℕ → List ℕ → Bool
same_word v w = bytes_eq v w

-- what a table has for a word, or the fault where it does not name it
abbrev pub one_of_lem : {A E : Type 0} → List ℕ → List (Bor (List ℕ) × A) → E → Result A E
one_of_lem w [] e = Err e
one_of_lem w (p ∷ ps) e = cond (same_word w p.0.now) (Ok p.1) (one_of_lem w ps e)
