-- Trades written on a strip, one after the other and list after list. Assumes nothing.
use Rattle.std.proofs.Common.{◌≡◌, ℕ, suc, ◌+◌, ◌-◌, ◌<◌, ◌≤◌, List, [], ◌∷◌, ◌++◌, length, take, drop, set, sym, ap, ◌∙◌, arith}
use Rattle.std.proofs.lemmas.List.{append_assoc, append-nil, take_all, drop_all, length-drop, length-append, length-take-le, take-append-drop, take_at, take_more_set, drop_at, drop-drop, drop-set-lt}
use Rattle.model.specs.declared.words.Trade.{Trade}
use Rattle.auction.specs.Openings.{written}

pub written_none : (k : ℕ) (strip : List Trade) → written k [] strip ≡ strip
written_none k strip = let z : k + 0 ≡ k = omega arith in ap (λ n. take k strip ++ drop n strip) z ∙ take-append-drop k strip

pub written_one : (k : ℕ) (x : Trade) (xs strip : List Trade) → k < length strip → written (k + 1) xs (set strip k x) ≡ written k (x ∷ xs) strip
written_one k x xs strip h =
    let n : k + 1 + length xs ≡ k + suc (length xs) = omega arith in
    ap (λ front. front ++ (xs ++ drop (k + 1 + length xs) (set strip k x))) (take_more_set strip k x h)
    ∙ ap (λ rest. (take k strip ++ x ∷ []) ++ (xs ++ rest)) (drop-set-lt (k + 1 + length xs) strip k x (omega arith) ∙ ap (λ i. drop i strip) n)
    ∙ append_assoc (take k strip) (x ∷ []) (xs ++ drop (k + suc (length xs)) strip)

module _ (k : ℕ) (xs ys strip : List Trade) (h : k ≤ length strip) where
  front : length (take k strip ++ xs) ≡ k + length xs
  front = length-append (take k strip) xs ∙ ap (λ n. n + length xs) (length-take-le k strip h)

  split : written k xs strip ≡ (take k strip ++ xs) ++ drop (k + length xs) strip
  split = sym (append_assoc (take k strip) xs (drop (k + length xs) strip))

  pub written-join : written (k + length xs) ys (written k xs strip) ≡ written k (xs ++ ys) strip
  written-join =
      let n : k + length xs + length ys ≡ k + length (xs ++ ys) = omega (arith, length-append xs ys) in
      ap (λ a. take (k + length xs) a ++ (ys ++ drop (k + length xs + length ys) (written k xs strip))) split
      ∙ ap (λ a. a ++ (ys ++ drop (k + length xs + length ys) (written k xs strip))) (take_at (take k strip ++ xs) (drop (k + length xs) strip) (k + length xs) front)
      ∙ ap (λ a. (take k strip ++ xs) ++ (ys ++ a)) (sym (drop-drop (length ys) (k + length xs) (written k xs strip)) ∙ ap (drop (length ys)) (ap (drop (k + length xs)) split ∙ drop_at (take k strip ++ xs) (drop (k + length xs) strip) (k + length xs) front) ∙ drop-drop (length ys) (k + length xs) strip ∙ ap (λ i. drop i strip) n)
      ∙ append_assoc (take k strip) xs (ys ++ drop (k + length (xs ++ ys)) strip)
      ∙ ap (λ a. take k strip ++ a) (sym (append_assoc xs ys (drop (k + length (xs ++ ys)) strip)))

-- written at the front of what is behind a place
pub written-behind : (k : ℕ) (xs strip : List Trade) → take k strip ++ written 0 xs (drop k strip) ≡ written k xs strip
written-behind k xs strip =
    let z : 0 + length xs ≡ length xs = omega arith in
    ap (λ n. take k strip ++ (xs ++ drop n (drop k strip))) z ∙ ap (λ rest. take k strip ++ (xs ++ rest)) (drop-drop (length xs) k strip)

-- the strip from a place on, as a slice, and written back
pub whole-behind : (k : ℕ) (strip : List Trade) → take (length strip - k) (drop k strip) ≡ drop k strip
whole-behind k strip = take_all (length strip - k) (drop k strip) (omega (arith, length-drop k strip))

pub back-behind : (k : ℕ) (strip sub : List Trade) → take k strip ++ (sub ++ drop (length strip - k) (drop k strip)) ≡ take k strip ++ sub
back-behind k strip sub =
    ap (λ (z : List Trade). take k strip ++ (sub ++ z)) (drop_all (length strip - k) (drop k strip) (omega (arith, length-drop k strip))) ∙ ap (λ (z : List Trade). take k strip ++ z) (append-nil sub)
