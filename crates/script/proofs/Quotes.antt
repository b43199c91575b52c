-- Quotes read one by one into the places of a listing.
use Rattle.std.proofs.Common.{◌≡◌, ℕ, suc, ◌+◌, ◌-◌, ◌<◌, ◌≤◌, List, [], ◌∷◌, ◌++◌, length, take, set, Ok, Err, Result, sym, refl, ap, ◌∙◌, append_assoc, arith}
use Rattle.std.proofs.lemmas.List.{take_more_set, take_all, append-nil}
use Rattle.model.specs.declared.words.Quote.{Quote}
use Rattle.script.specs.declared.reading.LineFault.{LineFault}
use Rattle.script.specs.Listings.{quote_of, take_quotes_lem}
use Rattle.script.specs.Reading.{and_then, taken}

abbrev Words : Type 0
Words = List (List ℕ)

abbrev Read : Type 0
Read = Result (List Quote × Words) LineFault

-- quotes in front of those that are still read
abbrev pub behind : List Quote → Read → Read
behind qs r = and_then r (λ p. Ok (qs ++ p.0, p.1))

-- i quotes stand in their places, and the others are still to be read
abbrev pub Reading : ℕ → List Quote → Words → Words → Type 0
Reading i qs ws all = (length qs ≡ 8) × (take_quotes_lem 8 all ≡ behind (take i qs) (take_quotes_lem (8 - i) ws))

first : Quote → Read → Read
first q r = and_then r (λ p. Ok (q ∷ p.0, p.1))

next : (ws rest : Words) (q : Quote) (n : ℕ) → taken quote_of ws ≡ Ok (q, rest) → take_quotes_lem (suc n) ws ≡ first q (take_quotes_lem n rest)
unfolding first take_quotes_lem
next ws rest q n e = ap (λ r. and_then r (λ p. and_then (take_quotes_lem n p.1) (λ qs. Ok (p.0 ∷ qs.0, qs.1)))) e

none : (ws : Words) (f : LineFault) (n : ℕ) → taken quote_of ws ≡ Err f → take_quotes_lem (suc n) ws ≡ Err f
unfolding take_quotes_lem
none ws f n e = ap (λ r. and_then r (λ p. and_then (take_quotes_lem n p.1) (λ qs. Ok (p.0 ∷ qs.0, qs.1)))) e

behind-first : (qs : List Quote) (q : Quote) (r : Read) → behind qs (first q r) ≡ behind (qs ++ q ∷ []) r
unfolding first
behind-first qs q (Ok p) = ap (λ xs. Ok (xs, p.1)) (sym (append_assoc qs (q ∷ []) p.0))
behind-first qs q (Err e) = refl

module _ (i : ℕ) (qs : List Quote) (ws all : Words) (inv : Reading i qs ws all) where
  pub quotes-more : (q : Quote) (rest : Words) → i < 8 → taken quote_of ws ≡ Ok (q, rest) → take_quotes_lem 8 all ≡ behind (take (i + 1) (set qs i q)) (take_quotes_lem (8 - (i + 1)) rest)
  quotes-more q rest l e =
      let down : 8 - i ≡ suc (8 - (i + 1)) = omega arith in
      let inside : i < length qs = omega (arith, inv.0) in
      inv.1 ∙ ap (λ n. behind (take i qs) (take_quotes_lem n ws)) down ∙ ap (behind (take i qs)) (next ws rest q (8 - (i + 1)) e)
      ∙ behind-first (take i qs) q (take_quotes_lem (8 - (i + 1)) rest)
      ∙ ap (λ xs. behind xs (take_quotes_lem (8 - (i + 1)) rest)) (sym (take_more_set qs i q inside))

  pub quotes-fault : (f : LineFault) → i < 8 → taken quote_of ws ≡ Err f → take_quotes_lem 8 all ≡ Err f
  quotes-fault f l e =
      let down : 8 - i ≡ suc (8 - (i + 1)) = omega arith in
      inv.1 ∙ ap (λ n. behind (take i qs) (take_quotes_lem n ws)) down ∙ ap (behind (take i qs)) (none ws f (8 - (i + 1)) e)

  pub quotes-all : 8 ≤ i → take_quotes_lem 8 all ≡ Ok (qs, ws)
  unfolding take_quotes_lem
  quotes-all l =
      let done : 8 - i ≡ 0 = omega arith in
      inv.1 ∙ ap (λ n. behind (take i qs) (take_quotes_lem n ws)) done ∙ ap (λ xs. Ok (xs, ws)) (append-nil (take i qs) ∙ take_all i qs (omega (arith, inv.0)))
