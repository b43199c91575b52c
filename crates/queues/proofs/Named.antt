-- The bid of a holder and number: where it is found, and what is left without it. Assumes nothing.
use Rattle.std.proofs.Common.{◌≡◌, ℕ, suc, ◌<◌, ◌≤◌, Bool, true, false, cond, ltb, List, [], ◌∷◌, length, get_or, Some, None, Option, refl, ap, ◌∙◌, arith}
use Rattle.std.specs.List.{remove}
use Rattle.std.proofs.lemmas.Bool.Decides.{nat_tests}
use Rattle.model.specs.declared.words.Standing.{Standing}
use Rattle.model.specs.Queues.{named}
use Rattle.ranking.specs.Ranks.{first_place}
use Rattle.queues.specs.Entries.{first_of, place_named_lem, entry_named, less_named}

pub first_taken : (xs : List Standing) (r : Standing) → 0 < length xs → ((d : Standing) → r ≡ get_or xs 0 d) → Some r ≡ first_of xs
first_taken [] r h e = absurd (omega arith)
first_taken (x ∷ xs) r h e = ap Some (e x)

module _ (h n : ℕ) where
  entry_at : (xs : List Standing) (d : Standing) → first_place (named h n) xs < length xs → Some (get_or xs (first_place (named h n) xs) d) ≡ entry_named h n xs
  entry_at [] d l = absurd (omega arith)
  entry_at (x ∷ xs) d l =
      (elim (named h n x) as (λ b. cond b 0 (suc (first_place (named h n) xs)) < suc (length xs) → Some (get_or (x ∷ xs) (cond b 0 (suc (first_place (named h n) xs))) d) ≡ cond b (Some x) (entry_named h n xs))
      [ true ↦ λ _. refl | false ↦ λ k. entry_at xs d (omega arith) ]) l

  less-at : (xs : List Standing) → remove xs (first_place (named h n) xs) ≡ less_named h n xs
  less-at [] = refl
  less-at (x ∷ xs) =
      let r = less-at xs in
      elim (named h n x) as (λ b. remove (x ∷ xs) (cond b 0 (suc (first_place (named h n) xs))) ≡ cond b xs (x ∷ less_named h n xs))
      [ true ↦ refl | false ↦ ap (λ l. x ∷ l) r ]

  none_named : (xs : List Standing) → length xs ≤ first_place (named h n) xs → (None ≡ entry_named h n xs) × (xs ≡ less_named h n xs)
  none_named [] l = (refl, refl)
  none_named (x ∷ xs) l =
      (elim (named h n x) as (λ b. suc (length xs) ≤ cond b 0 (suc (first_place (named h n) xs)) → (None ≡ cond b (Some x) (entry_named h n xs)) × (x ∷ xs ≡ cond b xs (x ∷ less_named h n xs)))
      [ true ↦ λ k. absurd (omega arith) | false ↦ λ k. let r = none_named xs (omega arith) in (r.0, ap (λ l. x ∷ l) r.1) ]) l

  place-some : (xs : List Standing) (i : ℕ) → Some i ≡ place_named_lem h n xs → (i ≡ first_place (named h n) xs) × (first_place (named h n) xs < length xs)
  place-some xs i = by (ltb (first_place (named h n) xs) (length xs)) refl
    where
      by : (b : Bool) → ltb (first_place (named h n) xs) (length xs) ≡ b → Some i ≡ cond b (Some (first_place (named h n) xs)) None → (i ≡ first_place (named h n) xs) × (first_place (named h n) xs < length xs)
      by true t e = (cc, grind (arith, nat_tests))
      by false t e = absurd (let z : ◌≡◌ {A = ℕ} 0 1 = cc in omega arith)

  place_none : (xs : List Standing) → None ≡ place_named_lem h n xs → length xs ≤ first_place (named h n) xs
  place_none xs = by (ltb (first_place (named h n) xs) (length xs)) refl
    where
      by : (b : Bool) → ltb (first_place (named h n) xs) (length xs) ≡ b → None ≡ cond {A = Option ℕ} b (Some (first_place (named h n) xs)) None → length xs ≤ first_place (named h n) xs
      by true t e = absurd (let z : ◌≡◌ {A = ℕ} 0 1 = cc in omega arith)
      by false t e = grind (arith, nat_tests)

  pub found_within : (xs : List Standing) (i : ℕ) → Some i ≡ place_named_lem h n xs → i < length xs
  found_within xs i e = let p = place-some xs i e in omega arith

  pub taken-named : (xs : List Standing) (i : ℕ) (r : Standing) → Some i ≡ place_named_lem h n xs → ((d : Standing) → r ≡ get_or xs i d) → Some r ≡ entry_named h n xs
  taken-named xs i r e g =
      let p = place-some xs i e in
      ap Some (g r ∙ ap (λ (k : ℕ). get_or xs k r) p.0) ∙ entry_at xs r p.1

  pub left-named : (xs : List Standing) (i : ℕ) → Some i ≡ place_named_lem h n xs → remove xs i ≡ less_named h n xs
  left-named xs i e = ap (remove xs) (place-some xs i e).0 ∙ less-at xs

  pub none-taken : (xs : List Standing) → None ≡ place_named_lem h n xs → (None ≡ entry_named h n xs) × (xs ≡ less_named h n xs)
  none-taken xs e = none_named xs (place_none xs e)
