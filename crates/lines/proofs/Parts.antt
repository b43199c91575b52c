-- Words that are written with other words in them: prices, quotes, and the words of a choice.
use Rattle.std.proofs.Common.{◌≡◌, ℕ, ◌+◌, ◌<◌, ◌≤◌, Bool, true, false, cond, not, eqb, ltb, List, [], ◌∷◌, ◌++◌, map, length, take, drop, Some, None, Ok, Err, codes, decimal, Option, Result, sym, refl, ap, ◌∙◌, append_assoc, arith, length-append}
use Rattle.std.specs.List.{prefix_len, AllByRecursion}
use Rattle.std.proofs.lemmas.List.{take_at, drop_at}
use Rattle.std.proofs.lemmas.Bool.{lt-ltb}
use Rattle.std.proofs.lemmas.Bool.Decides.{nat_tests}
use Rattle.rules.specs.declared.bid.Side.{Side}
use Rattle.rules.specs.declared.bid.Side.TheVariants.{Buy, Sell}
use Rattle.model.specs.declared.words.Quote.{Quote}
use Rattle.model.specs.declared.words.Session.{Session}
use Rattle.model.specs.declared.words.Session.TheVariants.{Closed, PreTrading, Trading, PostTrading}
use Rattle.script.specs.declared.reading.LineFault.{LineFault}
use Rattle.script.specs.declared.reading.LineFault.TheVariants.{NoQuote}
use Rattle.script.specs.Bids.{session_of, side_of, price_of_lem, take_form_lem}
use Rattle.script.specs.Lines.{digit, cut_at, same_word}
use Rattle.script.specs.Listings.{quote_of, take_quotes_lem}
use Rattle.script.specs.Reading.{and_then, number_of, taken, most8, most32, most64}
use Rattle.script.proofs.Cut.{word}
use Rattle.lines.specs.Writing.{side_word, pass_word, price_word, fill_word, rest_word, quote_word, IsPass, PriceFits, QuoteFits}
use Rattle.lines.proofs.Plain.{Plain, no_hash, passes, passes_append, leading-past, keyword}
use Rattle.lines.proofs.Decimals.{digits_of, plain-decimal, number-back}

pub take_back : {A : Type 0} (reads : List ℕ → Result A LineFault) (w : List ℕ) (ws : List (List ℕ)) (x : A) → reads w ≡ Ok x → taken reads (w ∷ ws) ≡ Ok (x, ws)
take_back {A} reads w ws x e = ap (λ (r : Result A LineFault). and_then {A = A} {B = A × List (List ℕ)} r (λ y. Ok (y, ws))) e

-- ---- choices
pub pass-back : (s : Session) → IsPass s → session_of (pass_word s) ≡ Ok s
unfolding same_word
pass-back Closed p = absurd p
pass-back PreTrading p = refl
pass-back Trading p = refl
pass-back PostTrading p = refl

pub side-back : (s : Side) → side_of (side_word s) ≡ Ok s
unfolding same_word
side-back Buy = refl
side-back Sell = refl

pub form-back : (e k : Bool) (ws : List (List ℕ)) → take_form_lem (fill_word e ∷ rest_word k ∷ ws) ≡ Ok ((e, k), ws)
unfolding same_word
form-back true true ws = refl
form-back true false ws = refl
form-back false true ws = refl
form-back false false ws = refl

pub plain-pass : (s : Session) → IsPass s → Plain (pass_word s)
plain-pass Closed p = absurd p
plain-pass PreTrading p = keyword (codes "pre") refl
plain-pass Trading p = keyword (codes "trading") refl
plain-pass PostTrading p = keyword (codes "post") refl

pub plain-side : (s : Side) → Plain (side_word s)
plain-side Buy = keyword (codes "buy") refl
plain-side Sell = keyword (codes "sell") refl

pub plain-fill : (b : Bool) → Plain (fill_word b)
plain-fill true = keyword (codes "entire") refl
plain-fill false = keyword (codes "partial") refl

pub plain-rest : (b : Bool) → Plain (rest_word b)
plain-rest true = keyword (codes "keep") refl
plain-rest false = keyword (codes "withdraw") refl

-- ---- prices
no-dash : (w : List ℕ) → passes digit w ≡ true → same_word w (codes "-") ≡ false
unfolding same_word
no-dash [] e = refl
no-dash (c ∷ w) e = grind (arith, nat_tests)

pub price-back : (p : Option ℕ) → PriceFits p → price_of_lem (price_word p) ≡ Ok p
unfolding same_word
price-back None f = refl
price-back (Some n) f =
    let s : n ≤ most64 = omega (arith, f) in
    ap (λ (t : Bool). cond t (Ok None) (and_then (number_of most32 (decimal n)) (λ m. Ok (Some m)))) (no-dash (decimal n) (digits_of n s))
    ∙ ap (λ r. and_then r (λ m. Ok (Some m))) (number-back n s most32 f)

pub plain-price : (p : Option ℕ) → PriceFits p → Plain (price_word p)
plain-price None f = keyword (codes "-") refl
plain-price (Some n) f = plain-decimal n (omega (arith, f))

-- ---- quotes
no_colon : ℕ → Bool
no_colon c = not (eqb c 58)

digits-colons : (cs : List ℕ) → passes digit cs ≡ true → passes no_colon cs ≡ true
unfolding no_colon
digits-colons [] e = refl
digits-colons (c ∷ cs) e = let more = digits-colons cs in grind (arith, nat_tests)

parts : (v u : List ℕ) → passes no_colon v ≡ true → cut_at 58 (v ++ (58 ∷ u)) ≡ Some (v, u)
unfolding no_colon
parts v u e =
    let w : List ℕ = v ++ (58 ∷ u) in
    let n : prefix_len no_colon w ≡ length v = leading-past no_colon v u 58 e refl in
    let l : length w ≡ length v + length (58 ∷ u) = length-append v (58 ∷ u) in
    let k : length (v ++ (58 ∷ [])) ≡ length v + 1 = length-append v (58 ∷ []) in
    let inside : length v < length w = omega (arith, l) in
    ap (λ i. cond (ltb i (length w)) (Some (take i w, drop (i + 1) w)) None) n
    ∙ ap (λ (t : Bool). cond t (Some (take (length v) w, drop (length v + 1) w)) None) (lt-ltb (length v) (length w) inside)
    ∙ ap (λ (x : List ℕ). Some (x, drop (length v + 1) w)) (take_at v (58 ∷ u) (length v) refl)
    ∙ ap (λ (x : List ℕ). Some (v, x)) (ap (drop (length v + 1)) (sym (append_assoc v (58 ∷ []) u)) ∙ drop_at (v ++ (58 ∷ [])) u (length v + 1) k)

module _ (q : Quote) (f : QuoteFits q) where
  currency : q.currency ≤ most64
  currency = omega (arith, f.0)

  settlement : q.settlement ≤ most64
  settlement = omega (arith, f.1)

  abbrev read : Option (List ℕ × List ℕ) → Result Quote LineFault
  read o =
      elim o [
        | None ↦ Err NoQuote
        | Some p ↦ and_then (number_of most8 p.0) (λ c. and_then (number_of most32 p.1) (λ s. Ok (record { currency = c; settlement = s })))
      ]

  pub quote-back : quote_of (quote_word q) ≡ Ok q
  quote-back =
      ap read (parts (decimal q.currency) (decimal q.settlement) (digits-colons (decimal q.currency) (digits_of q.currency currency)))
      ∙ ap (λ r. and_then r (λ c. and_then (number_of most32 (decimal q.settlement)) (λ s. Ok (record { currency = c; settlement = s }))))
      (number-back q.currency currency most8 f.0)
      ∙ ap (λ r. and_then r (λ s. Ok (record { currency = q.currency; settlement = s }))) (number-back q.settlement settlement most32 f.1)

  pub plain-quote : Plain (quote_word q)
  plain-quote =
      let c = plain-decimal q.currency currency in
      let s = plain-decimal q.settlement settlement in
      let l : length (quote_word q) ≡ length (decimal q.currency) + length (58 ∷ decimal q.settlement) = length-append (decimal q.currency) (58 ∷ decimal q.settlement) in
      record {
        some = omega (arith, l, c.some);
        blanks = passes_append word (decimal q.currency) (58 ∷ decimal q.settlement) c.blanks s.blanks;
        hashes = passes_append no_hash (decimal q.currency) (58 ∷ decimal q.settlement) c.hashes s.hashes;
      }

pub quotes-back : (qs : List Quote) → AllByRecursion QuoteFits qs → take_quotes_lem (length qs) (map quote_word qs) ≡ Ok (qs, [])
unfolding take_quotes_lem
quotes-back [] f = refl
quotes-back (q ∷ qs) f =
    ap (λ r. and_then r (λ p. and_then (take_quotes_lem (length qs) p.1) (λ rest. Ok (p.0 ∷ rest.0, rest.1))))
    (take_back quote_of (quote_word q) (map quote_word qs) q (quote-back q f.0))
    ∙ ap (λ r. and_then r (λ rest. Ok (q ∷ rest.0, rest.1))) (quotes-back qs f.1)

pub plain-quotes : (qs : List Quote) → AllByRecursion QuoteFits qs → AllByRecursion Plain (map quote_word qs)
plain-quotes [] f = tt
plain-quotes (q ∷ qs) f = (plain-quote q f.0, plain-quotes qs f.1)
