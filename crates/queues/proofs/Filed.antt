-- The book of a ticker and its sheet. Assumes nothing.
use Rattle.std.proofs.Common.{◌≡◌, ℕ, zero, suc, ◌+◌, ◌-◌, ◌<◌, ◌≤◌, true, false, eqb, ◌≢◌, ◌⊎◌, List, [], ◌∷◌, map, length, get_or, set, sym, refl, ap, ◌∙◌, inl, inr, add-one, arith}
use mathlib.Core.Path.{fun_ext}
use Rattle.std.proofs.lemmas.List.{get_or-map, get_or-set_same, get_or-set_other, map-set, length-map}
use Rattle.std.proofs.lemmas.Bool.{cond-true, cond-false, cond_both, cases_Bool, eqb-true}
use Rattle.std.proofs.lemmas.Bool.Decides.{nat_tests}
use Rattle.model.specs.Market.{ticker_known}
use Rattle.model.specs.World.{Sheet, blank_sheet}
use Rattle.model.specs.Calls.{with_sheet}
use Rattle.queues.specs.declared.books.TickerBook.{TickerBook}
use Rattle.queues.specs.Sheets.{sheet_of, sheets_of}

pub ticker-place : (t : ℕ) → ticker_known t ≡ true → t - 4 < 8
ticker-place t k = grind (arith, nat_tests)

pub filed : (books : List TickerBook) (t : ℕ) (d : TickerBook) → length books ≡ 8 → ticker_known t ≡ true → sheet_of (get_or books (t - 4) d) ≡ sheets_of books t
filed books t d e k =
    let h = ticker-place t k in
    sym (cond-true (ticker_known t) _ _ k ∙ get_or-map sheet_of books (t - 4) d blank_sheet (omega arith))

module _ (books : List TickerBook) (k : ℕ) (b : TickerBook) (e : length books ≡ 8) (known : ticker_known k ≡ true) where
  -- what a place shows after the writing
  here : (t : ℕ) → eqb t k ≡ true → get_or (map sheet_of (set books (k - 4) b)) (t - 4) blank_sheet ≡ sheet_of b
  here t same =
      let h = ticker-place k known in
      let l : length (map sheet_of books) ≡ length books = length-map books sheet_of in
      ap (λ (i : ℕ). get_or (map sheet_of (set books (k - 4) b)) (i - 4) blank_sheet) (eqb-true t k same)
      ∙ ap (λ xs. get_or xs (k - 4) blank_sheet) (map-set sheet_of books (k - 4) b)
      ∙ get_or-set_same (map sheet_of books) (k - 4) (sheet_of b) blank_sheet (omega arith)

  elsewhere : (t : ℕ) → eqb t k ≡ false → ticker_known t ≡ true → get_or (map sheet_of (set books (k - 4) b)) (t - 4) blank_sheet ≡ get_or (map sheet_of books) (t - 4) blank_sheet
  elsewhere t apart other =
      let far : t - 4 ≢ k - 4 = λ same. grind (arith, nat_tests) in
      ap (λ xs. get_or xs (t - 4) blank_sheet) (map-set sheet_of books (k - 4) b) ∙ get_or-set_other (map sheet_of books) (k - 4) (t - 4) (sheet_of b) blank_sheet far

  refiled-at : (t : ℕ) → sheets_of (set books (k - 4) b) t ≡ with_sheet (sheets_of books) k (sheet_of b) t
  refiled-at t = step (cases_Bool (eqb t k)) (cases_Bool (ticker_known t))
    where
      step : (eqb t k ≡ true) ⊎ (eqb t k ≡ false) → (ticker_known t ≡ true) ⊎ (ticker_known t ≡ false) → sheets_of (set books (k - 4) b) t ≡ with_sheet (sheets_of books) k (sheet_of b) t
      step (inl same) (inl x) = cond-true _ _ _ x ∙ here t same ∙ sym (cond-true _ _ _ same)
      step (inl same) (inr x) = absurd (grind (arith, nat_tests))
      step (inr apart) (inl x) = cond-true _ _ _ x ∙ elsewhere t apart x ∙ sym (cond-false _ _ _ apart ∙ cond-true _ _ _ x)
      step (inr apart) (inr x) = cond-false _ _ _ x ∙ sym (cond-false _ _ _ apart ∙ cond-false _ _ _ x)

  pub refiled : sheets_of (set books (k - 4) b) ≡ with_sheet (sheets_of books) k (sheet_of b)
  refiled = fun_ext refiled-at

-- ---- a list of which the first i are changed
abbrev pub changed : {X : Type 0} → (X → X) → ℕ → List X → List X
changed f zero xs = xs
changed f (suc i) [] = []
changed f (suc i) (x ∷ xs) = f x ∷ changed f i xs

module _ {X : Type 0} (f : X → X) where
  pub changed-at : (i : ℕ) (xs : List X) (d : X) → get_or (changed f i xs) i d ≡ get_or xs i d
  changed-at zero xs d = refl
  changed-at (suc i) [] d = refl
  changed-at (suc i) (x ∷ xs) d = changed-at i xs d

  pub changed-more : (i : ℕ) (xs : List X) (d : X) → i < length xs → set (changed f i xs) i (f (get_or xs i d)) ≡ changed f (suc i) xs
  changed-more zero [] d h = absurd (omega arith)
  changed-more zero (x ∷ xs) d h = refl
  changed-more (suc i) [] d h = absurd (omega arith)
  changed-more (suc i) (x ∷ xs) d h = ap (λ l. f x ∷ l) (changed-more i xs d (omega arith))

  pub changed-all : (i : ℕ) (xs : List X) → length xs ≤ i → changed f i xs ≡ map f xs
  changed-all zero [] h = refl
  changed-all zero (x ∷ xs) h = absurd (omega arith)
  changed-all (suc i) [] h = refl
  changed-all (suc i) (x ∷ xs) h = ap (λ l. f x ∷ l) (changed-all i xs (omega arith))

-- one book further
pub changed-next : (f : Sheet → Sheet) (i : ℕ) (books0 books : List TickerBook) (d b : TickerBook) → i < length books0 → length books ≡ length books0
    → map sheet_of books ≡ changed f i (map sheet_of books0) → sheet_of b ≡ f (sheet_of (get_or books i d)) → map sheet_of (set books i b) ≡ changed f (i + 1) (map sheet_of books0)
changed-next f i books0 books d b h n e eb =
    let n0 : length (map sheet_of books0) ≡ length books0 = length-map books0 sheet_of in
    let here : sheet_of (get_or books i d) ≡ get_or (map sheet_of books0) i blank_sheet =
    sym (get_or-map sheet_of books i d blank_sheet (omega arith)) ∙ ap (λ (s : List Sheet). get_or s i blank_sheet) e ∙ changed-at f i (map sheet_of books0) blank_sheet in
    map-set sheet_of books i b
    ∙ (λ j. set (e j) i (eb j))
    ∙ ap (λ (s : Sheet). set (changed f i (map sheet_of books0)) i (f s)) here
    ∙ changed-more f i (map sheet_of books0) blank_sheet (omega arith)
    ∙ ap (λ (j : ℕ). changed f j (map sheet_of books0)) (sym (add-one i))

-- every book is changed alike, and what is no ticker stays blank
mapped_at : (f : Sheet → Sheet) → f blank_sheet ≡ blank_sheet → (l : List Sheet) (i : ℕ) → get_or (map f l) i blank_sheet ≡ f (get_or l i blank_sheet)
mapped_at f e [] i = sym e
mapped_at f e (x ∷ xs) zero = refl
mapped_at f e (x ∷ xs) (suc i) = mapped_at f e xs i

pub sheets-mapped : (f : Sheet → Sheet) (books books0 : List TickerBook) → f blank_sheet ≡ blank_sheet → map sheet_of books ≡ map f (map sheet_of books0) → sheets_of books ≡ (λ (t : ℕ). f (sheets_of books0 t))
sheets-mapped f books books0 blank e = fun_ext (λ t. by t (cases_Bool (ticker_known t)))
  where
    by : (t : ℕ) → (ticker_known t ≡ true) ⊎ (ticker_known t ≡ false) → sheets_of books t ≡ f (sheets_of books0 t)
    by t (inl k) = cond-true _ _ _ k ∙ ap (λ (l : List Sheet). get_or l (t - 4) blank_sheet) e ∙ mapped_at f blank (map sheet_of books0) (t - 4) ∙ ap f (sym (cond-true _ _ _ k))
    by t (inr k) = cond-false _ _ _ k ∙ sym (ap f (cond-false _ _ _ k) ∙ blank)

-- where every book is blank, every sheet is
blank_at : (books : List TickerBook) → ((i : ℕ) (d : TickerBook) → i < length books → sheet_of (get_or books i d) ≡ blank_sheet) → (i : ℕ) → get_or (map sheet_of books) i blank_sheet ≡ blank_sheet
blank_at [] each i = refl
blank_at (x ∷ xs) each zero = each 0 x (omega arith)
blank_at (x ∷ xs) each (suc i) = blank_at xs (λ j d h. each (suc j) d (omega arith)) i

pub blank-filed : (books : List TickerBook) → ((i : ℕ) (d : TickerBook) → i < length books → sheet_of (get_or books i d) ≡ blank_sheet) → sheets_of books ≡ (λ (t : ℕ). blank_sheet)
blank-filed books each =
    fun_ext (λ t. cond_both (ticker_known t) (get_or (map sheet_of books) (t - 4) blank_sheet) blank_sheet (λ s. s ≡ blank_sheet) (λ _. blank_at books each (t - 4)) (λ _. refl))
