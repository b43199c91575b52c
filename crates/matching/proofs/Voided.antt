-- Standing bids that are void: a ticker's, and those of all tickers one after the other. Assumes nothing.
use Rattle.std.proofs.Common.{◌≡◌, ℕ, suc, ◌+◌, ◌<◌, ◌≤◌, List, [], ◌∷◌, ◌++◌, map, length, get_or, drop, set, sym, refl, ap, ◌∙◌, subst, arith, length-set}
use Rattle.std.proofs.lemmas.List.{get_or-map, length-map, drop_more, drop_all}
use Rattle.register.specs.Books.{Book}
use Rattle.register.specs.Moves.{Move}
use Rattle.rules.specs.declared.bid.Side.TheVariants.{Buy, Sell}
use Rattle.model.specs.declared.words.Listing.{Listing}
use Rattle.model.specs.Movements.{Granted, moved_all, freeing}
use Rattle.model.specs.Listings.{asset_of_lem}
use Rattle.model.specs.World.{Sheet, blank_sheet}
use Rattle.model.specs.Calls.{void_sheet}
use Rattle.queues.specs.declared.books.TickerBook.{TickerBook}
use Rattle.queues.specs.Sheets.{sheet_of, sheets_of}
use Rattle.queues.proofs.Filed.{changed, changed-at, changed-next, changed-all, sheets-mapped}
use Rattle.matching.specs.Closings.{freeing_by, sheet_freed, all_freed}
use Rattle.matching.proofs.Granting.{granted-front, granted-behind, moved-join}

-- ---- one ticker: the buys first, then the sells
module _ (l : Listing) (t money : ℕ) (s : Sheet) (k : Book) (e : money ≡ asset_of_lem l t Buy) (g : Granted (sheet_freed l t s) k) where
  buy-moves : map (freeing_by Buy money) s.buys ≡ map (freeing l t Buy) s.buys
  buy-moves = ap (λ (a : ℕ). map (freeing_by Buy a) s.buys) e

  pub buys-granted : Granted (map (freeing_by Buy money) s.buys) k
  buys-granted = subst (λ (ms : List Move). Granted ms k) (sym buy-moves) (granted-front (map (freeing l t Buy) s.buys) _ k g)

  module _ (k1 : Book) (e1 : k1 ≡ moved_all (map (freeing_by Buy money) s.buys) k) where
    pub sells-granted : Granted (map (freeing_by Sell t) s.sells) k1
    sells-granted =
        subst (Granted (map (freeing_by Sell t) s.sells)) (sym (e1 ∙ ap (λ (ms : List Move). moved_all ms k) buy-moves))
        (granted-behind (map (freeing l t Buy) s.buys) (map (freeing l t Sell) s.sells) k g)

    pub sheet-moved : (k2 : Book) → k2 ≡ moved_all (map (freeing_by Sell t) s.sells) k1 → k2 ≡ moved_all (sheet_freed l t s) k
    sheet-moved k2 e2 =
        e2 ∙ ap (moved_all (map (freeing_by Sell t) s.sells)) (e1 ∙ ap (λ (ms : List Move). moved_all ms k) buy-moves)
        ∙ sym (moved-join (map (freeing l t Buy) s.buys) (map (freeing l t Sell) s.sells) k)

-- ---- the tickers from place i on, each with its sheet
abbrev pub freed_from : Listing → ℕ → List Sheet → List Move
freed_from l t [] = []
freed_from l t (s ∷ ss) = sheet_freed l t s ++ freed_from l (suc t) ss

-- the tickers' list and the list of the books are the same eight
pub all-freed : (l : Listing) (books : List TickerBook) → length books ≡ 8 → all_freed l (sheets_of books) ≡ freed_from l 4 (map sheet_of books)
all-freed l (a ∷ b ∷ c ∷ d ∷ e ∷ f ∷ g ∷ h ∷ []) z = refl
all-freed l [] z = absurd (omega arith)
all-freed l (a ∷ []) z = absurd (omega arith)
all-freed l (a ∷ b ∷ []) z = absurd (omega arith)
all-freed l (a ∷ b ∷ c ∷ []) z = absurd (omega arith)
all-freed l (a ∷ b ∷ c ∷ d ∷ []) z = absurd (omega arith)
all-freed l (a ∷ b ∷ c ∷ d ∷ e ∷ []) z = absurd (omega arith)
all-freed l (a ∷ b ∷ c ∷ d ∷ e ∷ f ∷ []) z = absurd (omega arith)
all-freed l (a ∷ b ∷ c ∷ d ∷ e ∷ f ∷ g ∷ []) z = absurd (omega arith)
all-freed l (a ∷ b ∷ c ∷ d ∷ e ∷ f ∷ g ∷ h ∷ i ∷ js) z = absurd (omega arith)

-- ---- the loop
pub record Voiding (l : Listing) (i : ℕ) (books0 books : List TickerBook) (k0 k : Book) : Type 0 where
  pub sheets : map sheet_of books ≡ changed void_sheet i (map sheet_of books0)
  pub eight : length books ≡ 8
  pub granted : Granted (freed_from l (4 + i) (drop i (map sheet_of books0))) k
  pub moved : moved_all (freed_from l (4 + i) (drop i (map sheet_of books0))) k ≡ moved_all (freed_from l 4 (map sheet_of books0)) k0

pub voiding-start : (l : Listing) (books : List TickerBook) (k : Book) → length books ≡ 8 → Granted (all_freed l (sheets_of books)) k → Voiding l 0 books books k k
voiding-start l books k z g =
    record { sheets = refl; eight = z; granted = subst (λ (ms : List Move). Granted ms k) (all-freed l books z) g; moved = refl }

module _ (l : Listing) (i : ℕ) (books0 books : List TickerBook) (k0 k : Book) (z : length books0 ≡ 8) (h : i < 8) (d : TickerBook) (v : Voiding l i books0 books k0 k) where
  -- the book at the place is as it was
  pub here : sheet_of (get_or books i d) ≡ get_or (map sheet_of books0) i blank_sheet
  here =
      let n = v.eight in
      let n0 : length (map sheet_of books) ≡ length books = length-map books sheet_of in
      sym (get_or-map sheet_of books i d blank_sheet (omega arith)) ∙ ap (λ (s : List Sheet). get_or s i blank_sheet) v.sheets ∙ changed-at void_sheet i (map sheet_of books0) blank_sheet

  next-sheets : drop i (map sheet_of books0) ≡ get_or (map sheet_of books0) i blank_sheet ∷ drop (i + 1) (map sheet_of books0)
  next-sheets = let n : length (map sheet_of books0) ≡ length books0 = length-map books0 sheet_of in drop_more (map sheet_of books0) i blank_sheet (omega arith)

  parts : freed_from l (4 + i) (drop i (map sheet_of books0)) ≡ sheet_freed l (4 + i) (sheet_of (get_or books i d)) ++ freed_from l (4 + (i + 1)) (drop (i + 1) (map sheet_of books0))
  parts =
      let e : suc (4 + i) ≡ 4 + (i + 1) = omega arith in
      ap (freed_from l (4 + i)) next-sheets
      ∙ (λ j. sheet_freed l (4 + i) (sym here j) ++ freed_from l (e j) (drop (i + 1) (map sheet_of books0)))

  pub here-granted : Granted (sheet_freed l (4 + i) (sheet_of (get_or books i d))) k
  here-granted = granted-front _ (freed_from l (4 + (i + 1)) (drop (i + 1) (map sheet_of books0))) k (subst (λ (ms : List Move). Granted ms k) parts v.granted)

  pub voiding-more : (b : TickerBook) (k' : Book) → sheet_of b ≡ void_sheet (sheet_of (get_or books i d)) → k' ≡ moved_all (sheet_freed l (4 + i) (sheet_of (get_or books i d))) k
      → Voiding l (i + 1) books0 (set books i b) k0 k'
  voiding-more b k' eb ek =
      record {
        sheets = changed-next void_sheet i books0 books d b (omega arith) (v.eight ∙ sym z) v.sheets eb;
        eight = length-set books i b ∙ v.eight;
        granted = subst (Granted (freed_from l (4 + (i + 1)) (drop (i + 1) (map sheet_of books0)))) (sym ek)
            (granted-behind (sheet_freed l (4 + i) (sheet_of (get_or books i d))) _ k (subst (λ (ms : List Move). Granted ms k) parts v.granted));
        moved = ap (moved_all (freed_from l (4 + (i + 1)) (drop (i + 1) (map sheet_of books0)))) ek
            ∙ sym (moved-join (sheet_freed l (4 + i) (sheet_of (get_or books i d))) _ k)
            ∙ ap (λ (ms : List Move). moved_all ms k) (sym parts)
            ∙ v.moved;
      }

pub voided : (l : Listing) (i : ℕ) (books0 books : List TickerBook) (k0 k : Book) → length books0 ≡ 8 → 8 ≤ i → Voiding l i books0 books k0 k
    → (k ≡ moved_all (all_freed l (sheets_of books0)) k0) × (sheets_of books ≡ (λ (t : ℕ). void_sheet (sheets_of books0 t)))
voided l i books0 books k0 k z h v =
    let n : length (map sheet_of books0) ≡ length books0 = length-map books0 sheet_of in
    let none : drop i (map sheet_of books0) ≡ [] = drop_all i (map sheet_of books0) (omega arith) in (
      sym (ap (λ (s : List Sheet). moved_all (freed_from l (4 + i) s) k) none) ∙ v.moved ∙ ap (λ (ms : List Move). moved_all ms k0) (sym (all-freed l books0 z)),
      sheets-mapped void_sheet books books0 refl (v.sheets ∙ changed-all void_sheet i (map sheet_of books0) (omega arith)),
    )
