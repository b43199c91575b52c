-- What a list register keeps of its list through every change, and why the list never wants for room.
use Rattle.std.proofs.Common.{◌≡◌, ℕ, suc, ◌+◌, ◌*◌, ◌^◌, ◌<◌, ◌≤◌, Bool, true, false, List, [], ◌∷◌, length, get_or, filter, set, Some, None, sum_by, sym, refl, ap, ◌∙◌, subst, arith, length-set}
use Rattle.std.specs.List.{remove, refill, AllByRecursion, list_all}
use Rattle.arrayvec.proofs.ArrayVecLemmas.{items-with_items}
use Rattle.std.proofs.lemmas.List.Sums.{get_or-le-sum_by}
use Rattle.std.proofs.ByRecursion.{All-weaker, All-from_get_or, All-set}
use Rattle.std.proofs.lemmas.Bool.{lt-ltb, and_parts, and_from}
use Rattle.std.proofs.lemmas.Bool.Decides.{nat_tests}
use Rattle.ranking.specs.Ranks.{is_distinct, insert_ranked, ties, tie_place, is_ranked, Pairwise, OrderLaws}
use Rattle.ranking.proofs.Perms.{all-insert_ranked, all-removed, length-insert_ranked}
use Rattle.ranking.proofs.Ranked.{ranked-from-test, set_tested, removed-tested, insert_ranked-tested}
use Rattle.ranking.proofs.Ties.{untied-from-test, tie-found, untied-inserted-tested, untied-removed-tested, untied-set-tested, strictly-ranked}
use Rattle.register.specs.Books.{Book, total, most_amount}
use Rattle.registers.specs.declared.entries.Entry.{Entry}
use Rattle.registers.specs.declared.list.List.{List as Accounts}
use Rattle.registers.specs.Lists.{account_before, no_entry, balance_in, list_book, is_known_lem, is_filled, TotalsBounded}
use Rattle.registers.proofs.Written.{bounded-written}
use Rattle.registers.proofs.Listed.{Apart, Writes, tied-before, book-writes, writes-inserted, writes-set, writes-removed, empty-balance}
use Rattle.registers.proofs.Holdings.{whole, of_asset, held_in, held-total, held-filtered, empty-bounded}

-- ranked entries of different accounts are no more than there are accounts
abbrev key : Entry → ℕ
key x = 12 * x.holder + x.asset

key-rises : (x y : Entry) → is_known_lem x ≡ true → account_before x y ≡ true → key x < key y
key-rises x y k b = grind (arith, nat_tests)

key-bound : (x : Entry) → is_known_lem x ≡ true → key x < 192
key-bound x k = grind (arith, nat_tests)

keys-fit : (m : ℕ) (xs : List Entry) → m ≤ 192 → Pairwise (λ x y. account_before x y ≡ true) xs → AllByRecursion (λ x. is_known_lem x ≡ true) xs → AllByRecursion (λ x. m ≤ key x) xs → length xs + m ≤ 192
keys-fit m [] l p k g = omega arith
keys-fit m (x ∷ xs) l p k g =
    let above : AllByRecursion (λ y. suc (key x) ≤ key y) xs = All-weaker (λ y. account_before x y ≡ true) (λ y. suc (key x) ≤ key y) (λ y b. key-rises x y k.0 b) xs p.0 in
    let r = keys-fit (suc (key x)) xs (key-bound x k.0) p.1 k.1 above in
    let s = g.0 in
    omega arith

module _ (p : Entry → Bool) where
  pub all-from-pass : (xs : List Entry) → list_all p xs ≡ true → AllByRecursion (λ x. p x ≡ true) xs
  all-from-pass [] h = tt
  all-from-pass (x ∷ xs) h = let b = and_parts _ _ h in (b.0, all-from-pass xs b.1)

  pass-from-all : (xs : List Entry) → AllByRecursion (λ x. p x ≡ true) xs → list_all p xs ≡ true
  pass-from-all [] a = refl
  pass-from-all (x ∷ xs) a = and_from _ _ a.0 (pass-from-all xs a.1)

  pass-inserted : (e : Entry) (xs : List Entry) → p e ≡ true → list_all p xs ≡ true → list_all p (insert_ranked account_before e xs) ≡ true
  pass-inserted e xs t h = pass-from-all _ (all-insert_ranked account_before e (λ x. p x ≡ true) xs t (all-from-pass xs h))

  pass-removed : (xs : List Entry) (i : ℕ) → list_all p xs ≡ true → list_all p (remove xs i) ≡ true
  pass-removed xs i h = pass-from-all _ (all-removed (λ x. p x ≡ true) xs i (all-from-pass xs h))

  pass-set : (xs : List Entry) (i : ℕ) (e : Entry) → p e ≡ true → list_all p xs ≡ true → list_all p (set xs i e) ≡ true
  pass-set xs i e t h = pass-from-all _ (All-set (λ x. p x ≡ true) xs i e t (all-from-pass xs h))

-- what a list register keeps of its list
pub record Sound (xs : List Entry) : Type 0 where
  pub ranked : is_ranked account_before xs ≡ true
  pub apart : is_distinct (ties account_before) xs ≡ true
  pub known : list_all is_known_lem xs ≡ true
  pub filled : list_all is_filled xs ≡ true
  pub bounded : TotalsBounded xs

pub sound-apart : (xs : List Entry) → Sound xs → Apart xs
sound-apart xs s = untied-from-test account_before xs s.apart

pub sound-total : (xs : List Entry) → Sound xs → (a : ℕ) → total (list_book xs) a ≡ sum_by (held_in a) xs
sound-total xs s a = held-total a xs (sound-apart xs s) (all-from-pass is_known_lem xs s.known)

account-laws : OrderLaws account_before
account-laws = record {
  irreflexive = λ a. grind (arith, nat_tests);
  transitive = λ a b c s t. grind (arith, nat_tests);
  negative = λ a b c s t. grind (arith, nat_tests);
}

-- what is summed for an asset
module _ (xs : List Entry) (a : ℕ) (s : Sound xs) where
  pub total-filtered : total (list_book xs) a ≡ sum_by whole (filter (of_asset a) xs)
  total-filtered = sound-total xs s a ∙ sym (held-filtered a xs)

  pub filtered-within : a < 12 → sum_by whole (filter (of_asset a) xs) < 2 ^ 64
  filtered-within aa = omega (arith, total-filtered, s.bounded a aa)

  pub filtered-each : a < 12 → (k : ℕ) (x : Entry) → k < length (filter (of_asset a) xs) → x ≡ get_or (filter (of_asset a) xs) k x → whole x < 2 ^ 64
  filtered-each aa k x l at =
      let w : whole (get_or (filter (of_asset a) xs) k x) ≤ sum_by whole (filter (of_asset a) xs) = get_or-le-sum_by whole (filter (of_asset a) xs) k x l in
      omega (arith, w, ap whole at, filtered-within aa)

-- the account of e is written, and its asset's total stays within the most
module _ (xs : List Entry) (e : Entry) (s : Sound xs) (hh : e.holder < 16) (aa : e.asset < 12)
    (room : total (list_book xs) e.asset + (e.balance.free + e.balance.blocked) ≤ most_amount + ((balance_in xs e.holder e.asset).free + (balance_in xs e.holder e.asset).blocked)) where
  entry_known : is_known_lem e ≡ true
  entry_known = and_from _ _ (lt-ltb e.holder 16 hh) (lt-ltb e.asset 12 aa)

  bounded-writes : (ys : List Entry) → Writes xs e ys → TotalsBounded ys
  bounded-writes ys w a l =
      subst (λ (v : Book). total v a ≤ most_amount) (sym (book-writes xs ys e w)) (bounded-written (list_book xs) e.holder e.asset e.balance hh s.bounded room a l)

  pub sound-inserted : is_filled e ≡ true → tie_place account_before e xs ≡ None → Sound (insert_ranked account_before e xs)
  sound-inserted f n = record {
    ranked = insert_ranked-tested account_before account-laws e xs s.ranked;
    apart = untied-inserted-tested account_before e xs n s.apart;
    known = pass-inserted is_known_lem e xs entry_known s.known;
    filled = pass-inserted is_filled e xs f s.filled;
    bounded = bounded-writes (insert_ranked account_before e xs) (writes-inserted xs e n);
  }

  module _ (i : ℕ) (found : tie_place account_before e xs ≡ Some i) where
    tied : ties account_before e (get_or xs i no_entry) ≡ true
    tied = (tie-found account_before e xs i found).1 no_entry

    from : (z : Entry) → account_before e z ≡ account_before (get_or xs i no_entry) z
    from z = (tied-before e (get_or xs i no_entry) z tied).0

    to : (z : Entry) → account_before z e ≡ account_before z (get_or xs i no_entry)
    to z = (tied-before e (get_or xs i no_entry) z tied).1

    pub sound-set : is_filled e ≡ true → Sound (set xs i e)
    sound-set f =
        let l = (tie-found account_before e xs i found).0 in
        record {
          ranked = set_tested account_before xs i e no_entry l from to s.ranked;
          apart = untied-set-tested account_before xs i e no_entry l from to s.apart;
          known = pass-set is_known_lem xs i e entry_known s.known;
          filled = pass-set is_filled xs i e f s.filled;
          bounded = bounded-writes (set xs i e) (writes-set xs e (sound-apart xs s) i found);
        }

    pub sound-removed : is_filled e ≡ false → Sound (remove xs i)
    sound-removed f = record {
      ranked = removed-tested account_before xs i s.ranked;
      apart = untied-removed-tested account_before xs i s.apart;
      known = pass-removed is_known_lem xs i s.known;
      filled = pass-removed is_filled xs i s.filled;
      bounded = bounded-writes (remove xs i) (writes-removed xs e (sound-apart xs s) i found (empty-balance e f));
    }

pub sound-fits : (xs : List Entry) → Sound xs → length xs ≤ 192
sound-fits xs s =
    let p = strictly-ranked account_before xs (ranked-from-test account_before xs s.ranked) (sound-apart xs s) in
    omega (arith, keys-fit 0 xs (omega arith) p (all-from-pass is_known_lem xs s.known) (All-from_get_or (λ x. 0 ≤ key x) xs no_entry (λ i l. omega arith)))

module _ (xs : List Entry) (e : Entry) where
  pub room-left : Sound (insert_ranked account_before e xs) → length xs < 192
  room-left s = omega (arith, sound-fits (insert_ranked account_before e xs) s, length-insert_ranked account_before e xs)

-- a write through the slice of the entries
pub rewritten : (xs ys : List Entry) (i : ℕ) (e : Entry) → ys ≡ xs → refill (length xs) xs (set ys i e) ≡ set xs i e
rewritten xs ys i e is =
    let r = items-with_items (record { items = xs }) (set ys i e) (length-set ys i e ∙ ap length is) in
    r ∙ ap (λ l. set l i e) is

pub kept : (t : Accounts) → Sound t.entries.items
kept t = record { ranked = t.ranked; apart = t.apart; known = t.known; filled = t.filled; bounded = t.bounded }

pub kept-apart : (t : Accounts) → Apart t.entries.items
kept-apart t = sound-apart t.entries.items (kept t)

pub empty-sound : Sound []
empty-sound = record { ranked = refl; apart = refl; known = refl; filled = refl; bounded = empty-bounded }
