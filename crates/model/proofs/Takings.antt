-- What the trades leave of the tally's standing bids, seen as queues.
use Rattle.model.specs.Words.{ℕ, refl, Bool, true, false, cond, ltb, eqb, List, [], map, joined, AllByRecursion, kept, only, Option, Some, None, or_else, Permᴰ}
use Rattle.std.proofs.Common.{◌-◌, ◌≤◌, ◌<◌, ◌≡◌, ◌&&◌, ◌||◌, ◌∷◌, ◌++◌, sym, ap, ◌∙◌, subst, append_assoc, append-nil, arith}
use mathlib.Core.List.Permᴰ
use Rattle.std.proofs.lemmas.Bool.Decides.{nat_tests}
use Rattle.std.proofs.lemmas.Bool.{cond-true, cond-false, lt-ltb, le-ltb}
use Rattle.model.specs.Market.{Side, same_side, Bid, Standing, Trade}
use Rattle.model.specs.Queues.{with_lots}
use Rattle.model.specs.Matching.{Deal, Met, trades_of}
use Rattle.model.specs.Tally.{Kept, reduced_by, takings}
use Rattle.model.specs.Sound.{times_in}
use Rattle.model.proofs.Meeting.{Meets}
use Rattle.model.proofs.Meeting.Meets.{empty, enough, stopped, some, every}
use Rattle.ranking.specs.Ranks.{Pairwise}

-- ---- lists
pub joined-append : {X Y : Type 0} (f : X → List Y) (xs ys : List X) → joined f (xs ++ ys) ≡ joined f xs ++ joined f ys
joined-append f [] ys = refl
joined-append f (x ∷ xs) ys = ap (λ z. f x ++ z) (joined-append f xs ys) ∙ sym (append_assoc (f x) (joined f xs) (joined f ys))

pub joined_same : {X : Type 0} (f : X → List X) (xs : List X) → AllByRecursion (λ x. f x ≡ x ∷ []) xs → joined f xs ≡ xs
joined_same f [] a = refl
joined_same f (x ∷ xs) a = ap (λ z. z ++ joined f xs) a.0 ∙ ap (λ z. x ∷ z) (joined_same f xs a.1)

-- two lists change places
exchange : {X : Type 0} (xs ys zs : List X) → Permᴰ (xs ++ (ys ++ zs)) (ys ++ (xs ++ zs))
exchange [] ys zs = Permᴰ.refl (ys ++ zs)
exchange (x ∷ xs) ys zs = Permᴰ.trans (Permᴰ.cons refl (exchange xs ys zs)) (perm_symm x ys (xs ++ zs))
  where
    perm_symm : {X : Type 0} (x : X) (ys zs : List X) → Permᴰ (x ∷ (ys ++ zs)) (ys ++ (x ∷ zs))
    perm_symm x [] zs = Permᴰ.refl (x ∷ zs)
    perm_symm x (y ∷ ys) zs = Permᴰ.trans (Permᴰ.swap refl refl) (Permᴰ.cons refl (perm_symm x ys zs))

pub joined-perm : {X Y : Type 0} (f : X → List Y) {xs ys : List X} → Permᴰ xs ys → Permᴰ (joined f xs) (joined f ys)
joined-perm f Permᴰ.nil = Permᴰ.nil
joined-perm f (Permᴰ.cons {a = x} {b = y} {l₁ = l} {l₂ = m} e p) = subst (λ z. Permᴰ (f x ++ joined f l) (f z ++ joined f m)) e (Permᴰ.append_left (f x) (joined-perm f p))
joined-perm f (Permᴰ.swap {a = x} {b = y} {a' = x'} {b' = y'} {l = l} e d) =
    subst (λ z. Permᴰ (f x ++ (f y ++ joined f l)) (f x' ++ (f z ++ joined f l))) e
    (subst (λ z. Permᴰ (f x ++ (f y ++ joined f l)) (f z ++ (f x ++ joined f l))) d (exchange (f x) (f y) (joined f l)))
joined-perm f (Permᴰ.trans p q) = Permᴰ.trans (joined-perm f p) (joined-perm f q)

-- ---- a trade takes its lots from the records of a queue
abbrev pub hits : Trade → ℕ → Bool
hits x number = eqb number x.buy || eqb number x.sell

abbrev pub taken-from : Trade → Standing → List Standing
taken-from x s = cond (hits x s.number) (only (ltb x.lots s.lots) (with_lots s (s.lots - x.lots))) (s ∷ [])

abbrev pub takes : List Trade → List Standing → List Standing
takes [] q = q
takes (x ∷ xs) q = takes xs (joined (taken-from x) q)

pub takes-append : (xs ys : List Trade) (q : List Standing) → takes (xs ++ ys) q ≡ takes ys (takes xs q)
takes-append [] ys q = refl
takes-append (x ∷ xs) ys q = takes-append xs ys (joined (taken-from x) q)

pub takes-perm : (xs : List Trade) {q r : List Standing} → Permᴰ q r → Permᴰ (takes xs q) (takes xs r)
takes-perm [] p = p
takes-perm (x ∷ xs) p = takes-perm xs (joined-perm (taken-from x) p)

pub takes-nothing : (xs : List Trade) → takes xs [] ≡ []
takes-nothing [] = refl
takes-nothing (x ∷ xs) = takes-nothing xs

-- the lots that a trade leaves to a number, if any
abbrev pub leaves : Trade → ℕ → ℕ → Option ℕ
leaves x number lots = cond (hits x number) (cond (ltb x.lots lots) (Some (lots - x.lots)) None) (Some lots)

abbrev pub kept_as : Kept → Option ℕ → List Kept
kept_as k (Some n) = record { number = k.number; bid = k.bid; lots = n } ∷ []
kept_as k None = []

abbrev stands_as : Standing → Option ℕ → List Standing
stands_as s (Some n) = with_lots s n ∷ []
stands_as s None = []

pub kept_leaves : (x : Trade) (k : Kept) → reduced_by x k ≡ kept_as k (leaves x k.number k.lots)
unfolding reduced_by
kept_leaves x k = by (hits x k.number) (ltb x.lots k.lots)
  where
    by : (h l : Bool) → cond h (only l (record { number = k.number; bid = k.bid; lots = k.lots - x.lots })) (k ∷ []) ≡ kept_as k (cond h (cond l (Some (k.lots - x.lots)) None) (Some k.lots))
    by true true = refl
    by true false = refl
    by false l = refl

stands-leaves : (x : Trade) (s : Standing) → taken-from x s ≡ stands_as s (leaves x s.number s.lots)
stands-leaves x s = by (hits x s.number) (ltb x.lots s.lots)
  where
    by : (h l : Bool) → cond h (only l (with_lots s (s.lots - x.lots))) (s ∷ []) ≡ stands_as s (cond h (cond l (Some (s.lots - x.lots)) None) (Some s.lots))
    by true true = refl
    by true false = refl
    by false l = refl

-- ---- the tally's standing bids as a queue, by the price that each is held to
module _ (held : Bid → Option ℕ) (t : ℕ) (side : Side) where
  abbrev pub belongs : Kept → Bool
  belongs k = eqb k.bid.ticker t && same_side side k.bid.side

  abbrev pub shown : Kept → Standing
  shown k = record { number = k.number; holder = k.bid.holder; price = or_else (held k.bid) 0; lots = k.lots }

  abbrev pub here : Kept → List Standing
  here k = only (belongs k) (shown k)

  abbrev pub listed : List Kept → List Standing
  listed ks = joined here ks

  pub as-listed : (ks : List Kept) → map shown (kept belongs ks) ≡ listed ks
  as-listed [] = refl
  as-listed (k ∷ ks) = by (belongs k) (as-listed ks)
    where
      by : (q : Bool) → map shown (kept belongs ks) ≡ listed ks → map shown (only q k ++ kept belongs ks) ≡ only q (shown k) ++ listed ks
      by true ih = ap (λ z. shown k ∷ z) ih
      by false ih = ih

  abbrev only_as : Bool → Standing → Option ℕ → List Standing
  only_as q s (Some n) = only q (with_lots s n) ++ []
  only_as q s None = []

  of-kept : (k : Kept) (o : Option ℕ) → listed (kept_as k o) ≡ only_as (belongs k) (shown k) o
  of-kept k (Some n) = refl
  of-kept k None = refl

  of-standing : (x : Trade) (s : Standing) (q : Bool) → joined (taken-from x) (only q s) ≡ only_as q s (leaves x s.number s.lots)
  of-standing x s true = ap (λ z. z ++ []) (stands-leaves x s) ∙ by (leaves x s.number s.lots)
    where
      by : (o : Option ℕ) → stands_as s o ++ [] ≡ only_as true s o
      by (Some n) = refl
      by None = refl
  of-standing x s false = by (leaves x s.number s.lots)
    where
      by : (o : Option ℕ) → [] ≡ only_as false s o
      by (Some n) = refl
      by None = refl

  one-taken : (x : Trade) (k : Kept) → listed (reduced_by x k) ≡ joined (taken-from x) (here k)
  one-taken x k = ap listed (kept_leaves x k) ∙ of-kept k (leaves x k.number k.lots) ∙ sym (of-standing x (shown k) (belongs k))

  all-taken : (x : Trade) (ks : List Kept) → listed (joined (reduced_by x) ks) ≡ joined (taken-from x) (listed ks)
  all-taken x [] = refl
  all-taken x (k ∷ ks) =
      joined-append here (reduced_by x k) (joined (reduced_by x) ks)
      ∙ ap (λ z. z ++ listed (joined (reduced_by x) ks)) (one-taken x k)
      ∙ ap (λ z. joined (taken-from x) (here k) ++ z) (all-taken x ks)
      ∙ sym (joined-append (taken-from x) (here k) (listed ks))

  pub listed-takings : (xs : List Trade) (ks : List Kept) → listed (takings xs ks) ≡ takes xs (listed ks)
  listed-takings [] ks = refl
  listed-takings (x ∷ xs) ks = listed-takings xs (joined (reduced_by x) ks) ∙ ap (takes xs) (all-taken x ks)

-- ---- numbers
abbrev pub Distinct : List Standing → Type 0
Distinct q = Pairwise (λ x y. y.number ≡ x.number → ⊥) q

abbrev pub Absent : ℕ → List Standing → Type 0
Absent n q = AllByRecursion (λ x. x.number ≡ n → ⊥) q

pub absent : (n : ℕ) (q : List Standing) → times_in n q ≡ 0 → Absent n q
absent n [] e = tt
absent n (x ∷ q) e = ((λ same. none same), absent n q (rest e))
  where
    none : x.number ≡ n → ⊥
    none same = grind (arith, nat_tests)

    rest : times_in n (x ∷ q) ≡ 0 → times_in n q ≡ 0
    rest e = omega (arith, e)

pub distinct : (q : List Standing) → ((n : ℕ) → times_in n q ≤ 1) → Distinct q
distinct [] h = tt
distinct (x ∷ q) h = (absent x.number q (others (h x.number)), distinct q (λ n. omega (arith, h n)))
  where
    others : times_in x.number (x ∷ q) ≤ 1 → times_in x.number q ≡ 0
    others e = grind (arith, nat_tests)

-- a trade of other numbers leaves a queue as it is
pub missed : (x : Trade) (q : List Standing) → Absent x.buy q → Absent x.sell q → joined (taken-from x) q ≡ q
missed x q a b = joined_same (taken-from x) q (by q a b)
  where
    by : (q : List Standing) → Absent x.buy q → Absent x.sell q → AllByRecursion (λ s. taken-from x s ≡ s ∷ []) q
    by [] a b = tt
    by (s ∷ q) a b = (cond-false (hits x s.number) _ (s ∷ []) (miss a.0 b.0), by q a.1 b.1)
      where
        miss : (s.number ≡ x.buy → ⊥) → (s.number ≡ x.sell → ⊥) → hits x s.number ≡ false
        miss u v = grind (arith, nat_tests)

pub all-missed : (xs : List Trade) (q : List Standing) → AllByRecursion (λ x. Absent x.buy q × Absent x.sell q) xs → takes xs q ≡ q
all-missed [] q a = refl
all-missed (x ∷ xs) q a = ap (takes xs) (missed x q a.0.0 a.0.1) ∙ all-missed xs q a.1

-- ---- a meeting's trades leave the queue that the meeting leaves
-- each trade names the standing bid and the newcomer's number, in either order
pub record Naming (deal : Standing → ℕ → Deal) (number : ℕ) : Type 0 where
  pub lots : (x : Standing) (k : ℕ) → (deal x k).trade.lots ≡ k
  pub hit : (x : Standing) (k : ℕ) → hits (deal x k).trade x.number ≡ true
  pub hit_new : (x : Standing) (k : ℕ) → hits (deal x k).trade number ≡ true
  pub miss : (x : Standing) (k : ℕ) (q : List Standing) → Absent x.number q → Absent number q → Absent (deal x k).trade.buy q × Absent (deal x k).trade.sell q

module _ {deal : Standing → ℕ → Deal} {number : ℕ} (name : Naming deal number) where
  first_taken : (x : Standing) (k : ℕ) (q : List Standing) → Absent x.number q → Absent number q
      → joined (taken-from (deal x k).trade) (x ∷ q) ≡ only (ltb k x.lots) (with_lots x (x.lots - k)) ++ q
  first_taken x k q a b =
      let m = name.miss x k q a b in
      ap (λ z. z ++ joined (taken-from (deal x k).trade) q) (cond-true (hits (deal x k).trade x.number) _ (x ∷ []) (name.hit x k))
      ∙ ap (λ (n : ℕ). only (ltb n x.lots) (with_lots x (x.lots - n)) ++ joined (taken-from (deal x k).trade) q) (name.lots x k)
      ∙ ap (λ z. only (ltb k x.lots) (with_lots x (x.lots - k)) ++ z) (missed (deal x k).trade q m.0 m.1)

  own-taken : (b : Standing) → b.number ≡ number → (x : Standing) (k n : ℕ) → 0 < n → joined (taken-from (deal x k).trade) (only (ltb 0 n) (with_lots b n)) ≡ only (ltb k n) (with_lots b (n - k)) ++ []
  own-taken b i x k n z =
      ap (λ (t : Bool). joined (taken-from (deal x k).trade) (only t (with_lots b n))) (lt-ltb 0 n z)
      ∙ ap (λ y. y ++ []) (cond-true (hits (deal x k).trade b.number) _ (with_lots b n ∷ []) (ap (hits (deal x k).trade) i ∙ name.hit_new x k))
      ∙ ap (λ (j : ℕ). only (ltb j n) (with_lots b (n - j)) ++ []) (name.lots x k)

module _ {test : ℕ → Bool} {deal : Standing → ℕ → Deal} {number : ℕ} (name : Naming deal number) where
  pub meets-takes : {n : ℕ} {q : List Standing} {m : Met} → Meets test deal n q m → Distinct q → Absent number q → takes (trades_of m.deals) q ≡ m.queue
  meets-takes empty d a = refl
  meets-takes (enough e) d a = refl
  meets-takes (stopped e) d a = refl
  meets-takes (some {n} {x = x} {q = q} e z u) d a = first_taken name x n q d.0 a.1 ∙ ap (λ (t : Bool). only t (with_lots x (x.lots - n)) ++ q) (lt-ltb n x.lots u)
  meets-takes (every {n} {x = x} {q = q} {r = r} e z u g) d a =
      ap (takes (trades_of r.deals)) (first_taken name x x.lots q d.0 a.1 ∙ ap (λ (t : Bool). only t (with_lots x (x.lots - x.lots)) ++ q) (le-ltb x.lots x.lots (omega arith)))
      ∙ meets-takes g d.1 a.1

  -- and of the newcomer's own record, what is left of it
  pub meets-takes-own : (b : Standing) → b.number ≡ number → {n : ℕ} {q : List Standing} {m : Met} → Meets test deal n q m
      → takes (trades_of m.deals) (only (ltb 0 n) (with_lots b n)) ≡ only (ltb 0 m.left) (with_lots b m.left)
  meets-takes-own b i empty = refl
  meets-takes-own b i (enough e) = refl
  meets-takes-own b i (stopped e) = refl
  meets-takes-own b i (some {n} {x = x} e z u) = own-taken name b i x n n z ∙ ap (λ (t : Bool). only t (with_lots b (n - n)) ++ []) (le-ltb n n (omega arith))
  meets-takes-own b i (every {n} {x = x} {r = r} e z u g) =
      ap (takes (trades_of r.deals)) (own-taken name b i x x.lots n z ∙ append-nil (only (ltb x.lots n) (with_lots b (n - x.lots))) ∙ ap (λ (t : Bool). only t (with_lots b (n - x.lots))) (same_test x.lots n u))
      ∙ meets-takes-own b i g
    where
      same_test : (k n : ℕ) → k ≤ n → ltb k n ≡ ltb 0 (n - k)
      same_test k n le = grind (arith, nat_tests)
