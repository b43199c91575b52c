-- Books that agree at one asset: a movement of that asset is refused in both or in neither, and what it
-- leaves agrees again.
use Rattle.std.specs.Prelude.{◌≡◌, ℕ, ◌+◌, ◌-◌, Some, None, Option, ◌≢◌, nat_le, refl}
use Rattle.std.proofs.Common.{sym, ap, ◌∙◌, arith}
use Rattle.std.proofs.lemmas.Bool.Decides.{nat_tests}
use Rattle.register.specs.declared.faults.RegisterCause.TheVariants.{NoAccount, BadAmount, OverTotal}
use Rattle.register.specs.declared.faults.RegisterFault.{RegisterFault}
use Rattle.register.specs.Books.{Book, at, total, most_amount}
use Rattle.register.specs.Moves.{Move, Deposit, Withdraw, Block, Release, Pay, need, fault, known, lawful_amount, refusal, moved, after_move, unless}
use Rattle.register.proofs.Sums.{sum_to-same}
use Rattle.register.proofs.Accounts.{at-other-asset, book-ext}

pub record Agree (a : ℕ) (b c : Book) : Type 0 where
  pub free : (h : ℕ) → b.free h a ≡ c.free h a
  pub blocked : (h : ℕ) → b.blocked h a ≡ c.blocked h a
  pub limit : (h : ℕ) → b.limit h a ≡ c.limit h a
  pub tag : (h n : ℕ) → b.tag h a n ≡ c.tag h a n

pub books-agree : (b c : Book) → ((a : ℕ) → Agree a b c) → b ≡ c
books-agree b c e = book-ext b c (λ h a. (e a).free h) (λ h a. (e a).blocked h) (λ h a. (e a).limit h) (λ h a n. (e a).tag h n)

pub agree-sym : {a : ℕ} {b c : Book} → Agree a b c → Agree a c b
agree-sym e = record {
  free = λ h. sym (e.free h);
  blocked = λ h. sym (e.blocked h);
  limit = λ h. sym (e.limit h);
  tag = λ h n. sym (e.tag h n);
}

pub agree_trans : {a : ℕ} {b c d : Book} → Agree a b c → Agree a c d → Agree a b d
agree_trans e f = record {
  free = λ h. e.free h ∙ f.free h;
  blocked = λ h. e.blocked h ∙ f.blocked h;
  limit = λ h. e.limit h ∙ f.limit h;
  tag = λ h n. e.tag h n ∙ f.tag h n;
}

pub total-agree : (a : ℕ) (b c : Book) → Agree a b c → total b a ≡ total c a
total-agree a b c e = sum_to-same 16 _ _ (λ h l. omega (arith, e.free h, e.blocked h))

-- the asset that a movement is of
abbrev pub asset_of_lem : Move → ℕ
asset_of_lem (Deposit h a n) = a
asset_of_lem (Withdraw h a n) = a
asset_of_lem (Block h a n) = a
asset_of_lem (Release h a n) = a
asset_of_lem (Pay h a n p) = a

pub refusal-agree : (b c : Book) (m : Move) → Agree (asset_of_lem m) b c → refusal b m ≡ refusal c m
refusal-agree b c (Deposit h a n) e =
    ap (λ (t : ℕ). need (known h a) (fault NoAccount h a 0) (need (lawful_amount n) (fault BadAmount h a 0) (need (nat_le (t + n) most_amount) (fault OverTotal h a 0) None)))
    (total-agree a b c e)
refusal-agree b c (Withdraw h a n) e = let f = e.free h in grind (arith, nat_tests)
refusal-agree b c (Block h a n) e =
    let f = e.free h in
    let k = e.blocked h in
    let l = e.limit h in
    let t = e.tag h (b.blocked h a + n) in
    grind (arith, nat_tests)
refusal-agree b c (Release h a n) e = let k = e.blocked h in grind (arith, nat_tests)
refusal-agree b c (Pay h a n p) e = let k = e.blocked h in grind (arith, nat_tests)

pub moved-agree : (b c : Book) (m : Move) (y : ℕ) → Agree y b c → Agree y (moved b m) (moved c m)
moved-agree b c (Deposit h a n) y e = record { free = λ x. ap (λ (v : ℕ). v + at h a n x y) (e.free x); blocked = e.blocked; limit = e.limit; tag = e.tag }
moved-agree b c (Withdraw h a n) y e = record { free = λ x. ap (λ (v : ℕ). v - at h a n x y) (e.free x); blocked = e.blocked; limit = e.limit; tag = e.tag }
moved-agree b c (Block h a n) y e = record {
  free = λ x. ap (λ (v : ℕ). v - at h a n x y) (e.free x);
  blocked = λ x. ap (λ (v : ℕ). v + at h a n x y) (e.blocked x);
  limit = e.limit;
  tag = e.tag;
}
moved-agree b c (Release h a n) y e = record {
  free = λ x. ap (λ (v : ℕ). v + at h a n x y) (e.free x);
  blocked = λ x. ap (λ (v : ℕ). v - at h a n x y) (e.blocked x);
  limit = e.limit;
  tag = e.tag;
}
moved-agree b c (Pay h a n p) y e = record {
  free = λ x. ap (λ (v : ℕ). v + at p a n x y) (e.free x);
  blocked = λ x. ap (λ (v : ℕ). v - at h a n x y) (e.blocked x);
  limit = e.limit;
  tag = e.tag;
}

-- at every other asset a movement leaves all as it was
pub moved-elsewhere : (b : Book) (m : Move) (y : ℕ) → (y ≢ asset_of_lem m) → Agree y (moved b m) b
moved-elsewhere b (Deposit h a n) y ne = record { free = λ x. omega (arith, at-other-asset h a n x y ne); blocked = λ x. refl; limit = λ x. refl; tag = λ x k. refl }
moved-elsewhere b (Withdraw h a n) y ne = record { free = λ x. omega (arith, at-other-asset h a n x y ne); blocked = λ x. refl; limit = λ x. refl; tag = λ x k. refl }
moved-elsewhere b (Block h a n) y ne = record {
  free = λ x. omega (arith, at-other-asset h a n x y ne);
  blocked = λ x. omega (arith, at-other-asset h a n x y ne);
  limit = λ x. refl;
  tag = λ x k. refl;
}
moved-elsewhere b (Release h a n) y ne = record {
  free = λ x. omega (arith, at-other-asset h a n x y ne);
  blocked = λ x. omega (arith, at-other-asset h a n x y ne);
  limit = λ x. refl;
  tag = λ x k. refl;
}
moved-elsewhere b (Pay h a n p) y ne = record {
  free = λ x. omega (arith, at-other-asset p a n x y ne);
  blocked = λ x. omega (arith, at-other-asset h a n x y ne);
  limit = λ x. refl;
  tag = λ x k. refl;
}

-- a book made of another, as by a layer: where a movement is refused in both or in neither, and made alike,
-- what it leaves is made of what it leaves of the other
pub after-lifted : (F : Book → Book) (b : Book) (m : Move) → refusal (F b) m ≡ refusal b m → moved (F b) m ≡ F (moved b m) → after_move (F b) m ≡ F (after_move b m)
after-lifted F b m same made = ap (λ (r : Option RegisterFault). unless r (moved (F b) m) (F b)) same ∙ lifted (refusal b m)
  where
    lifted : (r : Option RegisterFault) → unless r (moved (F b) m) (F b) ≡ F (unless r (moved b m) b)
    lifted None = made
    lifted (Some f) = refl
