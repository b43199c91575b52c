-- The start of a day: its checks, and what it finds. Assumes nothing.
use Rattle.std.proofs.Common.{◌≡◌, ℕ, ◌+◌, Bool, true, false, ◌&&◌, eqb, List, [], ◌∷◌, sum_by, Some, None, sym, refl, ap, ◌∙◌, arith}
use Rattle.std.specs.List.{list_all, range_with_len}
use Rattle.std.proofs.lemmas.Bool.Decides.{nat_tests}
use Rattle.std.proofs.lemmas.List.Sums.{sum_by-cons}
use Rattle.register.specs.Books.{sum_to}
use Rattle.register.proofs.Sums.{sum_to-range}
use Rattle.rules.specs.Rules.{Rule}
use Rattle.model.specs.declared.words.Listing.{Listing}
use Rattle.model.specs.declared.calls.Call.TheVariants.{Start}
use Rattle.model.specs.declared.faults.Cause.TheVariants.{Floor as ByFloor}
use Rattle.model.specs.declared.faults.FloorRefusal.TheVariants.{WrongSession, BadListing, SomethingBlocked}
use Rattle.model.specs.Words.{all_of}
use Rattle.model.specs.Market.{is_closed}
use Rattle.model.specs.World.{World}
use Rattle.model.specs.Checks.{why, valid_listing, nothing_blocked}
use Rattle.floor.proofs.Passing.{pass, fail}

-- ---- whether all pass a test, in the library's words
pub all-same : {X : Type 0} (p : X → Bool) (xs : List X) → list_all p xs ≡ all_of p xs
all-same p [] = refl
all-same p (x ∷ xs) = ap (λ (b : Bool). p x && b) (all-same p xs)

-- ---- a sum is 0 where each of its parts is
both-none : (m n : ℕ) (b : Bool) → b ≡ eqb n 0 → (eqb m 0 && b) ≡ eqb (m + n) 0
both-none m n b e = grind (arith, nat_tests)

each-none : (f : ℕ → ℕ) (xs : List ℕ) → list_all (λ k. eqb (f k) 0) xs ≡ eqb (sum_by f xs) 0
each-none f [] = refl
each-none f (x ∷ xs) = both-none (f x) (sum_by f xs) _ (each-none f xs) ∙ ap (λ n. eqb n 0) (sym (sum_by-cons f x xs))

pub none-below : (n : ℕ) (f : ℕ → ℕ) → list_all (λ k. eqb (f k) 0) (range_with_len 0 n) ≡ eqb (sum_to n f) 0
none-below n f = each-none f (range_with_len 0 n) ∙ ap (λ m. eqb m 0) (sym (sum_to-range n f))

-- ---- the checks
module _ (r : Rule) (w : World) (l : Listing) where
  pub open-refuses : is_closed w.session ≡ false → why r w (Start l) ≡ Some (ByFloor WrongSession)
  open-refuses a = sym (fail _ WrongSession _ a)

  pub listing-refuses : is_closed w.session ≡ true → valid_listing l ≡ false → why r w (Start l) ≡ Some (ByFloor BadListing)
  listing-refuses a b = sym (pass _ WrongSession _ _ a (fail _ BadListing _ b))

  pub blocked-refuses : is_closed w.session ≡ true → valid_listing l ≡ true → nothing_blocked w.book ≡ false → why r w (Start l) ≡ Some (ByFloor SomethingBlocked)
  blocked-refuses a b c = sym (pass _ WrongSession _ _ a (pass _ BadListing _ _ b (fail _ SomethingBlocked _ c)))

  pub start-taken : is_closed w.session ≡ true → valid_listing l ≡ true → nothing_blocked w.book ≡ true → why r w (Start l) ≡ None
  start-taken a b c = sym (pass _ WrongSession _ _ a (pass _ BadListing _ _ b (pass _ SomethingBlocked _ _ c refl)))
