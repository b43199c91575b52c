-- An amount at one account, and books that agree at every account.
use Rattle.std.proofs.Common.{◌≡◌, ℕ, ◌+◌, ◌<◌, ◌≤◌, cond, ◌&&◌, eqb, refl, ◌∙◌, arith}
use Rattle.std.proofs.lemmas.Bool.Decides.{nat_tests}
use Rattle.register.specs.Books.{Book, Sums, at, sum_to}
use Rattle.register.proofs.Sums.{sum_to-one}

pub at-is : (h a n x y : ℕ) → at h a n x y ≡ cond (eqb x h && eqb y a) n 0
unfolding at
at-is h a n x y = refl

pub at_here : (h a n : ℕ) → at h a n h a ≡ n
at_here h a n = at-is h a n h a ∙ grind (arith, nat_tests)

pub at-apart : (h a n x y : ℕ) → ((x ≡ h) × (y ≡ a) → ⊥) → at h a n x y ≡ 0
at-apart h a n x y ne = at-is h a n x y ∙ grind (arith, nat_tests)

pub at-other-holder : (h a n x y : ℕ) → (x ≡ h → ⊥) → at h a n x y ≡ 0
at-other-holder h a n x y ne = at-apart h a n x y (λ e. ne e.0)

pub at-other-asset : (h a n x y : ℕ) → (y ≡ a → ⊥) → at h a n x y ≡ 0
at-other-asset h a n x y ne = at-apart h a n x y (λ e. ne e.1)

pub at_none : (h a x y : ℕ) → at h a 0 x y ≡ 0
at_none h a x y = at-is h a 0 x y ∙ grind (arith, nat_tests)

pub at-add : (h a m n x y : ℕ) → at h a (m + n) x y ≡ at h a m x y + at h a n x y
unfolding at
at-add h a m n x y = grind (arith, nat_tests)

-- of one asset, the holder's own part does not depend on who he is
pub at_own : (h p a n y : ℕ) → at h a n h y ≡ at p a n p y
unfolding at
at_own h p a n y = grind (arith, nat_tests)

-- what an account covers, the amount at it is within at every account
pub at-covered : (f : Sums) (h a n x y : ℕ) → n ≤ f h a → at h a n x y ≤ f x y
at-covered f h a n x y le = rw (at-is h a n x y) (grind (arith, nat_tests))

-- over all holders, an amount at one of them is that amount
pub sum_to-at : (m h a n y : ℕ) → h < m → sum_to m (λ x. at h a n x y) ≡ at h a n h y
sum_to-at m h a n y l = sum_to-one m (λ x. at h a n x y) h l (λ k ne. at-other-holder h a n k y ne)

pub book-ext :
    (b c : Book) → ((h a : ℕ) → b.free h a ≡ c.free h a) → ((h a : ℕ) → b.blocked h a ≡ c.blocked h a) →
    ((h a : ℕ) → b.limit h a ≡ c.limit h a) → ((h a n : ℕ) → b.tag h a n ≡ c.tag h a n) → b ≡ c
book-ext b c f k l t = λ i. record {
  free = λ h a. f h a i;
  blocked = λ h a. k h a i;
  limit = λ h a. l h a i;
  tag = λ h a n. t h a n i;
}
