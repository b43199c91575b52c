-- Two cap layers over a book that agrees with a register at an asset.
use Rattle.std.proofs.Common.{◌≡◌, ℕ, ◌+◌, ◌<◌, ◌≤◌, min, true, false, ◌⊎◌, sym, inl, inr, arith}
use Rattle.std.proofs.lemmas.Bool.Decides.{nat_tests}
use Rattle.std.proofs.lemmas.Bool.{lt-ltb, le-ltb, cases_lt}
use Rattle.register.specs.Books.{Book}
use Rattle.register.specs.Moves.{Deposit, Withdraw, Release, Pay}
use Rattle.layers.specs.declared.caps.Caps.{Caps}
use Rattle.layers.specs.Layers.{capped, split}
use Rattle.layers.specs.Piles.{Smallest, Shows, Piled}
use Rattle.layers.specs.Agreeing.{Agree, refusal-agree}
use Rattle.layers.specs.Splitting.{own}

smallest : (l m k n : ℕ) → k ≡ n → Smallest (min l (min m k)) l m n
smallest l m k n e = record { first = omega arith; second = omega arith; third = omega arith; one = which (cases_lt l m) }
  where
    which : (l < m) ⊎ (m ≤ l) → (min l (min m k) ≡ l) ⊎ ((min l (min m k) ≡ m) ⊎ (min l (min m k) ≡ n))
    which (inl le) = elim (cases_lt l n) [ inl lt ↦ inl (omega arith) | inr ge ↦ inr (inr (omega arith)) ]
    which (inr le) = elim (cases_lt m n) [ inl lt ↦ inr (inl (omega arith)) | inr ge ↦ inr (inr (omega arith)) ]

module _ (upper lower : Caps) where
  abbrev piled-on : Book → Book
  piled-on b = capped upper (capped lower b)

  shown : (b c : Book) (a : ℕ) → Agree a b c → Shows upper lower (piled-on b) c a
  shown b c a e = record {
    account = record {
      free = e.free;
      blocked = e.blocked;
      limit = λ h. smallest _ _ _ _ (e.limit h);
      tag = λ h n. let t = e.tag h n in record { over_upper = λ o. grind (arith, nat_tests); over_lower = λ w o. grind (arith, nat_tests); over_neither = λ w v. grind (arith, nat_tests) };
    };
    block = record {
      short = λ h n ok o. let f = e.free h in grind (arith, nat_tests);
      by_upper = λ h n ok f o. let e1 = e.free h in let e2 = e.blocked h in grind (arith, nat_tests);
      by_lower = λ h n ok f w o. let e1 = e.free h in let e2 = e.blocked h in grind (arith, nat_tests);
      below = λ h n w v. let e1 = e.free h in let e2 = e.blocked h in let e3 = e.limit h in let e4 = e.tag h (b.blocked h a + n) in grind (arith, nat_tests);
    };
    others = record {
      deposit = λ h n. refusal-agree b c (Deposit h a n) e;
      withdraw = λ h n. refusal-agree b c (Withdraw h a n) e;
      release = λ h n. refusal-agree b c (Release h a n) e;
      pay = λ h n p. refusal-agree b c (Pay h a n p) e;
    };
  }

  pub piled : (p q : Book) → Piled upper lower p q (piled-on (split p q))
  piled p q = record {
    first = λ a l. shown (split p q) p a (own true p q a (sym (lt-ltb a 4 l)));
    second = λ a l. shown (split p q) q a (own false q p a (sym (le-ltb a 4 l)));
  }
