-- The numbers that each check can give, and that none is 36.
use Rattle.model.specs.Words.{ℕ, refl, Bool, true, false, cond, eqb, leb, List, [], Option, Some, None, any_of, all_of, not}
use Rattle.std.proofs.Common.{◌+◌, ◌≡◌, ◌≢◌, ◌∷◌, subst, arith}
use Rattle.std.proofs.lemmas.Bool.Decides.{nat_tests}
use Rattle.std.proofs.lemmas.Bool.{and_parts}
use Rattle.model.specs.Market.{Call, Start, Deposit, Withdraw, Place, Cancel, Open, EndTrading, EndPostTrading, Cause, Refused, Fault}
use Rattle.model.specs.Market.{RuleRefusal, RegisterFault, FloorRefusal, BadListing, SomethingBlocked, WrongSession, ShortStrip, NoHolderOrTicker, BeyondLimits}
use Rattle.model.specs.Market.{FormNotTaken, NoAverage, NumbersSpent, QueueFull, NoSuchBid}
use Rattle.model.specs.Numbers.{number_of, floor_number}
use Rattle.model.specs.Listings.{asset_of_lem}
use Rattle.model.specs.Bidding.{question, owed}
use Rattle.model.specs.Checks.{Check, checks, why, first_failing, must, by_rule, by_register}
use Rattle.model.specs.Calls.{answer, accepted, fault_of_lem, decided}
use Rattle.model.specs.CheckLaws.{Gives, GivesEach, numbers_in, NumbersInOrder, Never}
use Rattle.register.specs.Books.{Book, total, most_amount}
use Rattle.register.specs.Moves as move
use Rattle.register.specs.Moves.{need, fault, known, lawful_amount, refusal}
use Rattle.register.specs.Faults.{cause_number}
use Rattle.register.specs.declared.faults.RegisterCause.TheVariants.{NoAccount, BadAmount, OverTotal, TooLittleFree, OverCap}
use Rattle.model.proofs.Checked.{accepted-is-no-refusal}

-- ---- the numbers
floor-gives : (t : Bool) (e : FloorRefusal) → Gives (must t e) (floor_number e ∷ [])
floor-gives true e = tt
floor-gives false e = grind (arith, nat_tests)

pub rule-gives : (o : Option RuleRefusal) → Gives (by_rule o) (21 ∷ 22 ∷ 23 ∷ 24 ∷ [])
rule-gives None = tt
rule-gives (Some e) = grind (arith, nat_tests)

pub need-gives : (ns : List ℕ) (t : Bool) (e : RegisterFault) (o : Option RegisterFault) → any_of (eqb (cause_number e.cause)) ns ≡ true → Gives (by_register o) ns → Gives (by_register (need t e o)) ns
need-gives ns true e o h k = k
need-gives ns false e o h k = h

deposit-gives : (b : Book) (h a n : ℕ) → Gives (by_register (refusal b (move.Deposit h a n))) (31 ∷ 32 ∷ 33 ∷ [])
deposit-gives b h a n =
    let ns = 31 ∷ 32 ∷ 33 ∷ [] in
    need-gives ns (known h a) (fault NoAccount h a 0) _ refl
    (need-gives ns (lawful_amount n) (fault BadAmount h a 0) _ refl
    (need-gives ns (leb (total b a + n) most_amount) (fault OverTotal h a 0) None refl tt))

withdraw-gives : (b : Book) (h a n : ℕ) → Gives (by_register (refusal b (move.Withdraw h a n))) (31 ∷ 32 ∷ 34 ∷ [])
withdraw-gives b h a n =
    let ns = 31 ∷ 32 ∷ 34 ∷ [] in
    need-gives ns (known h a) (fault NoAccount h a 0) _ refl
    (need-gives ns (lawful_amount n) (fault BadAmount h a 0) _ refl
    (need-gives ns (leb n (b.free h a)) (fault TooLittleFree h a 0) None refl tt))

block-gives : (b : Book) (h a n : ℕ) → Gives (by_register (refusal b (move.Block h a n))) (31 ∷ 32 ∷ 34 ∷ 35 ∷ [])
block-gives b h a n =
    let ns = 31 ∷ 32 ∷ 34 ∷ 35 ∷ [] in
    let sum = b.blocked h a + n in
    need-gives ns (known h a) (fault NoAccount h a 0) _ refl
    (need-gives ns (lawful_amount n) (fault BadAmount h a 0) _ refl
    (need-gives ns (leb n (b.free h a)) (fault TooLittleFree h a 0) _ refl
    (need-gives ns (leb sum (b.limit h a)) (fault OverCap h a (b.tag h a sum)) None refl tt)))

funds-gives : (t : Bool) (o : Check) (ns : List ℕ) → Gives o ns → Gives (cond t None o) ns
funds-gives true o ns k = tt
funds-gives false o ns k = k

pub numbers-in-order : NumbersInOrder
numbers-in-order r w (Start l) = (floor-gives _ WrongSession, (floor-gives _ BadListing, (floor-gives _ SomethingBlocked, tt)))
numbers-in-order r w (Deposit h a n) = (deposit-gives w.book h a n, tt)
numbers-in-order r w (Withdraw h a n) = (withdraw-gives w.book h a n, tt)
numbers-in-order r w (Place p b n) = (
  floor-gives _ WrongSession,
  (
    floor-gives _ ShortStrip,
    (
      floor-gives _ NoHolderOrTicker,
      (
        floor-gives _ BeyondLimits,
        (
          floor-gives _ FormNotTaken,
          (
            floor-gives _ NoAverage,
            (
              floor-gives _ NumbersSpent,
              (
                rule-gives (r.on_bid (question w b)),
                (
                  floor-gives _ QueueFull,
                  (
                    funds-gives (eqb (owed w b) 0) _ (31 ∷ 32 ∷ 34 ∷ 35 ∷ []) (block-gives w.book b.holder (asset_of_lem w.listing b.ticker b.side) (owed w b)),
                    tt,
                  ),
                ),
              ),
            ),
          ),
        ),
      ),
    ),
  ),
)
numbers-in-order r w (Cancel p h t k) = (floor-gives _ WrongSession, (floor-gives _ NoHolderOrTicker, (floor-gives _ NoSuchBid, tt)))
numbers-in-order r w (Open n) = (floor-gives _ WrongSession, (floor-gives _ ShortStrip, tt))
numbers-in-order r w EndTrading = (floor-gives _ WrongSession, tt)
numbers-in-order r w EndPostTrading = (floor-gives _ WrongSession, tt)

-- ---- no 36
abbrev Fine : Check → Type 0
Fine None = Unit {0}
Fine (Some e) = number_of e ≢ 36

abbrev avoids : List ℕ → Bool
avoids ns = not (any_of (eqb 36) ns)

gives-fine : (e : Cause) (ns : List ℕ) → any_of (eqb (number_of e)) ns ≡ true → avoids ns ≡ true → number_of e ≢ 36
gives-fine e ns g a = λ h. not-both (any_of (eqb 36) ns) (subst (λ z. any_of (eqb z) ns ≡ true) h g) a
  where
    not-both : (t : Bool) → t ≡ true → not t ≡ true → ⊥
    not-both true p q = grind (arith, nat_tests)
    not-both false p q = grind (arith, nat_tests)

first_fine : (cs : List Check) (ns : List (List ℕ)) → GivesEach cs ns → all_of avoids ns ≡ true → Fine (first_failing cs)
first_fine [] ns g a = tt
first_fine (c ∷ cs) [] g a = absurd g
first_fine (None ∷ cs) (n ∷ ns) g a = first_fine cs ns g.1 (and_parts (avoids n) (all_of avoids ns) a).1
first_fine (Some e ∷ cs) (n ∷ ns) g a = gives-fine e n g.0 (and_parts (avoids n) (all_of avoids ns) a).0

avoided : (c : Call) → all_of avoids (numbers_in c) ≡ true
avoided (Start l) = refl
avoided (Deposit h a n) = refl
avoided (Withdraw h a n) = refl
avoided (Place p b n) = refl
avoided (Cancel p h t k) = refl
avoided (Open n) = refl
avoided EndTrading = refl
avoided EndPostTrading = refl

pub never-36 : Never 36
unfolding answer
never-36 r w c f = step (why r w c) (first_fine (checks r w c) (numbers_in c) (numbers-in-order r w c) (avoided c))
  where
    step : (o : Check) → Fine o → decided o (accepted w c) (λ e. Refused (fault_of_lem c e)) ≡ Refused f → number_of f.cause ≢ 36
    step None k e = absurd (accepted-is-no-refusal w c f e)
    step (Some x) k e = let same : fault_of_lem c x ≡ f = cc in subst (λ (v : Fault). number_of v.cause ≢ 36) same k
