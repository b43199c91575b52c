-- A bid on a sound floor is refused by 3 to 9, 21 to 24, 10, 34 and 35 alone.
use Rattle.model.specs.Words.{ℕ, refl, Bool, true, false, cond, leb, ltb, eqb, List, [], any_of, Option, Some, None}
use Rattle.std.proofs.Common.{◌+◌, ◌≡◌, ◌&&◌, ◌∷◌, subst, arith}
use Rattle.std.proofs.lemmas.Bool.Decides.{nat_tests}
use Rattle.std.proofs.lemmas.Bool.{and_parts}
use Rattle.model.specs.Market.{Session, Closed, PreTrading, Trading, PostTrading, is_closed, serves, Bid, Place, Refused, Fault, RuleRefusal, RegisterFault, ticker_known, most_numbers, bid_room}
use Rattle.model.specs.Market.{WrongSession, ShortStrip, NoHolderOrTicker, BeyondLimits, FormNotTaken, NoAverage, NumbersSpent, QueueFull}
use Rattle.model.specs.Numbers.{number_of}
use Rattle.model.specs.Listings.{asset_of_lem}
use Rattle.model.specs.World.{World}
use Rattle.model.specs.Bidding.{question, owed}
use Rattle.model.specs.Checks.{Check, why, first_failing, must, by_rule, by_register, funds, within_limits, form_taken, has_average_lem, has_place_lem}
use Rattle.model.specs.Calls.{answer, accepted, fault_of_lem, decided}
use Rattle.model.specs.CheckLaws.{Gives}
use Rattle.model.specs.Sound.{Sound}
use Rattle.model.specs.BidNumbers.{bid_numbers, BidsRefusedBy}
use Rattle.model.proofs.Checked.{accepted-is-no-refusal}
use Rattle.model.proofs.Numbered.{rule-gives, need-gives}
use Rattle.model.proofs.Funds.{asset-known, owed-most}
use Rattle.register.specs.Books.{Book, holder_known_lem}
use Rattle.register.specs.Moves as move
use Rattle.register.specs.Moves.{need, fault, known, lawful_amount, refusal}
use Rattle.register.specs.declared.faults.RegisterCause.TheVariants.{NoAccount, BadAmount, TooLittleFree, OverCap}
use Rattle.rules.specs.Rules.{Rule}

-- ---- the block of a known account and a lawful amount
passed : (t : Bool) (e : RegisterFault) (o : Option RegisterFault) (ns : List ℕ) → t ≡ true → Gives (by_register o) ns → Gives (by_register (need t e o)) ns
passed true e o ns h k = k
passed false e o ns h k = absurd (grind (arith, nat_tests))

block-funds : (b : Book) (h a n : ℕ) → known h a ≡ true → lawful_amount n ≡ true → Gives (by_register (refusal b (move.Block h a n))) (34 ∷ 35 ∷ [])
block-funds b h a n k l =
    let ns = 34 ∷ 35 ∷ [] in
    let sum = b.blocked h a + n in
    passed (known h a) (fault NoAccount h a 0) _ ns k
    (passed (lawful_amount n) (fault BadAmount h a 0) _ ns l
    (need-gives ns (leb n (b.free h a)) (fault TooLittleFree h a 0) _ refl
    (need-gives ns (leb sum (b.limit h a)) (fault OverCap h a (b.tag h a sum)) None refl tt)))

not_closed : (shown session : Session) → serves shown session ≡ true → is_closed session ≡ false
not_closed Closed Closed e = absurd (grind (arith, nat_tests))
not_closed PreTrading Closed e = absurd (grind (arith, nat_tests))
not_closed Trading Closed e = absurd (grind (arith, nat_tests))
not_closed PostTrading Closed e = absurd (grind (arith, nat_tests))
not_closed shown PreTrading e = refl
not_closed shown Trading e = refl
not_closed shown PostTrading e = refl

funds-gives : (r : Rule) (w : World) (shown : Session) (b : Bid) → Sound r.step w → serves shown w.session ≡ true
    → holder_known_lem b.holder && ticker_known b.ticker ≡ true → within_limits b ≡ true → Gives (funds w b) (34 ∷ 35 ∷ [])
funds-gives r w shown b s p k l = step (eqb (owed w b) 0) refl
  where
    step : (t : Bool) → eqb (owed w b) 0 ≡ t
        → Gives (cond t None (by_register (refusal w.book (move.Block b.holder (asset_of_lem w.listing b.ticker b.side) (owed w b))))) (34 ∷ 35 ∷ [])
    step true e = tt
    step false e =
        let kk = and_parts (holder_known_lem b.holder) (ticker_known b.ticker) k in
        let a = asset-known w.listing b.ticker b.side (s.listing (not_closed shown w.session p)) kk.1 in
        let h = kk.0 in
        let o = owed-most r w b s l in
        block-funds w.book b.holder (asset_of_lem w.listing b.ticker b.side) (owed w b) (grind (arith, nat_tests)) (grind (arith, nat_tests))

-- ---- the checks in order
widened : (c : Check) → Gives c (34 ∷ 35 ∷ []) → Gives c bid_numbers
widened None g = tt
widened (Some e) g = grind (arith, nat_tests)

rule-widened : (c : Check) → Gives c (21 ∷ 22 ∷ 23 ∷ 24 ∷ []) → Gives c bid_numbers
rule-widened None g = tt
rule-widened (Some e) g = grind (arith, nat_tests)

in_order : (t₁ t₂ t₃ t₄ t₅ t₆ t₇ : Bool) (o : Option RuleRefusal) (t₈ : Bool) (c : Check) → (t₁ ≡ true → t₃ ≡ true → t₄ ≡ true → Gives c (34 ∷ 35 ∷ []))
    → Gives (first_failing
    (must t₁ WrongSession ∷ must t₂ ShortStrip ∷ must t₃ NoHolderOrTicker ∷ must t₄ BeyondLimits ∷ must t₅ FormNotTaken ∷ must t₆ NoAverage ∷ must t₇ NumbersSpent
    ∷ by_rule o ∷ must t₈ QueueFull ∷ c ∷ [])) bid_numbers
in_order false t₂ t₃ t₄ t₅ t₆ t₇ o t₈ c h = refl
in_order true false t₃ t₄ t₅ t₆ t₇ o t₈ c h = refl
in_order true true false t₄ t₅ t₆ t₇ o t₈ c h = refl
in_order true true true false t₅ t₆ t₇ o t₈ c h = refl
in_order true true true true false t₆ t₇ o t₈ c h = refl
in_order true true true true true false t₇ o t₈ c h = refl
in_order true true true true true true false o t₈ c h = refl
in_order true true true true true true true (Some e) t₈ c h = rule-widened (by_rule (Some e)) (rule-gives (Some e))
in_order true true true true true true true None false c h = refl
in_order true true true true true true true None true None h = tt
in_order true true true true true true true None true (Some e) h = widened (Some e) (h refl refl refl)

pub bids-refused-by : BidsRefusedBy bid_numbers
unfolding answer
bids-refused-by r w shown b room f s e =
    step (why r w (Place shown b room))
    (in_order (serves shown w.session) (leb bid_room room) (holder_known_lem b.holder && ticker_known b.ticker) (within_limits b) (form_taken w.session b) (has_average_lem w b)
    (ltb w.given most_numbers) (r.on_bid (question w b)) (has_place_lem w b) (funds w b) (funds-gives r w shown b s)) e
  where
    step : (o : Check) → Gives o bid_numbers → decided o (accepted w (Place shown b room)) (λ e. Refused (fault_of_lem (Place shown b room) e)) ≡ Refused f
        → any_of (eqb (number_of f.cause)) bid_numbers ≡ true
    step None g e = absurd (accepted-is-no-refusal w (Place shown b room) f e)
    step (Some x) g e = let same : fault_of_lem (Place shown b room) x ≡ f = cc in subst (λ (v : Fault). any_of (eqb (number_of v.cause)) bid_numbers ≡ true) same g
