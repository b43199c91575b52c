-- From what an inner step returns and leaves to what its call answers and leaves. Assumes nothing.
use Rattle.std.proofs.Common.{◌≡◌, ℕ, List, [], ◌++◌, length, drop, Some, None, Ok, Err, Option, Result, sym, refl, ap, ◌∙◌, subst, arith}
use Rattle.register.specs.Books.{Book}
use Rattle.register.specs.Moves as move
use Rattle.register.specs.Moves.{refusal, after_move}
use Rattle.register.specs.declared.faults.RegisterFault.{RegisterFault}
use Rattle.rules.specs.Rules.{Rule, Lawful, answered}
use Rattle.rules.specs.declared.rule.RuleRefusal.{RuleRefusal}
use Rattle.model.specs.declared.words.Trade.{Trade}
use Rattle.model.specs.declared.faults.Cause.TheVariants.{Rule as ByRule}
use Rattle.model.specs.declared.faults.Cause.{Cause}
use Rattle.model.specs.declared.faults.Fault.{Fault}
use Rattle.model.specs.declared.calls.Call.{Call}
use Rattle.model.specs.declared.calls.Call.TheVariants as call
use Rattle.model.specs.declared.calls.Answer.{Answer}
use Rattle.model.specs.declared.calls.Answer.TheVariants.{Refused}
use Rattle.model.specs.World.{World}
use Rattle.model.specs.Checks.{why, by_register, by_rule, or_next}
use Rattle.model.specs.Calls.{kind_of, ticker_of, fault_of_lem, accepted, next, decided, answer, after, trades, trades_made}
use Rattle.model.specs.Sound.{Sound}
use Rattle.model.proofs.Soundness.{calls-keep-sound}
use Rattle.floor.specs.declared.state.State.{State}
use Rattle.floor.specs.Floors.{seen, SoundFloor}
use Rattle.floor.specs.Replies.{raised, unless}

-- ---- what is answered
module _ (r : Rule) (w : World) (c : Call) where
  -- what was raised, however it is told, is the definitions' answer
  pub raised-answer : {X : Type 0} (told : Result X Fault → Answer) → ((f : Fault) → told (Err f) ≡ Refused f) → (x : X) (res : Result X Cause) → told (Ok x) ≡ accepted w c → res ≡ unless (why r w c) x → told (raised (kind_of c) (ticker_of c) res) ≡ answer r w c
  unfolding answer
  raised-answer told bad x res e p = ap (λ z. told (raised (kind_of c) (ticker_of c) z)) p ∙ by (why r w c)
    where
      by : (o : Option Cause) → told (raised (kind_of c) (ticker_of c) (unless o x)) ≡ decided o (accepted w c) (λ e. Refused (fault_of_lem c e))
      by None = e
      by (Some y) = bad (fault_of_lem c y)

  -- ---- refused, and taken
  pub after-refused : (e : Cause) → why r w c ≡ Some e → after r w c ≡ w
  unfolding after
  after-refused e p = ap (λ (o : Option Cause). decided o (next w c) (λ e. w)) p

  pub after-taken : why r w c ≡ None → after r w c ≡ next w c
  unfolding after
  after-taken p = ap (λ (o : Option Cause). decided o (next w c) (λ e. w)) p

  -- what an inner step returns where a check refuses
  pub refused-result : {X : Type 0} (x : X) (res : Result X Cause) (y e : Cause) → why r w c ≡ Some e → res ≡ Err y → y ≡ e → res ≡ unless (why r w c) x
  refused-result x res y e p q s = q ∙ ap Err s ∙ sym (ap (λ (o : Option Cause). unless o x) p)

  pub taken-result : {X : Type 0} (x y : X) → why r w c ≡ None → y ≡ x → Ok y ≡ unless (why r w c) x
  taken-result x y p q = ap Ok q ∙ sym (ap (λ (o : Option Cause). unless o x) p)

  pub refused-strip : (e : Cause) (strip : List Trade) → why r w c ≡ Some e → strip ≡ trades r w c ++ drop (length (trades r w c)) strip
  unfolding trades
  refused-strip e strip p = sym (ap (λ (o : Option Cause). decided o (trades_made w c) (λ e. []) ++ drop (length (decided o (trades_made w c) (λ e. []))) strip) p)

  pub taken-strip : (strip strip' : List Trade) → why r w c ≡ None → strip' ≡ trades_made w c ++ drop (length (trades_made w c)) strip → strip' ≡ trades r w c ++ drop (length (trades r w c)) strip
  unfolding trades
  taken-strip strip strip' p q = q ∙ sym (ap (λ (o : Option Cause). decided o (trades_made w c) (λ e. []) ++ drop (length (decided o (trades_made w c) (λ e. []))) strip) p)

-- what an inner step was refused for
pub unless-refused : {X : Type 0} (o : Option Cause) (x : X) (e : Cause) → Err e ≡ unless o x → o ≡ Some e
unless-refused None x e p = absurd (let z : ◌≡◌ {A = ℕ} 0 1 = cc in omega arith)
unless-refused (Some f) x e p = cc

pub unless-taken : {X : Type 0} (o : Option Cause) (x y : X) → Ok y ≡ unless o x → (o ≡ None) × (y ≡ x)
unless-taken None x y p = (refl, cc)
unless-taken (Some f) x y p = absurd (let z : ◌≡◌ {A = ℕ} 0 1 = cc in omega arith)

pub rule-refused : (o : Option RuleRefusal) (e : RuleRefusal) → Err e ≡ answered o → Some (ByRule e) ≡ by_rule o
rule-refused None e p = absurd (let z : ◌≡◌ {A = ℕ} 0 1 = cc in omega arith)
rule-refused (Some f) e p = let k : e ≡ f = cc in ap (λ (x : RuleRefusal). Some (ByRule x)) k

pub rule-admits : (o : Option RuleRefusal) (u : Unit {0}) → Ok u ≡ answered o → None ≡ by_rule o
rule-admits None u p = refl
rule-admits (Some f) u p = absurd (let z : ◌≡◌ {A = ℕ} 0 1 = cc in omega arith)

-- ---- deposits and withdrawals: the register alone decides
abbrev with_book : World → Book → World
with_book w b = record { book = b; session = w.session; listing = w.listing; given = w.given; sheets = w.sheets }

alone : (o : Option RegisterFault) → or_next (by_register o) None ≡ by_register o
alone None = refl
alone (Some f) = refl

pub deposit-why : (r : Rule) (w : World) (h a n : ℕ) → why r w (call.Deposit h a n) ≡ by_register (refusal w.book (move.Deposit h a n))
deposit-why r w h a n = alone _

pub withdraw-why : (r : Rule) (w : World) (h a n : ℕ) → why r w (call.Withdraw h a n) ≡ by_register (refusal w.book (move.Withdraw h a n))
withdraw-why r w h a n = alone _

pub deposit-after : (r : Rule) (w : World) (h a n : ℕ) → after r w (call.Deposit h a n) ≡ with_book w (after_move w.book (move.Deposit h a n))
unfolding after
deposit-after r w h a n = by (refusal w.book (move.Deposit h a n))
  where
    by : (o : Option RegisterFault) → decided (or_next (by_register o) None) (next w (call.Deposit h a n)) (λ e. w) ≡ with_book w (move.unless o (move.moved w.book (move.Deposit h a n)) w.book)
    by None = refl
    by (Some f) = refl

pub withdraw-after : (r : Rule) (w : World) (h a n : ℕ) → after r w (call.Withdraw h a n) ≡ with_book w (after_move w.book (move.Withdraw h a n))
unfolding after
withdraw-after r w h a n = by (refusal w.book (move.Withdraw h a n))
  where
    by : (o : Option RegisterFault) → decided (or_next (by_register o) None) (next w (call.Withdraw h a n)) (λ e. w) ≡ with_book w (move.unless o (move.moved w.book (move.Withdraw h a n)) w.book)
    by None = refl
    by (Some f) = refl

-- ---- what is left is sound
module _ {R M : Type 0} (means : R → Book) (rule : M → Rule) where
  pub still-sound : (floor floor' : State R M) (c : Call) → Lawful (rule floor.rule) → SoundFloor means rule floor
      → seen means floor' ≡ after (rule floor.rule) (seen means floor) c → floor'.rule ≡ floor.rule
      → SoundFloor means rule floor'
  still-sound floor floor' c law s world same =
      subst (λ (m : M). Sound (rule m).step (seen means floor')) (sym same)
      (subst (Sound (rule floor.rule).step) (sym world) (calls-keep-sound (rule floor.rule) law (seen means floor) c s))
