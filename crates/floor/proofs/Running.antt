-- Calls of a list, one after the other. Assumes nothing.
use Rattle.std.proofs.Common.{◌≡◌, ℕ, ◌+◌, ◌-◌, ◌≤◌, min, List, [], ◌++◌, length, take, drop, Some, None, Option, sym, refl, ap, ◌∙◌, subst, arith}
use Rattle.register.specs.Books.{Book}
use Rattle.rules.specs.Rules.{Rule, Lawful}
use Rattle.model.specs.declared.words.Bid.{Bid}
use Rattle.model.specs.declared.words.Trade.{Trade}
use Rattle.model.specs.declared.words.Session.TheVariants.{Closed}
use Rattle.model.specs.declared.calls.Call.{Call}
use Rattle.model.specs.declared.calls.Call.TheVariants.{Start, Deposit, Withdraw, Place, Cancel, Open, EndTrading, EndPostTrading}
use Rattle.model.specs.declared.calls.Answer.{Answer}
use Rattle.model.specs.declared.calls.Answer.TheVariants.{Refused}
use Rattle.model.specs.declared.faults.Cause.{Cause}
use Rattle.model.specs.declared.faults.Cause.TheVariants.{Floor as ByFloor}
use Rattle.model.specs.declared.faults.FloorRefusal.TheVariants.{WrongSession}
use Rattle.model.specs.Checks.{why}
use Rattle.model.specs.Calls.{answer, after, trades, decided, trades_made, fault_of_lem}
use Rattle.floor.specs.declared.state.State.{State}
use Rattle.floor.specs.Floors.{seen, SoundFloor}
use Rattle.model.specs.SoundLaws.{room_of_lem}
use Rattle.model.proofs.Soundness.{strips-suffice}
use Rattle.std.proofs.lemmas.List.{append_assoc, drop-append-le, take-append-drop, drop-drop, length-take, length-drop}
use Rattle.floor.specs.Lists.{lent, lent_from}
use Rattle.floor.specs.Making.{Made, Lent}

-- ---- a call that shows no pass
module _ {R M : Type 0} (means : R → Book) (rule : M → Rule) (floor : State R M) (strip : List Trade) where
  pub no-pass-bid : (b : Bid) (room : ℕ) (a : Answer) → a ≡ Refused (fault_of_lem (Place Closed b room) (ByFloor WrongSession)) → Made means rule (Place Closed b room) floor floor strip strip a
  unfolding answer after trades
  no-pass-bid b room a e = record { answers = e; world = refl; written = refl; kept = refl }

  pub no-pass-cancel : (h t n : ℕ) (a : Answer) → a ≡ Refused (fault_of_lem (Cancel Closed h t n) (ByFloor WrongSession)) → Made means rule (Cancel Closed h t n) floor floor strip strip a
  unfolding answer after trades
  no-pass-cancel h t n a e = record { answers = e; world = refl; written = refl; kept = refl }

  -- ---- a call that makes no trades leaves the strip
  pub quiet-made : (c : Call) → trades_made (seen means floor) c ≡ [] → (floor' : State R M) (a : Answer)
      → a ≡ answer (rule floor.rule) (seen means floor) c → seen means floor' ≡ after (rule floor.rule) (seen means floor) c → floor'.rule ≡ floor.rule
      → Made means rule c floor floor' strip strip a
  unfolding trades
  quiet-made c none floor' a ea ew ek = record {
    answers = ea;
    world = ew;
    written = by (why (rule floor.rule) (seen means floor) c);
    kept = ek;
  }
    where
      by : (o : Option Cause) → strip ≡ decided o (trades_made (seen means floor) c) (λ e. []) ++ drop (length (decided o (trades_made (seen means floor) c) (λ e. []))) strip
      by None = sym (ap (λ (xs : List Trade). xs ++ drop (length xs) strip) none)
      by (Some e) = refl

-- ---- strips cut from a tape
room-lent : (m : ℕ) (c : Call) → room_of_lem (lent m c) ≤ m
room-lent m (Start listing) = omega arith
room-lent m (Deposit holder asset amount) = omega arith
room-lent m (Withdraw holder asset amount) = omega arith
room-lent m (Place shown b room) = omega arith
room-lent m (Cancel shown holder t number) = omega arith
room-lent m (Open room) = omega arith
room-lent m EndTrading = omega arith
room-lent m EndPostTrading = omega arith

-- a strip in its place on the tape again
put_back : (ts tape : List Trade) (used k : ℕ) → length ts ≤ length (take k (drop used tape))
    → take used tape ++ ((ts ++ drop (length ts) (take k (drop used tape))) ++ drop k (drop used tape)) ≡ take used tape ++ (ts ++ drop (used + length ts) tape)
put_back ts tape used k h =
    ap (λ (z : List Trade). take used tape ++ z)
    (append_assoc ts (drop (length ts) (take k (drop used tape))) (drop k (drop used tape))
    ∙ ap (λ (z : List Trade). ts ++ z) (sym (drop-append-le (length ts) (take k (drop used tape)) (drop k (drop used tape)) h) ∙ ap (drop (length ts)) (take-append-drop k (drop used tape)) ∙ drop-drop (length ts) used tape))

pub lent-made : {R M : Type 0} (means : R → Book) (rule : M → Rule) (c : Call) (floor floor' : State R M) (tape strip' : List Trade) (used k : ℕ) (a : Answer)
    → Lawful (rule floor.rule) → SoundFloor means rule floor → used ≤ length tape → k ≡ min (room_of_lem c) (length tape - used)
    → Made means rule (lent (length (take k (drop used tape))) c) floor floor' (take k (drop used tape)) strip' a
    → Lent means rule (lent_from (length tape - used) c) used floor floor' tape (take used tape ++ (strip' ++ drop k (drop used tape))) a
lent-made means rule c floor floor' tape strip' used k a law s h ek m =
    let d = length-drop used tape in
    let t = length-take k (drop used tape) in
    let n : length (take k (drop used tape)) ≡ min (room_of_lem c) (length tape - used) = omega arith in
    let fits = strips-suffice (rule floor.rule) law (seen means floor) (lent (length (take k (drop used tape))) c) s in
    let few = room-lent (length (take k (drop used tape))) c in
    let room : length (trades (rule floor.rule) (seen means floor) (lent (length (take k (drop used tape))) c)) ≤ length (take k (drop used tape)) = omega arith in
    subst (λ (i : ℕ). Lent means rule (lent i c) used floor floor' tape (take used tape ++ (strip' ++ drop k (drop used tape))) a) n
    (record {
      answers = m.answers;
      world = m.world;
      written = ap (λ (z : List Trade). take used tape ++ (z ++ drop k (drop used tape))) m.written ∙ put_back (trades (rule floor.rule) (seen means floor) (lent (length (take k (drop used tape))) c)) tape used k room;
      room = omega arith;
      kept = m.kept;
    })
