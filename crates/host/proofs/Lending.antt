-- One call, made with a tape that is long enough for every call.
use Rattle.std.proofs.Common.{◌≡◌, ℕ, ◌+◌, ◌-◌, ◌≤◌, min, leb, List, [], ◌∷◌, ◌++◌, length, get_or, take, drop, Option, sym, refl, ap, ◌∙◌, subst, append_assoc, append-nil, arith, length-append}
use Rattle.std.proofs.lemmas.List.{take_at}
use Rattle.std.proofs.lemmas.Bool.Decides.{nat_tests}
use Rattle.rules.specs.Rules.{Rule}
use Rattle.model.specs.declared.words.Trade.{Trade}
use Rattle.model.specs.declared.calls.Answer.{Answer}
use Rattle.model.specs.declared.calls.Answer.TheVariants.{Done, Refused}
use Rattle.model.specs.declared.calls.Call.{Call}
use Rattle.model.specs.declared.calls.Call.TheVariants.{Start, Deposit, Withdraw, Place, Cancel, Open, EndTrading, EndPostTrading}
use Rattle.model.specs.declared.faults.Cause.{Cause}
use Rattle.model.specs.Checks.{why}
use Rattle.model.specs.Calls.{answer, after, trades, decided, accepted, trades_made, next, fault_of_lem}
use Rattle.model.specs.World.{World}
use Rattle.model.specs.Texts.{trade_line}
use Rattle.telling.specs.Replies.{call_line}
use Rattle.floor.proofs.Listed.{counted}
use Rattle.floor.specs.Lists.{lent_from, count_of, Ran}
use Rattle.host.specs.Answering.{told, told_each, call_text_lem}

-- ---- the length of the tape alters nothing
pub record Alike (r : Rule) (w : World) (c d : Call) : Type 0 where
  pub answers : answer r w c ≡ answer r w d
  pub traded : trades r w c ≡ trades r w d
  pub later : after r w c ≡ after r w d

itself : (r : Rule) (w : World) (c : Call) → Alike r w c c
itself r w c = record { answers = refl; traded = refl; later = refl }

module _ (n : ℕ) (long : 1024 ≤ n) (r : Rule) (w : World) where
  bid-room : (room : ℕ) → leb 64 (min room n) ≡ leb 64 room
  bid-room room = grind (arith, nat_tests)

  opening-room : (room : ℕ) → leb 1024 (min room n) ≡ leb 1024 room
  opening-room room = grind (arith, nat_tests)

  why-lent : (c : Call) → why r w (lent_from n c) ≡ why r w c
  why-lent (Start listing) = refl
  why-lent (Deposit holder asset amount) = refl
  why-lent (Withdraw holder asset amount) = refl
  why-lent (Place shown b room) = rw (bid-room room)
  why-lent (Cancel shown holder t number) = refl
  why-lent (Open room) = rw (opening-room room)
  why-lent EndTrading = refl
  why-lent EndPostTrading = refl

  pub lent_alike : (c : Call) → Alike r w (lent_from n c) c
  unfolding answer trades after
  lent_alike (Start listing) = itself r w (Start listing)
  lent_alike (Deposit holder asset amount) = itself r w (Deposit holder asset amount)
  lent_alike (Withdraw holder asset amount) = itself r w (Withdraw holder asset amount)
  lent_alike (Place shown b room) =
      let c : Call = Place shown b room in
      record {
        answers = ap (λ (o : Option Cause). decided o (accepted w c) (λ e. Refused (fault_of_lem c e))) (why-lent c);
        traded = ap (λ (o : Option Cause). decided o (trades_made w c) (λ e. [])) (why-lent c);
        later = ap (λ (o : Option Cause). decided o (next w c) (λ e. w)) (why-lent c);
      }
  lent_alike (Cancel shown holder t number) = itself r w (Cancel shown holder t number)
  lent_alike (Open room) =
      let c : Call = Open room in
      record {
        answers = ap (λ (o : Option Cause). decided o (accepted w c) (λ e. Refused (fault_of_lem c e))) (why-lent c);
        traded = ap (λ (o : Option Cause). decided o (trades_made w c) (λ e. [])) (why-lent c);
        later = ap (λ (o : Option Cause). decided o (next w c) (λ e. w)) (why-lent c);
      }
  lent_alike EndTrading = itself r w EndTrading
  lent_alike EndPostTrading = itself r w EndPostTrading

-- ---- a run of one call
pub record Called (r : Rule) (w : World) (c : Call) (w' : World) (answers' : List Answer) (tape' : List Trade) : Type 0 where
  pub answers : get_or answers' 0 Done ≡ answer r w c
  pub world : w' ≡ after r w c
  pub count : count_of (get_or answers' 0 Done) ≤ length tape'
  pub traded : take (count_of (get_or answers' 0 Done)) tape' ≡ trades r w c

pub called : (r : Rule) (w : World) (c : Call) (k : ℕ) (w' : World) (answers' : List Answer) (tape tape' : List Trade)
    → 1024 ≤ length tape → k ≡ 1 → Ran r w (take k (c ∷ [])) w' (Done ∷ []) answers' tape tape' → Called r w c w' answers' tape'
called r w c k w' answers' tape tape' long one ran =
    let made : Ran r w (c ∷ []) w' (Done ∷ []) answers' tape tape' = subst (λ (i : ℕ). Ran r w (take i (c ∷ [])) w' (Done ∷ []) answers' tape tape') one ran in
    let same = lent_alike (length tape) long r w c in
    let told : get_or answers' 0 Done ≡ answer r w c = ap (λ (z : List Answer). get_or z 0 Done) made.answered ∙ same.answers in
    let ts : List Trade = trades r w c in
    let rest : List Trade = drop (length (trades r w (lent_from (length tape) c) ++ [])) tape in
    let front : tape' ≡ ts ++ rest =
    made.written ∙ ap (λ (z : List Trade). z ++ rest) (append-nil (trades r w (lent_from (length tape) c)) ∙ same.traded) in
    let n : count_of (get_or answers' 0 Done) ≡ length ts = ap count_of told ∙ counted r w c in
    let whole : length tape' ≡ length ts + length rest = ap length front ∙ length-append ts rest in
    record {
      answers = told;
      world = made.world ∙ same.later;
      count = omega (arith, n, whole);
      traded = ap (λ (z : List Trade). take (count_of (get_or answers' 0 Done)) z) front ∙ take_at ts rest _ (sym n);
    }

-- ---- a call as it is told
pub call-told : (r : Rule) (w : World) (c : Call) (a : Answer) (n : ℕ) (tape : List Trade) (text text' text'' : List ℕ)
    → a ≡ answer r w c → take n tape ≡ trades r w c → text' ≡ text ++ told (call_line c a) → text'' ≡ text' ++ told_each trade_line (take (n - 0) tape)
    → text'' ≡ text ++ call_text_lem r w c
call-told r w c a n tape text text' text'' ea et first others =
    let z : n - 0 ≡ n = omega arith in
    let more : told_each trade_line (take (n - 0) tape) ≡ told_each trade_line (trades r w c) = ap (told_each trade_line) (ap (λ (i : ℕ). take i tape) z ∙ et) in
    others ∙ (λ i. (first ∙ ap (λ (b : Answer). text ++ told (call_line c b)) ea) i ++ more i)
    ∙ append_assoc text (told (call_line c (answer r w c))) (told_each trade_line (trades r w c))
