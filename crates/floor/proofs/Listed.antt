-- A run of calls, call by call, and the entries that it records. Assumes nothing.
use Rattle.std.proofs.Common.{◌≡◌, ℕ, zero, suc, ◌+◌, ◌-◌, ◌<◌, ◌≤◌, min, List, [], ◌∷◌, ◌++◌, length, get_or, take, drop, set, Some, None, Option, sym, refl, ap, ◌∙◌, subst, arith}
use lib.Seq.{paste}
use Rattle.std.proofs.lemmas.List.{append_assoc, append-nil, take_more_set, take-append-drop, take-append-le, drop-append-le, take_all, drop_all, drop_more, drop-drop, length-take-le}
use Rattle.std.proofs.lemmas.List.Edits.{paste_all, take-paste, drop-paste}
use Rattle.rules.specs.Rules.{Rule, Lawful}
use Rattle.model.specs.declared.words.Trade.{Trade}
use Rattle.model.specs.declared.calls.Call.{Call}
use Rattle.model.specs.declared.calls.Call.TheVariants.{Start, Deposit, Withdraw, Place, Cancel, Open, EndTrading, EndPostTrading}
use Rattle.model.specs.declared.calls.Answer.{Answer}
use Rattle.model.specs.declared.calls.Answer.TheVariants.{Refused}
use Rattle.model.specs.declared.faults.Cause.{Cause}
use Rattle.model.specs.World.{World, made}
use Rattle.model.specs.Checks.{why}
use Rattle.model.specs.Calls.{answer, after, trades, accepted, trades_made, decided, fault_of_lem}
use Rattle.model.specs.Runs.{run, log}
use Rattle.model.specs.Tally.{Entry, Tally, blank, tallied, tally_of}
use Rattle.model.specs.Law.{Law, Ready, Together}
use Rattle.register.specs.Books.{Book, total, most_amount}
use Rattle.model.proofs.Tying.{going_on}
use Rattle.matching.proofs.Turns.{behind_more}
use Rattle.floor.specs.Lists.{lent, lent_from, as_lent, count_of, recorded, answers_of, trades_in, Quiet, Ran, GoesOn}
use Rattle.floor.specs.declared.state.State.{State}
use Rattle.floor.specs.Floors.{seen}
use Rattle.floor.specs.Making.{Lent}

-- ---- what an answer tells
-- as many trades as were made
pub counted : (r : Rule) (w : World) (c : Call) → count_of (answer r w c) ≡ length (trades r w c)
unfolding answer trades
counted r w c = by (why r w c) (taken c)
  where
    taken : (c : Call) → count_of (accepted w c) ≡ length (trades_made w c)
    taken (Start listing) = refl
    taken (Deposit holder asset amount) = refl
    taken (Withdraw holder asset amount) = refl
    taken (Place shown b room) = refl
    taken (Cancel shown holder t number) = refl
    taken (Open room) = refl
    taken EndTrading = refl
    taken EndPostTrading = refl

    by : (o : Option Cause) → count_of (accepted w c) ≡ length (trades_made w c) → count_of (decided o (accepted w c) (λ e. Refused (fault_of_lem c e))) ≡ length (decided o (trades_made w c) (λ e. []))
    by None e = e
    by (Some x) e = refl

-- the tally does not look at a call's strip
lent-tallied : (n : ℕ) (c : Call) (a : Answer) (xs : List Trade) (y : Tally) → tallied (record { call = c; answer = a; trades = xs }) y ≡ tallied (record { call = lent n c; answer = a; trades = xs }) y
unfolding tallied
lent-tallied n (Start listing) a xs y = refl
lent-tallied n (Deposit holder asset amount) a xs y = refl
lent-tallied n (Withdraw holder asset amount) a xs y = refl
lent-tallied n (Place shown b room) a xs y = refl
lent-tallied n (Cancel shown holder t number) a xs y = refl
lent-tallied n (Open room) a xs y = refl
lent-tallied n EndTrading a xs y = refl
lent-tallied n EndPostTrading a xs y = refl

take-front : {X : Type 0} (xs ys : List X) (n : ℕ) → n ≡ length xs → take n (xs ++ ys) ≡ xs
take-front xs ys n e = take-append-le n xs ys (omega arith) ∙ take_all n xs (omega arith)

drop-front : {X : Type 0} (xs ys : List X) (n : ℕ) → n ≡ length xs → drop n (xs ++ ys) ≡ ys
drop-front xs ys n e = drop-append-le n xs ys (omega arith) ∙ ap (λ z. z ++ ys) (drop_all n xs (omega arith))

-- ---- the tally of what was recorded is that of the log
pub recorded-log : (r : Rule) (w : World) (left : ℕ) (cs : List Call) (more : List Answer) (ts : List Trade) (y : Tally)
    → tally_of y (recorded cs (answers_of (log r w (as_lent r w left cs)) ++ more) (trades_in (log r w (as_lent r w left cs)) ++ ts)) ≡ tally_of y (log r w (as_lent r w left cs))
recorded-log r w left [] more ts y = refl
recorded-log r w left (c ∷ cs) more ts y =
    let c' = lent_from left c in
    let a = answer r w c' in
    let xs = trades r w c' in
    let w' = after r w c' in
    let left' = left - length xs in
    let later = trades_in (log r w' (as_lent r w' left' cs)) in
    let n = counted r w c' in
    let tape : (xs ++ later) ++ ts ≡ xs ++ (later ++ ts) = append_assoc xs later ts in
    let front : take (count_of a) ((xs ++ later) ++ ts) ≡ xs = ap (take (count_of a)) tape ∙ take-front xs (later ++ ts) (count_of a) n in
    let behind : drop (count_of a) ((xs ++ later) ++ ts) ≡ later ++ ts = ap (drop (count_of a)) tape ∙ drop-front xs (later ++ ts) (count_of a) n in
    (λ i. tally_of (tallied (record { call = c; answer = a; trades = front i }) y) (recorded cs (answers_of (log r w' (as_lent r w' left' cs)) ++ more) (behind i)))
    ∙ ap (λ (z : Tally). tally_of z (recorded cs (answers_of (log r w' (as_lent r w' left' cs)) ++ more) (later ++ ts))) (lent-tallied _ c a xs y)
    ∙ recorded-log r w' left' cs more ts (tallied (record { call = c'; answer = a; trades = xs }) y)

-- ---- the loop: what is known before each call
pub record Going (r : Rule) (w0 : World) (cs : List Call) (answers0 : List Answer) (tape0 : List Trade) (i used : ℕ) (w : World) (answers : List Answer) (tape : List Trade) : Type 0 where
  pub world : run r w (as_lent r w (length tape0 - used) (drop i cs)) ≡ run r w0 (as_lent r w0 (length tape0) cs)
  pub answered : take i answers ++ answers_of (log r w (as_lent r w (length tape0 - used) (drop i cs))) ≡ answers_of (log r w0 (as_lent r w0 (length tape0) cs))
  pub answers_behind : drop i answers ≡ drop i answers0
  pub written : take used tape ++ trades_in (log r w (as_lent r w (length tape0 - used) (drop i cs))) ≡ trades_in (log r w0 (as_lent r w0 (length tape0) cs))
  pub tape_behind : drop used tape ≡ drop used tape0
  pub within : used ≤ length tape0

pub going_start : (r : Rule) (w : World) (cs : List Call) (answers : List Answer) (tape : List Trade) → Going r w cs answers tape 0 0 w answers tape
going_start r w cs answers tape =
    let z : length tape - 0 ≡ length tape = omega arith in
    record {
      world = ap (λ (n : ℕ). run r w (as_lent r w n cs)) z;
      answered = ap (λ (n : ℕ). answers_of (log r w (as_lent r w n cs))) z;
      answers_behind = refl;
      written = ap (λ (n : ℕ). trades_in (log r w (as_lent r w n cs))) z;
      tape_behind = refl;
      within = omega arith;
    }

module _ (r : Rule) (w0 : World) (cs : List Call) (answers0 : List Answer) (tape0 : List Trade) (i used : ℕ) (w : World) (answers : List Answer) (tape : List Trade)
    (g : Going r w0 cs answers0 tape0 i used w answers tape) (call : Call) (long : length tape ≡ length tape0) where
  abbrev c' : Call
  c' = lent_from (length tape - used) call

  abbrev xs : List Trade
  xs = trades r w c'

  pub going_more : (w' : World) (a : Answer) (tape' : List Trade) → call ≡ get_or cs i call → i < length cs → i < length answers → used + length xs ≤ length tape
      → a ≡ answer r w c' → w' ≡ after r w c' → tape' ≡ take used tape ++ (xs ++ drop (used + length xs) tape)
      → Going r w0 cs answers0 tape0 (i + 1) (used + count_of a) w' (set answers i a) tape'
  going_more w' a tape' here hc ha fits ea ew et =
      let count : count_of a ≡ length xs = ap count_of ea ∙ counted r w c' in
      let within = g.within in
      let left : length tape0 - (used + count_of a) ≡ (length tape - used) - length xs = omega arith in
      let later : List Call = as_lent r (after r w c') ((length tape - used) - length xs) (drop (i + 1) cs) in
      let split : as_lent r w (length tape0 - used) (drop i cs) ≡ c' ∷ later =
      ap (λ (n : ℕ). as_lent r w (n - used) (drop i cs)) (sym long) ∙ ap (as_lent r w (length tape - used)) (drop_more cs i call hc ∙ ap (λ (z : Call). z ∷ drop (i + 1) cs) (sym here)) in
      let same : as_lent r w' (length tape0 - (used + count_of a)) (drop (i + 1) cs) ≡ later = (λ j. as_lent r (ew j) (left j) (drop (i + 1) cs)) in
      let logs : log r w' (as_lent r w' (length tape0 - (used + count_of a)) (drop (i + 1) cs)) ≡ log r (after r w c') later = (λ j. log r (ew j) (same j)) in
      let paste-is : tape' ≡ paste tape used xs (length xs) = et ∙ sym (paste_all tape used xs (length xs) refl) in
      record {
        world = (λ j. run r (ew j) (same j)) ∙ ap (run r w) (sym split) ∙ g.world;
        answered =
            ap (λ (z : List Answer). z ++ answers_of (log r w' (as_lent r w' (length tape0 - (used + count_of a)) (drop (i + 1) cs)))) (take_more_set answers i a ha)
            ∙ append_assoc (take i answers) (a ∷ []) (answers_of (log r w' (as_lent r w' (length tape0 - (used + count_of a)) (drop (i + 1) cs))))
            ∙ (λ j. take i answers ++ ea j ∷ answers_of (logs j))
            ∙ ap (λ (z : List Call). take i answers ++ answers_of (log r w z)) (sym split)
            ∙ g.answered;
        answers_behind = behind_more answers answers0 i a g.answers_behind;
        written =
            (λ j. take (used + count j) (paste-is j) ++ trades_in (logs j))
            ∙ ap (λ (z : List Trade). z ++ trades_in (log r (after r w c') later)) (take-paste tape used xs (length xs) (omega arith) (omega arith) ∙ ap (λ (z : List Trade). take used tape ++ z) (take_all (length xs) xs (omega arith)))
            ∙ append_assoc (take used tape) xs (trades_in (log r (after r w c') later))
            ∙ ap (λ (z : List Call). take used tape ++ trades_in (log r w z)) (sym split)
            ∙ g.written;
        tape_behind =
            (λ j. drop (used + count j) (paste-is j))
            ∙ drop-paste tape used xs (length xs) (omega arith) (omega arith)
            ∙ sym (drop-drop (length xs) used tape) ∙ ap (drop (length xs)) g.tape_behind ∙ drop-drop (length xs) used tape0
            ∙ ap (λ (n : ℕ). drop (used + n) tape0) (sym count);
        within = omega arith;
      }

module _ (r : Rule) (w0 : World) (cs : List Call) (answers0 : List Answer) (tape0 : List Trade) (i used : ℕ) (w : World) (answers : List Answer) (tape : List Trade)
    (g : Going r w0 cs answers0 tape0 i used w answers tape) (long : length tape ≡ length tape0) where
  pub gone : length cs ≤ i → i ≤ length answers → i ≡ length cs → Ran r w0 cs w answers0 answers tape0 tape
  gone all short n =
      let none : drop i cs ≡ [] = drop_all i cs all in
      let within = g.within in
      let said : take i answers ≡ answers_of (log r w0 (as_lent r w0 (length tape0) cs)) = sym (append-nil (take i answers)) ∙ ap (λ (z : List Call). take i answers ++ answers_of (log r w (as_lent r w (length tape0 - used) z))) (sym none) ∙ g.answered in
      let ts : take used tape ≡ trades_in (log r w0 (as_lent r w0 (length tape0) cs)) = sym (append-nil (take used tape)) ∙ ap (λ (z : List Call). take used tape ++ trades_in (log r w (as_lent r w (length tape0 - used) z))) (sym none) ∙ g.written in
      let u : used ≡ length (trades_in (log r w0 (as_lent r w0 (length tape0) cs))) = sym (length-take-le used tape (omega arith)) ∙ ap length ts in
      record {
        world = ap (λ (z : List Call). run r w (as_lent r w (length tape0 - used) z)) (sym none) ∙ g.world;
        answered = sym (take-append-drop i answers) ∙ (λ j. said j ++ g.answers_behind j) ∙ ap (λ (k : ℕ). answers_of (log r w0 (as_lent r w0 (length tape0) cs)) ++ drop k answers0) n;
        written = sym (take-append-drop used tape) ∙ (λ j. ts j ++ g.tape_behind j) ∙ ap (λ (k : ℕ). trades_in (log r w0 (as_lent r w0 (length tape0) cs)) ++ drop k tape0) u;
      }

-- ---- the law goes on
pub ran-lawful : (r : Rule) → Lawful r → (w w' : World) (cs : List Call) (answers answers' : List Answer) (tape tape' : List Trade) (y : Tally)
    → Ran r w cs w' answers answers' tape tape' → Together r w y → GoesOn r w' (tally_of y (recorded cs answers' tape'))
ran-lawful r law w w' cs answers answers' tape tape' y ran t =
    let made : List Call = as_lent r w (length tape) cs in
    let on = going_on.goes_on r law w y t made in
    let tally : tally_of y (recorded cs answers' tape') ≡ tally_of y (log r w made) =
    (λ j. tally_of y (recorded cs (ran.answered j) (ran.written j))) ∙ recorded-log r w (length tape) cs _ _ y in
    let same : Together r w' (tally_of y (recorded cs answers' tape')) =
    subst (λ (z : World). Together r z (tally_of y (recorded cs answers' tape'))) (sym ran.world) (subst (λ (z : Tally). Together r (run r w made) z) (sym tally) on) in
    record { together = same; lawful = going_on.lawful r w' (tally_of y (recorded cs answers' tape')) same }

-- ---- the same of a call that was made on a floor
module _ {R M : Type 0} (means : R → Book) (rule : M → Rule) (call : Call) (used : ℕ) (floor floor' : State R M) (tape tape' : List Trade) (a : Answer)
    (m : Lent means rule (lent_from (length tape - used) call) used floor floor' tape tape' a) where
  pub tape-left : used + count_of a ≤ length tape
  tape-left =
      let n = ap count_of m.answers ∙ counted (rule floor.rule) (seen means floor) (lent_from (length tape - used) call) in
      let room = m.room in
      omega arith

  pub going-made : (r : Rule) → rule floor.rule ≡ r → (w0 : World) (cs : List Call) (answers0 answers : List Answer) (tape0 : List Trade) (i : ℕ)
      → Going r w0 cs answers0 tape0 i used (seen means floor) answers tape → length tape ≡ length tape0 → call ≡ get_or cs i call → i < length cs → i < length answers
      → Going r w0 cs answers0 tape0 (i + 1) (used + count_of a) (seen means floor') (set answers i a) tape'
  going-made r e w0 cs answers0 answers tape0 i g long here hc ha =
      subst (λ (z : Rule). Going z w0 cs answers0 tape0 (i + 1) (used + count_of a) (seen means floor') (set answers i a) tape') e
      (going_more (rule floor.rule) w0 cs answers0 tape0 i used (seen means floor) answers tape
      (subst (λ (z : Rule). Going z w0 cs answers0 tape0 i used (seen means floor) answers tape) (sym e) g) call long
      (seen means floor') a tape' here hc ha m.room m.answers m.world m.written)

-- ---- from the making
pub ready : (b : Book) → Quiet b → ((c : ℕ) → c < 12 → total b c ≤ most_amount) → Ready b
ready b q t = record { quiet = q; bounded = t }

pub run-lawful : (r : Rule) (b : Book) (w' : World) (es : List Entry) → Quiet b → ((c : ℕ) → c < 12 → total b c ≤ most_amount)
    → ((y : Tally) → Together r (made b) y → GoesOn r w' (tally_of y es)) → Law r w' (tally_of (blank b) es)
run-lawful r b w' es q t on = (on (blank b) (going_on.starts r b (ready b q t))).lawful

-- no more calls than there are
pub as_many : (cs : List Call) (n : ℕ) → take (min (length cs) n) cs ≡ take n cs
as_many [] n = nothing (min 0 n) ∙ sym (nothing n)
  where
    nothing : (k : ℕ) → take {A = Call} k [] ≡ []
    nothing zero = refl
    nothing (suc k) = refl
as_many (c ∷ cs) zero = let e : min (suc (length cs)) 0 ≡ 0 = omega arith in ap (λ (k : ℕ). take k (c ∷ cs)) e
as_many (c ∷ cs) (suc n) = let e : min (suc (length cs)) (suc n) ≡ suc (min (length cs) n) = omega arith in ap (λ (k : ℕ). take k (c ∷ cs)) e ∙ ap (λ (l : List Call). c ∷ l) (as_many cs n)
