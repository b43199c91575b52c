-- The corollaries.
use Rattle.model.specs.Words.{ℕ, suc, refl, Bool, true, false, ltb, eqb, List, [], map, joined, AllByRecursion, only, Option, Some, None}
use Rattle.std.proofs.Common.{◌+◌, ◌≤◌, ◌≡◌, ◌∷◌, ◌++◌, sym, ap, ◌∙◌, subst, arith}
use Rattle.std.proofs.ByRecursion.{All-append}
use Rattle.std.proofs.lemmas.Bool.{true≢false}
use Rattle.model.specs.Market.{Call, Start, Deposit, Withdraw, Place, Cancel, Open, EndTrading, EndPostTrading, Receipt, Answer, Done, Placed, Cancelled, Opened, Cause, Refused, Side, Standing, Listing, tickers, Buy, Sell}
use Rattle.model.specs.Matching.{Deal}
use Rattle.model.specs.World.{World, made, queue}
use Rattle.model.specs.Bidding.{met, rest, owed}
use Rattle.model.specs.Checks.{why}
use Rattle.model.specs.Movements.{Granted, moved_all, moves_made, settlement, settlements, freeing, cancelled, opened_at}
use Rattle.model.specs.Calls.{answer, after, accepted, next, decided, fault_of_lem, receipt}
use Rattle.model.specs.Runs.{run}
use Rattle.model.specs.Sound.{Sound}
use Rattle.model.specs.Corollaries.{AccountsStayWithin, brings_or_takes, TotalsChangeByDepositsAndWithdrawals, NothingBlockedAfterAnEnd, NumbersRise}
use Rattle.model.proofs.Making.{made-sound}
use Rattle.model.proofs.Quiet.{end-trading-open, end-post-open, void-made}
use Rattle.model.proofs.Soundness.{calls-keep-sound, next-granted, by-why}
use Rattle.register.specs.Books.{Book, total, most_amount}
use Rattle.register.specs.Moves as move
use Rattle.register.specs.Moves.{Move, moved, refusal}
use Rattle.register.proofs.Sums.{part-sum_to}
use Rattle.register.proofs.Grants.{after-made}
use Rattle.register.proofs.Proved.{totals-kept, totals-bounded}
use Rattle.rules.specs.Rules.{Rule, Lawful}

-- ---- the most
within_all : (ms : List Move) (b : Book) (a : ℕ) → Granted ms b → total b a ≤ most_amount → total (moved_all ms b) a ≤ most_amount
within_all [] b a g l = l
within_all (m ∷ ms) b a g l = within_all ms (moved b m) a g.1 (subst (λ (z : Book). total z a ≤ most_amount) (after-made b m g.0) (totals-bounded b m a l))

book-after : (w : World) (c : Call) → (next w c).book ≡ moved_all (moves_made w c) w.book
book-after w (Start l) = refl
book-after w (Deposit h a n) = refl
book-after w (Withdraw h a n) = refl
book-after w (Place shown b room) = refl
book-after w (Cancel shown h t k) = refl
book-after w (Open room) = refl
book-after w EndTrading = refl
book-after w EndPostTrading = refl

call-within : (r : Rule) → Lawful r → (w : World) (c : Call) → Sound r.step w → (a : ℕ) → total w.book a ≤ most_amount → total (after r w c).book a ≤ most_amount
unfolding after
call-within r lawful w c s a l =
    by-why (λ z. total z.book a ≤ most_amount) (why r w c) (next w c) (λ e. w)
    (λ e. subst (λ (z : Book). total z a ≤ most_amount) (sym (book-after w c)) (within_all (moves_made w c) w.book a (next-granted r lawful w c e s) l)) (λ e. l)

run-within : (r : Rule) → Lawful r → (w : World) (cs : List Call) → Sound r.step w → (a : ℕ) → total w.book a ≤ most_amount → total (run r w cs).book a ≤ most_amount
run-within r lawful w [] s a l = l
run-within r lawful w (c ∷ cs) s a l = run-within r lawful (after r w c) cs (calls-keep-sound r lawful w c s) a (call-within r lawful w c s a l)

pub accounts-stay-within : AccountsStayWithin most_amount
accounts-stay-within r lawful b ready cs h a i j =
    let w = run r (made b) cs in
    omega (arith, run-within r lawful (made b) cs (made-sound r.step b) a (ready.bounded a j), part-sum_to 16 (λ x. w.book.free x a + w.book.blocked x a) h i)

-- ---- movements among the holders
abbrev is_transfer : Move → Bool
is_transfer (move.Deposit h a n) = false
is_transfer (move.Withdraw h a n) = false
is_transfer (move.Block h a n) = true
is_transfer (move.Release h a n) = true
is_transfer (move.Pay h a n p) = true

abbrev Transfers : List Move → Type 0
Transfers ms = AllByRecursion (λ m. is_transfer m ≡ true) ms

one-total : (m : Move) (b : Book) (a : ℕ) → is_transfer m ≡ true → refusal b m ≡ None → total (moved b m) a ≡ total b a
one-total (move.Deposit h x n) b a t e = absurd (true≢false (sym t))
one-total (move.Withdraw h x n) b a t e = absurd (true≢false (sym t))
one-total (move.Block h x n) b a t e = ap (λ (z : Book). total z a) (sym (after-made b (move.Block h x n) e)) ∙ totals-kept.block b h x n a
one-total (move.Release h x n) b a t e = ap (λ (z : Book). total z a) (sym (after-made b (move.Release h x n) e)) ∙ totals-kept.release b h x n a
one-total (move.Pay h x n p) b a t e = ap (λ (z : Book). total z a) (sym (after-made b (move.Pay h x n p) e)) ∙ totals-kept.pay b h x n p a

all-total : (ms : List Move) (b : Book) (a : ℕ) → Transfers ms → Granted ms b → total (moved_all ms b) a ≡ total b a
all-total [] b a t g = refl
all-total (m ∷ ms) b a t g = all-total ms (moved b m) a t.1 g.1 ∙ one-total m b a t.0 g.0

joined-transfers : {X : Type 0} (f : X → List Move) (xs : List X) → ((x : X) → Transfers (f x)) → Transfers (joined f xs)
joined-transfers f [] h = tt
joined-transfers f (x ∷ xs) h = All-append (λ m. is_transfer m ≡ true) (f x) (joined f xs) (h x) (joined-transfers f xs h)

only-transfers : (b : Bool) (m : Move) → is_transfer m ≡ true → Transfers (only b m)
only-transfers true m t = (t, tt)
only-transfers false m t = tt

freed-transfers : (l : Listing) (t : ℕ) (side : Side) (q : List Standing) → Transfers (map (freeing l t side) q)
freed-transfers l t side [] = tt
freed-transfers l t side (x ∷ q) = (refl, freed-transfers l t side q)

settled-transfers : (l : Listing) (t : ℕ) (ds : List Deal) → Transfers (settlements l t ds)
settled-transfers l t ds = joined-transfers (settlement _) ds (λ d. (refl, (refl, (refl, tt))))

both-freed : (l : Listing) (t : ℕ) (p q : List Standing) → Transfers (map (freeing l t Buy) p ++ map (freeing l t Sell) q)
both-freed l t p q = All-append (λ m. is_transfer m ≡ true) (map (freeing l t Buy) p) (map (freeing l t Sell) q) (freed-transfers l t Buy p) (freed-transfers l t Sell q)

call-transfers : (w : World) (c : Call) → brings_or_takes c ≡ false → Transfers (moves_made w c)
call-transfers w (Start l) e = tt
call-transfers w (Deposit h a n) e = absurd (true≢false e)
call-transfers w (Withdraw h a n) e = absurd (true≢false e)
call-transfers w (Place shown b room) e =
    All-append (λ m. is_transfer m ≡ true) _ _ (All-append (λ m. is_transfer m ≡ true) _ _ (only-transfers (ltb 0 (owed w b)) _ refl) (settled-transfers w.listing b.ticker (met w b).deals)) (only-transfers (eqb (rest w b) 0) _ refl)
call-transfers w (Cancel shown h t k) e = both-freed w.listing t (cancelled w h t k Buy) (cancelled w h t k Sell)
call-transfers w (Open room) e = joined-transfers _ tickers (λ t. settled-transfers w.listing t (opened_at w t).deals)
call-transfers w EndTrading e = joined-transfers _ tickers (λ t. both-freed w.listing t (queue w t Buy) (queue w t Sell))
call-transfers w EndPostTrading e = joined-transfers _ tickers (λ t. both-freed w.listing t (queue w t Buy) (queue w t Sell))

pub totals-change : TotalsChangeByDepositsAndWithdrawals
unfolding after
totals-change r lawful w c s k a =
    by-why (λ z. total z.book a ≡ total w.book a) (why r w c) (next w c) (λ e. w)
    (λ e. ap (λ (z : Book). total z a) (book-after w c) ∙ all-total (moves_made w c) w.book a (call-transfers w c k) (next-granted r lawful w c e s)) (λ e. refl)

-- ---- the ends
done-accepted : (r : Rule) (w : World) (c : Call) → answer r w c ≡ Done → why r w c ≡ None
unfolding answer
done-accepted r w c e = go (why r w c) e
  where
    go : (o : Option Cause) → decided o (accepted w c) (λ x. Refused (fault_of_lem c x)) ≡ Done → o ≡ None
    go None e = refl
    go (Some x) e = absurd (grind arith)

accepted-after : (r : Rule) (w : World) (c : Call) → why r w c ≡ None → after r w c ≡ next w c
unfolding after
accepted-after r w c e = ap (λ (z : Option Cause). decided z (next w c) (λ x. w)) e

pub nothing-blocked : NothingBlockedAfterAnEnd
nothing-blocked r lawful w s = record {
  trading = λ d h a i j. let e = done-accepted r w EndTrading d in ap (λ (z : World). z.book.blocked h a) (accepted-after r w EndTrading e) ∙ (void-made r.step w s (end-trading-open r w e)).blocked h a i j;
  post_trading = λ d h a i j. let e = done-accepted r w EndPostTrading d in ap (λ (z : World). z.book.blocked h a) (accepted-after r w EndPostTrading e) ∙ (void-made r.step w s (end-post-open r w e)).blocked h a i j;
}

-- ---- numbers
placed-number : (x y : Receipt) → Placed x ≡ Placed y → x.number ≡ y.number
placed-number x y e = ap number e
  where
    number : Answer → ℕ
    number Done = 0
    number (Placed r) = r.number
    number (Cancelled n) = 0
    number (Opened n) = 0
    number (Refused f) = 0

pub numbers-rise : NumbersRise
unfolding answer after
numbers-rise r w shown b room x e = go (why r w (Place shown b room)) e
  where
    go : (o : Option Cause) → decided o (accepted w (Place shown b room)) (λ z. Refused (fault_of_lem (Place shown b room) z)) ≡ Placed x
        → (x.number ≡ suc w.given) × ((decided o (next w (Place shown b room)) (λ z. w)).given ≡ suc w.given)
    go None e = (sym (placed-number (receipt w b) x e), refl)
    go (Some z) e = absurd (grind arith)
