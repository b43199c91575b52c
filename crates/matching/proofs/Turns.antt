-- A newcomer and a queue, one standing bid at a time. Assumes nothing.
use Rattle.std.proofs.Common.{◌≡◌, ℕ, ◌+◌, ◌-◌, ◌*◌, ◌<◌, ◌≤◌, min, Bool, true, false, cond, ltb, leb, ◌⊎◌, List, [], ◌∷◌, ◌++◌, length, get_or, take, drop, set, Some, None, Option, sym, refl, ap, ◌∙◌, subst, inl, inr, mul-le-mul_right, arith}
use Rattle.std.proofs.lemmas.Bool.Decides.{nat_tests}
use Rattle.std.proofs.lemmas.Bool.{cond-true, cond-false, cases_Bool, and_parts}
use Rattle.std.proofs.lemmas.List.{append_assoc, append-nil, at_drop_more, at_drop_all, drop-set-lt, drop-drop, length-take-le, take-append-drop, length-map}
use Rattle.register.specs.Books.{Book}
use Rattle.register.specs.declared.slips.Slip.{Slip}
use Rattle.rules.specs.declared.bid.Side.{Side}
use Rattle.rules.specs.declared.bid.Side.TheVariants.{Buy, Sell}
use Rattle.rules.specs.Bids.{obligation_of}
use Rattle.model.specs.declared.words.Bid.{Bid}
use Rattle.model.specs.declared.words.Standing.{Standing}
use Rattle.model.specs.declared.words.Trade.{Trade}
use Rattle.model.specs.Queues.{with_lots}
use Rattle.model.specs.Average.{cost_of}
use Rattle.model.specs.Matching.{Deal, Met, trades_of, taking, meet, untouched}
use Rattle.model.specs.Movements.{Granted, moved_all, settlement}
use Rattle.model.specs.BidLaws.{used}
use Rattle.model.proofs.Meeting.{meet-graph, meets-few}
use Rattle.queues.specs.Entries.{first_of, lots_taken}
use Rattle.matching.specs.declared.newcomers.Newcomer.{Newcomer}
use Rattle.matching.specs.Dealing.{mine_of, meets, deal_with, used_by, used_of, met_by, first_deal}
use Rattle.matching.specs.Meetings.{Settles, Ready, settling, slip_for, trade_of, book_after, queue_after, amount_after, Swept}
use Rattle.matching.proofs.Granting.{granted-front, granted-behind, moved-join}

-- ---- a deal's price, lots and use
taking-price : (number : ℕ) (b : Bid) (limit : Option ℕ) (side : Side) (x : Standing) (n : ℕ) → (taking number b limit side x n).trade.price ≡ x.price
taking-price number b limit Buy x n = refl
taking-price number b limit Sell x n = refl

taking-lots : (number : ℕ) (b : Bid) (limit : Option ℕ) (side : Side) (x : Standing) (n : ℕ) → (taking number b limit side x n).trade.lots ≡ n
taking-lots number b limit Buy x n = refl
taking-lots number b limit Sell x n = refl

taking-used : (number : ℕ) (b : Bid) (limit : Option ℕ) (side : Side) (x : Standing) (n : ℕ) → used side (taking number b limit side x n) ≡ used_by side limit x.price n
taking-used number b limit Buy x n = refl
taking-used number b limit Sell x n = refl

deal-price : (c : Newcomer) (x : Standing) (n : ℕ) → (deal_with c x n).trade.price ≡ x.price
deal-price c x n = taking-price c.number c.bid c.limit c.bid.side x n

pub deal-lots : (c : Newcomer) (x : Standing) (n : ℕ) → (deal_with c x n).trade.lots ≡ n
deal-lots c x n = taking-lots c.number c.bid c.limit c.bid.side x n

pub deal-used : (c : Newcomer) (x : Standing) (n : ℕ) → used c.bid.side (deal_with c x n) ≡ used_of c x.price n
deal-used c x n = taking-used c.number c.bid c.limit c.bid.side x n

-- ---- one standing bid
abbrev pub onto : Deal → Met → Met
onto d m = record { deals = d ∷ m.deals; queue = m.queue; left = m.left }

module _ (c : Newcomer) where
  none_left : (q : List Standing) → met_by c 0 q ≡ untouched 0 q
  unfolding meet
  none_left [] = refl
  none_left (x ∷ xs) = refl

  none-there : (n : ℕ) → met_by c n [] ≡ untouched n []
  unfolding meet
  none-there n = refl

  not-met : (n : ℕ) (x : Standing) (xs : List Standing) → meets c n x.price ≡ false → met_by c n (x ∷ xs) ≡ untouched n (x ∷ xs)
  unfolding meet
  not-met n x xs e = cond-false _ _ _ e

  whole : (n : ℕ) (x : Standing) (xs : List Standing) → meets c n x.price ≡ true → leb x.lots n ≡ true
      → met_by c n (x ∷ xs) ≡ onto (deal_with c x x.lots) (met_by c (n - x.lots) xs)
  unfolding meet
  whole n x xs e l = cond-true _ _ _ e ∙ cond-true _ _ _ l

  part : (n : ℕ) (x : Standing) (xs : List Standing) → meets c n x.price ≡ true → leb x.lots n ≡ false
      → met_by c n (x ∷ xs) ≡ onto (deal_with c x n) (untouched 0 (with_lots x (x.lots - n) ∷ xs))
  unfolding meet
  part n x xs e l = cond-true _ _ _ e ∙ cond-false _ _ _ l

  -- as a queue that loses lots at its front
  pub met-first : (n : ℕ) (x : Standing) (xs : List Standing) → meets c n x.price ≡ true
      → met_by c n (x ∷ xs) ≡ onto (deal_with c x (min n x.lots)) (met_by c (n - min n x.lots) (lots_taken (min n x.lots) (x ∷ xs)))
  met-first n x xs e = by (cases_Bool (leb x.lots n))
    where
      by : (leb x.lots n ≡ true) ⊎ (leb x.lots n ≡ false)
          → met_by c n (x ∷ xs) ≡ onto (deal_with c x (min n x.lots)) (met_by c (n - min n x.lots) (lots_taken (min n x.lots) (x ∷ xs)))
      by (inl l) =
          let m : x.lots ≡ min n x.lots = grind (arith, nat_tests) in
          let gone : ltb x.lots x.lots ≡ false = grind (arith, nat_tests) in
          whole n x xs e l
          ∙ ap (λ (q : List Standing). onto (deal_with c x x.lots) (met_by c (n - x.lots) q)) (sym (cond-false _ _ _ gone))
          ∙ ap (λ (i : ℕ). onto (deal_with c x i) (met_by c (n - i) (lots_taken i (x ∷ xs)))) m
      by (inr l) =
          let m : n ≡ min n x.lots = grind (arith, nat_tests) in
          let stays : ltb n x.lots ≡ true = grind (arith, nat_tests) in
          let z : 0 ≡ n - n = omega arith in
          part n x xs e l
          ∙ ap (onto (deal_with c x n)) (sym (none_left _))
          ∙ ap (λ (q : List Standing). onto (deal_with c x n) (met_by c 0 q)) (sym (cond-true _ _ _ stays))
          ∙ ap (λ (i : ℕ). onto (deal_with c x n) (met_by c i (lots_taken n (x ∷ xs)))) z
          ∙ ap (λ (i : ℕ). onto (deal_with c x i) (met_by c (n - i) (lots_taken i (x ∷ xs)))) m

  -- ---- the survey: the bid at the front is passed whether it is used up or not
  front-left : (n : ℕ) (x : Standing) (xs : List Standing) → meets c n x.price ≡ true → (met_by c n (x ∷ xs)).left ≡ (met_by c (n - min n x.lots) xs).left
  front-left n x xs e = by (cases_Bool (leb x.lots n))
    where
      by : (leb x.lots n ≡ true) ⊎ (leb x.lots n ≡ false) → (met_by c n (x ∷ xs)).left ≡ (met_by c (n - min n x.lots) xs).left
      by (inl l) = let m : n - x.lots ≡ n - min n x.lots = grind (arith, nat_tests) in ap (λ (i : Met). i.left) (whole n x xs e l) ∙ ap (λ (i : ℕ). (met_by c i xs).left) m
      by (inr l) =
          let m : 0 ≡ n - min n x.lots = grind (arith, nat_tests) in
          ap (λ (i : Met). i.left) (part n x xs e l) ∙ ap (λ (i : Met). i.left) (sym (none_left xs)) ∙ ap (λ (i : ℕ). (met_by c i xs).left) m

  front-cost : (n : ℕ) (x : Standing) (xs : List Standing) → meets c n x.price ≡ true
      → cost_of (trades_of (met_by c n (x ∷ xs)).deals) ≡ x.price * min n x.lots + cost_of (trades_of (met_by c (n - min n x.lots) xs).deals)
  front-cost n x xs e = by (cases_Bool (leb x.lots n))
    where
      one : (i : ℕ) (m : Met) → cost_of (trades_of (onto (deal_with c x i) m).deals) ≡ x.price * i + cost_of (trades_of m.deals)
      one i m = (λ j. deal-price c x i j * deal-lots c x i j + cost_of (trades_of m.deals))

      by : (leb x.lots n ≡ true) ⊎ (leb x.lots n ≡ false)
          → cost_of (trades_of (met_by c n (x ∷ xs)).deals) ≡ x.price * min n x.lots + cost_of (trades_of (met_by c (n - min n x.lots) xs).deals)
      by (inl l) =
          let m : x.lots ≡ min n x.lots = grind (arith, nat_tests) in
          ap (λ (i : Met). cost_of (trades_of i.deals)) (whole n x xs e l) ∙ one x.lots (met_by c (n - x.lots) xs)
          ∙ ap (λ (i : ℕ). x.price * i + cost_of (trades_of (met_by c (n - i) xs).deals)) m
      by (inr l) =
          let m : n ≡ min n x.lots = grind (arith, nat_tests) in
          let z : 0 ≡ n - n = omega arith in
          ap (λ (i : Met). cost_of (trades_of i.deals)) (part n x xs e l) ∙ one n (untouched 0 (with_lots x (x.lots - n) ∷ xs))
          ∙ ap (λ (i : Met). x.price * n + cost_of (trades_of i.deals)) (sym (none_left xs))
          ∙ ap (λ (i : ℕ). x.price * n + cost_of (trades_of (met_by c i xs).deals)) z
          ∙ ap (λ (i : ℕ). x.price * i + cost_of (trades_of (met_by c (n - i) xs).deals)) m

  -- what the survey knows when it has come to a place of the queue q
  pub record Surveyed (q : List Standing) (place left cost : ℕ) : Type 0 where
    pub rest : (met_by c left (drop place q)).left ≡ (met_by c c.bid.lots q).left
    pub paid : cost + cost_of (trades_of (met_by c left (drop place q)).deals) ≡ cost_of (trades_of (met_by c c.bid.lots q).deals)
    pub small : cost + 4294967295 * left ≤ 4294967295 * c.bid.lots

  module _ (q : List Standing) (i left cost lots : ℕ) (d : Standing) (s : Surveyed q i left cost) where
    -- a place further
    pub surveyed-more : i < length q → meets c left (get_or q i d).price ≡ true → lots ≡ min left (get_or q i d).lots → (get_or q i d).price ≤ 4294967295
        → Surveyed q (i + 1) (left - lots) (cost + (get_or q i d).price * lots)
    surveyed-more h e l p =
        let x = get_or q i d in
        let same = ap (λ (n : ℕ). met_by c (left - n) (drop (i + 1) q)) l in
        let a = at_drop_more (λ z. (met_by c left z).left) q i d h ∙ front-left left x (drop (i + 1) q) e in
        let b = at_drop_more (λ z. cost_of (trades_of (met_by c left z).deals)) q i d h ∙ front-cost left x (drop (i + 1) q) e in
        let paid = s.paid in
        let small = s.small in
        let le = mul-le-mul_right lots p in
        let eq = ap (λ (n : ℕ). x.price * n) l in
        let eq' = ap (λ (m : Met). cost_of (trades_of m.deals)) same in
        record { rest = ap (λ (m : Met). m.left) same ∙ sym a ∙ s.rest; paid = omega (arith, b, eq, eq'); small = omega arith }

    -- it stops where the bid is not met, or at the end
    pub surveyed-stop : i < length q → meets c left (get_or q i d).price ≡ false → (left ≡ (met_by c c.bid.lots q).left) × (cost ≡ cost_of (trades_of (met_by c c.bid.lots q).deals))
    surveyed-stop h e =
        let x = get_or q i d in
        let a = at_drop_more (λ z. (met_by c left z).left) q i d h ∙ ap (λ (m : Met). m.left) (not-met left x (drop (i + 1) q) e) in
        let b = at_drop_more (λ z. cost_of (trades_of (met_by c left z).deals)) q i d h ∙ ap (λ (m : Met). cost_of (trades_of m.deals)) (not-met left x (drop (i + 1) q) e) in
        let paid = s.paid in
        (sym a ∙ s.rest, omega (arith, b))

    pub surveyed-end : length q ≤ i → (left ≡ (met_by c c.bid.lots q).left) × (cost ≡ cost_of (trades_of (met_by c c.bid.lots q).deals))
    surveyed-end h =
        let a = at_drop_all (λ z. (met_by c left z).left) q i h ∙ ap (λ (m : Met). m.left) (none-there left) in
        let b = at_drop_all (λ z. cost_of (trades_of (met_by c left z).deals)) q i h ∙ ap (λ (m : Met). cost_of (trades_of m.deals)) (none-there left) in
        let paid = s.paid in
        (sym a ∙ s.rest, omega (arith, b))

  pub surveyed-start : (q : List Standing) → Surveyed q 0 c.bid.lots 0
  surveyed-start q = record { rest = refl; paid = omega arith; small = omega arith }

-- ---- the meeting
-- the first deal, seen from the bid at the front
pub deal-first : (c : Newcomer) (n : ℕ) (q : List Standing) (x : Standing) → Some x ≡ first_of q → meets c n x.price ≡ true → first_deal c n q ≡ Some (deal_with c x (min n x.lots))
deal-first c n [] x e m = absurd (let z : ◌≡◌ {A = ℕ} 0 1 = cc in omega arith)
deal-first c n (y ∷ ys) x e m =
    let same : x ≡ y = cc in
    cond-true _ _ _ (subst (λ (z : Standing). meets c n z.price ≡ true) same m) ∙ ap (λ (z : Standing). Some (deal_with c z (min n z.lots))) (sym same)

pub deal-missed : (c : Newcomer) (n : ℕ) (q : List Standing) (x : Standing) → Some x ≡ first_of q → meets c n x.price ≡ false → first_deal c n q ≡ None
deal-missed c n [] x e m = refl
deal-missed c n (y ∷ ys) x e m = let same : x ≡ y = cc in cond-false _ _ _ (subst (λ (z : Standing). meets c n z.price ≡ false) same m)

pub deal-none : (c : Newcomer) (n : ℕ) (q : List Standing) → None ≡ first_of q → first_deal c n q ≡ None
deal-none c n [] e = refl
deal-none c n (y ∷ ys) e = absurd (let z : ◌≡◌ {A = ℕ} 0 1 = cc in omega arith)

first_some : {y d : Deal} (b : Bool) → cond b (Some y) None ≡ Some d → (b ≡ true) × (d ≡ y)
first_some true e = (refl, cc)
first_some false e = absurd (let z : ◌≡◌ {A = ℕ} 0 1 = cc in omega arith)

-- with a first deal, the meeting is that deal and the meeting of what is left with what it leaves
pub meet-more : (c : Newcomer) (n : ℕ) (q : List Standing) (d : Deal) → first_deal c n q ≡ Some d
    → met_by c n q ≡ onto d (met_by c (n - d.trade.lots) (lots_taken d.trade.lots q))
meet-more c n [] d e = absurd (let z : ◌≡◌ {A = ℕ} 0 1 = cc in omega arith)
meet-more c n (x ∷ xs) d e =
    let f = first_some (meets c n x.price) e in
    let lots : min n x.lots ≡ d.trade.lots = sym (ap (λ (z : Deal). z.trade.lots) f.1 ∙ deal-lots c x (min n x.lots)) in
    met-first c n x xs f.0
    ∙ ap (λ (i : ℕ). onto (deal_with c x (min n x.lots)) (met_by c (n - i) (lots_taken i (x ∷ xs)))) lots
    ∙ ap (λ (z : Deal). onto z (met_by c (n - d.trade.lots) (lots_taken d.trade.lots (x ∷ xs)))) (sym f.1)

first-none : (y : Deal) (b : Bool) → cond b (Some y) None ≡ None → b ≡ false
first-none y true e = absurd (let z : ◌≡◌ {A = ℕ} 0 1 = cc in omega arith)
first-none y false e = refl

-- without one nothing is traded
pub meet-none : (c : Newcomer) (n : ℕ) (q : List Standing) → first_deal c n q ≡ None → met_by c n q ≡ untouched n q
meet-none c n [] e = none-there c n
meet-none c n (x ∷ xs) e = not-met c n x xs (first-none _ (meets c n x.price) e)

-- ---- what a newcomer that is ready has for its first deal, and for the rest
module _ (c : Newcomer) (n : ℕ) (q : List Standing) (k : Book) (s : Slip) (d : Deal) (r : Ready c (met_by c n q) k s) (f : first_deal c n q ≡ Some d) where
  next-met : Met
  next-met = met_by c (n - d.trade.lots) (lots_taken d.trade.lots q)

  all-granted : Granted (settlement c.currency d ++ settling c next-met.deals) k
  unfolding next-met
  all-granted = subst (λ (m : Met). Granted (settling c m.deals) k) (meet-more c n q d f) r.granted

  pub deal-granted : Granted (settlement c.currency d) k
  deal-granted = granted-front (settlement c.currency d) (settling c next-met.deals) k all-granted

  amount : s.amount ≡ used c.bid.side d + slip_for c next-met
  unfolding next-met
  amount =
      let e = ap (λ (z : Slip). z.amount) r.slip ∙ ap (λ (m : Met). slip_for c m) (meet-more c n q d f) in
      omega (arith, e)

  pub deal-enough : used c.bid.side d ≤ s.amount
  deal-enough = let e = amount in omega arith

  pub rest-ready : (k' : Book) (s' : Slip) → k' ≡ moved_all (settlement c.currency d) k → s' ≡ mine_of c (s.amount - used c.bid.side d)
      → Ready c (met_by c (n - d.trade.lots) (lots_taken d.trade.lots q)) k' s'
  unfolding next-met
  rest-ready k' s' ek es =
      let e : s.amount - used c.bid.side d ≡ slip_for c next-met = omega (arith, amount) in
      record {
        granted = subst (Granted (settling c next-met.deals)) (sym ek) (granted-behind (settlement c.currency d) (settling c next-met.deals) k all-granted);
        slip = es ∙ ap (mine_of c) e;
      }

-- what settling with the first bid asks
pub settles : (c : Newcomer) (n lots : ℕ) (q : List Standing) (k : Book) (s : Slip) (x : Standing) → Ready c (met_by c n q) k s → Some x ≡ first_of q → meets c n x.price ≡ true
    → lots ≡ min n x.lots → Settles c x lots k s
settles c n lots q k s x r e m l =
    let f = deal-first c n q x e m ∙ ap (λ (i : ℕ). Some (deal_with c x i)) (sym l) in
    let enough = deal-enough c n q k s (deal_with c x lots) r f in
    let u = deal-used c x lots in
    record {
      slip = r.slip ∙ ap (mine_of c) (sym (ap (λ (z : Slip). z.amount) r.slip));
      enough = omega arith;
      crossed = (and_parts _ _ m).1;
      granted = deal-granted c n q k s (deal_with c x lots) r f;
    }

-- ---- the loop: what is known before each turn
pub record Turn (c : Newcomer) (q0 q : List Standing) (k0 k : Book) (s : Slip) (left : ℕ) (done : List Trade) : Type 0 where
  pub ready : Ready c (met_by c left q) k s
  pub written : done ++ trades_of (met_by c left q).deals ≡ trades_of (met_by c c.bid.lots q0).deals
  pub queue : (met_by c left q).queue ≡ (met_by c c.bid.lots q0).queue
  pub rest : (met_by c left q).left ≡ (met_by c c.bid.lots q0).left
  pub book : moved_all (settling c (met_by c left q).deals) k ≡ moved_all (settling c (met_by c c.bid.lots q0).deals) k0

pub turn-start : (c : Newcomer) (q : List Standing) (k : Book) (s : Slip) → Ready c (met_by c c.bid.lots q) k s → Turn c q q k k s c.bid.lots []
turn-start c q k s r = record { ready = r; written = refl; queue = refl; rest = refl; book = refl }

trade-some : (tr : Trade) (o : Option Deal) → Some tr ≡ trade_of o → (d : Deal) × ((o ≡ Some d) × (tr ≡ d.trade))
trade-some tr None e = absurd (let z : ◌≡◌ {A = ℕ} 0 1 = cc in omega arith)
trade-some tr (Some d) e = (d, (refl, cc))

trade-none : (o : Option Deal) → None ≡ trade_of o → o ≡ None
trade-none None e = refl
trade-none (Some d) e = absurd (let z : ◌≡◌ {A = ℕ} 0 1 = cc in omega arith)

-- a turn that trades: what is known after it, and that it was one of the deals
pub record Turned (c : Newcomer) (q0 q q' : List Standing) (k0 k' : Book) (s' : Slip) (left : ℕ) (done : List Trade) (tr : Trade) : Type 0 where
  pub turn : Turn c q0 q' k0 k' s' (left - tr.lots) (done ++ tr ∷ [])
  pub fewer : length (met_by c left q).deals ≡ length (met_by c (left - tr.lots) q').deals + 1
  pub taken : tr.lots ≤ left

lots-within : (c : Newcomer) (n : ℕ) (q : List Standing) (d : Deal) → first_deal c n q ≡ Some d → d.trade.lots ≤ n
lots-within c n [] d e = absurd (let z : ◌≡◌ {A = ℕ} 0 1 = cc in omega arith)
lots-within c n (x ∷ xs) d e =
    let f = first_some (meets c n x.price) e in
    let l : d.trade.lots ≡ min n x.lots = ap (λ (z : Deal). z.trade.lots) f.1 ∙ deal-lots c x (min n x.lots) in
    omega arith

module _ (c : Newcomer) (q0 q q' : List Standing) (k0 k k' : Book) (s s' : Slip) (left : ℕ) (done : List Trade) (tr : Trade) (tu : Turn c q0 q k0 k s left done) where
  turned_by : (d : Deal) → first_deal c left q ≡ Some d → tr ≡ d.trade → k' ≡ moved_all (settlement c.currency d) k → q' ≡ lots_taken d.trade.lots q
      → s' ≡ mine_of c (s.amount - used c.bid.side d) → Turned c q0 q q' k0 k' s' left done tr
  turned_by d f t ek eq es =
      let more = meet-more c left q d f in
      let m : Met = met_by c (left - d.trade.lots) (lots_taken d.trade.lots q) in
      let same : m ≡ met_by c (left - tr.lots) q' = sym (λ i. met_by c (left - (t i).lots) (eq i)) in
      let bk = moved-join (settlement c.currency d) (settling c m.deals) k in
      record {
        turn = record {
          ready = subst (λ (z : Met). Ready c z k' s') same (rest-ready c left q k s d tu.ready f k' s' ek es);
          written = append_assoc done (tr ∷ []) (trades_of (met_by c (left - tr.lots) q').deals)
              ∙ ap (λ (z : Met). done ++ tr ∷ trades_of z.deals) (sym same)
              ∙ ap (λ (z : Trade). done ++ z ∷ trades_of m.deals) t
              ∙ ap (λ (z : Met). done ++ trades_of z.deals) (sym more)
              ∙ tu.written;
          queue = ap (λ (z : Met). z.queue) (sym same) ∙ ap (λ (z : Met). z.queue) (sym more) ∙ tu.queue;
          rest = ap (λ (z : Met). z.left) (sym same) ∙ ap (λ (z : Met). z.left) (sym more) ∙ tu.rest;
          book = ap (λ (z : Met). moved_all (settling c z.deals) k') (sym same)
              ∙ ap (moved_all (settling c m.deals)) ek
              ∙ sym bk
              ∙ ap (λ (z : Met). moved_all (settling c z.deals) k) (sym more)
              ∙ tu.book;
        };
        fewer = let a = ap (λ (z : Met). length z.deals) more in let b = ap (λ (z : Met). length z.deals) same in omega (arith, a, b);
        taken = let l = lots-within c left q d f in let e = ap (λ (z : Trade). z.lots) t in omega (arith, e, l);
      }

  pub turned : Some tr ≡ trade_of (first_deal c left q) → k' ≡ book_after c k (first_deal c left q) → q' ≡ queue_after q (first_deal c left q)
      → s' ≡ mine_of c (amount_after c s.amount (first_deal c left q)) → Turned c q0 q q' k0 k' s' left done tr
  turned et ek eq es =
      let o = trade-some tr (first_deal c left q) et in
      let f = o.1.0 in
      turned_by o.0 f o.1.1 (ek ∙ ap (book_after c k) f) (eq ∙ ap (queue_after q) f) (es ∙ ap (λ (z : Option Deal). mine_of c (amount_after c s.amount z)) f)

-- where nothing more is traded, all is done
pub swept : (c : Newcomer) (q0 q q' : List Standing) (k0 k k' : Book) (s s' : Slip) (left count : ℕ) (strip0 strip : List Trade)
    → Turn c q0 q k0 k s left (take count strip) → drop count strip ≡ drop count strip0 → count ≤ length strip
    → None ≡ trade_of (first_deal c left q) → k' ≡ book_after c k (first_deal c left q) → q' ≡ queue_after q (first_deal c left q)
    → s' ≡ mine_of c (amount_after c s.amount (first_deal c left q))
    → Swept c (met_by c c.bid.lots q0) q' k0 k' strip0 strip s' count
swept c q0 q q' k0 k k' s s' left count strip0 strip tu behind room et ek eq es =
    let f = trade-none (first_deal c left q) et in
    let none = meet-none c left q f in
    let all : Met = met_by c c.bid.lots q0 in
    let ts : take count strip ≡ trades_of all.deals = sym (append-nil (take count strip)) ∙ ap (λ (z : Met). take count strip ++ trades_of z.deals) (sym none) ∙ tu.written in
    let n : count ≡ length all.deals = sym (length-take-le count strip room) ∙ ap length ts ∙ length-map all.deals (λ d. d.trade) in
    let same : s.amount ≡ obligation_of c.bid.side c.limit all.left =
    ap (λ (z : Slip). z.amount) tu.ready.slip ∙ ap (slip_for c) none ∙ zero_more _ ∙ ap (λ (z : Met). obligation_of c.bid.side c.limit z.left) (sym none) ∙ ap (obligation_of c.bid.side c.limit) tu.rest in
    record {
      count = n;
      written = sym (take-append-drop count strip) ∙ ap (λ (z : List Trade). z ++ drop count strip) ts ∙ ap (λ (z : List Trade). trades_of all.deals ++ z) (behind ∙ ap (λ (i : ℕ). drop i strip0) n);
      queue = eq ∙ ap (queue_after q) f ∙ ap (λ (z : Met). z.queue) (sym none) ∙ tu.queue;
      book = ek ∙ ap (book_after c k) f ∙ ap (λ (z : Met). moved_all (settling c z.deals) k) (sym none) ∙ tu.book;
      slip = es ∙ ap (λ (z : Option Deal). mine_of c (amount_after c s.amount z)) f ∙ ap (mine_of c) same;
    }
  where
    zero_more : (n : ℕ) → 0 + n ≡ n
    zero_more n = omega arith

-- there are at most as many trades as bids in the queue
pub few : (c : Newcomer) (n : ℕ) (q : List Standing) → length (met_by c n q).deals ≤ length q
few c n q = (meets-few (meet-graph _ _ n q)).0

-- the strip behind the trades
pub behind_more : {X : Type 0} (xs ys : List X) (i : ℕ) (y : X) → drop i xs ≡ drop i ys → drop (i + 1) (set xs i y) ≡ drop (i + 1) ys
behind_more xs ys i y e = drop-set-lt (i + 1) xs i y (omega arith) ∙ sym (drop-drop 1 i xs) ∙ ap (drop 1) e ∙ drop-drop 1 i ys
