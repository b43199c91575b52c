-- A bid keeps the invariant, and its movements are granted.
use Rattle.model.specs.Words.{ℕ, refl, Bool, true, false, leb, eqb, List, [], AllByRecursion, length, sum_of, Option, Some, None}
use Rattle.std.proofs.Common.{◌+◌, ◌*◌, ◌%◌, ◌≤◌, ◌<◌, ◌≡◌, ◌∷◌, sym, ◌∙◌, subst, inl, inr, mul-le-mul_right, arith}
use Rattle.std.proofs.lemmas.Bool.Decides.{nat_tests}
use Rattle.std.proofs.ByRecursion.{All-weaker}
use Rattle.std.proofs.lemmas.Bool.{true≢false, cond_both, cond-true, cond-false, and_parts, ltb-true, leb-true, leb-false, cases_eq}
use Rattle.model.specs.Market.{Side, Buy, Sell, other, Session, Closed, PreTrading, Trading, PostTrading, is_closed, is_trading, is_post_trading, Bid, Standing, Trade, Place, ticker_known, most_numbers, queue_places}
use Rattle.model.specs.Queues.{by_price, before}
use Rattle.model.specs.Average.{cost_of, lots_of, average, average_price_lem}
use Rattle.model.specs.Matching.{crosses}
use Rattle.model.specs.World.{Sheet, World, queue_of, sheet_by}
use Rattle.model.specs.Bidding.{question}
use Rattle.model.specs.Checks.{checks, why, within_limits, form_taken, has_place_lem, funds}
use Rattle.model.specs.Sound.{Fit, times_in, standing_lots}
use Rattle.model.proofs.Rounding.{average-laws}
use Rattle.model.proofs.Sums.{by_side}
use Rattle.model.proofs.Sheets.{passed, must-true, rule-none, OnSheet}
use Rattle.model.proofs.Quiet.{open_in}
use Rattle.register.specs.Books.{holder_known_lem}
use Rattle.ranking.specs.Ranks.{Ranked, insert_ranked}
use Rattle.rules.specs.Bids.{most_price, most_lots, is_price_lem, is_lots_lem}
use Rattle.rules.specs.Rules.{Rule, Lawful}

-- ---- what the checks of an accepted bid tell
pub record Taken (r : Rule) (w : World) (b : Bid) : Type 0 where
  pub not_closed : is_closed w.session ≡ false
  pub holder : b.holder < 16
  pub ticker : ticker_known b.ticker ≡ true
  pub limits : within_limits b ≡ true
  pub form : form_taken w.session b ≡ true
  pub number : w.given < most_numbers
  pub whole : b.lots % r.step ≡ 0
  pub place : has_place_lem w b ≡ true
  pub paid : funds w b ≡ None

pub taken : (r : Rule) → Lawful r → (w : World) (shown : Session) (b : Bid) (room : ℕ) → why r w (Place shown b room) ≡ None → Taken r w b
taken r lawful w shown b room e =
    let ps = passed (checks r w (Place shown b room)) e in
    let known = and_parts (holder_known_lem b.holder) (ticker_known b.ticker) (must-true _ _ ps.1.1.0) in
    record {
      not_closed = open_in w.session shown (must-true _ _ ps.0);
      holder = ltb-true b.holder 16 known.0;
      ticker = known.1;
      limits = must-true _ _ ps.1.1.1.0;
      form = must-true _ _ ps.1.1.1.1.0;
      number = ltb-true w.given most_numbers (must-true _ _ ps.1.1.1.1.1.1.0);
      whole = lawful.whole (question w b) (rule-none _ ps.1.1.1.1.1.1.1.0);
      place = must-true _ _ ps.1.1.1.1.1.1.1.1.0;
      paid = ps.1.1.1.1.1.1.1.1.1.0;
    }

-- ---- prices and lots
pub lots-within : (b : Bid) → within_limits b ≡ true → (1 ≤ b.lots) × (b.lots ≤ most_lots)
lots-within b e =
    let ps = and_parts (leb 1 b.lots) (leb b.lots most_lots) (and_parts (elim b.price [ Some p ↦ is_price_lem p | None ↦ true ]) (is_lots_lem b.lots) e).1 in
    (leb-true 1 b.lots ps.0, leb-true b.lots most_lots ps.1)

abbrev pub Priced : ℕ → Type 0
Priced p = (1 ≤ p) × (p ≤ most_price)

pub price-within : (o : Option ℕ) (p : ℕ) → elim o [ Some q ↦ is_price_lem q | None ↦ true ] ≡ true → o ≡ Some p → Priced p
price-within (Some q) p e f = grind (arith, nat_tests)
price-within None p e f = absurd (grind arith)

-- the average lies within the limits of prices
pub average-within : (worth lots p : ℕ) → lots ≤ worth → worth ≤ most_price * lots → average worth lots ≡ Some p → Priced p
average-within worth lots p u v e = elim (cases_eq lots 0) [ inl z ↦ absurd (none z) | inr nz ↦ within nz ]
  where
    none : lots ≡ 0 → ⊥
    none z = let t : eqb lots 0 ≡ true = grind (arith, nat_tests) in let f : None ≡ Some p = sym (cond-true (eqb lots 0) None (Some (average_price_lem worth lots)) t) ∙ e in grind arith

    same : (lots ≡ 0 → ⊥) → average_price_lem worth lots ≡ p
    same nz =
        let t : eqb lots 0 ≡ false = grind (arith, nat_tests) in
        let f : Some (average_price_lem worth lots) ≡ Some p = sym (cond-false (eqb lots 0) None (Some (average_price_lem worth lots)) t) ∙ e in
        cc

    within : (lots ≡ 0 → ⊥) → Priced p
    within nz =
        let some : 1 ≤ lots = omega arith in
        subst Priced (same nz) (average-laws.positive worth lots some u, average-laws.most worth lots most_price some v)

pub cost-bounds : (xs : List Trade) → AllByRecursion (λ x. (1 ≤ x.price) × (x.price ≤ most_price)) xs → (lots_of xs ≤ cost_of xs) × (cost_of xs ≤ most_price * lots_of xs)
cost-bounds [] a = (omega arith, omega arith)
cost-bounds (x ∷ xs) a =
    let ih = cost-bounds xs a.1 in
    let l = mul-le-mul_right x.lots a.0.0 in
    let h = mul-le-mul_right x.lots a.0.1 in
    (omega (arith, ih.0, l), omega (arith, ih.1, h))

pub sum-inserted : {X : Type 0} (f : X → ℕ) (ahead : X → X → Bool) (e : X) (xs : List X) → sum_of f (insert_ranked ahead e xs) ≡ f e + sum_of f xs
sum-inserted f ahead e [] = refl
sum-inserted f ahead e (x ∷ xs) =
    cond_both (ahead e x) (e ∷ x ∷ xs) (x ∷ insert_ranked ahead e xs) (λ zs. sum_of f zs ≡ f e + (f x + sum_of f xs)) (λ _. refl) (λ _. omega (arith, sum-inserted f ahead e xs))

pub all-swap : {X Y : Type 0} (R : X → Y → Type 0) (xs : List X) (ys : List Y) → AllByRecursion (λ x. AllByRecursion (R x) ys) xs → AllByRecursion (λ y. AllByRecursion (λ x. R x y) xs) ys
all-swap R xs [] a = tt
all-swap R xs (y ∷ ys) a = (All-weaker (λ x. AllByRecursion (R x) (y ∷ ys)) (λ x. R x y) (λ x p. p.0) xs a, all-swap R xs ys (All-weaker (λ x. AllByRecursion (R x) (y ∷ ys)) (λ x. AllByRecursion (R x) ys) (λ x p. p.1) xs a))

-- ---- a sheet by the newcomer's view
abbrev pub Below : Side → Standing → Standing → Type 0
Below Buy x y = x.price < y.price
Below Sell x y = y.price < x.price

abbrev pub buys_of : Side → List Standing → List Standing → List Standing
buys_of Buy own others = own
buys_of Sell own others = others

pub record Parts (step : ℕ) (session : Session) (given t : ℕ) (side : Side) (own others : List Standing) (worth traded : ℕ) : Type 0 where
  pub known : ticker_known t ≡ true
  pub not_closed : is_closed session ≡ false
  pub fit : AllByRecursion (Fit step given) own
  pub fits : AllByRecursion (Fit step given) others
  pub place : length own ≤ queue_places
  pub places : length others ≤ queue_places
  pub ranked : Ranked (before session side) own
  pub rankeds : Ranked (before session (other side)) others
  pub apart : is_trading session ≡ true → AllByRecursion (λ x. AllByRecursion (Below side x) others) own
  pub averaged : is_post_trading session ≡ true → AllByRecursion (λ x. average worth traded ≡ Some x.price) own
  pub averageds : is_post_trading session ≡ true → AllByRecursion (λ x. average worth traded ≡ Some x.price) others
  pub cheapest : traded ≤ worth
  pub dearest : worth ≤ most_price * traded
  pub bought : traded + standing_lots (buys_of side own others) ≤ most_lots * given

pub parts-on : (step : ℕ) (session : Session) (given t : ℕ) (side : Side) (own others : List Standing) (worth traded : ℕ) → Parts step session given t side own others worth traded
    → OnSheet step session given t (sheet_by side own others worth traded)
parts-on step session given t Buy own others worth traded p = record {
  fit = by_side (λ side. AllByRecursion (Fit step given) (queue_of (sheet_by Buy own others worth traded) side)) p.fit p.fits;
  places = by_side (λ side. length (queue_of (sheet_by Buy own others worth traded) side) ≤ queue_places) p.place p.places;
  ranked = by_side (λ side. Ranked (before session side) (queue_of (sheet_by Buy own others worth traded) side)) p.ranked p.rankeds;
  strange = λ side e. absurd (true≢false (sym p.known ∙ e));
  shut = λ e. absurd (true≢false (sym e ∙ p.not_closed));
  uncrossed = p.apart;
  averaged = λ e. by_side (λ side. AllByRecursion (λ x. average worth traded ≡ Some x.price) (queue_of (sheet_by Buy own others worth traded) side)) (p.averaged e) (p.averageds e);
  cheapest = p.cheapest;
  dearest = p.dearest;
  bought = p.bought;
}
parts-on step session given t Sell own others worth traded p = record {
  fit = by_side (λ side. AllByRecursion (Fit step given) (queue_of (sheet_by Sell own others worth traded) side)) p.fits p.fit;
  places = by_side (λ side. length (queue_of (sheet_by Sell own others worth traded) side) ≤ queue_places) p.places p.place;
  ranked = by_side (λ side. Ranked (before session side) (queue_of (sheet_by Sell own others worth traded) side)) p.rankeds p.ranked;
  strange = λ side e. absurd (true≢false (sym p.known ∙ e));
  shut = λ e. absurd (true≢false (sym e ∙ p.not_closed));
  uncrossed = λ e. all-swap (λ x y. y.price < x.price) own others (p.apart e);
  averaged = λ e. by_side (λ side. AllByRecursion (λ x. average worth traded ≡ Some x.price) (queue_of (sheet_by Sell own others worth traded) side)) (p.averageds e) (p.averaged e);
  cheapest = p.cheapest;
  dearest = p.dearest;
  bought = p.bought;
}

pub old_apart : (step : ℕ) (session : Session) (given t : ℕ) (s : Sheet) (side : Side) → OnSheet step session given t s → is_trading session ≡ true
    → AllByRecursion (λ x. AllByRecursion (Below side x) (queue_of s (other side))) (queue_of s side)
old_apart step session given t s Buy o e = o.uncrossed e
old_apart step session given t s Sell o e = all-swap (λ x y. x.price < y.price) s.buys s.sells (o.uncrossed e)

pub not-crossed : (side : Side) (p : ℕ) (x y : Standing) → x.price ≡ p → crosses side (Some p) y.price ≡ false → Below side x y
not-crossed Buy p x y e c = let l = leb-false y.price p c in omega arith
not-crossed Sell p x y e c = let l = leb-false p y.price c in omega arith

pub by-price : (session : Session) (side : Side) → is_trading session ≡ true → before session side ≡ by_price side
by-price Closed side e = absurd (true≢false (sym e))
by-price PreTrading side e = absurd (true≢false (sym e))
by-price Trading side e = refl
by-price PostTrading side e = absurd (true≢false (sym e))

pub fit-more : (step given given' : ℕ) → given ≤ given' → (q : List Standing) → AllByRecursion (Fit step given) q → AllByRecursion (Fit step given') q
fit-more step given given' le q a =
    All-weaker (Fit step given) (Fit step given')
    (λ x f. record { holder = f.holder; first = f.first; last = omega (arith, f.last); cheapest = f.cheapest; highest = f.highest; fewest = f.fewest; most = f.most; whole = f.whole }) q a

-- other sheets, with a further number given
pub given-more : (step : ℕ) (session : Session) (given given' t : ℕ) (s : Sheet) → given ≤ given' → OnSheet step session given t s → OnSheet step session given' t s
given-more step session given given' t s le o = record {
  fit = λ side. fit-more step given given' le _ (o.fit side);
  places = o.places;
  ranked = o.ranked;
  strange = o.strange;
  shut = o.shut;
  uncrossed = o.uncrossed;
  averaged = o.averaged;
  cheapest = o.cheapest;
  dearest = o.dearest;
  bought = omega (arith, o.bought);
}

-- a number that was never given stands nowhere
pub unseen : (step given k : ℕ) (q : List Standing) → given < k → AllByRecursion (Fit step given) q → times_in k q ≡ 0
unseen step given k [] l a = refl
unseen step given k (x ∷ q) l a = let f = a.0.last in let ih = unseen step given k q l a.1 in grind (arith, nat_tests)
