-- What a list of movements does to the book: each is granted, from what is blocked beforehand to what is blocked afterwards, and what a
-- holder has, free and blocked, changes by the trades alone.
use Rattle.model.specs.Words.{ℕ, refl, List, [], AllByRecursion, map, joined, None, sum_of}
use Rattle.std.proofs.Common.{◌+◌, ◌-◌, ◌*◌, ◌≤◌, ◌<◌, ◌≡◌, ◌∷◌, ◌++◌, sym, ap, ◌∙◌, subst, mul-le-mul_right, arith}
use Rattle.std.proofs.lemmas.Bool.Decides.{nat_tests}
use Rattle.model.specs.Market.{Side, Standing, Trade, Listing}
use Rattle.model.specs.Matching.{Deal, trades_of}
use Rattle.model.specs.Listings.{quote_of, asset_of_lem}
use Rattle.model.specs.Movements.{moved_all, Granted, settlement, settlements, freeing}
use Rattle.model.specs.Tally.{exchanged, exchanges}
use Rattle.model.specs.Sound.{owing, obliges}
use Rattle.register.specs.Books.{Book, Sums, at}
use Rattle.register.specs.Moves as move
use Rattle.register.specs.Moves.{Move, moved, refusal}
use Rattle.register.proofs.Accounts.{at_here, at-add}

-- of every account that there is
abbrev pub Everywhere : (ℕ → ℕ → Type 0) → Type 0
Everywhere P = (h a : ℕ) → h < 16 → a < 12 → P h a

-- each trade at its turn: the seller has the lots, and the buyer the money
abbrev pub Backed : Listing → List Trade → Sums → Type 0
Backed l [] f = Unit {0}
Backed l (x ∷ xs) f =
    (x.lots ≤ f x.seller x.ticker) × (x.price * x.lots ≤ f x.buyer (quote_of l x.ticker).currency) × Backed l xs (exchanged l x f)

pub record Made (l : Listing) (ms : List Move) (xs : List Trade) (b : Book) (rest : Sums) : Type 0 where
  pub granted : Granted ms b
  pub blocked : Everywhere (λ h a. (moved_all ms b).blocked h a ≡ rest h a)
  pub sums : (f : Sums) → Everywhere (λ h a. b.free h a + b.blocked h a ≡ f h a)
      → Everywhere (λ h a. (moved_all ms b).free h a + (moved_all ms b).blocked h a ≡ exchanges l xs f h a)
  pub covered : (f : Sums) → Everywhere (λ h a. b.free h a + b.blocked h a ≡ f h a) → Backed l xs f

-- the movements ms make the trades xs and take what is blocked from k to k', whatever else is blocked
abbrev pub Takes : Listing → List Move → List Trade → Sums → Sums → Type 0
Takes l ms xs k k' =
    (b : Book) (base : Sums) → Everywhere (λ h a. b.blocked h a ≡ base h a + k h a) → Made l ms xs b (λ h a. base h a + k' h a)

-- ---- composing
granted-join : (ms ns : List Move) (b : Book) → Granted ms b → Granted ns (moved_all ms b) → Granted (ms ++ ns) b
granted-join [] ns b g k = k
granted-join (m ∷ ms) ns b g k = (g.0, granted-join ms ns (moved b m) g.1 k)

moved-join : (ms ns : List Move) (b : Book) → moved_all (ms ++ ns) b ≡ moved_all ns (moved_all ms b)
moved-join [] ns b = refl
moved-join (m ∷ ms) ns b = moved-join ms ns (moved b m)

exchanges-join : (l : Listing) (xs ys : List Trade) (f : Sums) → exchanges l (xs ++ ys) f ≡ exchanges l ys (exchanges l xs f)
exchanges-join l [] ys f = refl
exchanges-join l (x ∷ xs) ys f = exchanges-join l xs ys (exchanged l x f)

backed-join : (l : Listing) (xs ys : List Trade) (f : Sums) → Backed l xs f → Backed l ys (exchanges l xs f) → Backed l (xs ++ ys) f
backed-join l [] ys f p q = q
backed-join l (x ∷ xs) ys f p q = (p.0, p.1, backed-join l xs ys (exchanged l x f) p.2 q)

pub made-join : (l : Listing) (ms ns : List Move) (xs ys : List Trade) (b : Book) (k k' : Sums) → Made l ms xs b k → Made l ns ys (moved_all ms b) k' → Made l (ms ++ ns) (xs ++ ys) b k'
made-join l ms ns xs ys b k k' p q = record {
  granted = granted-join ms ns b p.granted q.granted;
  blocked = λ h a i j. ap (λ (z : Book). z.blocked h a) (moved-join ms ns b) ∙ q.blocked h a i j;
  sums = λ f e h a i j.
      ap (λ (z : Book). z.free h a + z.blocked h a) (moved-join ms ns b)
      ∙ q.sums (exchanges l xs f) (p.sums f e) h a i j
      ∙ sym (ap (λ (z : Sums). z h a) (exchanges-join l xs ys f));
  covered = λ f e. backed-join l xs ys f (p.covered f e) (q.covered (exchanges l xs f) (p.sums f e));
}

pub takes-join : (l : Listing) (ms ns : List Move) (xs ys : List Trade) (k k' k'' : Sums) → Takes l ms xs k k' → Takes l ns ys k' k'' → Takes l (ms ++ ns) (xs ++ ys) k k''
takes-join l ms ns xs ys k k' k'' p q b base e = let m = p b base e in made-join l ms ns xs ys b _ _ m (q (moved_all ms b) base m.blocked)

pub takes_none : (l : Listing) (k : Sums) → Takes l [] [] k k
takes_none l k b base e = record { granted = tt; blocked = e; sums = λ f g. g; covered = λ f g. tt }

pub made-with : (l : Listing) (ms : List Move) (xs : List Trade) (b : Book) (k k' : Sums) → Everywhere (λ h a. k h a ≡ k' h a) → Made l ms xs b k → Made l ms xs b k'
made-with l ms xs b k k' e m = record { granted = m.granted; blocked = λ h a i j. m.blocked h a i j ∙ e h a i j; sums = m.sums; covered = m.covered }

-- the same movements, with e blocked beside
pub takes_beside : (l : Listing) (ms : List Move) (xs : List Trade) (e k k' u u' : Sums)
    → Everywhere (λ h a. u h a ≡ k h a + e h a) → Everywhere (λ h a. u' h a ≡ k' h a + e h a) → Takes l ms xs k k' → Takes l ms xs u u'
takes_beside l ms xs e k k' u u' p q t b base s =
    made-with l ms xs b _ _ (λ h a i j. omega (arith, q h a i j)) (t b (λ h a. base h a + e h a) (λ h a i j. omega (arith, s h a i j, p h a i j)))

-- where nothing else is blocked
pub made-from : (l : Listing) (ms : List Move) (xs : List Trade) (k k' : Sums) → Takes l ms xs k k' → (b : Book) → Everywhere (λ h a. b.blocked h a ≡ k h a) → Made l ms xs b k'
made-from l ms xs k k' t b e = made-with l ms xs b _ _ (λ h a i j. omega arith) (t b (λ h a. 0) (λ h a i j. omega (arith, e h a i j)))

pub takes-each : {X : Type 0} (l : Listing) (ms : X → List Move) (xs : X → List Trade) (k k' : X → Sums) (ts : List X)
    → AllByRecursion (λ t. Takes l (ms t) (xs t) (k t) (k' t)) ts
    → Takes l (joined ms ts) (joined xs ts) (λ h a. sum_of (λ t. k t h a) ts) (λ h a. sum_of (λ t. k' t h a) ts)
takes-each l ms xs k k' [] p = takes_none l (λ h a. 0)
takes-each l ms xs k k' (t ∷ ts) p =
    takes-join l (ms t) (joined ms ts) (xs t) (joined xs ts) _ (λ h a. k' t h a + sum_of (λ t. k t h a) ts) _
    (takes_beside l (ms t) (xs t) (λ h a. sum_of (λ t. k t h a) ts) (k t) (k' t) _ _ (λ h a i j. refl) (λ h a i j. refl) p.0)
    (takes_beside l (joined ms ts) (joined xs ts) (λ h a. k' t h a) (λ h a. sum_of (λ t. k t h a) ts) (λ h a. sum_of (λ t. k' t h a) ts) _ _ (λ h a i j. omega arith) (λ h a i j. omega arith)
    (takes-each l ms xs k k' ts p.1))

-- ---- one movement
granted-release : (b : Book) (h a n : ℕ) → h < 16 → a < 12 → n ≤ b.blocked h a → refusal b (move.Release h a n) ≡ None
granted-release b h a n i j le = grind (arith, nat_tests)

granted-pay : (b : Book) (h a n p : ℕ) → h < 16 → a < 12 → p < 16 → n ≤ b.blocked h a → refusal b (move.Pay h a n p) ≡ None
granted-pay b h a n p i j u le = grind (arith, nat_tests)

covers : (b : Book) (base : Sums) (h a n : ℕ) → h < 16 → a < 12 → Everywhere (λ x y. b.blocked x y ≡ base x y + at h a n x y) → n ≤ b.blocked h a
covers b base h a n i j e = omega (arith, e h a i j, at_here h a n)

pub takes-release : (l : Listing) (h a n : ℕ) → h < 16 → a < 12 → Takes l (move.Release h a n ∷ []) [] (at h a n) (λ x y. 0)
takes-release l h a n i j b base e = record {
  granted = (granted-release b h a n i j (covers b base h a n i j e), tt);
  blocked = λ x y u v. omega (arith, e x y u v);
  sums = λ f g x y u v. omega (arith, e x y u v, g x y u v);
  covered = λ f g. tt;
}

-- ---- a deal
-- what its settlement takes from what is blocked
abbrev pub uses : ℕ → Deal → Sums
uses currency d = λ h a. at d.trade.seller d.trade.ticker d.trade.lots h a + at d.trade.buyer currency (d.held * d.trade.lots) h a

pub record Payable (t : ℕ) (d : Deal) : Type 0 where
  pub ticker : d.trade.ticker ≡ t
  pub buyer : d.trade.buyer < 16
  pub seller : d.trade.seller < 16
  pub within : d.trade.price ≤ d.held

module _ (l : Listing) (d : Deal) (p : Payable d.trade.ticker d) (goods : d.trade.ticker < 12) (money : (quote_of l d.trade.ticker).currency < 12) where
  abbrev seller : ℕ
  seller = d.trade.seller

  abbrev buyer : ℕ
  buyer = d.trade.buyer

  abbrev ticker : ℕ
  ticker = d.trade.ticker

  abbrev currency : ℕ
  currency = (quote_of l d.trade.ticker).currency

  abbrev lots : ℕ
  lots = d.trade.lots

  abbrev cost : ℕ
  cost = d.trade.price * d.trade.lots

  abbrev held : ℕ
  held = d.held * d.trade.lots

  cost-within : cost ≤ held
  cost-within = mul-le-mul_right d.trade.lots p.within

  held-split : (h a : ℕ) → at buyer currency held h a ≡ at buyer currency cost h a + at buyer currency (held - cost) h a
  held-split h a =
      let c = cost-within in
      let e : held ≡ cost + (held - cost) = omega arith in
      ap (λ (i : ℕ). at buyer currency i h a) e ∙ at-add buyer currency cost (held - cost) h a

  pub takes-deal : Takes l (settlement currency d) (d.trade ∷ []) (uses currency d) (λ h a. 0)
  takes-deal b base e = record {
    granted = (
      granted-pay b seller ticker lots buyer p.seller goods p.buyer (omega (arith, e seller ticker p.seller goods, at_here seller ticker lots)),
      (
        granted-pay (moved b (move.Pay seller ticker lots buyer)) buyer currency cost seller p.buyer money p.seller (omega (arith, e buyer currency p.buyer money, at_here buyer currency held, cost-within)),
        (
          granted-release (moved (moved b (move.Pay seller ticker lots buyer)) (move.Pay buyer currency cost seller)) buyer currency (held - cost) p.buyer money (omega (arith, e buyer currency p.buyer money, at_here buyer currency held, at_here buyer currency cost, cost-within)),
          tt,
        ),
      ),
    );
    blocked = λ h a i j. omega (arith, e h a i j, held-split h a);
    sums = λ f g h a i j. omega (arith, e h a i j, g h a i j, held-split h a);
    covered = λ f g. (
      omega (arith, e seller ticker p.seller goods, g seller ticker p.seller goods, at_here seller ticker lots),
      omega (arith, e buyer currency p.buyer money, g buyer currency p.buyer money, at_here buyer currency held, cost-within),
      tt,
    );
  }

pub takes-deals : (l : Listing) (t : ℕ) (ds : List Deal) → t < 12 → (quote_of l t).currency < 12 → AllByRecursion (Payable t) ds
    → Takes l (settlements l t ds) (trades_of ds) (λ h a. sum_of (λ d. uses (quote_of l t).currency d h a) ds) (λ h a. 0)
takes-deals l t [] u v p = takes_none l (λ h a. 0)
takes-deals l t (d ∷ ds) u v p =
    takes-join l (settlement (quote_of l t).currency d) (settlements l t ds) (d.trade ∷ []) (trades_of ds) _ (λ h a. sum_of (λ d. uses (quote_of l t).currency d h a) ds) _
    (takes_beside l (settlement (quote_of l t).currency d) (d.trade ∷ []) (λ h a. sum_of (λ d. uses (quote_of l t).currency d h a) ds) (uses (quote_of l t).currency d) (λ h a. 0) _ _ (λ h a i j. refl) (λ h a i j. omega arith)
    (one t p.0 u v p.0.ticker))
    (takes-deals l t ds u v p.1)
  where
    one : (t : ℕ) → Payable t d → t < 12 → (quote_of l t).currency < 12 → d.trade.ticker ≡ t → Takes l (settlement (quote_of l t).currency d) (d.trade ∷ []) (uses (quote_of l t).currency d) (λ h a. 0)
    one t p u v e =
        subst (λ (z : ℕ). Takes l (settlement (quote_of l z).currency d) (d.trade ∷ []) (uses (quote_of l z).currency d) (λ h a. 0)) e
        (takes-deal l d (record { ticker = refl; buyer = p.buyer; seller = p.seller; within = p.within })
        (subst (λ (z : ℕ). z < 12) (sym e) u) (subst (λ (z : ℕ). (quote_of l z).currency < 12) (sym e) v))

-- ---- standing bids that are taken out
pub takes-freed : (l : Listing) (t : ℕ) (side : Side) (q : List Standing) → asset_of_lem l t side < 12 → AllByRecursion (λ x. x.holder < 16) q
    → Takes l (map (freeing l t side) q) [] (owing l t side q) (λ h a. 0)
takes-freed l t side [] v p = takes_none l (λ h a. 0)
takes-freed l t side (x ∷ q) v p =
    takes-join l (freeing l t side x ∷ []) (map (freeing l t side) q) [] [] _ (owing l t side q) _
    (takes_beside l (freeing l t side x ∷ []) [] (owing l t side q) (obliges l t side x) (λ h a. 0) _ _ (λ h a i j. refl) (λ h a i j. omega arith) (takes-release l _ _ _ p.0 v))
    (takes-freed l t side q v p.1)
