-- One trade of a newcomer: the slips that it exchanges are those of its deal. Assumes nothing.
use Rattle.std.proofs.Common.{◌≡◌, ℕ, ◌-◌, ◌*◌, ◌≤◌, min, true, List, Some, None, Option, sym, refl, ap, ◌∙◌, subst, mul-le-mul_right, arith}
use Rattle.std.proofs.lemmas.Bool.Decides.{nat_tests}
use Rattle.register.specs.Books.{Book}
use Rattle.register.specs.Moves.{Move}
use Rattle.register.specs.declared.slips.Slip.{Slip}
use Rattle.rules.specs.declared.bid.Side.{Side}
use Rattle.rules.specs.declared.bid.Side.TheVariants.{Buy, Sell}
use Rattle.rules.specs.Bids.{obligation_of}
use Rattle.model.specs.declared.words.Bid.{Bid}
use Rattle.model.specs.declared.words.Standing.{Standing}
use Rattle.model.specs.Market.{other}
use Rattle.model.specs.Matching.{crosses, taking}
use Rattle.model.specs.Movements.{Granted, settlement}
use Rattle.matching.specs.declared.newcomers.Newcomer.{Newcomer}
use Rattle.matching.specs.Exchanges.{exchange_by}
use Rattle.matching.specs.Dealing.{asset_by, mine_of, deal_with, used_by, used_of}
use Rattle.matching.specs.Meetings.{cash_of, Payable, Settles}

-- what the standing bid no longer obliges to
abbrev pub theirs_of : Newcomer → Standing → ℕ → Slip
theirs_of c x n =
    record { holder = x.holder; asset = asset_by c.currency c.bid.ticker (other c.bid.side); amount = obligation_of (other c.bid.side) (Some x.price) n }

module _ (number currency : ℕ) (b : Bid) (limit : Option ℕ) (x : Standing) (n : ℕ) where
  mine : Side → Slip
  mine side = record { holder = b.holder; asset = asset_by currency b.ticker side; amount = used_by side limit x.price n }

  theirs : Side → Slip
  theirs side = record { holder = x.holder; asset = asset_by currency b.ticker (other side); amount = obligation_of (other side) (Some x.price) n }

  exchanged : (side : Side) → exchange_by side (mine side) (theirs side) (x.price * n) ≡ settlement currency (taking number b limit side x n)
  unfolding mine theirs
  exchanged Buy = refl
  exchanged Sell = refl

covers : (side : Side) (currency : ℕ) (b : Bid) (limit : Option ℕ) (x : Standing) (n : ℕ) → crosses side limit x.price ≡ true
    → x.price * n ≤ (cash_of side (mine 0 currency b limit x n side) (theirs 0 currency b limit x n side)).amount
unfolding mine theirs
covers Buy currency b (Some l) x n e = mul-le-mul_right n (grind (arith, nat_tests))
covers Buy currency b None x n e = omega arith
covers Sell currency b limit x n e = omega arith

-- the part that is cut off the newcomer's slip
pub mine-is : (c : Newcomer) (x : Standing) (n : ℕ) (k : Book) (s : Slip) (r : Slip) (u : ℕ) → Settles c x n k s → u ≡ used_of c x.price n
    → r ≡ record { holder = s.holder; asset = s.asset; amount = min u s.amount } → r ≡ mine_of c (used_of c x.price n)
mine-is c x n k s r u st e cut =
    let enough = st.enough in
    let least : min u s.amount ≡ used_of c x.price n = omega arith in
    cut ∙ (λ i. record { holder = (st.slip i).holder; asset = (st.slip i).asset; amount = least i })

-- what is left of it
pub rest-is : (c : Newcomer) (x : Standing) (n : ℕ) (k : Book) (s : Slip) (r : Slip) (u : ℕ) → Settles c x n k s → u ≡ used_of c x.price n
    → r ≡ record { holder = s.holder; asset = s.asset; amount = s.amount - u } → r ≡ mine_of c (s.amount - used_of c x.price n)
rest-is c x n k s r u st e cut = cut ∙ (λ i. record { holder = (st.slip i).holder; asset = (st.slip i).asset; amount = s.amount - e i })

pub exchange-is : (c : Newcomer) (x : Standing) (n : ℕ) (m t : Slip) (worth : ℕ) → m ≡ mine_of c (used_of c x.price n) → t ≡ theirs_of c x n → worth ≡ x.price * n
    → exchange_by c.bid.side m t worth ≡ settlement c.currency (deal_with c x n)
unfolding mine theirs
exchange-is c x n m t worth em et ew =
    (λ i. exchange_by c.bid.side (em i) (et i) (ew i)) ∙ exchanged c.number c.currency c.bid c.limit x n c.bid.side

pub payable : (c : Newcomer) (x : Standing) (n : ℕ) (k : Book) (s m t : Slip) (worth : ℕ) → Settles c x n k s
    → m ≡ mine_of c (used_of c x.price n) → t ≡ theirs_of c x n → worth ≡ x.price * n → Payable c.bid.side m t worth k
unfolding mine theirs
payable c x n k s m t worth st em et ew =
    record {
      granted = subst (λ (ms : List Move). Granted ms k) (sym (exchange-is c x n m t worth em et ew)) st.granted;
      enough = let h = covers c.bid.side c.currency c.bid c.limit x n st.crossed in
          let same = ap (λ (z : Slip). (cash_of c.bid.side z t).amount) em ∙ ap (λ (z : Slip). (cash_of c.bid.side (mine_of c (used_of c x.price n)) z).amount) et in
          omega (arith, h, same, ew);
    }
