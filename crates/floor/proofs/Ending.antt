-- The end of a session, and taking a floor apart. Assumes nothing.
use Rattle.std.proofs.Common.{◌≡◌, ℕ, ◌<◌, Bool, true, false, cond, ◌⊎◌, List, [], ◌∷◌, ◌++◌, map, Some, None, Option, sym, refl, ◌∙◌, subst, inl, inr, arith}
use Rattle.std.specs.List.{flat_map, AllByRecursion}
use Rattle.std.proofs.lemmas.Bool.{cases_Bool}
use Rattle.register.specs.Moves.{Move}
use Rattle.rules.specs.declared.bid.Side.TheVariants.{Buy, Sell}
use Rattle.rules.specs.Rules.{Rule}
use Rattle.model.specs.declared.words.Session.{Session}
use Rattle.model.specs.declared.calls.Call.{Call}
use Rattle.model.specs.declared.calls.Call.TheVariants.{EndTrading, EndPostTrading}
use Rattle.model.specs.declared.calls.Answer.TheVariants.{Done, Refused}
use Rattle.model.specs.declared.faults.Cause.{Cause}
use Rattle.model.specs.declared.faults.FloorRefusal.TheVariants.{WrongSession}
use Rattle.model.specs.Market.{is_closed, tickers}
use Rattle.model.specs.Movements.{Granted, moved_all, void_moves, freeing}
use Rattle.model.specs.World.{World, queue}
use Rattle.model.specs.Checks.{Check, must, why, or_next}
use Rattle.model.specs.Calls.{after, answer, next, decided, void_sheet, fault_of_lem, accepted}
use Rattle.model.specs.Sound.{Sound}
use Rattle.model.proofs.Quiet.{all-tickers, void-made, end-trading-open, end-post-open}
use Rattle.model.proofs.Sums.{by_side}
use Rattle.floor.specs.declared.events.Event.{Event}
use Rattle.floor.specs.declared.events.Event.TheVariants as event
use Rattle.floor.specs.Events.{runs_in, leads_to}
use Rattle.floor.specs.Ends.{ended_by, NothingStands}

none-joined : {X Y : Type 0} (f : X → List Y) (xs : List X) → AllByRecursion (λ x. f x ≡ []) xs → flat_map f xs ≡ []
none-joined f [] a = refl
none-joined f (x ∷ xs) a = (λ i. a.0 i ++ flat_map f xs) ∙ none-joined f xs a.1

-- in any session the register grants that all bids are released: a closed floor has none
freed : World → ℕ → List Move
freed w t = map (freeing w.listing t Buy) (queue w t Buy) ++ map (freeing w.listing t Sell) (queue w t Sell)

pub void-granted : (step : ℕ) (w : World) → Sound step w → Granted (void_moves w) w.book
unfolding freed
void-granted step w s = by (cases_Bool (is_closed w.session))
  where
    empty : (t : ℕ) → is_closed w.session ≡ true → freed w t ≡ []
    empty t c = λ i. map (freeing w.listing t Buy) (s.shut c t Buy i) ++ map (freeing w.listing t Sell) (s.shut c t Sell i)

    by : (is_closed w.session ≡ true) ⊎ (is_closed w.session ≡ false) → Granted (void_moves w) w.book
    by (inl c) =
        let none : void_moves w ≡ [] = none-joined (freed w) tickers (all-tickers (λ t. freed w t ≡ []) (λ t k. empty t c)) in
        subst (λ (ms : List Move). Granted ms w.book) (sym none) tt
    by (inr o) = (void-made step w s o).granted

pub void-blocked : (step : ℕ) (w : World) → Sound step w → is_closed w.session ≡ false → (h a : ℕ) → h < 16 → a < 12 → (moved_all (void_moves w) w.book).blocked h a ≡ 0
void-blocked step w s o h a i j = (void-made step w s o).blocked h a i j

-- ---- the two ends
-- the world with every bid void, in a session
abbrev voided : World → Session → World
voided w session = record { book = moved_all (void_moves w) w.book; session = session; listing = w.listing; given = w.given; sheets = λ t. void_sheet (w.sheets t) }

-- a call that ends a session by an event
pub record Ends (ev : Event) (c : Call) : Type 0 where
  pub check : (r : Rule) (w : World) → why r w c ≡ or_next (must (runs_in ev w.session) WrongSession) None
  pub done : (w : World) → accepted w c ≡ Done
  pub world : (w : World) → next w c ≡ voided w (leads_to ev w.session)
  pub opened : (r : Rule) (w : World) → why r w c ≡ None → is_closed w.session ≡ false

pub ends-trading : Ends event.EndTrading EndTrading
ends-trading = record { check = λ r w. refl; done = λ w. refl; world = λ w. refl; opened = end-trading-open }

pub ends-post-trading : Ends event.EndPostTrading EndPostTrading
ends-post-trading = record { check = λ r w. refl; done = λ w. refl; world = λ w. refl; opened = end-post-open }

module _ (ev : Event) (c : Call) (ends : Ends ev c) (r : Rule) (w : World) where
  pub end-why : why r w c ≡ must (runs_in ev w.session) WrongSession
  end-why = ends.check r w ∙ alone (must (runs_in ev w.session) WrongSession)
    where
      alone : (x : Check) → or_next x None ≡ x
      alone None = refl
      alone (Some e) = refl

  pub end_after : ended_by ev w ≡ after r w c
  unfolding after
  end_after = by (runs_in ev w.session) ∙ sym (λ i. decided (ends.check r w i) (ends.world w i) (λ e. w))
    where
      by : (b : Bool) → cond b (voided w (leads_to ev w.session)) w ≡ decided (or_next (must b WrongSession) None) (voided w (leads_to ev w.session)) (λ e. w)
      by true = refl
      by false = refl

  pub end-empties : (step : ℕ) → Sound step w → answer r w c ≡ Done → NothingStands (after r w c)
  unfolding answer after
  end-empties step s e = by (why r w c) refl e
    where
      by : (o : Option Cause) → why r w c ≡ o → decided o (accepted w c) (λ e. Refused (fault_of_lem c e)) ≡ Done → NothingStands (decided o (next w c) (λ e. w))
      by None p q = subst NothingStands (sym (ends.world w)) (record {
        queues = λ t. by_side (λ side. queue (voided w (leads_to ev w.session)) t side ≡ []) refl refl;
        blocked = void-blocked step w s (ends.opened r w p);
      })
      by (Some x) p q = absurd (let z : ◌≡◌ {A = ℕ} 0 1 = cc in omega arith)
