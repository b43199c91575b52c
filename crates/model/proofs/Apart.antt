-- A floor that is taken apart.
use Rattle.model.specs.Words.{ℕ, refl, true, false, List, [], map, joined, AllByRecursion}
use Rattle.std.proofs.Common.{◌≡◌, ◌∷◌, ◌++◌, ◌⊎◌, sym, ap, ◌∙◌, subst, inl, inr, arith}
use Rattle.std.proofs.lemmas.Bool.{cases_Bool}
use Rattle.model.specs.Market.{Side, Buy, Sell, Standing, is_closed, tickers}
use Rattle.model.specs.World.{World, queue, made}
use Rattle.model.specs.Movements.{Granted, moved_all, freeing, void_moves, taken_apart}
use Rattle.model.specs.Tally.{Tally, blank}
use Rattle.model.specs.Sound.{Sound}
use Rattle.model.specs.Law.{Together}
use Rattle.model.specs.Corollaries.{GivenBack, FloorsGiveAllBack}
use Rattle.model.proofs.Quiet.{all-tickers, none-owing, void-made}
use Rattle.model.proofs.Tying.{going_on}
use Rattle.register.specs.Books.{Book}
use Rattle.register.specs.Moves.{Move}
use Rattle.rules.specs.Rules.{Rule}

joined-none : {X Y : Type 0} (f : X → List Y) (xs : List X) → AllByRecursion (λ x. f x ≡ []) xs → joined f xs ≡ []
joined-none f [] a = refl
joined-none f (x ∷ xs) a = ap (λ (z : List _). z ++ joined f xs) a.0 ∙ joined-none f xs a.1

-- a closed floor has nothing to release
pub void-nothing : (w : World) → ((t : ℕ) (side : Side) → queue w t side ≡ []) → void_moves w ≡ []
void-nothing w e =
    joined-none (λ t. map (freeing w.listing t Buy) (queue w t Buy) ++ map (freeing w.listing t Sell) (queue w t Sell)) tickers
    (all-tickers (λ t. map (freeing w.listing t Buy) (queue w t Buy) ++ map (freeing w.listing t Sell) (queue w t Sell) ≡ [])
    (λ t k. ap (λ (q : List Standing). map (freeing w.listing t Buy) q ++ map (freeing w.listing t Sell) (queue w t Sell)) (e t Buy) ∙ ap (map (freeing w.listing t Sell)) (e t Sell)))

-- in any session the register grants what is released
pub void-granted : (step : ℕ) (w : World) → Sound step w → Granted (void_moves w) w.book
void-granted step w s = by (cases_Bool (is_closed w.session))
  where
    by : (is_closed w.session ≡ true) ⊎ (is_closed w.session ≡ false) → Granted (void_moves w) w.book
    by (inl e) = subst (λ (ms : List Move). Granted ms w.book) (sym (void-nothing w (s.shut e))) tt
    by (inr e) = (void-made step w s e).granted

pub given_back : (r : Rule) (w : World) (y : Tally) → Together r w y → GivenBack w y
given_back r w y b = by (cases_Bool (is_closed w.session))
  where
    by : (is_closed w.session ≡ true) ⊎ (is_closed w.session ≡ false) → GivenBack w y
    by (inl e) =
        let empty = b.sound.shut e in
        let same : taken_apart w ≡ w.book = ap (λ (ms : List Move). moved_all ms w.book) (void-nothing w empty) in
        record {
          released = λ h a i j. ap (λ (z : Book). z.blocked h a) same ∙ b.tied.blocked h a i j ∙ none-owing w h a empty;
          free = λ h a i j. ap (λ (z : Book). z.free h a) same ∙ omega (arith, b.tied.sums h a i j, b.tied.blocked h a i j, none-owing w h a empty);
        }
    by (inr e) =
        let m = void-made r.step w b.sound e in
        record {
          released = m.blocked;
          free = λ h a i j. omega (arith, m.blocked h a i j, m.sums y.sums b.tied.sums h a i j);
        }

pub floors-give-all-back : FloorsGiveAllBack
floors-give-all-back r lawful b ready cs = given_back r _ _ (going_on.goes_on r lawful (made b) (blank b) (going_on.starts r b ready) cs)
