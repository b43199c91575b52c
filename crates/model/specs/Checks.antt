-- The checks of each call in their order. The first that fails refuses the call; a call that passes all is accepted.
use Rattle.std.specs.Prelude.{◌&&◌, ◌||◌, ◌∷◌, ◌++◌}
use Rattle.model.specs.Words.{ℕ, Bool, true, false, cond, not, leb, ltb, eqb, List, [], length, Option, Some, None, all_of, any_of, is_some}
use Rattle.model.specs.Market.{Session, by_session, is_closed, is_pre_trading, is_trading, is_post_trading, serves, Buy, Sell, Bid, Listing, Cause, ByFloor, ByRule, ByRegister}
use Rattle.model.specs.Market.{FloorRefusal, BadListing, SomethingBlocked, WrongSession, ShortStrip, NoHolderOrTicker, BeyondLimits}
use Rattle.model.specs.Market.{FormNotTaken, NoAverage, NumbersSpent, QueueFull, NoSuchBid, RuleRefusal, RegisterFault}
use Rattle.model.specs.Market.{Call, Start, Deposit, Withdraw, Place, Cancel, Open, EndTrading, EndPostTrading}
use Rattle.model.specs.Market.{most_numbers, queue_places, bid_room, opening_room, ticker_known}
use Rattle.model.specs.Queues.{named}
use Rattle.model.specs.Listings.{asset_of_lem}
use Rattle.model.specs.World.{World, queue, average_of}
use Rattle.model.specs.Bidding.{question, rest, owed}
use Rattle.register.specs.Books.{Book, sum_to, holder_known_lem}
use Rattle.register.specs.Moves as move
use Rattle.register.specs.Moves.{refusal, need}
use Rattle.rules.specs.Bids.{most_price, is_price_lem, is_lots_lem}
use Rattle.rules.specs.Rules.{Rule}

-- ---- a check is the cause it refuses by, or None where it is passed
abbrev pub Check : Type 0
Check = Option Cause

-- by the floor itself, where the test fails
abbrev pub must : Bool → FloorRefusal → Check
must test e = need test (ByFloor e) None

-- by the market rule and by the register, as they answer
abbrev pub by_rule : Option RuleRefusal → Check
by_rule None = None
by_rule (Some e) = Some (ByRule e)

abbrev pub by_register : Option RegisterFault → Check
by_register None = None
by_register (Some e) = Some (ByRegister e)

-- the first that fails
abbrev pub or_next : Check → Check → Check
or_next (Some e) next = Some e
or_next None next = next

abbrev pub first_failing : List Check → Check
first_failing [] = None
first_failing (c ∷ cs) = or_next c (first_failing cs)

-- ---- what is tested
-- every currency is 0 to 3, and every settlement price at most the highest price; 0 means none
abbrev pub valid_listing : Listing → Bool
valid_listing l = all_of (λ q. leb q.currency 3 && leb q.settlement most_price) l.quotes

abbrev pub nothing_blocked : Book → Bool
nothing_blocked b = eqb (sum_to 16 (λ h. sum_to 12 (λ a. b.blocked h a))) 0

-- the price, where one is stated, and the lots are within the limits
abbrev pub within_limits : Bid → Bool
within_limits b = elim b.price [ Some p ↦ is_price_lem p | None ↦ true ] && is_lots_lem b.lots

-- pre-trading takes priced, partial, keep bids; trading takes every form; post-trading takes partial bids without a price
abbrev pub form_taken : Session → Bid → Bool
form_taken session b =
    by_session false (is_some b.price && not b.entire && b.keep) true (not (is_some b.price) && not b.entire) session

-- in post-trading the ticker has an average
abbrev pub has_average_lem : World → Bid → Bool
has_average_lem w b = not (is_post_trading w.session) || is_some (average_of (w.sheets b.ticker))

-- no rest would stand, or its queue has a place left
abbrev pub has_place_lem : World → Bid → Bool
has_place_lem w b = eqb (rest w b) 0 || ltb (length (queue w b.ticker b.side)) queue_places

-- the bid's holder can block what it owes; an obligation of 0 blocks nothing
abbrev pub funds : World → Bid → Check
funds w b = cond (eqb (owed w b) 0) None (by_register (refusal w.book (move.Block b.holder (asset_of_lem w.listing b.ticker b.side) (owed w b))))

abbrev pub is_standing : World → ℕ → ℕ → ℕ → Bool
is_standing w holder t number = any_of (named holder number) (queue w t Buy ++ queue w t Sell)

-- ---- the checks of each call
abbrev pub checks : Rule → World → Call → List Check
checks r w (Start listing) =
    must (is_closed w.session) WrongSession
    ∷ must (valid_listing listing) BadListing
    ∷ must (nothing_blocked w.book) SomethingBlocked
    ∷ []
checks r w (Deposit holder asset amount) = by_register (refusal w.book (move.Deposit holder asset amount)) ∷ []
checks r w (Withdraw holder asset amount) = by_register (refusal w.book (move.Withdraw holder asset amount)) ∷ []
checks r w (Place shown b room) =
    must (serves shown w.session) WrongSession
    ∷ must (leb bid_room room) ShortStrip
    ∷ must (holder_known_lem b.holder && ticker_known b.ticker) NoHolderOrTicker
    ∷ must (within_limits b) BeyondLimits
    ∷ must (form_taken w.session b) FormNotTaken
    ∷ must (has_average_lem w b) NoAverage
    ∷ must (ltb w.given most_numbers) NumbersSpent
    ∷ by_rule (r.on_bid (question w b))
    ∷ must (has_place_lem w b) QueueFull
    ∷ funds w b
    ∷ []
checks r w (Cancel shown holder t number) =
    must (serves shown w.session) WrongSession
    ∷ must (holder_known_lem holder && ticker_known t) NoHolderOrTicker
    ∷ must (is_standing w holder t number) NoSuchBid
    ∷ []
checks r w (Open room) =
    must (is_pre_trading w.session) WrongSession
    ∷ must (leb opening_room room) ShortStrip
    ∷ []
checks r w EndTrading = must (is_trading w.session) WrongSession ∷ []
checks r w EndPostTrading = must (is_post_trading w.session) WrongSession ∷ []

-- why a call is refused; None where it is accepted
abbrev pub why : Rule → World → Call → Option Cause
why r w c = first_failing (checks r w c)
