-- What an accepted call moves at the register, as a list of movements in their order.
use Rattle.std.specs.Prelude.{◌-◌, ◌*◌, ◌≡◌, ◌∷◌, ◌++◌}
use Rattle.model.specs.Words.{ℕ, ltb, eqb, List, [], map, joined, Some, None, only, kept}
use Rattle.model.specs.Market.{Side, Buy, Sell, Bid, Standing, Listing, tickers}
use Rattle.model.specs.Market.{Call, Start, Deposit, Withdraw, Place, Cancel, Open, EndTrading, EndPostTrading}
use Rattle.model.specs.Queues.{named}
use Rattle.model.specs.Matching.{Deal}
use Rattle.model.specs.Opening.{Opened, opening}
use Rattle.model.specs.Listings.{quote_of, asset_of_lem}
use Rattle.model.specs.World.{World, queue}
use Rattle.model.specs.Bidding.{limit_of, met, rest, owed}
use Rattle.register.specs.Books.{Book}
use Rattle.register.specs.Moves as move
use Rattle.register.specs.Moves.{Move, refusal, moved}
use Rattle.rules.specs.Bids.{obligation_of}

-- ---- several movements, one after the other
abbrev pub moved_all : List Move → Book → Book
moved_all [] b = b
moved_all (m ∷ ms) b = moved_all ms (moved b m)

-- the register grants each at its turn
abbrev pub Granted : List Move → Book → Type 0
Granted [] b = Unit {0}
Granted (m ∷ ms) b = (refusal b m ≡ None) × Granted ms (moved b m)

-- ---- a deal: the seller's block pays the lots, the buyer's block pays the price, and what the buyer had blocked beyond it is released
abbrev pub settlement : ℕ → Deal → List Move
settlement currency d =
    let x = d.trade in
    move.Pay x.seller x.ticker x.lots x.buyer
    ∷ move.Pay x.buyer currency (x.price * x.lots) x.seller
    ∷ move.Release x.buyer currency (d.held * x.lots - x.price * x.lots)
    ∷ []

abbrev pub settlements : Listing → ℕ → List Deal → List Move
settlements listing t deals = joined (settlement (quote_of listing t).currency) deals

-- ---- a bid blocks what it owes, settles its deals, and releases the block of the lots that neither traded nor stand
abbrev pub bid_moves : World → Bid → List Move
bid_moves w b =
    let asset = asset_of_lem w.listing b.ticker b.side in
    only (ltb 0 (owed w b)) (move.Block b.holder asset (owed w b))
    ++ settlements w.listing b.ticker (met w b).deals
    ++ only (eqb (rest w b) 0) (move.Release b.holder asset (obligation_of b.side (limit_of w b) (met w b).left))

-- ---- a standing bid that is taken out has what it obliges to released
abbrev pub freeing : Listing → ℕ → Side → Standing → Move
freeing listing t side x = move.Release x.holder (asset_of_lem listing t side) (obligation_of side (Some x.price) x.lots)

-- the bids of a ticker that a cancellation takes out, of one side, and of both
abbrev pub cancelled : World → ℕ → ℕ → ℕ → Side → List Standing
cancelled w holder t number side = kept (named holder number) (queue w t side)

abbrev pub cancel_moves : World → ℕ → ℕ → ℕ → List Move
cancel_moves w holder t number =
    map (freeing w.listing t Buy) (cancelled w holder t number Buy) ++ map (freeing w.listing t Sell) (cancelled w holder t number Sell)

-- all standing bids, ticker by ticker in rising order
abbrev pub void_moves : World → List Move
void_moves w = joined (λ t. map (freeing w.listing t Buy) (queue w t Buy) ++ map (freeing w.listing t Sell) (queue w t Sell)) tickers

-- ---- the opening, ticker by ticker in rising order
abbrev pub opened_at : World → ℕ → Opened
opened_at w t = opening t (queue w t Buy) (queue w t Sell)

abbrev pub open_moves : World → List Move
open_moves w = joined (λ t. settlements w.listing t (opened_at w t).deals) tickers

-- ---- each call
abbrev pub moves_made : World → Call → List Move
moves_made w (Start listing) = []
moves_made w (Deposit holder asset amount) = move.Deposit holder asset amount ∷ []
moves_made w (Withdraw holder asset amount) = move.Withdraw holder asset amount ∷ []
moves_made w (Place shown b room) = bid_moves w b
moves_made w (Cancel shown holder t number) = cancel_moves w holder t number
moves_made w (Open room) = open_moves w
moves_made w EndTrading = void_moves w
moves_made w EndPostTrading = void_moves w

-- taking a floor apart gives back its register with all standing bids released
abbrev pub taken_apart : World → Book
taken_apart w = moved_all (void_moves w) w.book
