-- The words behind `bid` and `cancel`.
use Rattle.std.specs.Prelude.{ℕ, Bool, true, false, cond, List, Some, None, Ok, Err, codes, Option, Result}
use Rattle.rules.specs.declared.bid.Side.{Side}
use Rattle.rules.specs.declared.bid.Side.TheVariants.{Buy, Sell}
use Rattle.model.specs.Market.{bid_room}
use Rattle.model.specs.declared.words.Session.{Session}
use Rattle.model.specs.declared.words.Session.TheVariants.{PreTrading, Trading, PostTrading}
use Rattle.model.specs.declared.calls.Call.{Call}
use Rattle.model.specs.declared.calls.Call.TheVariants.{Place, Cancel}
use Rattle.script.specs.declared.bids.Fill.{Fill}
use Rattle.script.specs.declared.bids.Fill.TheVariants.{Partial, Entire}
use Rattle.script.specs.declared.bids.Rest.{Rest}
use Rattle.script.specs.declared.bids.Rest.TheVariants.{Keep, Withdraw}
use Rattle.script.specs.declared.reading.LineFault.{LineFault}
use Rattle.script.specs.declared.reading.LineFault.TheVariants.{NoSession, NoSide, NoFill, NoRest}
use Rattle.script.specs.Lines.{same_word}
use Rattle.script.specs.Reading.{and_then, number_of, most32, taken, take_account_lem, ended, last_or}

-- the session whose pass is shown
abbrev pub session_of : List ℕ → Result Session LineFault
session_of w =
    cond (same_word w (codes "pre")) (Ok PreTrading)
    (cond (same_word w (codes "trading")) (Ok Trading)
    (cond (same_word w (codes "post")) (Ok PostTrading)
    (Err NoSession)))

abbrev pub side_of : List ℕ → Result Side LineFault
side_of w = cond (same_word w (codes "buy")) (Ok Buy) (cond (same_word w (codes "sell")) (Ok Sell) (Err NoSide))

-- a price, or - for none
abbrev pub price_of_lem : List ℕ → Result (Option ℕ) LineFault
price_of_lem w = cond (same_word w (codes "-")) (Ok None) (and_then (number_of most32 w) (λ n. Ok (Some n)))

abbrev pub fill_of : List ℕ → Result Fill LineFault
fill_of w = cond (same_word w (codes "partial")) (Ok Partial) (cond (same_word w (codes "entire")) (Ok Entire) (Err NoFill))

abbrev pub rest_of : List ℕ → Result Rest LineFault
rest_of w = cond (same_word w (codes "keep")) (Ok Keep) (cond (same_word w (codes "withdraw")) (Ok Withdraw) (Err NoRest))

-- a bid says whether it is entire, and whether its rest is kept
abbrev pub is_entire : Fill → Bool
is_entire Partial = false
is_entire Entire = true

abbrev pub is_kept : Rest → Bool
is_kept Keep = true
is_kept Withdraw = false

-- SESSION HOLDER TICKER
abbrev pub take_place_lem : List (List ℕ) → Result ((Session × ℕ × ℕ) × List (List ℕ)) LineFault
take_place_lem ws = and_then (taken session_of ws) (λ s. and_then (take_account_lem s.1) (λ p. Ok ((s.0, p.0.0, p.0.1), p.1)))

-- buy|sell PRICE|- LOTS
abbrev pub take_terms_lem : List (List ℕ) → Result ((Side × Option ℕ × ℕ) × List (List ℕ)) LineFault
take_terms_lem ws =
    and_then (taken side_of ws) (λ s.
    and_then (taken price_of_lem s.1) (λ p.
    and_then (taken (number_of most32) p.1) (λ n.
    Ok ((s.0, p.0, n.0), n.1))))

-- partial|entire keep|withdraw
abbrev pub take_form_lem : List (List ℕ) → Result ((Bool × Bool) × List (List ℕ)) LineFault
take_form_lem ws =
    and_then (taken fill_of ws) (λ f.
    and_then (taken rest_of f.1) (λ r.
    Ok ((is_entire f.0, is_kept r.0), r.1)))

abbrev pub bid_of : List (List ℕ) → Result Call LineFault
bid_of ws =
    and_then (take_place_lem ws) (λ p.
    and_then (take_terms_lem p.1) (λ t.
    and_then (take_form_lem t.1) (λ f.
    and_then (last_or bid_room f.1) (λ n.
    Ok (Place p.0.0 (record {
      holder = p.0.1;
      ticker = p.0.2;
      side = t.0.0;
      price = t.0.1;
      lots = t.0.2;
      entire = f.0.0;
      keep = f.0.1;
    }) n)))))

abbrev pub cancel_of : List (List ℕ) → Result Call LineFault
cancel_of ws =
    and_then (take_place_lem ws) (λ p.
    and_then (taken (number_of most32) p.1) (λ n.
    and_then (ended n.1) (λ _.
    Ok (Cancel p.0.0 p.0.1 p.0.2 n.0))))
