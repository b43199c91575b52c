-- The words behind `start`: a listing.
use Rattle.std.specs.Prelude.{ℕ, zero, suc, List, [], ◌∷◌, Some, None, Ok, Err, Result}
use Rattle.model.specs.declared.words.Quote.{Quote}
use Rattle.model.specs.declared.calls.Call.{Call}
use Rattle.model.specs.declared.calls.Call.TheVariants.{Start}
use Rattle.script.specs.declared.reading.LineFault.{LineFault}
use Rattle.script.specs.declared.reading.LineFault.TheVariants.{NoQuote}
use Rattle.script.specs.Lines.{cut_at}
use Rattle.script.specs.Reading.{and_then, number_of, most8, most32, taken, ended}

-- CURRENCY:PRICE
abbrev pub quote_of : List ℕ → Result Quote LineFault
quote_of w =
    elim (cut_at 58 w) [
      | None ↦ Err NoQuote
      | Some p ↦ and_then (number_of most8 p.0) (λ c. and_then (number_of most32 p.1) (λ s. Ok (record { currency = c; settlement = s })))
    ]

-- n quotes, and the words behind them
unfoldable pub take_quotes_lem : ℕ → List (List ℕ) → Result (List Quote × List (List ℕ)) LineFault
take_quotes_lem zero ws = Ok ([], ws)
take_quotes_lem (suc n) ws = and_then (taken quote_of ws) (λ q. and_then (take_quotes_lem n q.1) (λ qs. Ok (q.0 ∷ qs.0, qs.1)))

-- a listing has a quote for each of the tickers 4 to 11
abbrev pub start_of : List (List ℕ) → Result Call LineFault
start_of ws = and_then (take_quotes_lem 8 ws) (λ q. and_then (ended q.1) (λ _. Ok (Start (record { quotes = q.0 }))))
