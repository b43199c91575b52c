-- Every command is read from the line that is written for it.
use Rattle.std.proofs.Common.{◌≡◌, ℕ, ◌≤◌, List, [], ◌∷◌, map, Some, Ok, codes, decimal, Option, Result, sym, refl, ap, ◌∙◌, arith}
use Rattle.std.specs.List.{AllByRecursion}
use Rattle.rules.specs.declared.bid.Side.{Side}
use Rattle.model.specs.declared.calls.Call.{Call}
use Rattle.model.specs.declared.calls.Call.TheVariants.{Start, Deposit, Withdraw, Place, Cancel, Open, EndTrading, EndPostTrading}
use Rattle.model.specs.declared.words.Bid.{Bid}
use Rattle.model.specs.declared.words.Listing.{Listing}
use Rattle.model.specs.declared.words.Session.{Session}
use Rattle.script.specs.declared.commands.Command.{Command}
use Rattle.script.specs.declared.commands.Command.TheVariants as command
use Rattle.script.specs.declared.reading.LineFault.{LineFault}
use Rattle.script.specs.Bids.{session_of, side_of, price_of_lem, take_place_lem, take_terms_lem, bid_of, cancel_of}
use Rattle.script.specs.Commands.{parsed, movement_of}
use Rattle.script.specs.Lines.{same_word}
use Rattle.script.specs.Listings.{take_quotes_lem, start_of}
use Rattle.script.specs.Reading.{and_then, number_of, taken, take_account_lem, last_or, most8, most32, most64}
use Rattle.lines.specs.Writing.{side_word, pass_word, price_word, fill_word, rest_word, quote_word, call_words, command_words, IsPass, PriceFits, CallFits, Fits, LinesAreReadBack}
use Rattle.lines.proofs.Plain.{Plain, keyword, words_back}
use Rattle.lines.proofs.Decimals.{plain-decimal, number-back}
use Rattle.lines.proofs.Parts.{take_back, pass-back, side-back, form-back, price-back, quotes-back, plain-pass, plain-side, plain-fill, plain-rest, plain-price, plain-quotes}

abbrev Words : Type 0
Words = List (List ℕ)

then : {A B : Type 0} (r : Result A LineFault) (f : A → Result B LineFault) (x : A) → r ≡ Ok x → and_then r f ≡ f x
then {A} r f x e = ap (λ (t : Result A LineFault). and_then t f) e

-- ---- numbers of their types
module _ (n : ℕ) (le : n ≤ most8) where
  byte-back : (ws : Words) → taken (number_of most8) (decimal n ∷ ws) ≡ Ok (n, ws)
  byte-back ws = take_back (number_of most8) (decimal n) ws n (number-back n (omega arith) most8 le)

  byte-plain : Plain (decimal n)
  byte-plain = plain-decimal n (omega arith)

module _ (n : ℕ) (le : n ≤ most32) where
  half_back : (ws : Words) → taken (number_of most32) (decimal n ∷ ws) ≡ Ok (n, ws)
  half_back ws = take_back (number_of most32) (decimal n) ws n (number-back n (omega arith) most32 le)

  half-plain : Plain (decimal n)
  half-plain = plain-decimal n (omega arith)

-- ---- parts of lines
account-back : (h a : ℕ) (ws : Words) → h ≤ most8 → a ≤ most8 → take_account_lem (decimal h ∷ decimal a ∷ ws) ≡ Ok ((h, a), ws)
account-back h a ws i j = then _ _ _ (byte-back h i (decimal a ∷ ws)) ∙ then _ _ _ (byte-back a j ws)

movement-back : (h a n : ℕ) → h ≤ most8 → a ≤ most8 → n ≤ most64 → movement_of (decimal h ∷ decimal a ∷ decimal n ∷ []) ≡ Ok (h, a, n)
movement-back h a n i j k =
    then _ _ _ (account-back h a (decimal n ∷ []) i j) ∙ then _ _ _ (take_back (number_of most64) (decimal n) [] n (number-back n k most64 k))

room_back : (d n : ℕ) → n ≤ most64 → last_or d (decimal n ∷ []) ≡ Ok n
room_back d n k = then _ _ _ (number-back n k most64 k)

place-back : (s : Session) (h t : ℕ) (ws : Words) → IsPass s → h ≤ most8 → t ≤ most8 → take_place_lem (pass_word s ∷ decimal h ∷ decimal t ∷ ws) ≡ Ok ((s, h, t), ws)
place-back s h t ws p i j =
    then _ _ _ (take_back session_of (pass_word s) (decimal h ∷ decimal t ∷ ws) s (pass-back s p)) ∙ then _ _ _ (account-back h t ws i j)

terms-back : (s : Side) (p : Option ℕ) (n : ℕ) (ws : Words) → PriceFits p → n ≤ most32 → take_terms_lem (side_word s ∷ price_word p ∷ decimal n ∷ ws) ≡ Ok ((s, p, n), ws)
terms-back s p n ws f i =
    then _ _ _ (take_back side_of (side_word s) (price_word p ∷ decimal n ∷ ws) s (side-back s))
    ∙ then _ _ _ (take_back price_of_lem (price_word p) (decimal n ∷ ws) p (price-back p f)) ∙ then _ _ _ (half_back n i ws)

-- ---- calls
bid-back : (s : Session) (b : Bid) (room : ℕ) → IsPass s → b.holder ≤ most8 → b.ticker ≤ most8 → PriceFits b.price → b.lots ≤ most32 → room ≤ most64 →
    bid_of (pass_word s ∷ decimal b.holder ∷ decimal b.ticker ∷ side_word b.side ∷ price_word b.price ∷ decimal b.lots ∷ fill_word b.entire ∷ rest_word b.keep ∷ decimal room ∷ [])
    ≡ Ok (Place s b room)
bid-back s b room p h t f l k =
    let form : Words = fill_word b.entire ∷ rest_word b.keep ∷ decimal room ∷ [] in
    then _ _ _ (place-back s b.holder b.ticker (side_word b.side ∷ price_word b.price ∷ decimal b.lots ∷ form) p h t)
    ∙ then _ _ _ (terms-back b.side b.price b.lots form f l) ∙ then _ _ _ (form-back b.entire b.keep (decimal room ∷ []))
    ∙ then _ _ _ (room_back 64 room k)

cancel_back : (s : Session) (h t n : ℕ) → IsPass s → h ≤ most8 → t ≤ most8 → n ≤ most32 → cancel_of (pass_word s ∷ decimal h ∷ decimal t ∷ decimal n ∷ []) ≡ Ok (Cancel s h t n)
cancel_back s h t n p i j k = then _ _ _ (place-back s h t (decimal n ∷ []) p i j) ∙ then _ _ _ (half_back n k [])

start_back : (l : Listing) → CallFits (Start l) → start_of (map quote_word l.quotes) ≡ Ok (Start l)
start_back l f =
    then _ _ _ (ap (λ n. take_quotes_lem n (map quote_word l.quotes)) (sym f.0) ∙ quotes-back l.quotes f.1)

-- a call that is read, as a line names it
abbrev whole : Result Call LineFault → Result (Option Command) LineFault
whole r = and_then (and_then r (λ c. Ok (command.Call c))) (λ c. Ok (Some c))

call_back : (c : Call) → CallFits c → parsed (call_words c) ≡ Ok (Some (command.Call c))
unfolding same_word
call_back (Start l) f = ap whole (start_back l f)
call_back (Deposit h a n) f = ap (λ r. whole (and_then r (λ m. Ok (Deposit m.0 m.1 m.2)))) (movement-back h a n f.0 f.1 f.2)
call_back (Withdraw h a n) f = ap (λ r. whole (and_then r (λ m. Ok (Withdraw m.0 m.1 m.2)))) (movement-back h a n f.0 f.1 f.2)
call_back (Place s b room) f = ap whole (bid-back s b room f.0 f.1 f.2 f.3 f.4 f.5)
call_back (Cancel s h t n) f = ap whole (cancel_back s h t n f.0 f.1 f.2 f.3)
call_back (Open room) f = ap (λ r. whole (and_then r (λ n. Ok (Open n)))) (room_back 1024 room f)
call_back EndTrading f = refl
call_back EndPostTrading f = refl

-- ---- looks
abbrev seen : Result Command LineFault → Result (Option Command) LineFault
seen r = and_then r (λ c. Ok (Some c))

queue-back : (t : ℕ) (s : Side) → t ≤ most8 → parsed (codes "queue" ∷ decimal t ∷ side_word s ∷ []) ≡ Ok (Some (command.Queue t s))
unfolding same_word
queue-back t s i = ap seen (then _ _ _ (byte-back t i (side_word s ∷ [])) ∙ then _ _ _ (take_back side_of (side_word s) [] s (side-back s)))

command-back : (c : Command) → Fits c → parsed (command_words c) ≡ Ok (Some c)
unfolding same_word
command-back (command.Call c) f = call_back c f
command-back (command.Read h a) f = ap seen (then _ _ _ (account-back h a [] f.0 f.1))
command-back (command.Queue t s) f = queue-back t s f
command-back (command.Average t) f = ap seen (then _ _ _ (byte-back t f []))
command-back command.Accounts f = refl
command-back command.Session f = refl

-- ---- their words are plain
plain-call : (c : Call) → CallFits c → AllByRecursion Plain (call_words c)
plain-call (Start l) f = (keyword (codes "start") refl, plain-quotes l.quotes f.1)
plain-call (Deposit h a n) f = (keyword (codes "deposit") refl, (byte-plain h f.0, (byte-plain a f.1, (plain-decimal n f.2, tt))))
plain-call (Withdraw h a n) f = (keyword (codes "withdraw") refl, (byte-plain h f.0, (byte-plain a f.1, (plain-decimal n f.2, tt))))
plain-call (Place s b room) f = (
  keyword (codes "bid") refl,
  (
    plain-pass s f.0,
    (
      byte-plain b.holder f.1,
      (
        byte-plain b.ticker f.2,
        (
          plain-side b.side,
          (
            plain-price b.price f.3,
            (half-plain b.lots f.4, (plain-fill b.entire, (plain-rest b.keep, (plain-decimal room f.5, tt)))),
          ),
        ),
      ),
    ),
  ),
)
plain-call (Cancel s h t n) f =
    (keyword (codes "cancel") refl, (plain-pass s f.0, (byte-plain h f.1, (byte-plain t f.2, (half-plain n f.3, tt)))))
plain-call (Open room) f = (keyword (codes "open") refl, (plain-decimal room f, tt))
plain-call EndTrading f = (keyword (codes "end-trading") refl, tt)
plain-call EndPostTrading f = (keyword (codes "end-post-trading") refl, tt)

plain-command : (c : Command) → Fits c → AllByRecursion Plain (command_words c)
plain-command (command.Call c) f = plain-call c f
plain-command (command.Read h a) f = (keyword (codes "read") refl, (byte-plain h f.0, (byte-plain a f.1, tt)))
plain-command (command.Queue t s) f = (keyword (codes "queue") refl, (byte-plain t f, (plain-side s, tt)))
plain-command (command.Average t) f = (keyword (codes "average") refl, (byte-plain t f, tt))
plain-command command.Accounts f = (keyword (codes "accounts") refl, tt)
plain-command command.Session f = (keyword (codes "session") refl, tt)

pub read_back : LinesAreReadBack 32
read_back c f = ap parsed (words_back (command_words c) (plain-command c f)) ∙ command-back c f
