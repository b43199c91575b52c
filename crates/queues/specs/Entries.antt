-- What a queue stands for, and what is done to it, as lists of standing bids, first to be served first.
use Rattle.std.specs.Prelude.{ℕ, ◌-◌, Bool, cond, List, [], ◌∷◌, length, take, Some, None, Option, nat_eq, nat_lt}
use Rattle.model.specs.Words.{any_of}
use Rattle.model.specs.declared.words.Standing.{Standing}
use Rattle.model.specs.Queues.{with_lots, named}
use Rattle.ranking.specs.Ranks.{first_place}
use Rattle.queues.specs.declared.queue.Queue.{Queue}

abbrev pub entries : Queue → List Standing
entries q = take q.len q.bids

-- the bid that is served first
abbrev pub first_of : List Standing → Option Standing
first_of [] = None
first_of (x ∷ xs) = Some x

-- n lots fewer in the first bid, which goes when none are left
abbrev pub lots_taken : ℕ → List Standing → List Standing
lots_taken n [] = []
lots_taken n (x ∷ xs) = cond (nat_lt n x.lots) (with_lots x (x.lots - n) ∷ xs) xs

-- the first place, counted from 0, of the bid of this holder and number, if it stands
abbrev pub place_named_lem : ℕ → ℕ → List Standing → Option ℕ
place_named_lem holder number xs =
    let place = first_place (named holder number) xs in
    cond (nat_lt place (length xs)) (Some place) None

-- the first bid of this holder and number, if it stands, and the queue less that bid
abbrev pub entry_named : ℕ → ℕ → List Standing → Option Standing
entry_named holder number [] = None
entry_named holder number (x ∷ xs) = cond (named holder number x) (Some x) (entry_named holder number xs)

abbrev pub less_named : ℕ → ℕ → List Standing → List Standing
less_named holder number [] = []
less_named holder number (x ∷ xs) = cond (named holder number x) xs (x ∷ less_named holder number xs)

-- the holder has a bid standing
abbrev pub has_holder_lem : ℕ → List Standing → Bool
has_holder_lem holder xs = any_of (λ x. nat_eq x.holder holder) xs
