-- The five movements of a register: which is refused and why, and what one leaves.
use Rattle.std.specs.Prelude.{ℕ, ◌+◌, Bool, true, false, ◌&&◌, Some, None, Ok, Err, Option, Result, nat_le}
use Rattle.register.specs.declared.faults.Account.{Account}
use Rattle.register.specs.declared.faults.RegisterCause.{RegisterCause}
use Rattle.register.specs.declared.faults.RegisterCause.TheVariants.{NoAccount, BadAmount, OverTotal, TooLittleFree, OverCap, TooLittleBlocked}
use Rattle.register.specs.declared.faults.RegisterFault.{RegisterFault}
use Rattle.register.specs.declared.slips.Slip.{Slip}
use Rattle.register.specs.Books.{Book, Sums, total, plus, minus, most_amount, holder_known_lem, asset_known}

-- holder, asset and amount of each; a payment's last number is the payee
pub data Move : Type 0 where
  Deposit : ℕ → ℕ → ℕ → Move
  Withdraw : ℕ → ℕ → ℕ → Move
  Block : ℕ → ℕ → ℕ → Move
  Release : ℕ → ℕ → ℕ → Move
  Pay : ℕ → ℕ → ℕ → ℕ → Move

-- the refusal where the test fails, else what the further tests say
abbrev pub need : {A : Type 0} → Bool → A → Option A → Option A
need true e rest = rest
need false e rest = Some e

abbrev pub fault : RegisterCause → ℕ → ℕ → ℕ → RegisterFault
fault c h a t = record { cause = c; holder = h; asset = a; tag = t }

abbrev pub known : ℕ → ℕ → Bool
known h a = holder_known_lem h && asset_known a

-- at least 1, and no more than there can be
abbrev pub lawful_amount : ℕ → Bool
lawful_amount n = nat_le 1 n && nat_le n most_amount

-- why a movement is refused, the first reason that holds; None where it is made
abbrev pub refusal : Book → Move → Option RegisterFault
refusal b (Deposit h a n) =
    need (known h a) (fault NoAccount h a 0)
    (need (lawful_amount n) (fault BadAmount h a 0)
    (need (nat_le (total b a + n) most_amount) (fault OverTotal h a 0) None))
refusal b (Withdraw h a n) =
    need (known h a) (fault NoAccount h a 0)
    (need (lawful_amount n) (fault BadAmount h a 0)
    (need (nat_le n (b.free h a)) (fault TooLittleFree h a 0) None))
refusal b (Block h a n) =
    need (known h a) (fault NoAccount h a 0)
    (need (lawful_amount n) (fault BadAmount h a 0)
    (need (nat_le n (b.free h a)) (fault TooLittleFree h a 0)
    (need (nat_le (b.blocked h a + n) (b.limit h a)) (fault OverCap h a (b.tag h a (b.blocked h a + n))) None)))
refusal b (Release h a n) =
    need (known h a) (fault NoAccount h a 0)
    (need (nat_le n (b.blocked h a)) (fault TooLittleBlocked h a 0) None)
refusal b (Pay h a n payee) =
    need (known h a) (fault NoAccount h a 0)
    (need (holder_known_lem payee) (fault NoAccount payee a 0)
    (need (nat_le n (b.blocked h a)) (fault TooLittleBlocked h a 0) None))

abbrev pub holding : Book → Sums → Sums → Book
holding b free blocked = record { free = free; blocked = blocked; limit = b.limit; tag = b.tag }

-- what a movement alters; all else is as before
abbrev pub moved : Book → Move → Book
moved b (Deposit h a n) = holding b (plus b.free h a n) b.blocked
moved b (Withdraw h a n) = holding b (minus b.free h a n) b.blocked
moved b (Block h a n) = holding b (minus b.free h a n) (plus b.blocked h a n)
moved b (Release h a n) = holding b (plus b.free h a n) (minus b.blocked h a n)
moved b (Pay h a n payee) = holding b (plus b.free payee a n) (minus b.blocked h a n)

abbrev pub unless : {A B : Type 0} → Option A → B → B → B
unless None x y = x
unless (Some _) x y = y

-- the book after a movement: a refused one alters nothing
abbrev pub after_move : Book → Move → Book
after_move b m = unless (refusal b m) (moved b m) b

-- what a call answers: the refusal, or else x
abbrev pub granted : {A : Type 0} → Option RegisterFault → A → Result A RegisterFault
granted None x = Ok x
granted (Some f) x = Err f

-- what a call answers that takes a slip: a refusal hands it back
abbrev pub handed_back : Option RegisterFault → Slip → Result (Unit {0}) (RegisterFault × Slip)
handed_back None s = Ok tt
handed_back (Some f) s = Err (f, s)

abbrev pub account_of : Book → ℕ → ℕ → Account
account_of b h a = record { free = b.free h a; blocked = b.blocked h a; limit = b.limit h a }

abbrev pub reading : Book → ℕ → ℕ → Result Account RegisterFault
reading b h a = granted (need (known h a) (fault NoAccount h a 0) None) (account_of b h a)
