-- What a register made of others means.
use Rattle.std.specs.Prelude.{ℕ, min, cond, nat_le, nat_lt, slice_index}
use Rattle.register.specs.Books.{Book}
use Rattle.layers.specs.declared.caps.Caps.{Caps}

-- a layer's cap for an asset
abbrev pub cap_for : Caps → ℕ → ℕ
cap_for caps a = slice_index caps.amounts a

-- the book b under caps of its own. A blocked sum above them is refused in the name of their tag, whatever
-- stands below; one within them as b has it
abbrev pub capped : Caps → Book → Book
capped caps b = record {
  free = b.free;
  blocked = b.blocked;
  limit = λ h a. min (cap_for caps a) (b.limit h a);
  tag = λ h a n. cond (nat_le n (cap_for caps a)) (b.tag h a n) caps.tag;
}

-- the book p for assets 0 to 3, and q for all others
abbrev pub split : Book → Book → Book
split p q = record {
  free = λ h a. cond (nat_lt a 4) (p.free h a) (q.free h a);
  blocked = λ h a. cond (nat_lt a 4) (p.blocked h a) (q.blocked h a);
  limit = λ h a. cond (nat_lt a 4) (p.limit h a) (q.limit h a);
  tag = λ h a n. cond (nat_lt a 4) (p.tag h a n) (q.tag h a n);
}
