-- Two cap layers over a split of two registers, said in terms of the parts.
use Rattle.std.specs.Prelude.{◌≡◌, ℕ, ◌+◌, ◌<◌, ◌≤◌, ◌⊎◌, Some}
use Rattle.register.specs.declared.faults.RegisterCause.TheVariants.{TooLittleFree, OverCap}
use Rattle.register.specs.Books.{Book, most_amount}
use Rattle.register.specs.Moves.{Deposit, Withdraw, Block, Release, Pay, fault, refusal}
use Rattle.layers.specs.declared.caps.Caps.{Caps}
use Rattle.layers.specs.Layers.{cap_for}

-- x is the smallest of three numbers: it is one of them, and none is less
pub record Smallest (x l m n : ℕ) : Type 0 where
  pub first : x ≤ l
  pub second : x ≤ m
  pub third : x ≤ n
  pub one : (x ≡ l) ⊎ ((x ≡ m) ⊎ (x ≡ n))

-- a block of an account that there is, of an amount that can be
pub record Lawful (h a n : ℕ) : Type 0 where
  pub holder : h < 16
  pub asset : a < 12
  pub least : 1 ≤ n
  pub most : n ≤ most_amount

module _ (upper lower : Caps) where
  -- who refuses a blocked sum n of an asset: of the two layers the uppermost whose cap it exceeds, else the
  -- register below, which has the tag own for it
  pub record Named (tag own a n : ℕ) : Type 0 where
    pub over_upper : cap_for upper a < n → tag ≡ upper.tag
    pub over_lower : n ≤ cap_for upper a → cap_for lower a < n → tag ≡ lower.tag
    pub over_neither : n ≤ cap_for upper a → n ≤ cap_for lower a → tag ≡ own

  -- an account of the pile w is the account of the register b, under the smallest of the three caps
  pub record AccountShown (w b : Book) (a : ℕ) : Type 0 where
    pub free : (h : ℕ) → w.free h a ≡ b.free h a
    pub blocked : (h : ℕ) → w.blocked h a ≡ b.blocked h a
    pub limit : (h : ℕ) → Smallest (w.limit h a) (cap_for upper a) (cap_for lower a) (b.limit h a)
    pub tag : (h n : ℕ) → Named (w.tag h a n) (b.tag h a n) a n

  -- a block at the pile: no cap speaks before free does; then the uppermost cap that is exceeded names its
  -- layer; and within both layers' caps it is as at the register b
  pub record BlockRefused (w b : Book) (a : ℕ) : Type 0 where
    pub short : (h n : ℕ) → Lawful h a n → b.free h a < n → refusal w (Block h a n) ≡ Some (fault TooLittleFree h a 0)
    pub by_upper : (h n : ℕ) → Lawful h a n → n ≤ b.free h a → cap_for upper a < b.blocked h a + n → refusal w (Block h a n) ≡ Some (fault OverCap h a upper.tag)
    pub by_lower : (h n : ℕ) → Lawful h a n → n ≤ b.free h a → b.blocked h a + n ≤ cap_for upper a → cap_for lower a < b.blocked h a + n →
        refusal w (Block h a n) ≡ Some (fault OverCap h a lower.tag)
    pub below : (h n : ℕ) → b.blocked h a + n ≤ cap_for upper a → b.blocked h a + n ≤ cap_for lower a → refusal w (Block h a n) ≡ refusal b (Block h a n)

  -- every other movement at the pile is refused as at the register b, and for the same reason
  pub record OthersRefused (w b : Book) (a : ℕ) : Type 0 where
    pub deposit : (h n : ℕ) → refusal w (Deposit h a n) ≡ refusal b (Deposit h a n)
    pub withdraw : (h n : ℕ) → refusal w (Withdraw h a n) ≡ refusal b (Withdraw h a n)
    pub release : (h n : ℕ) → refusal w (Release h a n) ≡ refusal b (Release h a n)
    pub pay : (h n payee : ℕ) → refusal w (Pay h a n payee) ≡ refusal b (Pay h a n payee)

  -- of the asset a the pile w has what the register b has
  pub record Shows (w b : Book) (a : ℕ) : Type 0 where
    pub account : AccountShown w b a
    pub block : BlockRefused w b a
    pub others : OthersRefused w b a

  -- w is the pile of the register p for assets 0 to 3 and the register q for all others
  pub record Piled (p q w : Book) : Type 0 where
    pub first : (a : ℕ) → a < 4 → Shows w p a
    pub second : (a : ℕ) → 4 ≤ a → Shows w q a
