-- Slots in order of creation, of which some are holes: a key without a value.
use Rattle.std.specs.Prelude.{◌≡◌, ℕ, ◌+◌, ◌*◌, ◌<◌, ◌≤◌, zero, suc, Bool, false, List, [], ◌∷◌, Option, None, Some, length, slice_get}

-- slots in order, and how many more fit without taking memory
pub record Slotted (K V : Type 0) : Type 0 where
  pub entries : List (K × Option V)
  pub spare : ℕ

-- one more where there is a value
abbrev pub counted : {V : Type 0} → Option V → ℕ → ℕ
counted None n = n
counted (Some v) n = suc n

module _ {K V : Type 0} where
  -- a value under its key goes before others
  abbrev pub before : K → Option V → List (K × V) → List (K × V)
  before k None l = l
  before k (Some v) l = (k, v) ∷ l

  -- the values that are there, under their keys
  abbrev pub live : List (K × Option V) → List (K × V)
  live [] = []
  live (e ∷ es) = before e.0 e.1 (live es)

  -- how many values stand before a slot
  abbrev pub filled : List (K × Option V) → ℕ → ℕ
  filled es zero = 0
  filled [] (suc n) = 0
  filled (e ∷ es) (suc n) = counted e.1 (filled es n)

  -- a value stands in this slot
  pub record IsFilled (es : List (K × Option V)) (slot : ℕ) : Type 0 where
    pub within : slot < length es
    pub here : filled es (slot + 1) ≡ filled es slot + 1

  -- there is no hole
  abbrev pub IsClosed : List (K × Option V) → Type 0
  IsClosed es = length es ≡ length (live es)

  -- the first blocks of 128 slots have so many values each
  pub record IsCounted (blocks : List ℕ) (es : List (K × Option V)) : Type 0 where
    pub within : length blocks * 128 ≤ length es
    pub counts : (b n : ℕ) → slice_get blocks b ≡ Some n → filled es (b * 128 + 128) ≡ filled es (b * 128) + n

-- the count of one block is one more
abbrev pub raised : List ℕ → ℕ → List ℕ
raised [] b = []
raised (n ∷ ns) zero = suc n ∷ ns
raised (n ∷ ns) (suc b) = n ∷ raised ns b

module _ {F K V : Type 0} (T : F → K → V → Bool → V → F → Type 0) where
  -- a value is asked as T says, and a hole isn't, and goes
  abbrev pub Asks : F → K → Option V → Bool → Option V → F → Type 0
  Asks f k None b left f' = (b ≡ false) × (f' ≡ f)
  Asks f k (Some v) b left f' = (w : V) × (left ≡ Some w) × T f k v b w f'
