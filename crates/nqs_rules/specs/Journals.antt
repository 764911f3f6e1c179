-- A host's two journals: which of them is active, when a checkpoint turns over to the other, and
-- what a stop leaves of it.
use Rattle.std.specs.Prelude.{ℕ, ◌%◌, ◌==◌, nat_le, Bool, true, false, not, ◌||◌, if◌then◌else◌, List, [], ◌∷◌}
use Rattle.nqs_types.specs.declared.world.Which.{Which}
use Rattle.nqs_types.specs.declared.world.Which.TheVariants.{First, Second}
pub use Rattle.nqs_base.specs.Tears.{torn_byte}
use Rattle.nqs_base.specs.declared.tear.Tear.{Tear}
use Rattle.nqs_base.specs.declared.tear.Tear.TheVariants.{Old, New, Mixed}

-- the root names the journal on `second`: its first byte is odd
abbrev pub is_second : List ℕ → Bool
is_second [] = false
is_second (byte ∷ bytes) = byte % 2 == 1

-- the disk of one of the journals: of that on `second`, or of the other
abbrev pub journal_on : Bool → Which
journal_on false = First
journal_on true = Second

-- the disk of the active journal, which the root names
abbrev pub active : List ℕ → Which
active root = journal_on (is_second root)

-- the disk of the other journal
abbrev pub resting : List ℕ → Which
resting root = journal_on (not (is_second root))

-- the byte that names a journal
abbrev pub byte_of : Bool → ℕ
byte_of false = 0
byte_of true = 1

-- the root without its first byte
abbrev pub behind_byte : List ℕ → List ℕ
behind_byte [] = []
behind_byte (byte ∷ bytes) = bytes

-- the root that names the other journal
abbrev pub turned : List ℕ → List ℕ
turned root = byte_of (not (is_second root)) ∷ behind_byte root

-- a change begins with a checkpoint where the active journal's text is old, or has so many records
abbrev pub is_due : Bool → ℕ → Bool
is_due is_old records = is_old || nat_le 4096 records

-- what a tear leaves of a root whose new byte isn't synced
abbrev pub torn_root : Tear → List ℕ → List ℕ
torn_root Old root = root
torn_root New root = turned root
torn_root (Mixed n) [] = if n % 2 == 1 then torn_byte (n % 4) 0 1 ∷ [] else []
torn_root (Mixed n) (byte ∷ bytes) = torn_byte (n % 4) byte (byte_of (not (is_second (byte ∷ bytes)))) ∷ bytes

-- whether two roots name one journal
abbrev pub names_same : List ℕ → List ℕ → Bool
names_same a b = if is_second a then is_second b else not (is_second b)
