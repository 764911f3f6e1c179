-- The bytes of a journal, by hand.
use Rattle.std.specs.Prelude.{ℕ, List, [], ◌∷◌, ◌++◌}
use Rattle.nqs_types.specs.declared.world.Which.{Which}
use Rattle.nqs_types.specs.declared.world.Which.TheVariants.{Root, First, Second, Spool}

-- kind 1; the host at place 0; one name, of five bytes: alpha
abbrev pub alpha_record : List ℕ
alpha_record = 0x01 ∷ 0x00 ∷ 0x01 ∷ 0x05 ∷ 0x61 ∷ 0x6c ∷ 0x70 ∷ 0x68 ∷ 0x61 ∷ []

-- a header of this version with two line feeds; the gate; the length 9, and the record; a closed
-- gate
abbrev pub alpha_by : (version gate : ℕ) → List ℕ
alpha_by version gate =
    0x4e ∷ 0x51 ∷ 0x53 ∷ 0x2d ∷ 0x4a ∷ 0x4f ∷ 0x55 ∷ 0x52 ∷ 0x4e ∷ 0x41 ∷ 0x4c ∷ 0x2d ∷ 0x76 ∷ version ∷ 0x0a ∷ 0x0a
    ∷ gate ∷ 0x00 ∷ 0x00 ∷ 0x00 ∷ 0x09 ∷ alpha_record ++ 0x00 ∷ []

-- that of version 2
abbrev pub alpha_journal : ℕ → List ℕ
alpha_journal gate = alpha_by 0x32 gate

-- the same with the header of the version before
abbrev pub old_alpha_journal : List ℕ
old_alpha_journal = alpha_by 0x31 1

-- what the disks of a host hold that was formatted and never ran: this journal, and nothing else
abbrev pub disks_with : List ℕ → Which → List ℕ
disks_with journal Root = []
disks_with journal First = journal
disks_with journal Second = []
disks_with journal Spool = []
