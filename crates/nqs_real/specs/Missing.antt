-- Which disk of a host isn't there, where another has bytes.
use Rattle.std.specs.Prelude.{ℕ, nat_lt, Bool, false, ◌||◌, if◌then◌else◌, Option, None, Some}
use Rattle.nqs_types.specs.declared.world.Which.{Which}
use Rattle.nqs_types.specs.declared.world.Which.TheVariants.{Root, First, Second, Spool}

-- a file has bytes: its length is known where it is there
abbrev pub has_bytes : Option ℕ → Bool
has_bytes None = false
has_bytes (Some length) = nat_lt 0 length

-- the first that isn't there of the four
abbrev pub first_missing : Option ℕ → Option ℕ → Option ℕ → Option ℕ → Option Which
first_missing None first second spool = Some Root
first_missing (Some a) None second spool = Some First
first_missing (Some a) (Some b) None spool = Some Second
first_missing (Some a) (Some b) (Some c) None = Some Spool
first_missing (Some a) (Some b) (Some c) (Some d) = None

-- the same, where one has bytes
abbrev pub missing_of : Option ℕ → Option ℕ → Option ℕ → Option ℕ → Option Which
missing_of root first second spool =
    if has_bytes root || (has_bytes first || (has_bytes second || has_bytes spool)) then first_missing root first second spool else None
