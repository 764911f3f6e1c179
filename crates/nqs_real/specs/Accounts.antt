-- The lines of the system's accounts, `NAME:PASSWORD:UID:GID:TEXT:HOME:SHELL`, and as whom a job may
-- run.
use Rattle.std.specs.Prelude.{ℕ, ◌+◌, ◌==◌, ◌<◌, ◌≡◌, ⊤, List, take, drop, bytes_eq, string_bytes, Option, None, Some, if◌then◌else◌}
use Rattle.std.specs.List.{position}
use Rattle.std.specs.Option.{option_map, option_and_then}
use Rattle.nqs_text.specs.Number.{AreDigits, decimal}
use Rattle.nqs_real.specs.declared.directory.Found.{Found}
use Rattle.nqs_real.specs.declared.directory.Owner.{Owner}
use Rattle.nqs_real.specs.declared.directory.Found.TheVariants.{User, Root, Nobody}

-- where the first colon stands
unfoldable pub first_colon : List ℕ → Option ℕ
first_colon bytes = position (λ b. b == 58) bytes

-- what stands before a place, and what stands behind it
abbrev pub parted_at : List ℕ → ℕ → List ℕ × List ℕ
parted_at bytes place = (take place bytes, drop (place + 1) bytes)

-- what stands before the first colon, and what stands behind it
abbrev pub parted : List ℕ → Option (List ℕ × List ℕ)
parted bytes = option_map (parted_at bytes) (first_colon bytes)

-- what a line says: a name, the number of its user and that of his group, a home
abbrev pub Said : Type 0
Said = List ℕ × List ℕ × List ℕ × List ℕ

-- what is said, by the home and what stands behind it
abbrev pub with_home : List ℕ → List ℕ → List ℕ → Option (List ℕ × List ℕ) → Option Said
with_home name uid gid None = None
with_home name uid gid (Some (home, rest)) = Some (name, uid, gid, home)

-- the same, by the text and what stands behind it
abbrev pub with_text : List ℕ → List ℕ → List ℕ → Option (List ℕ × List ℕ) → Option Said
with_text name uid gid None = None
with_text name uid gid (Some (text, rest)) = with_home name uid gid (parted rest)

-- the same, by the group's number and what stands behind it
abbrev pub with_gid : List ℕ → List ℕ → Option (List ℕ × List ℕ) → Option Said
with_gid name uid None = None
with_gid name uid (Some (gid, rest)) = with_text name uid gid (parted rest)

-- the same, by the user's number and what stands behind it
abbrev pub with_uid : List ℕ → Option (List ℕ × List ℕ) → Option Said
with_uid name None = None
with_uid name (Some (uid, rest)) = with_gid name uid (parted rest)

-- the same, by the password and what stands behind it
abbrev pub with_password : List ℕ → Option (List ℕ × List ℕ) → Option Said
with_password name None = None
with_password name (Some (password, rest)) = with_uid name (parted rest)

-- the same, by the name and what stands behind it
abbrev pub with_name : Option (List ℕ × List ℕ) → Option Said
with_name None = None
with_name (Some (name, rest)) = with_password name (parted rest)

-- what a line says, where it has all of its seven parts
abbrev pub said_in : List ℕ → Option Said
said_in line = with_name (parted line)

-- the name, where its user has this number
abbrev pub if_numbered : List ℕ → Said → Option (List ℕ)
if_numbered number said = if bytes_eq said.1 number then Some said.0 else None

-- the name in a line whose user has this number, in plain digits
abbrev pub account_name : List ℕ → List ℕ → Option (List ℕ)
account_name number line = option_and_then (if_numbered number) (said_in line)

-- digits that write a number, but not the one by which the system's calls leave all as it is
abbrev pub IsNumber : List ℕ → Type 0
IsNumber bytes = AreDigits bytes × (decimal bytes < 4294967295)

-- an account of this name, with two such numbers
abbrev pub IsOf : List ℕ → Said → Type 0
IsOf name said = (said.0 ≡ name) × IsNumber said.1 × IsNumber said.2

-- a line says this account: its name, its numbers, its home
abbrev pub Says : List ℕ → ℕ → ℕ → List ℕ → Option Said → Type 0
Says name uid gid home None = ⊥
Says name uid gid home (Some said) = IsOf name said × (uid ≡ decimal said.1) × (gid ≡ decimal said.2) × (home ≡ said.3)

-- a line says no account of this name
abbrev pub SaysNone : List ℕ → Option Said → Type 0
SaysNone name None = ⊤
SaysNone name (Some said) = IsOf name said → ⊥

-- a line says that root has this name, whatever name it is
abbrev pub SaysRoot : List ℕ → Option Said → Type 0
SaysRoot name None = ⊥
SaysRoot name (Some said) = IsOf name said × (decimal said.1 ≡ 0)

-- a line says that a user who isn't root has this name and these numbers
abbrev pub SaysUser : List ℕ → ℕ → ℕ → Option Said → Type 0
SaysUser name uid gid None = ⊥
SaysUser name uid gid (Some said) = IsOf name said × (uid ≡ decimal said.1) × (gid ≡ decimal said.2) × (0 < uid)

-- who has a name, by what a line says; a user isn't root
abbrev pub IsFound : List ℕ → Option Said → Found → Type 0
IsFound name said (User owner) = Says name owner.uid owner.gid (string_bytes owner.home) said × (0 < owner.uid)
IsFound name said Root = SaysRoot name said
IsFound name said Nobody = SaysNone name said

-- numbers with which a job may run, and which a file may have: not that of root, and not the one by
-- which the system's calls leave all as it is
abbrev pub AreNumbers : ℕ → ℕ → Type 0
AreNumbers uid gid = (0 < uid) × (uid < 4294967295) × (gid < 4294967295)

-- the same of a user
abbrev pub IsUser : Owner → Type 0
IsUser owner = AreNumbers owner.uid owner.gid

-- the same of a user's numbers, where there is one
abbrev pub AreUsers : Option (ℕ × ℕ) → Type 0
AreUsers None = ⊤
AreUsers (Some numbers) = AreNumbers numbers.0 numbers.1

-- whoever is found as a user is one
abbrev pub IsUsable : Found → Type 0
IsUsable (User owner) = IsUser owner
IsUsable Root = ⊤
IsUsable Nobody = ⊤
