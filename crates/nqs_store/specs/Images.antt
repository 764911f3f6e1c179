-- What images of a host's disks tell.
use Rattle.std.specs.Prelude.{◌≡◌, ◌⊎◌, ℕ, List, length, Some}
use Rattle.nqs_base.specs.Extents.{extent_bytes}
use Rattle.nqs_state.specs.State.{Plain}
use Rattle.nqs_types.specs.declared.world.Which.{Which}
use Rattle.nqs_types.specs.declared.world.Which.TheVariants.{Root, Spool}
use Rattle.nqs_rules.specs.Plain.{map_state}
use Rattle.nqs_rules.specs.Journals.{active}
use Rattle.nqs_journal.specs.Either.{version_of, StandsBy}
use Rattle.nqs_store.specs.Told.{Host, told_by}
use Rattle.nqs_spool.specs.Extents.{AreSound}
use Rattle.nqs_store.specs.Live.{live}

-- The bytes of a journal tell this host by one of its forms, and its live extents are sound in the
-- bytes of a spool.
pub record AreRead (bytes spool : List ℕ) (host : Host) : Type 0 where
  pub form : ℕ
  pub snapshot : List ℕ
  pub payloads : List (List ℕ)
  pub stands : StandsBy bytes form snapshot payloads
  pub tells : told_by (version_of form) snapshot payloads ≡ Some host
  pub sound : AreSound (length spool) (live host)

-- the journal that the root names and the spool tell this host
abbrev pub IsToldHost : (Which → List ℕ) → Host → Type 0
IsToldHost images host = AreRead (images (active (images Root))) (images Spool) host

-- They tell a host that is this plain state with the bytes of its extents.
pub record IsTold (images : Which → List ℕ) (plain : Plain) : Type 0 where
  pub host : Host
  pub is : IsToldHost images host
  pub bytes : map_state (extent_bytes (images Spool)) host ≡ plain

-- one of the two
abbrev pub TellsOneOf : Plain → Plain → (Which → List ℕ) → Type 0
TellsOneOf before after images = IsTold images before ⊎ IsTold images after
