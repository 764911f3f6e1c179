-- What a reading of a host's disks answers, from what the reading of the journal that the root
-- names does.
use Rattle.std.proofs.Common.{◌≡◌, ℕ, Bool, List, Result, Ok, Err, IfOk, IfErr, IsErrOf}
use Rattle.nqs_state.specs.State.{content}
use Rattle.nqs_state.specs.declared.state.HostState.{HostState}
use Rattle.nqs_types.specs.declared.world.Which.{Which}
use Rattle.nqs_types.specs.declared.world.Which.TheVariants.{Root, Spool}
use Rattle.nqs_rules.specs.Journals.{is_second, journal_on}
use Rattle.nqs_store.specs.Told.{Host}
use Rattle.nqs_store.specs.Images.{AreRead, IsToldHost}
use Rattle.nqs_store.specs.Faults.{IsBytesFault, IsLoadFault}
use Rattle.nqs_store.specs.declared.fault.LoadFault.{LoadFault}
use Rattle.nqs_store.specs.declared.fault.LoadFault.TheVariants as load
use Rattle.nqs_store.proofs.Never.{one_told, load_not}
use Rattle.nqs_store.proofs.Opening.{read_told, read_fault}

module _ (bytes : Which → List ℕ) (b : Bool) (names : b ≡ is_second (bytes Root)) where
  abbrev Finds : Result HostState LoadFault → Type 0
  Finds r = IfOk r (λ state. AreRead (bytes (journal_on b)) (bytes Spool) (content state))

  abbrev Fails : Result HostState LoadFault → Type 0
  Fails r = IfErr r (IsBytesFault (journal_on b) (bytes (journal_on b)) (bytes Spool))

  pub told_end : (r : Result HostState LoadFault) → Finds r → IfOk r (λ state. IsToldHost bytes (content state))
  told_end (Ok state) found = read_told bytes b (content state) names found
  told_end (Err fault) found = tt

  pub fault_end : (r : Result HostState LoadFault) → Fails r → IfErr r (IsLoadFault bytes)
  fault_end (Ok state) bad = tt
  fault_end (Err fault) bad = read_fault bytes b fault names bad

  pub host_end : (r : Result HostState LoadFault) → Finds r → (host : Host) → IsToldHost bytes host → IfOk r (λ state. content state ≡ host)
  host_end (Ok state) found host told = one_told bytes (content state) host (read_told bytes b (content state) names found) told
  host_end (Err fault) found host told = tt

  pub never_end : (r : Result HostState LoadFault) → Fails r → (host : Host) → IsToldHost bytes host → (which : Which) (place : ℕ)
      → IsErrOf r (load.NotNqs which place) → ⊥
  never_end (Ok state) bad host told which place is = let no : ⊥ = cc in no
  never_end (Err fault) bad host told which place is = load_not bytes host fault told (read_fault bytes b fault names bad) which place cc
