-- Bytes that tell a host are at fault nowhere.
use Rattle.std.proofs.Common.{◌≡◌, inl, inr, ℕ, zero, suc, List, [], ◌∷◌, ◌++◌, length, Option, Some, None, Ok, Err, refl, sym, ap, subst, ◌∙◌, arith}
use Rattle.std.proofs.lemmas.Option.{same_Some, none-some}
use Rattle.nqs_types.specs.declared.world.Which.{Which}
use Rattle.nqs_types.specs.declared.world.Which.TheVariants.{Root, Spool}
use Rattle.nqs_base.specs.declared.extent.Extent.{Extent}
use Rattle.nqs_journal.specs.Either.{front_of, version_of, StandsBy}
use Rattle.nqs_journal.specs.Faults as faults
use Rattle.nqs_journal.specs.declared.fault.JournalFault.{JournalFault}
use Rattle.nqs_journal.specs.declared.fault.JournalFault.TheVariants as journal
use Rattle.nqs_journal.proofs.Eithers.{one_reading, no_fault}
use Rattle.nqs_records.specs.Reading.{Read}
use Rattle.nqs_rules.specs.Journals.{active}
use Rattle.nqs_spool.specs.Extents.{IsApart, IsWithin, AreSound, IsBadExtent}
use Rattle.nqs_spool.proofs.Lists.{all_cut, apart_cut, all_front}
use Rattle.nqs_store.specs.Told.{Host, record_taken, told, told_from, host_by, told_by, told_behind, IsUntold, IsUntoldBehind, IsUntoldBy}
use Rattle.nqs_store.specs.Live.{live}
use Rattle.nqs_store.specs.Images.{IsToldHost}
use Rattle.nqs_store.specs.Faults.{JournalIsAt, IsHostFault, IsExtentFault, IsReadFault, IsLoadFault}
use Rattle.nqs_store.specs.declared.fault.LoadFault.{LoadFault}
use Rattle.nqs_store.specs.declared.fault.LoadFault.TheVariants as load

-- what the payloads make of a host, if there is one
abbrev goes_on : List (List ℕ) → Option Host → Option Host
goes_on payloads so_far = elim so_far [ None ↦ None | Some host ↦ told_from (Some host) payloads ]

-- behind a record that isn't taken nothing is told
none_told : (so_far : Option Host) (before later : List (List ℕ)) (payload : List ℕ) → record_taken payload (told_from so_far before) ≡ None
    → told_from so_far (before ++ payload ∷ later) ≡ None
none_told so_far [] later payload bad = ap (goes_on later) bad
none_told so_far (p ∷ before) later payload bad = by (record_taken p so_far) bad (λ h worse. none_told (Some h) before later payload worse)
  where
    by : (o : Option Host) → record_taken payload (goes_on before o) ≡ None
        → ((h : Host) → record_taken payload (told_from (Some h) before) ≡ None → told_from (Some h) (before ++ payload ∷ later) ≡ None)
        → goes_on (before ++ payload ∷ later) o ≡ None
    by None bad more = refl
    by (Some h) bad more = more h bad

untold_not : (payloads : List (List ℕ)) (place : ℕ) (host : Host) → told payloads ≡ Some host → IsUntold payloads place → ⊥
untold_not payloads place host tells (inl none) = none-some host (sym (ap told none.0) ∙ tells)
untold_not payloads place host tells (inr bad) = none-some host (sym (ap told bad.is ∙ none_told None bad.before bad.later bad.payload bad.bad) ∙ tells)

behind_not : (read : Read Host) (front : ℕ) (payloads : List (List ℕ)) (place : ℕ) (host : Host) → told_behind read payloads ≡ Some host
    → IsUntoldBehind read front payloads place → ⊥
behind_not (Ok first) front payloads place host tells bad =
    none-some host (sym (ap (told_from (Some first)) bad.is ∙ none_told (Some first) bad.before bad.later bad.payload bad.bad) ∙ tells)
behind_not (Err fault) front payloads place host tells bad = none-some host tells

untold_by_not : (version : ℕ) (snapshot : List ℕ) (payloads : List (List ℕ)) (place : ℕ) (host : Host) → told_by version snapshot payloads ≡ Some host
    → IsUntoldBy version snapshot payloads place → ⊥
untold_by_not zero snapshot payloads place host tells bad = untold_not payloads place host tells bad
untold_by_not (suc more) snapshot payloads place host tells bad =
    behind_not (host_by (suc more) snapshot) (length (front_of (suc more) snapshot)) payloads place host tells bad

bad_not : (size : ℕ) (extents : List Extent) (place : ℕ) → AreSound size extents → IsBadExtent size extents place → ⊥
bad_not size extents place sound bad =
    let whole = subst (AreSound size) bad.is sound in
    let apart = apart_cut bad.before bad.later bad.extent whole.apart in
    let within = all_cut (IsWithin size) bad.before bad.later bad.extent whole.within in
    elim bad.bad [ inl past ↦ absurd (omega (arith, past, within.0)) | inr meets ↦ meets (all_front (IsApart bad.extent) bad.before bad.later apart.0) ]

-- none of these faults says that the bytes are no host's

pub host_not : (on : Which) (version : ℕ) (snapshot : List ℕ) (payloads : List (List ℕ)) (host : Host) (fault : LoadFault)
    → told_by version snapshot payloads ≡ Some host → IsHostFault on version snapshot payloads fault
    → (which : Which) (place : ℕ) → fault ≡ load.NotNqs which place → ⊥
host_not on version snapshot payloads host (load.Disk disk) tells bad which place is = bad
host_not on version snapshot payloads host (load.NotNqs disk at) tells bad which place is = untold_by_not version snapshot payloads at host tells bad.1
host_not on version snapshot payloads host (load.Memory memory) tells bad which place is = let no : ⊥ = cc in no

pub extents_not : (size : ℕ) (extents : List Extent) (fault : LoadFault) → AreSound size extents → IsExtentFault size extents fault
    → (which : Which) (place : ℕ) → fault ≡ load.NotNqs which place → ⊥
extents_not size extents (load.Disk disk) sound bad which place is = bad
extents_not size extents (load.NotNqs disk at) sound bad which place is = bad_not size extents at sound bad.1
extents_not size extents (load.Memory memory) sound bad which place is = let no : ⊥ = cc in no

pub journal_not : (on : Which) (bytes : List ℕ) (version : ℕ) (snapshot : List ℕ) (payloads : List (List ℕ)) (fault : JournalFault) (seen : LoadFault)
    → StandsBy bytes version snapshot payloads → faults.IsEitherLoadFault bytes fault → JournalIsAt on fault seen
    → (which : Which) (place : ℕ) → seen ≡ load.NotNqs which place → ⊥
journal_not on bytes version snapshot payloads journal.Disk seen stands bad at which place is = let no : ⊥ = cc in no
journal_not on bytes version snapshot payloads (journal.NotJournal fault) seen stands bad at which place is =
    no_fault bytes version snapshot payloads fault stands bad
journal_not on bytes version snapshot payloads journal.TooLong seen stands bad at which place is = bad
journal_not on bytes version snapshot payloads journal.Stopped seen stands bad at which place is = bad
journal_not on bytes version snapshot payloads (journal.Memory memory) seen stands bad at which place is = let no : ⊥ = cc in no

pub read_not : (on : Which) (version : ℕ) (snapshot : List ℕ) (payloads : List (List ℕ)) (spool : List ℕ) (host : Host) (fault : LoadFault)
    → told_by version snapshot payloads ≡ Some host → AreSound (length spool) (live host) → IsReadFault on version snapshot payloads spool fault
    → (which : Which) (place : ℕ) → fault ≡ load.NotNqs which place → ⊥
read_not on version snapshot payloads spool host (load.Disk disk) tells sound bad which place is = let no : ⊥ = cc in no
read_not on version snapshot payloads spool host (load.NotNqs disk at) tells sound (inl bad) which place is =
    untold_by_not version snapshot payloads at host tells bad.1
read_not on version snapshot payloads spool host (load.NotNqs disk at) tells sound (inr bad) which place is =
    let one = bad.1 in
    let same = same_Some host one.0 (sym tells ∙ one.1) in
    bad_not (length spool) (live one.0) at (subst (λ h. AreSound (length spool) (live h)) same sound) one.2
read_not on version snapshot payloads spool host (load.Memory memory) tells sound bad which place is = let no : ⊥ = cc in no

-- by what a journal stands for, one host is told
pub one_host : (bytes : List ℕ) (v w : ℕ) (snapshot other : List ℕ) (ps qs : List (List ℕ)) (a b : Host) → StandsBy bytes v snapshot ps
    → told_by (version_of v) snapshot ps ≡ Some a → StandsBy bytes w other qs → told_by (version_of w) other qs ≡ Some b → a ≡ b
one_host bytes v w snapshot other ps qs a b p tells q tells' =
    let same = one_reading bytes v w snapshot other ps qs p q in
    same_Some a b (sym tells ∙ (λ j. told_by (version_of (same.0 j)) (same.1 j) (same.2 j)) ∙ tells')

-- bytes tell one host
pub one_told : (bytes : Which → List ℕ) (a b : Host) → IsToldHost bytes a → IsToldHost bytes b → a ≡ b
one_told bytes a b is is' =
    one_host (bytes (active (bytes Root))) is.form is'.form is.snapshot is'.snapshot is.payloads is'.payloads a b is.stands is.tells is'.stands is'.tells

-- no fault says that bytes which tell a host are no host's
pub load_not : (bytes : Which → List ℕ) (host : Host) (fault : LoadFault) → IsToldHost bytes host → IsLoadFault bytes fault
    → (which : Which) (place : ℕ) → fault ≡ load.NotNqs which place → ⊥
load_not bytes host fault is_told (inl (inl bad)) which place is = let no : ⊥ = cc in no
load_not bytes host fault is_told (inl (inr bad)) which place is = let no : ⊥ = cc in no
load_not bytes host fault is_told (inr (inl bad)) which place is =
    journal_not (active (bytes Root)) (bytes (active (bytes Root))) is_told.form is_told.snapshot is_told.payloads bad.0 fault is_told.stands bad.1 bad.2
    which place is
load_not bytes host fault is_told (inr (inr bad)) which place is =
    let same = one_reading (bytes (active (bytes Root))) is_told.form bad.0 is_told.snapshot bad.1 is_told.payloads bad.2 is_told.stands bad.3 in
    read_not (active (bytes Root)) (version_of bad.0) bad.1 bad.2 (bytes Spool) host fault
    ((λ j. told_by (version_of (sym same.0 j)) (sym same.1 j) (sym same.2 j)) ∙ is_told.tells)
    is_told.sound bad.4 which place is
