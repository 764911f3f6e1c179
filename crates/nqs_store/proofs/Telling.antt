-- What records tell, one after the other.
use Rattle.std.proofs.Common.{◌≡◌, ◌≢◌, inl, inr, ℕ, zero, suc, ◌+◌, ◌≤◌, true, false, not, ◌||◌, IsTrue, List, [], ◌∷◌, ◌++◌, take, drop}
use Rattle.std.proofs.Common.{take-append-drop, length}
use Rattle.std.proofs.Common.{length-append, slice_get, Option, Some}
use Rattle.std.proofs.Common.{None, Ok, Err, is_some, refl, sym, ap, subst, ◌∙◌, arith, append_assoc}
use Rattle.std.proofs.lemmas.Option.{none-some}
use Rattle.nqs_base_tables.proofs.TableLemmas.{drop-at}
use Rattle.nqs_journal.specs.Text.{header, records, frame}
use Rattle.nqs_journal.proofs.Texts.{length-frame}
use Rattle.nqs_journal.specs.Either.{front_of}
use Rattle.nqs_journal.proofs.Fronts.{length-front_of}
use Rattle.nqs_records.specs.Reading.{Read}
use Rattle.nqs_records.specs.declared.fault.RecordFault.{RecordFault}
use Rattle.nqs_snapshot.specs.Reading.{snapshot_of}
use Rattle.std.specs.List.{list_any}
use Rattle.std.proofs.lemmas.List.Folds.{list_any-append}
use Rattle.nqs_base.specs.declared.extent.Extent.{Extent}
use Rattle.nqs_types.specs.Ids.{id_eq}
use Rattle.nqs_types.specs.declared.ids.RequestId.{RequestId}
use Rattle.nqs_types.specs.declared.request.Row.{Row}
use Rattle.nqs_rules.specs.Tests.{is_running}
use Rattle.nqs_rules.proofs.Chains.{imply}
use Rattle.nqs_rules.proofs.KeyFacts.{any-before}
use Rattle.nqs_rules.proofs.RowFacts.{same_id}
use Rattle.std.proofs.lemmas.Bool.{or_left, or_right}
use Rattle.nqs_changes.specs.Running.{runs_in}
use Rattle.nqs_store.specs.Told.{Host, record_taken, told, told_from, host_by, told_by, told_behind, IsBadFrom, IsUntoldBehind}
use Rattle.nqs_store.specs.TellFaults.{IsRefused, IsTakenFault, IsTellFault}
use Rattle.nqs_store.specs.declared.tell.TellFault.{TellFault}
use Rattle.nqs_store.specs.declared.tell.TellFault.TheVariants.{Untold, Memory}

pub told_one : (payload : List ℕ) (host : Host) → record_taken payload None ≡ Some host → told (payload ∷ []) ≡ Some host
told_one payload host is = ap (λ (r : Option Host). elim r [ None ↦ None | Some h ↦ told_from (Some h) [] ]) is

itself : (o : Option Host) → (elim o [ None ↦ None | Some h ↦ told_from (Some h) [] ]) ≡ o
itself None = refl
itself (Some h) = refl

-- one record more
pub told_more : (so_far : Option Host) (payloads : List (List ℕ)) (host : Host) (payload : List ℕ) → told_from so_far payloads ≡ Some host
    → told_from so_far (payloads ++ payload ∷ []) ≡ record_taken payload (Some host)
told_more so_far [] host payload is = itself (record_taken payload so_far) ∙ ap (record_taken payload) is
told_more so_far (p ∷ payloads) host payload is = by (record_taken p so_far) (λ h. told_more (Some h) payloads host payload) is
  where
    by : (o : Option Host) → ((h : Host) → told_from (Some h) payloads ≡ Some host
        → told_from (Some h) (payloads ++ payload ∷ []) ≡ record_taken payload (Some host))
        → (elim o [ None ↦ None | Some h ↦ told_from (Some h) payloads ]) ≡ Some host
        → (elim o [ None ↦ None | Some h ↦ told_from (Some h) (payloads ++ payload ∷ []) ]) ≡ record_taken payload (Some host)
    by None more is = absurd (none-some host is)
    by (Some h) more is = more h is

-- the same behind either beginning of a journal
pub told_by_more : (version : ℕ) (snapshot : List ℕ) (payloads : List (List ℕ)) (host : Host) (payload : List ℕ) → told_by version snapshot payloads ≡ Some host
    → told_by version snapshot (payloads ++ payload ∷ []) ≡ record_taken payload (Some host)
told_by_more zero snapshot payloads host payload is = told_more None payloads host payload is
told_by_more (suc more) snapshot payloads host payload is = by (host_by (suc more) snapshot) is
  where
    by : (read : Read Host) → told_behind read payloads ≡ Some host → told_behind read (payloads ++ payload ∷ []) ≡ record_taken payload (Some host)
    by (Ok first) is = told_more (Some first) payloads host payload is
    by (Err fault) is = absurd (none-some host is)

records-append : (ps qs : List (List ℕ)) → records (ps ++ qs) ≡ records ps ++ records qs
records-append [] qs = refl
records-append (p ∷ ps) qs = ap (λ (l : List ℕ). 1 ∷ frame p ++ l) (records-append ps qs)
    ∙ ap (λ (l : List ℕ). 1 ∷ l) (sym (append_assoc (frame p) (records ps) (records qs)))

-- the records from a place on are no longer than all
within : (place bound : ℕ) (before : List (List ℕ)) (payload : List ℕ) (later : List (List ℕ)) → place + length (records (before ++ payload ∷ later)) ≤ bound
    → place + length (records before) + (5 + length payload) ≤ bound
within place bound before payload later short = omega (
  arith,
  short,
  ap length (records-append before (payload ∷ later)),
  length-append (records before) (records (payload ∷ later)),
  length-append (1 ∷ frame payload) (records later),
  length-frame payload,
)

module _ (payloads : List (List ℕ)) (i : ℕ) (payload : List ℕ) (at : slice_get payloads i ≡ Some payload) where
  pub parted : payloads ≡ take i payloads ++ payload ∷ drop (i + 1) payloads
  parted = sym (take-append-drop i payloads) ∙ ap (λ l. take i payloads ++ l) (drop-at payloads i payload at)

  -- a record's end is within all of them
  pub next_within : (place bound now : ℕ) → place + length (records payloads) ≤ bound → now ≡ place + length (records (take i payloads))
      → now + (5 + length payload) ≤ bound
  next_within place bound now short is = let fits = within place bound (take i payloads) payload (drop (i + 1) payloads)
      (subst (λ ps. place + length (records ps) ≤ bound) parted short) in omega (arith, fits, is)

  -- and is where the next begins
  pub next_is : (place now : ℕ) (more : List (List ℕ)) → now ≡ place + length (records (take i payloads)) → more ≡ take i payloads ++ payload ∷ []
      → now + (5 + length payload) ≡ place + length (records more)
  next_is place now more is same = omega (
    arith,
    is,
    ap (λ ps. length (records ps)) same,
    ap length (records-append (take i payloads) (payload ∷ [])),
    length-append (records (take i payloads)) (records (payload ∷ [])),
    length-append (1 ∷ frame payload) (records []),
    length-frame payload,
  )

-- a record that isn't taken
pub refused_from : (host : Host) (place : ℕ) (payloads : List (List ℕ)) (i : ℕ) (payload slice : List ℕ) (now : Host) (at : ℕ) (fault : TellFault)
    → slice ≡ payload → slice_get payloads i ≡ Some payload → told_from (Some host) (take i payloads) ≡ Some now
    → at ≡ place + length (records (take i payloads))
    → IsRefused at (record_taken slice (Some now) ≡ None) fault → IsTakenFault host place payloads fault
refused_from host place payloads i payload slice now at (Untold found) same is tells stands bad = record {
  before = take i payloads;
  payload = payload;
  later = drop (i + 1) payloads;
  is = parted payloads i payload is;
  so_far = ap is_some tells;
  bad = ap (record_taken payload) tells ∙ ap (λ q. record_taken q (Some now)) (sym same) ∙ bad.1;
  stands = bad.0 ∙ stands;
}
refused_from host place payloads i payload slice now at (Memory memory) same is tells stands bad = tt

-- records behind the first one

first_told : (first : List ℕ) (later : List (List ℕ)) (host : Host) → record_taken first None ≡ Some host → told (first ∷ later) ≡ told_from (Some host) later
first_told first later host is = ap (λ (r : Option Host). elim r [ None ↦ None | Some h ↦ told_from (Some h) later ]) is

pub told_first : (payloads : List (List ℕ)) (first : List ℕ) (later : List (List ℕ)) (host now : Host) → payloads ≡ first ∷ later
    → record_taken first None ≡ Some host → told_from (Some host) later ≡ Some now → told payloads ≡ Some now
told_first payloads first later host now is one rest = ap told is ∙ first_told first later host one ∙ rest

pub bad_first : (payloads : List (List ℕ)) (first slice : List ℕ) (later : List (List ℕ)) (fault : TellFault) → slice ≡ first → payloads ≡ first ∷ later
    → IsRefused 16 (record_taken slice None ≡ None) fault → IsTellFault 0 [] payloads fault
bad_first payloads first slice later (Untold place) same is bad = inr (record {
  before = [];
  payload = first;
  later = later;
  is = is;
  so_far = inl refl;
  bad = ap (λ q. record_taken q None) (sym same) ∙ bad.1;
  at = bad.0;
})
bad_first payloads first slice later (Memory memory) same is bad = tt

pub bad_later : (payloads : List (List ℕ)) (first : List ℕ) (later : List (List ℕ)) (host : Host) (place : ℕ) (fault : TellFault) → payloads ≡ first ∷ later
    → record_taken first None ≡ Some host → place ≡ 21 + length first → IsTakenFault host place later fault → IsTellFault 0 [] payloads fault
bad_later payloads first later host place (Untold at) is one stands bad = inr (record {
  before = first ∷ bad.before;
  payload = bad.payload;
  later = bad.later;
  is = is ∙ ap (λ l. first ∷ l) bad.is;
  so_far = inr (subst (λ o. IsTrue (is_some o)) (sym (first_told first bad.before host one)) bad.so_far);
  bad = ap (record_taken bad.payload) (first_told first bad.before host one) ∙ bad.bad;
  at = omega (
    arith,
    bad.stands,
    stands,
    length-append header (records (first ∷ bad.before)),
    length-append (1 ∷ frame first) (records bad.before),
    length-frame first,
  );
})
bad_later payloads first later host place (Memory memory) is one stands bad = tt

-- records behind a snapshot

-- how long its front is
pub length-front_by : (version : ℕ) (snapshot : List ℕ) → version ≢ 0 → version ≤ 2 → length (front_of version snapshot) ≡ 24 + length snapshot
length-front_by zero snapshot some few = absurd (some refl)
length-front_by (suc zero) snapshot some few = length-front_of 1 snapshot refl
length-front_by (suc (suc zero)) snapshot some few = length-front_of 2 snapshot refl
length-front_by (suc (suc (suc more))) snapshot some few = absurd (let no : ⊥ = omega arith in no)

pub told_snapshot : (version : ℕ) (snapshot : List ℕ) (payloads : List (List ℕ)) (host now : Host) → version ≢ 0 → host_by version snapshot ≡ Ok host
    → told_from (Some host) payloads ≡ Some now → told_by version snapshot payloads ≡ Some now
told_snapshot zero snapshot payloads host now is_one reads rest = absurd (is_one refl)
told_snapshot (suc more) snapshot payloads host now is_one reads rest = ap (λ r. told_behind r payloads) reads ∙ rest

pub bad_snapshot : (version : ℕ) (snapshot : List ℕ) (payloads : List (List ℕ)) (fault : TellFault) → version ≢ 0
    → IsRefused 24 ((why : RecordFault) × (host_by version snapshot ≡ Err why)) fault → IsTellFault version snapshot payloads fault
bad_snapshot zero snapshot payloads (Untold place) is_one bad = absurd (is_one refl)
bad_snapshot (suc more) snapshot payloads (Untold place) is_one bad =
    subst (λ r. IsUntoldBehind r (length (front_of (suc more) snapshot)) payloads place) (sym bad.1.1) bad.0
bad_snapshot version snapshot payloads (Memory memory) is_one bad = tt

pub bad_behind : (version : ℕ) (snapshot : List ℕ) (payloads : List (List ℕ)) (host : Host) (place : ℕ) (fault : TellFault) → version ≢ 0
    → host_by version snapshot ≡ Ok host → place ≡ length (front_of version snapshot) → IsTakenFault host place payloads fault → IsTellFault version snapshot payloads fault
bad_behind zero snapshot payloads host place (Untold at) is_one reads stands bad = absurd (is_one refl)
bad_behind (suc more) snapshot payloads host place (Untold at) is_one reads stands bad =
    subst (λ r. IsUntoldBehind r (length (front_of (suc more) snapshot)) payloads at) (sym reads)
    (subst (λ p. IsBadFrom host p payloads at) stands bad)
bad_behind version snapshot payloads host place (Memory memory) is_one reads stands bad = tt

-- each version but the first has the spelling of today
pub host_by_now : (version : ℕ) (snapshot : List ℕ) → version ≢ 1 → host_by version snapshot ≡ snapshot_of snapshot
host_by_now zero snapshot other = refl
host_by_now (suc zero) snapshot other = absurd (other refl)
host_by_now (suc (suc more)) snapshot other = refl

-- the requests that run

module _ (ids : List RequestId) (row : Row Extent) where
  -- one more may run
  pub still_in : (r : Row Extent) → runs_in ids r ≡ true → runs_in (ids ++ row.id ∷ []) r ≡ true
  still_in r = imply (is_running r.state) (list_any (id_eq r.id) ids) (list_any (id_eq r.id) (ids ++ row.id ∷ [])) (any-before (id_eq r.id) ids (row.id ∷ []))

  -- and the row is among them
  pub added_in : runs_in (ids ++ row.id ∷ []) row ≡ true
  added_in = or_right (not (is_running row.state)) (list_any (id_eq row.id) (ids ++ row.id ∷ [])) (list_any-append (id_eq row.id) ids (row.id ∷ [])
      ∙ or_right (list_any (id_eq row.id) ids) (id_eq row.id row.id || false) (or_left (id_eq row.id row.id) false (same_id row.id)))
