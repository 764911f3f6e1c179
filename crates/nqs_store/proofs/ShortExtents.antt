-- The scripts and outputs of a host are short: those that it had are, and so is what a change
-- stores.
use Rattle.std.proofs.Common.{◌≡◌, ◌∙◌, Bool, true, false, ◌&&◌, nat_le, List, [], ◌∷◌, ◌++◌, map, refl, sym, subst, arith}
use Rattle.std.specs.List.{AllByRecursion, list_all}
use Rattle.std.proofs.lemmas.Bool.{and_from, leb-true, le-leb}
use Rattle.std.proofs.lemmas.List.Folds.{list_all-append, list_all-map}
use Rattle.nqs_base.specs.declared.extent.Extent.{Extent}
use Rattle.nqs_base.proofs.Plain.{each_is, all_pass}
use Rattle.nqs_types.specs.Scripts.{longest_script}
use Rattle.nqs_types.specs.declared.request.Stage.{Stage}
use Rattle.nqs_types.specs.declared.request.FileOut.{FileOut}
use Rattle.nqs_types.specs.declared.change.OutPart.{OutPart}
use Rattle.nqs_types.specs.declared.change.Change.{Change}
use Rattle.nqs_types.specs.declared.change.Change.TheVariants.{Submitted, Ended, OldPromised, Promised, StageGot, Boot}
use Rattle.nqs_rules.specs.Applied.{applied}
use Rattle.nqs_rules.specs.Fits.{fits}
use Rattle.nqs_rules.specs.InOrder.{are_parts_short}
use Rattle.nqs_rules.specs.Sane.{is_short_change}
use Rattle.nqs_rules.specs.Stepped.{part_bytes, stored_parts}
use Rattle.nqs_rules.proofs.Chains.{chained, each}
use Rattle.nqs_rules.proofs.ListFacts.{list_all-weaker}
use Rattle.nqs_rules.proofs.Sides.{AreShort, short_kept}
use Rattle.nqs_records.specs.Values.{IsPart}
use Rattle.nqs_records.specs.Changes.{MayStand}
use Rattle.nqs_spool.proofs.Lists.{all_has, has_all, all_with}
use Rattle.nqs_store.specs.Accounts.{Adds}
use Rattle.nqs_store.specs.Frees.{gone}
use Rattle.nqs_store.specs.Live.{live, row_part, promise_part, stage_part, file_part, output_parts}
use Rattle.nqs_store.specs.Puts.{length_of}
use Rattle.nqs_store.specs.Told.{Host}
use Rattle.nqs_store.proofs.Accounts.{accounted}
use Rattle.nqs_store.proofs.Extents.{takes_all}

-- no longer than a script
abbrev is_short : Extent → Bool
is_short x = nat_le x.length longest_script

-- no longer than an output
abbrev is_output : Extent → Bool
is_output x = nat_le x.length 32768

output_short : (x : Extent) → is_output x ≡ true → is_short x ≡ true
output_short x is = le-leb x.length longest_script (let few = leb-true x.length 32768 is in omega (arith, few))

-- what is put in passes as well
adds_all : (P : Extent → Type 0) (live xs more : List Extent) → Adds live xs more → AllByRecursion P xs → AllByRecursion P live → AllByRecursion P more
adds_all P live [] more is each all = subst (AllByRecursion P) is all
adds_all P live (x ∷ xs) more adds each all = adds_all P adds.0 xs more adds.2 each.1 (all_with P live adds.0 x adds.1 each.0 all)

-- ---- all extents of a host in one list, and those of each kind

abbrev rows_short : Host → Bool
rows_short host = list_all (λ r. is_short r.script) host.rows

abbrev promises_short : Host → Bool
promises_short host = list_all (λ p. is_short p.row.script) host.promises

abbrev stages_short : Host → Bool
stages_short host = list_all (λ t. is_short t.bytes) host.stages

abbrev files_short : Host → Bool
files_short host = list_all (λ f. is_short f.bytes) host.files

-- the test of all is that of each kind
spread : (host : Host) → list_all is_short (live host) ≡ (rows_short host && (promises_short host && (stages_short host && files_short host)))
spread host =
    let p = is_short in
    list_all-append p (map row_part host.rows) (map promise_part host.promises ++ output_parts host) ∙ (λ j. list_all-map p row_part host.rows j
    && (list_all-append p (map promise_part host.promises) (output_parts host) ∙ (λ k. list_all-map p promise_part host.promises k
    && (list_all-append p (map stage_part host.stages) (map file_part host.files)
    ∙ (λ l. list_all-map p stage_part host.stages l && list_all-map p file_part host.files l)) k)) j)

regroup : (a b c d : Bool) → (a && (b && (c && d))) ≡ (a && b && c && d)
regroup true b c d = by b c d
  where
    by : (b c d : Bool) → (b && (c && d)) ≡ (b && c && d)
    by true c d = refl
    by false c d = refl
regroup false b c d = refl

kinds : (host : Host) → list_all is_short (live host) ≡ (rows_short host && promises_short host && stages_short host && files_short host)
kinds host = spread host ∙ regroup (rows_short host) (promises_short host) (stages_short host) (files_short host)

-- what is short of each kind
record Parts (host : Host) : Type 0 where
  pub rows : rows_short host ≡ true
  pub promises : promises_short host ≡ true
  pub outputs : AreShort length_of host

parts_of : (host : Host) → are_parts_short length_of host ≡ true → Parts host
parts_of host short =
    let k = each (rows_short host) (promises_short host ∷ list_all (λ (t : Stage Extent). is_output t.bytes) host.stages
    ∷ list_all (λ (f : FileOut Extent). is_output f.bytes) host.files ∷ []) short in
    record { rows = k.0; promises = k.1.0; outputs = record { stages = k.1.1.0; files = k.1.1.1.0 } }

all_parts : (host : Host) → Parts host → are_parts_short length_of host ≡ true
all_parts host k = chained (rows_short host) (promises_short host ∷ list_all (λ (t : Stage Extent). is_output t.bytes) host.stages
    ∷ list_all (λ (f : FileOut Extent). is_output f.bytes) host.files ∷ [])
    (k.rows, (k.promises, (k.outputs.stages, (k.outputs.files, tt))))

each_live : (host : Host) → Parts host → list_all is_short (live host) ≡ true
each_live host k = kinds host ∙ chained (rows_short host) (promises_short host ∷ stages_short host ∷ files_short host ∷ []) (
  k.rows,
  (
    k.promises,
    (
      list_all-weaker (λ (t : Stage Extent). is_output t.bytes) (λ t. is_short t.bytes) (λ t is. output_short t.bytes is) host.stages k.outputs.stages,
      (
        list_all-weaker (λ (f : FileOut Extent). is_output f.bytes) (λ f. is_short f.bytes) (λ f is. output_short f.bytes is) host.files k.outputs.files,
        tt,
      ),
    ),
  ),
)

-- ---- what a change stores that may stand in a record

parts_few : (parts : List (OutPart Extent)) → AllByRecursion IsPart parts → list_all is_short (map part_bytes parts) ≡ true
parts_few [] stand = refl
parts_few (part ∷ parts) stand = and_from (is_short part.bytes) (list_all is_short (map part_bytes parts)) (output_short part.bytes stand.0.1.1)
    (parts_few parts stand.1)

stored_few : (change : Change Extent) → MayStand change → list_all is_short (stored_parts change) ≡ true
stored_few (Submitted queue job script) stands = and_from (is_short script) true stands.2.1 refl
stored_few (Ended id parts) stands = parts_few parts stands.1.1
stored_few (OldPromised peer number queue carried script) stands = and_from (is_short script) true stands.4.1 refl
stored_few (Promised peer number low queue carried script) stands = and_from (is_short script) true stands.4.1 refl
stored_few (StageGot peer number path bytes) stands = and_from (is_short bytes) true (output_short bytes stands.3.1) refl
stored_few Boot stands = refl
stored_few change stands = refl

parts_short : (parts : List (OutPart Extent)) → AllByRecursion IsPart parts → list_all (λ (part : OutPart Extent). is_output part.bytes) parts ≡ true
parts_short [] stand = refl
parts_short (part ∷ parts) stand = and_from (is_output part.bytes) (list_all (λ (part : OutPart Extent). is_output part.bytes) parts) stand.0.1.1
    (parts_short parts stand.1)

stored_short : (change : Change Extent) → MayStand change → is_short_change length_of change ≡ true
stored_short (Submitted queue job script) stands = stands.2.1
stored_short (Ended id parts) stands = parts_short parts stands.1.1
stored_short (OldPromised peer number queue carried script) stands = stands.4.1
stored_short (Promised peer number low queue carried script) stands = stands.4.1
stored_short (StageGot peer number path bytes) stands = stands.3.1
stored_short Boot stands = refl
stored_short change stands = refl

-- ---- the host after a change

-- its extents are no longer than a script
live_few : (change : Change Extent) (s : Host) → fits change s ≡ true → MayStand change → list_all is_short (live s) ≡ true
    → list_all is_short (live (applied change s)) ≡ true
live_few change s fit stands short =
    let P : Extent → Type 0 = λ x. is_short x ≡ true in
    let account = accounted change s fit in
    let stored = each_is is_short P (λ x k. k) (stored_parts change) (stored_few change stands) in
    let more = adds_all P (live s) (stored_parts change) account.more account.adds stored (each_is is_short P (λ x k. k) (live s) short) in
    let fewer = takes_all P account.more (gone change s) account.fewer account.takes more in
    all_pass P is_short (λ x k. k) (live (applied change s))
    (has_all P (live (applied change s)) (λ x has. all_has P account.fewer x fewer ((account.order.same x).0 has)))

pub live_short : (change : Change Extent) (s : Host) → fits change s ≡ true → MayStand change → are_parts_short length_of s ≡ true
    → are_parts_short length_of (applied change s) ≡ true
live_short change s fit stands short =
    let k = parts_of s short in
    let now = applied change s in
    let few = each (rows_short now) (promises_short now ∷ stages_short now ∷ files_short now ∷ [])
    (sym (kinds now) ∙ live_few change s fit stands (each_live s k)) in
    all_parts now (record { rows = few.0; promises = few.1.0; outputs = short_kept length_of change s fit (stored_short change stands) k.outputs })
