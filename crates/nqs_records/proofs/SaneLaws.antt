-- What may stand in a record is sane for the rules.
use Rattle.std.proofs.Common.{◌≡◌, ℕ, zero, suc, ◌<◌, true, not, ◌&&◌, ◌==◌, nat_le, nat_lt, IsTrue, List, [], ◌∷◌, length, slice_index}
use Rattle.std.proofs.Common.{Option, Some, None, refl, arith}
use Rattle.std.specs.List.{list_all, AllByRecursion}
use Rattle.std.proofs.lemmas.Bool.{and_parts, and_from, le-leb, not_from_false}
use Rattle.std.proofs.lemmas.Bool.Decides.{nat_tests}
use Rattle.nqs_base.specs.Path.{IsPath, is_path, is_visible, has_parent}
use Rattle.nqs_base.specs.declared.extent.Extent.{Extent}
use Rattle.nqs_types.specs.declared.ids.HostId.{HostId}
use Rattle.nqs_types.specs.declared.request.Job.{Job}
use Rattle.nqs_types.specs.declared.request.Carried.{Carried}
use Rattle.nqs_types.specs.declared.change.OutPart.{OutPart}
use Rattle.nqs_types.specs.declared.change.Change.TheVariants.{Site, Submitted, Ended, Edited}
use Rattle.nqs_types.specs.declared.change.Change.TheVariants.{OldPromised, Promised}
use Rattle.nqs_types.specs.declared.change.Change.TheVariants.{StageGot}
use Rattle.nqs_types.specs.declared.edit.Edit.{Edit}
use Rattle.nqs_types.specs.declared.edit.Edit.TheVariants.{Conf, Limits as LimitsOf, Access as AccessOf, Devices as DevicesOf, Rows as RowsOf}
use Rattle.nqs_types.specs.declared.edit.ConfEdit.{ConfEdit}
use Rattle.nqs_types.specs.declared.edit.ConfEdit.TheVariants.{CreateBatchQueue, CreateDeviceQueue, CreatePipeQueue}
use Rattle.nqs_types.specs.declared.edit.ConfEdit.TheVariants.{SetPriority, SetRunLimit}
use Rattle.nqs_types.specs.declared.edit.ConfEdit.TheVariants.{SetPatience, SetRetryWait}
use Rattle.nqs_types.specs.declared.edit.LimitsEdit.{LimitsEdit}
use Rattle.nqs_types.specs.declared.edit.LimitsEdit.TheVariants.{SetUserLimit}
use Rattle.nqs_types.specs.declared.edit.LimitsEdit.TheVariants.{SetComplexLimit, SetGlobalLimit}
use Rattle.nqs_types.specs.declared.edit.RowsEdit.{RowsEdit}
use Rattle.nqs_types.specs.declared.edit.RowsEdit.TheVariants.{ModifyRequest}
use Rattle.nqs_rules.specs.Conf.{at_most, is_conf_within}
use Rattle.nqs_rules.specs.Limits.{is_limits_within}
use Rattle.nqs_rules.specs.Rows.{is_rows_within}
use Rattle.nqs_rules.specs.Sane.{is_sane_edit, is_sane_job, is_sane_carried, has_path}
use Rattle.nqs_records.specs.Values.{is_site_count, is_at_most, IsOpt, IsJob, IsCarried, IsPart}
use Rattle.nqs_records.specs.EditValues.{IsAtMost, IsEdit, IsConfEdit, IsLimitsEdit, IsRowsEdit}
use Rattle.nqs_records.specs.Changes.{WhatMayStandIsSane}

seen : (bs : List ℕ) → ((i : ℕ) → i < length bs → IsTrue (is_visible (slice_index bs i))) → list_all is_visible bs ≡ true
seen [] all = refl
seen (b ∷ bs) all = and_from (is_visible b) (list_all is_visible bs) (all 0 (omega arith)) (seen bs (λ i less. all (suc i) (omega (arith, less))))

-- as many starts as the rules allow may stand in a record
pub starts_few : (n : ℕ) → nat_lt n 65535 ≡ true → IsTrue (is_at_most 65534 n)
starts_few n few = grind (arith, nat_tests)

pub path_sane : (p : List ℕ) → IsPath p → is_path p ≡ true
path_sane [] path = absurd (omega (arith, path.some))
path_sane (b ∷ bs) path =
    let first = and_parts (is_visible b) (not (b == 47)) (path.allowed 0 path.some) in
    let all = seen (b ∷ bs) visible in
    and_from _ _ (and_from _ _ (and_from _ _ (and_from _ _ (le-leb 1 (length (b ∷ bs)) path.some) (le-leb (length (b ∷ bs)) 255 path.few)) all) first.1)
    (not_from_false (has_parent (b ∷ bs)) path.below)
  where
    visible : (i : ℕ) → i < length (b ∷ bs) → IsTrue (is_visible (slice_index (b ∷ bs) i))
    visible zero less = (and_parts (is_visible b) (not (b == 47)) (path.allowed 0 path.some)).0
    visible (suc i) less = path.allowed (suc i) less

job_sane : (j : Job) → IsJob j → is_sane_job j ≡ true
job_sane j is = and_from _ _ (and_from _ _ is.2 (path_sane j.out is.8)) (path_sane j.err is.9)

starts_sane : (n : ℕ) → IsTrue (is_at_most 65534 n) → nat_lt n 65535 ≡ true
starts_sane n is = grind (arith, nat_tests)

pub carried_sane : (c : Carried) → IsCarried c → is_sane_carried c ≡ true
carried_sane c is = and_from _ _ (and_from _ _ (and_from _ _ (and_from _ _ is.0.0 (job_sane c.job is.1)) (starts_sane c.starts is.2)) is.3) is.4

site_sane : (me : HostId) (n : ℕ) → IsTrue (is_site_count me n) → (nat_lt me.0 n && nat_le n 16) ≡ true
site_sane me n is =
    let p = and_parts (nat_le 1 n && nat_le n 16) (nat_lt me.0 n) is in
    and_from _ _ p.1 (and_parts (nat_le 1 n) (nat_le n 16) p.0).1

parts_sane : (parts : List (OutPart Extent)) → AllByRecursion IsPart parts → list_all has_path parts ≡ true
parts_sane [] all = refl
parts_sane (p ∷ ps) all = and_from _ _ (path_sane p.path all.0.0) (parts_sane ps all.1)

opt_sane : (limit : ℕ) (n : Option ℕ) → IsOpt (IsAtMost limit) n → at_most limit n ≡ true
opt_sane limit None is = refl
opt_sane limit (Some n) is = is

conf_sane : (e : ConfEdit) → IsConfEdit e → is_conf_within e ≡ true
conf_sane (CreateBatchQueue queue priority run_limit pipe_only) is = and_from _ _ (opt_sane 63 priority is.1) (opt_sane 10000 run_limit is.2)
conf_sane (CreateDeviceQueue queue priority run_limit pipe_only) is = and_from _ _ (opt_sane 63 priority is.1) (opt_sane 10000 run_limit is.2)
conf_sane (CreatePipeQueue queue priority run_limit pipe_only destination) is = and_from _ _ (opt_sane 63 priority is.1) (opt_sane 10000 run_limit is.2)
conf_sane (SetPriority priority queue) is = is.0
conf_sane (SetRunLimit limit queue) is = is.0
conf_sane (SetPatience seconds) is = is
conf_sane (SetRetryWait seconds) is = is
conf_sane e is = refl

limits_sane : (e : LimitsEdit) → IsLimitsEdit e → is_limits_within e ≡ true
limits_sane (SetUserLimit limit queue) is = opt_sane 10000 limit is.0
limits_sane (SetComplexLimit limit complex) is = is.0
limits_sane (SetGlobalLimit limit) is = is
limits_sane e is = refl

rows_sane : (e : RowsEdit) → IsRowsEdit e → is_rows_within e ≡ true
rows_sane (ModifyRequest request priority) is = is.1
rows_sane e is = refl

edit_sane : (e : Edit) → IsEdit e → is_sane_edit e ≡ true
edit_sane (Conf e) is = conf_sane e is
edit_sane (LimitsOf e) is = limits_sane e is
edit_sane (AccessOf e) is = refl
edit_sane (DevicesOf e) is = refl
edit_sane (RowsOf e) is = rows_sane e is

pub what_may_stand_is_sane : WhatMayStandIsSane
what_may_stand_is_sane (Site me site) ok = site_sane me (length site) ok.1.0
what_may_stand_is_sane (Submitted queue job script) ok = job_sane job ok.1
what_may_stand_is_sane (Ended id outputs) ok = and_from _ _ ok.1.0 (parts_sane outputs ok.1.1)
what_may_stand_is_sane (Edited edit) ok = edit_sane edit ok
what_may_stand_is_sane (OldPromised peer number queue carried script) ok = carried_sane carried ok.3
what_may_stand_is_sane (Promised peer number low queue carried script) ok = and_from _ _ ok.1.1 (carried_sane carried ok.3)
what_may_stand_is_sane (StageGot peer number path bytes) ok = path_sane path ok.2
what_may_stand_is_sane change ok = refl
