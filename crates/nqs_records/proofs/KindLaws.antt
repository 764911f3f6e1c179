-- Each kind of record is read as it is spelled: the table's rows and the entries of changes agree.
use Rattle.std.proofs.Common.{rules, ◌≡◌, ℕ, [], refl}
use Rattle.std.specs.List.{AllByRecursion}
use Rattle.nqs_base.proofs.Readings.{bind}
use Rattle.nqs_types.specs.declared.change.Change.TheVariants.{Boot}
use Rattle.nqs_records.specs.Tables.{values_at, IsEntry, entry_field}
use Rattle.nqs_records.specs.KindFields.{IsValue, value_field, value_at}
use Rattle.nqs_records.specs.KindTable.{HostChange, kinds, hand_kinds, host_kinds, kind_entry}
use Rattle.nqs_records.specs.Kinds.{no_kind, change_at}
use Rattle.nqs_records.specs.Changes.{MayStand, spelling}
use Rattle.nqs_records.proofs.IsRead.{IsRead}
use Rattle.nqs_records.proofs.KindFieldLaws.{is_any, kind_fields_are_read}
use Rattle.nqs_records.proofs.Tables.{IsMade, IsRow, IsTable, IsNever, table_law, named}

-- each change is made by the row of its kind: one line for all of them
kind_made : (c : HostChange) → IsMade value_at kinds (kind_entry c) c
unfolding kinds hand_kinds host_kinds
kind_made Boot = (λ other bytes start end h. bind (values_at value_at [] bytes start) _ _ _ h refl, refl, refl)
kind_made c = (λ other bytes start end h. bind (values_at value_at (kind_entry c).shape bytes start) _ _ _ h refl, refl, refl)

-- each row makes a change of its kind and its values
kinds_rows : AllByRecursion (IsRow is_any kind_entry) kinds
unfolding kinds hand_kinds host_kinds
kinds_rows = search rules

no_change : (at : ℕ) → IsNever no_kind
no_change at bytes place v e = cc

pub kinds_agree : IsTable value_at is_any kind_entry kinds
kinds_agree = record { all_rows = kinds_rows; all_made = kind_made }

pub spelled : (c : HostChange) → spelling c ≡ entry_field value_field (kind_entry c)
unfolding spelling
spelled Boot = refl
spelled c = refl

pub limited : (c : HostChange) → MayStand c ≡ IsEntry IsValue (kind_entry c)
limited Boot = refl
limited c = refl

pub change_law : IsRead MayStand spelling change_at
unfolding change_at
change_law = named MayStand spelling change_at limited spelled
    (table_law IsValue value_field value_at is_any kind_fields_are_read kind_entry kinds (λ at. no_kind) kinds_agree no_change)
