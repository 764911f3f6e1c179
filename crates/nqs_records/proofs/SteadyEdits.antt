-- Edits are read the same whatever follows.
use Rattle.std.proofs.Common.{ℕ, ◌++◌, refl}
use Rattle.nqs_records.specs.Reading.{bad_at}
use Rattle.nqs_records.specs.Fields.{u8_at}
use Rattle.nqs_records.specs.Parts.{at_most_at, wait_at, flag_at, dest_at, named_at}
use Rattle.nqs_records.specs.Tables.{by_code}
use Rattle.nqs_records.specs.EditFields.{Field, eight_bytes, at_most, a_wait, a_flag, a_name, maybe, a_dest, a_named, value_at}
use Rattle.nqs_records.specs.EditTable.{edits}
use Rattle.nqs_records.specs.Edits.{edit_at}
use Rattle.nqs_records.proofs.Steady.{IsSteady, then, mapped_steady, both_steady, within_steady}
use Rattle.nqs_records.proofs.SteadyFields.{u8_steady, u64_steady, u8_some, u64_some, opt_steady}
use Rattle.nqs_records.proofs.SteadyNames.{name_steady}
use Rattle.nqs_records.proofs.SteadyParts.{seq_steady}
use Rattle.nqs_records.proofs.SteadyTables.{table_stays}

at_most_steady : (limit : ℕ) → IsSteady (at_most_at limit)
unfolding at_most_at
at_most_steady limit = within_steady _ _ u64_some u64_steady

wait_steady : IsSteady wait_at
unfolding wait_at
wait_steady = within_steady _ _ u64_some u64_steady

flag_steady : IsSteady flag_at
unfolding flag_at
flag_steady = mapped_steady _ _ (opt_steady _ (within_steady _ _ u64_some u64_steady))

dest_steady : IsSteady dest_at
unfolding dest_at
dest_steady = mapped_steady _ _ (both_steady _ _ name_steady (λ _. name_steady))

named_steady : IsSteady named_at
unfolding named_at
named_steady = mapped_steady _ _ (both_steady _ _ seq_steady (λ _. name_steady))

field_steady : (f : Field) → IsSteady (value_at f)
field_steady eight_bytes = u64_steady
field_steady (at_most limit) = at_most_steady limit
field_steady a_wait = wait_steady
field_steady a_flag = flag_steady
field_steady a_name = name_steady
field_steady (maybe f) = opt_steady _ (field_steady f)
field_steady a_dest = dest_steady
field_steady a_named = named_steady

pub edit_steady : IsSteady edit_at
unfolding edit_at
edit_steady bytes more place =
    then bytes (u8_at bytes place) (u8_at (bytes ++ more) place) (λ code. by_code value_at edits code.0 (bad_at place) bytes code.1)
    (λ code. by_code value_at edits code.0 (bad_at place) (bytes ++ more) code.1) (u8_steady bytes more place)
    (λ code is. table_stays value_at field_steady edits code.0 (bad_at place) bytes more code.1 (u8_some bytes place code is, refl))
