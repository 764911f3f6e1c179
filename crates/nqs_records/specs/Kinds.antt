-- How records are read: a kind, and its fields.
use Rattle.std.specs.Prelude.{ℕ, List, Err}
use Rattle.nqs_records.specs.Reading.{Read, Reading, ◌>>=◌, alone}
use Rattle.nqs_records.specs.Fields.{u8_at}
use Rattle.nqs_records.specs.Tables.{by_code}
use Rattle.nqs_records.specs.KindFields.{value_at}
use Rattle.nqs_records.specs.KindTable.{HostChange, kinds}
use Rattle.nqs_records.specs.declared.fault.RecordFault.TheVariants.{Kind}

-- no change is of this kind
abbrev pub no_kind : Reading HostChange
no_kind bytes place = Err (Kind 0)

-- a kind, and its fields
unfoldable pub change_at : Reading HostChange
change_at bytes place = do
  kind ← u8_at bytes place
  by_code value_at kinds kind.0 no_kind bytes kind.1

-- the whole list as one record
unfoldable pub record_of : List ℕ → Read HostChange
record_of bytes = alone change_at bytes 0
