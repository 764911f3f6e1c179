-- How edits are read.
use Rattle.nqs_types.specs.declared.edit.Edit.{Edit}
use Rattle.nqs_records.specs.Reading.{Reading, ◌>>=◌, bad_at}
use Rattle.nqs_records.specs.Fields.{u8_at}
use Rattle.nqs_records.specs.Tables.{by_code}
use Rattle.nqs_records.specs.EditFields.{value_at}
use Rattle.nqs_records.specs.EditTable.{edits}

-- a code, and the arguments of its edit
unfoldable pub edit_at : Reading Edit
edit_at bytes place = do
  code ← u8_at bytes place
  by_code value_at edits code.0 (bad_at place) bytes code.1
