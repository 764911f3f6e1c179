-- What stands behind the code of an edit: fields, each with its values, their limits, their
-- spelling and its reading.
use Rattle.std.specs.Prelude.{ℕ, Bool, true, nat_le, IsTrue, List, Option}
use Rattle.nqs_base.specs.Name.{IsName}
use Rattle.nqs_types.specs.declared.ids.Named.{Named}
use Rattle.nqs_types.specs.declared.ids.NamedDest.{NamedDest}
use Rattle.nqs_rules.specs.Conf.{is_wait}
use Rattle.nqs_codec.specs.Fields.{u64_field, short_field}
use Rattle.nqs_records.specs.Values.{IsU64, IsAny, IsAtMost, IsOpt, IsDest, IsNamed}
use Rattle.nqs_records.specs.Spelling.{opt_field, flag_field, dest_field, named_field}
use Rattle.nqs_records.specs.Reading.{Reading}
use Rattle.nqs_records.specs.Fields.{u64_at, opt_at, name_at}
use Rattle.nqs_records.specs.Parts.{at_most_at, wait_at, flag_at, dest_at, named_at}

-- a field of an edit
pub data Field : Type 0 where
  -- a number of eight bytes
  eight_bytes : Field
  -- a number of eight bytes, up to a limit
  at_most : ℕ → Field
  -- seconds to wait
  a_wait : Field
  -- whether it is so
  a_flag : Field
  -- a name
  a_name : Field
  -- what may be left out
  maybe : Field → Field
  -- a destination of two names
  a_dest : Field
  -- a request as it was typed
  a_named : Field

-- what stands in a field
abbrev pub ValueOf : Field → Type 0
ValueOf eight_bytes = ℕ
ValueOf (at_most limit) = ℕ
ValueOf a_wait = ℕ
ValueOf a_flag = Bool
ValueOf a_name = List ℕ
ValueOf (maybe f) = Option (ValueOf f)
ValueOf a_dest = NamedDest
ValueOf a_named = Named

-- a value is within its field's limits
abbrev pub IsValue : (f : Field) → ValueOf f → Type 0
IsValue eight_bytes n = IsU64 n
IsValue (at_most limit) n = IsAtMost limit n
IsValue a_wait n = IsTrue (is_wait n)
IsValue a_flag is_set = IsAny is_set
IsValue a_name bytes = IsName bytes
IsValue (maybe f) v = IsOpt (IsValue f) v
IsValue a_dest d = IsDest d
IsValue a_named n = IsNamed n

-- how it is spelled
abbrev pub value_field : (f : Field) → ValueOf f → List ℕ
value_field eight_bytes n = u64_field n
value_field (at_most limit) n = u64_field n
value_field a_wait n = u64_field n
value_field a_flag is_set = flag_field is_set
value_field a_name bytes = short_field bytes
value_field (maybe f) v = opt_field (value_field f) v
value_field a_dest d = dest_field d
value_field a_named n = named_field n

-- how it is read
abbrev pub value_at : (f : Field) → Reading (ValueOf f)
value_at eight_bytes = u64_at
value_at (at_most limit) = at_most_at limit
value_at a_wait = wait_at
value_at a_flag = flag_at
value_at a_name = name_at
value_at (maybe f) = opt_at (value_at f)
value_at a_dest = dest_at
value_at a_named = named_at

-- a limit is far below what eight bytes hold
abbrev pub is_sound : Field → Bool
is_sound (at_most limit) = nat_le limit 10000
is_sound (maybe f) = is_sound f
is_sound _ = true
