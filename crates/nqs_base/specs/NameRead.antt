-- What reading a name answers. The four cases exclude each other, and one of them holds of any
-- bytes.
use Rattle.std.specs.Prelude.{◌≡◌, ℕ, ◌<◌, ◌≤◌, List, [], length, Ok, Err}
use Rattle.std.specs.declared.result.Result.{Result}
use Rattle.nqs_base.specs.declared.name.Name.{Name}
use Rattle.nqs_base.specs.declared.name.NameFault.{NameFault}
use Rattle.nqs_base.specs.declared.name.NameFault.TheVariants.{Empty, Long, BadByte}
use Rattle.nqs_base.specs.Name.{IsName, IsFirstBad}

-- bytes are read as the name that they are, or with what keeps them from being one
abbrev pub ReadsName : List ℕ → Result Name NameFault → Type 0
ReadsName bytes (Ok name) = (name ≡ bytes) × IsName bytes
ReadsName bytes (Err Empty) = bytes ≡ []
ReadsName bytes (Err Long) = 15 < length bytes
ReadsName bytes (Err (BadByte place)) = (length bytes ≤ 15) × IsFirstBad bytes place
