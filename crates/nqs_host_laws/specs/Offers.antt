-- The offers that one change takes back.
use Rattle.std.specs.Prelude.{Bool, true, nat_le, length}
use Rattle.nqs_records.specs.Values.{IsU64}
use Rattle.nqs_types.specs.declared.ids.PeerNumber.{PeerNumber}
use Rattle.nqs_types.specs.declared.change.Change.{Change}
use Rattle.nqs_types.specs.declared.change.Change.TheVariants.{HandsSilent}

-- no more than a record has room for, which counts them in one byte
abbrev pub takes_back_few : {E : Type 0} → Change E → Bool
takes_back_few (HandsSilent until hands) = nat_le (length hands) 255
takes_back_few _ = true

-- its number is one of eight bytes
abbrev pub HasNumber : PeerNumber → Type 0
HasNumber hand = IsU64 hand.number
