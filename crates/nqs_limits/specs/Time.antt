-- Times as they are typed: `S`, `M:S` or `H:M:S`, in seconds.
use Rattle.std.specs.Prelude.{◌≡◌, ℕ, ◌+◌, ◌*◌, ◌^◌, ◌<◌, ◌≤◌, nat_le, ◌==◌, List, [], ◌∷◌, length, take, drop, Option, Some, None, if◌then◌else◌, Ok, Err}
use Rattle.std.specs.Option.{option_map, option_or}
use Rattle.std.specs.List.{position}
use Rattle.std.specs.declared.result.Result.{Result}
use Rattle.nqs_text.specs.Number.{decimal, first_other}
use Rattle.nqs_text.specs.declared.number.NumberFault.{NumberFault}
use Rattle.nqs_text.specs.declared.number.NumberFault.TheVariants.{Empty, BadByte, TooLarge}

-- the place of the first colon, if there is one
unfoldable pub first_colon : List ℕ → Option ℕ
first_colon bytes = position (λ b. b == 58) bytes

-- what is wrong with a part that begins at a place: it has no digits, or a byte that is none
abbrev pub part_fault : ℕ → List ℕ → Option ℕ
part_fault place [] = Some place
part_fault place (b ∷ bs) = option_map (λ i. place + i) (first_other (b ∷ bs))

-- or it is 60 or more, where something stands before it
abbrev pub later_fault : ℕ → List ℕ → Option ℕ
later_fault place part = option_or (part_fault place part) (if nat_le 60 (decimal part) then Some place else None)

-- what is wrong with one or two later parts from a place on, where the first of them ends at this
-- colon
abbrev pub later_faults : Option ℕ → ℕ → List ℕ → Option ℕ
later_faults None place bytes = later_fault place bytes
later_faults (Some colon) place bytes = option_or (later_fault place (take colon bytes)) (later_fault (place + colon + 1) (drop (colon + 1) bytes))

-- the same of one to three parts
abbrev pub time_faults : Option ℕ → List ℕ → Option ℕ
time_faults None bytes = part_fault 0 bytes
time_faults (Some colon) bytes = option_or (part_fault 0 (take colon bytes))
    (later_faults (first_colon (drop (colon + 1) bytes)) (colon + 1) (drop (colon + 1) bytes))

-- the first place where the bytes are no time
abbrev pub time_fault : List ℕ → Option ℕ
time_fault bytes = time_faults (first_colon bytes) bytes

-- sixty times what stands before, and each later part
abbrev pub later_seconds : Option ℕ → ℕ → List ℕ → ℕ
later_seconds None n bytes = n * 60 + decimal bytes
later_seconds (Some colon) n bytes = (n * 60 + decimal (take colon bytes)) * 60 + decimal (drop (colon + 1) bytes)

-- the seconds of one to three parts, of which the first ends at this colon
abbrev pub all_seconds : Option ℕ → List ℕ → ℕ
all_seconds None bytes = decimal bytes
all_seconds (Some colon) bytes = later_seconds (first_colon (drop (colon + 1) bytes)) (decimal (take colon bytes)) (drop (colon + 1) bytes)

-- the seconds of a time
abbrev pub seconds : List ℕ → ℕ
seconds bytes = all_seconds (first_colon bytes) bytes

-- what reading a time answers; the cases exclude each other
abbrev pub ReadsTime : List ℕ → Result ℕ NumberFault → Type 0
ReadsTime bytes (Ok n) = (time_fault bytes ≡ None) × (n ≡ seconds bytes) × (seconds bytes < 2 ^ 64)
ReadsTime bytes (Err Empty) = bytes ≡ []
ReadsTime bytes (Err (BadByte place)) = (time_fault bytes ≡ Some place) × (0 < length bytes)
ReadsTime bytes (Err TooLarge) = (time_fault bytes ≡ None) × (2 ^ 64 ≤ seconds bytes)
