-- What words may say: names, numbers, requests and destinations.
use Rattle.std.specs.Prelude.{ℕ, ◌+◌, Bool, false, ◌&&◌, ◌||◌, ◌==◌, nat_le, List, [], ◌∷◌, length, take, drop, Option, Some, None, is_none, if◌then◌else◌, Ok}
use Rattle.std.specs.Prelude.{Err}
use Rattle.std.specs.List.{position, list_all}
use Rattle.std.specs.declared.result.Result.{Result}
use Rattle.nqs_base.specs.Name.{is_letter, is_digit}
use Rattle.nqs_types.specs.declared.ids.Named.{Named}
use Rattle.nqs_types.specs.declared.ids.NamedDest.{NamedDest}
use Rattle.nqs_text.specs.Number.{decimal, first_other}
use Rattle.nqs_words.specs.declared.values.NotNamed.{NotNamed}
use Rattle.nqs_words.specs.declared.values.NotNamed.TheVariants.{BadNumber, BadName}

-- a letter, a digit, `_` or `-`
abbrev pub is_name_byte : ℕ → Bool
is_name_byte b = is_letter b || is_digit b || b == 95 || b == 45

-- a letter, and then bytes of a name
abbrev pub begins_as_name : List ℕ → Bool
begins_as_name [] = false
begins_as_name (b ∷ bs) = is_letter b && list_all is_name_byte bs

-- is it a name, of at most 15 bytes?
unfoldable pub is_name : List ℕ → Bool
is_name bytes = begins_as_name bytes && nat_le (length bytes) 15

-- the bytes as a name
unfoldable pub name_of : List ℕ → Option (List ℕ)
name_of bytes = if is_name bytes then Some bytes else None

-- some bytes, and all of them digits
abbrev pub are_digits : List ℕ → Bool
are_digits [] = false
are_digits (b ∷ bs) = is_none (first_other (b ∷ bs))

-- the number that plain digits write, where it lies between these two
unfoldable pub number_of : ℕ → ℕ → List ℕ → Option ℕ
number_of low high bytes = if are_digits bytes && (nat_le low (decimal bytes) && nat_le (decimal bytes) high) then Some (decimal bytes) else None

-- a `0` stands first
abbrev pub begins_with_zero : List ℕ → Bool
begins_with_zero [] = false
begins_with_zero (b ∷ bs) = b == 48

-- a sequence number, which is written without zeros in front
unfoldable pub seq_of : List ℕ → Option ℕ
seq_of bytes = if begins_with_zero bytes then None else number_of 1 4294967294 bytes

-- where a byte comes first
unfoldable pub place_of : ℕ → List ℕ → Option ℕ
place_of byte bytes = position (λ b. b == byte) bytes

-- the host of a request with this number, as the bytes behind the number's point tell it
abbrev pub with_host : ℕ → Option (List ℕ) → Result Named NotNamed
with_host seq (Some host) = Ok (record { seq = seq; host = host })
with_host seq None = Err BadName

-- the request of a number and a host; where neither is one, the number is at fault
abbrev pub of_parts : Option ℕ → Option (List ℕ) → Result Named NotNamed
of_parts (Some seq) host = with_host seq host
of_parts None host = Err BadNumber

-- a request from what stands before the first point and behind it; without one it has no host
abbrev pub split_named : Option ℕ → List ℕ → Result Named NotNamed
split_named None bytes = of_parts (seq_of bytes) None
split_named (Some point) bytes = of_parts (seq_of (take point bytes)) (name_of (drop (point + 1) bytes))

-- a request, as SEQ.HOST
unfoldable pub named_of : List ℕ → Result Named NotNamed
named_of bytes = split_named (place_of 46 bytes) bytes

-- the destination of a queue and a host, where both are names
abbrev pub both_names : Option (List ℕ) → Option (List ℕ) → Option NamedDest
both_names (Some queue) (Some host) = Some (record { queue = queue; host = host })
both_names _ _ = None

-- a destination from what stands before the first sign and behind it; without one there is none
abbrev pub split_dest : Option ℕ → List ℕ → Option NamedDest
split_dest None bytes = None
split_dest (Some sign) bytes = both_names (name_of (take sign bytes)) (name_of (drop (sign + 1) bytes))

-- a destination, as QUEUE@HOST
unfoldable pub dest_of : List ℕ → Option NamedDest
dest_of bytes = split_dest (place_of 64 bytes) bytes
