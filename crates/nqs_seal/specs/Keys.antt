-- The file of a site's key.
use Rattle.std.specs.Prelude.{◌≡◌, ℕ, List, [], ◌∷◌, ◌++◌, codes, Ok, false}
use Rattle.std.specs.Char.{is_ascii_uppercase}
use Rattle.std.specs.List.{list_any}
use Rattle.std.specs.declared.option.Option.{Option}
use Rattle.std.specs.declared.option.Option.TheVariants.{None, Some}
use Rattle.hex.specs.Hex.{decode_sized}
use Rattle.nqs_seal.specs.declared.site.SiteKey.{SiteKey}
use Rattle.nqs_seal.specs.declared.site.SiteKey.TheVariants.{Open, Sealed}

-- the file says this: the word `open`, or the hex digits of a key's 32 bytes, none of them a capital letter, and a line feed
abbrev pub IsKeyFile : List ℕ → SiteKey → Type 0
IsKeyFile bytes Open = bytes ≡ codes "open" ++ 10 ∷ []
IsKeyFile bytes (Sealed key) =
    (digits : List ℕ) × (bytes ≡ digits ++ 10 ∷ []) × (list_any is_ascii_uppercase digits ≡ false) × (decode_sized digits 32 ≡ Ok key.bytes)

-- what reading the file answers: none exactly where it says nothing
abbrev pub ReadsKey : List ℕ → Option SiteKey → Type 0
ReadsKey bytes (Some key) = IsKeyFile bytes key
ReadsKey bytes None = (key : SiteKey) → IsKeyFile bytes key → ⊥
