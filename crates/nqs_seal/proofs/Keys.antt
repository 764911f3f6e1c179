-- A file that says no key.
use Rattle.std.proofs.Common.{◌≡◌, ◌++◌, ℕ, List, [], ◌∷◌, ap, sym, ◌∙◌, true, false, bytes_eq, codes, Ok}
use Rattle.std.specs.Char.{is_ascii_uppercase}
use Rattle.std.specs.List.{list_any}
use Rattle.std.proofs.lemmas.List.{append_cancel_right}
use Rattle.hex.specs.Hex.{decode_sized}
use Rattle.nqs_seal.specs.declared.site.SiteKey.{SiteKey}
use Rattle.nqs_seal.specs.declared.site.SiteKey.TheVariants.{Open, Sealed}
use Rattle.nqs_seal.specs.Keys.{IsKeyFile}

-- its line is neither the word nor the digits of a key
pub no_key : (bytes line : List ℕ) → bytes ≡ line ++ 10 ∷ [] → bytes_eq line (codes "open") ≡ false
    → ((key : List ℕ) → list_any is_ascii_uppercase line ≡ false → decode_sized line 32 ≡ Ok key → ⊥) → (key : SiteKey) → IsKeyFile bytes key → ⊥
no_key bytes line is word none Open told =
    let same : line ≡ codes "open" = append_cancel_right line (codes "open") (10 ∷ []) (sym is ∙ told) in
    let apart : true ≡ false = ap (λ l. bytes_eq l (codes "open")) (sym same) ∙ word in
    let no : ⊥ = cc in
    no
no_key bytes line is word none (Sealed key) told =
    let same : told.0 ≡ line = append_cancel_right told.0 line (10 ∷ []) (sym told.1 ∙ is) in
    none key.bytes (ap (λ d. list_any is_ascii_uppercase d) (sym same) ∙ told.2) (ap (λ d. decode_sized d 32) (sym same) ∙ told.3)
