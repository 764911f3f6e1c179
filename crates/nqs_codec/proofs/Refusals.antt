-- Where a take refuses, no field stands.
use Rattle.std.proofs.Common.{◌≡◌, ℕ, ◌+◌, ◌<◌, ◌≤◌, ◌⊎◌, inl, inr, Bool, true, false, IsTrue, List, [], ◌++◌, length, drop, sym, ap, ◌∙◌, subst, arith}
use Rattle.std.proofs.Common.{length-append, Err}
use Rattle.std.specs.Prelude.{⊤}
use Rattle.nqs_base.specs.Name.{IsName, IsFirstBad}
use Rattle.nqs_base.specs.Path.{IsPath, IsFirstBadOfPath, has_parent}
use Rattle.nqs_codec.specs.Fields.{short_field, bool_field}
use Rattle.nqs_codec.specs.Takes.{StandsNone, TakesBool, TakesName, TakesPath, IsOther, IsCutShort, IsBadLength, IsShortFault, HasBadByte, HasParentAt}
use Rattle.nqs_codec.specs.declared.fault.FieldFault.{FieldFault}
use Rattle.nqs_codec.specs.declared.fault.FieldFault.TheVariants.{Short, Bad}
use Rattle.nqs_codec.proofs.One.{one_short}

no_bool_left : (value : Bool) (rest : List ℕ) → bool_field value ++ rest ≡ [] → ⊥
unfolding bool_field
no_bool_left true rest is = cc
no_bool_left false rest is = cc

no_other : (value : Bool) (rest : List ℕ) → IsOther (bool_field value ++ rest) → ⊥
unfolding bool_field
no_other true rest other = omega (arith, other)
no_other false rest other = omega (arith, other)

pub refused_bool : (bytes : List ℕ) (place : ℕ) (fault : FieldFault) → TakesBool bytes place (Err fault) → StandsNone (λ _. ⊤) bool_field bytes place
refused_bool bytes place (Short end) takes = λ value rest _ is. no_bool_left value rest (sym is ∙ takes.1)
refused_bool bytes place (Bad at) takes = λ value rest _ is. no_other value rest (subst IsOther is takes.1)

-- ---- names and paths

module _ (IsValue : List ℕ → Type 0) (most : ℕ) (some : (value : List ℕ) → IsValue value → 0 < length value)
    (few : (value : List ℕ) → IsValue value → length value ≤ most) where
  refused_short : (bytes : List ℕ) (place : ℕ) (fault : FieldFault) → IsShortFault most bytes place fault → StandsNone IsValue short_field bytes place
  unfolding short_field
  refused_short bytes place (Short end) takes = λ value rest is_value is.
      let cut = subst (IsCutShort most) is takes.1 in
      omega (arith, cut.2, length-append value rest)
  refused_short bytes place (Bad at) takes = λ value rest is_value is. by value (some value is_value) (few value is_value) (subst (IsBadLength most) is takes.1)
    where
      by : (value : List ℕ) → 0 < length value → length value ≤ most → (length value ≡ 0) ⊎ (most < length value) → ⊥
      by value least most' (inl none) = omega (arith, least, none)
      by value least most' (inr long) = omega (arith, most', long)

  refused_byte : (IsFirst : List ℕ → ℕ → Type 0) → ((value : List ℕ) (offset : ℕ) → IsValue value → IsFirst value offset → ⊥) → (bytes : List ℕ) (place at : ℕ)
      → HasBadByte IsFirst most bytes place at → StandsNone IsValue short_field bytes place
  refused_byte IsFirst never bytes place at found = λ value rest is_value is.
      let same = (one_short found.value value (drop (place + 1 + length found.value) bytes) rest (sym found.is_there.stands.text ∙ is)).0 in
      never value found.offset is_value (subst (λ (l : List ℕ). IsFirst l found.offset) same found.first)

no_bad_byte : (value : List ℕ) (offset : ℕ) → IsName value → IsFirstBad value offset → ⊥
no_bad_byte value offset name first =
    let same : false ≡ true = subst IsTrue first.bad (name.allowed offset first.inside) in
    absurd (let no : ⊥ = cc in no)

no_bad_of_path : (value : List ℕ) (offset : ℕ) → IsPath value → IsFirstBadOfPath value offset → ⊥
no_bad_of_path value offset path first =
    let same : false ≡ true = subst IsTrue first.bad (path.allowed offset first.inside) in
    absurd (let no : ⊥ = cc in no)

no_parent : (bytes : List ℕ) (place at : ℕ) → HasParentAt bytes place at → StandsNone IsPath short_field bytes place
no_parent bytes place at found = λ value rest path is.
    let same = (one_short found.value value (drop (place + 1 + length found.value) bytes) rest (sym found.is_there.stands.text ∙ is)).0 in
    let both : true ≡ false = sym found.parent ∙ ap has_parent same ∙ path.below in
    absurd (let no : ⊥ = cc in no)

pub refused_name : (bytes : List ℕ) (place : ℕ) (fault : FieldFault) → TakesName bytes place (Err fault) → StandsNone IsName short_field bytes place
refused_name bytes place (Short end) takes = refused_short IsName 15 (λ v name. name.some) (λ v name. name.few) bytes place (Short end) takes
refused_name bytes place (Bad at) (inl fault) = refused_short IsName 15 (λ v name. name.some) (λ v name. name.few) bytes place (Bad at) fault
refused_name bytes place (Bad at) (inr found) = refused_byte IsName 15 (λ v name. name.some) (λ v name. name.few) IsFirstBad no_bad_byte bytes place at found

pub refused_path : (bytes : List ℕ) (place : ℕ) (fault : FieldFault) → TakesPath bytes place (Err fault) → StandsNone IsPath short_field bytes place
refused_path bytes place (Short end) takes = refused_short IsPath 255 (λ v path. path.some) (λ v path. path.few) bytes place (Short end) takes
refused_path bytes place (Bad at) (inl fault) = refused_short IsPath 255 (λ v path. path.some) (λ v path. path.few) bytes place (Bad at) fault
refused_path bytes place (Bad at) (inr (inl found)) = refused_byte IsPath 255 (λ v path. path.some)
    (λ v path. path.few) IsFirstBadOfPath no_bad_of_path bytes place at found
refused_path bytes place (Bad at) (inr (inr found)) = no_parent bytes place at found
