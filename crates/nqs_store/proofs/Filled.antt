-- A change whose extents were filled in.
use Rattle.std.proofs.Common.{◌≡◌, ℕ, ◌≤◌, Bool, true, nat_le, List, [], ◌∷◌, map, drop, get_or, length, IsTrue, refl, sym, ap, subst, ◌∙◌, arith}
use Rattle.std.specs.List.{AllByRecursion, list_all}
use Rattle.std.proofs.lemmas.Bool.{and_parts, leb-true}
use Rattle.std.proofs.lemmas.List.{length-map}
use Rattle.nqs_state.specs.State.{State}
use Rattle.nqs_base.specs.declared.extent.Extent.{Extent}
use Rattle.nqs_types.specs.declared.change.OutPart.{OutPart}
use Rattle.nqs_types.specs.declared.change.Change.{Change}
use Rattle.nqs_types.specs.declared.change.Change.TheVariants.{Site, Submitted, Deleted, Doomed, Started, Ended, Unlaunched, Boot, Edited, HandOpened}
use Rattle.nqs_types.specs.declared.change.Change.TheVariants.{HandCommitted, HandRefused, HandsSilent, HandDone, OldPromised, Promised, Accepted, Dropped}
use Rattle.nqs_types.specs.declared.change.Change.TheVariants.{MovedLocal}
use Rattle.nqs_types.specs.declared.change.Change.TheVariants.{RefusedLocal, HeldFar, StageGot, StageGone, FileGone}
use Rattle.nqs_rules.specs.Fits.{fits}
use Rattle.nqs_rules.specs.Filled.{filled, filled_parts}
use Rattle.nqs_rules.specs.Stepped.{map_change, map_part, part_bytes, stored_parts, no_extent}
use Rattle.nqs_records.specs.Values.{IsScript, IsOutput, IsPart, is_at_most}
use Rattle.nqs_records.specs.Changes.{MayStand}
use Rattle.nqs_types.specs.Scripts.{longest_script}
use Rattle.nqs_store.specs.Puts.{IsShortPut, AreShortFor, length_of}
use Rattle.nqs_records.specs.Extents.{first_or, parts_with, with_extents}
use Rattle.nqs_records.proofs.PutBack.{length-parts_with}

-- a list with as many as another
abbrev AsMany : {A B : Type 0} → List A → List B → Type 0
AsMany {A} {B} xs ys = length xs ≡ length ys

abbrev none : {E : Type 0} → E → Extent
none x = no_extent

-- parts

parts_back : (parts : List (OutPart Extent)) (xs : List Extent) → parts_with (parts_with parts xs) (map part_bytes parts) ≡ parts
parts_back [] xs = refl
parts_back (part ∷ parts) xs = ap (λ ps. part ∷ ps) (parts_back parts (drop 1 xs))

parts_shape : (parts : List (OutPart Extent)) (xs : List Extent) → map (map_part none) (parts_with parts xs) ≡ map (map_part none) parts
parts_shape [] xs = refl
parts_shape (part ∷ parts) xs = ap (λ ps. map_part none part ∷ ps) (parts_shape parts (drop 1 xs))

parts_stored : (parts : List (OutPart Extent)) (xs : List Extent) → AsMany xs parts → map part_bytes (parts_with parts xs) ≡ xs
parts_stored [] [] many = refl
parts_stored [] (x ∷ xs) many = absurd (omega (arith, many))
parts_stored (part ∷ parts) [] many = absurd (omega (arith, many))
parts_stored (part ∷ parts) (x ∷ xs) many = ap (λ l. x ∷ l) (parts_stored parts xs (omega (arith, many)))

filled_shape : (parts : List (OutPart Extent)) (puts : List (List ℕ)) → AsMany puts parts
    → map (map_part none) (filled_parts parts puts) ≡ map (map_part none) parts
filled_shape [] puts many = refl
filled_shape (part ∷ parts) [] many = absurd (omega (arith, many))
filled_shape (part ∷ parts) (put ∷ puts) many = ap (λ ps. map_part none part ∷ ps) (filled_shape parts puts (omega (arith, many)))

filled_stored : (parts : List (OutPart Extent)) (puts : List (List ℕ)) → AsMany puts parts → map part_bytes (filled_parts parts puts) ≡ puts
filled_stored [] [] many = refl
filled_stored [] (put ∷ puts) many = absurd (omega (arith, many))
filled_stored (part ∷ parts) [] many = absurd (omega (arith, many))
filled_stored (part ∷ parts) (put ∷ puts) many = ap (λ l. put ∷ l) (filled_stored parts puts (omega (arith, many)))

-- a part that is stored is short
abbrev is_short_part : OutPart (List ℕ) → Bool
is_short_part part = nat_le (length part.bytes) 32768

-- extents have as many bytes as were put
abbrev AreLong : List Extent → List (List ℕ) → Type 0
AreLong xs puts = map length_of xs ≡ map length puts

-- an extent of as many bytes as an output may have
output_long : (x : Extent) (put : List ℕ) → x.length ≡ length put → IsScript x → nat_le (length put) 32768 ≡ true → IsOutput x
output_long x put same fine short = (fine.0, subst (λ n. nat_le n 32768 ≡ true) (sym same) short)

none_long : (parts : List (OutPart Extent)) → list_all is_short_part (filled_parts parts []) ≡ true
none_long [] = refl
none_long (part ∷ parts) = refl

parts_stand : (parts : List (OutPart Extent)) (xs : List Extent) (puts : List (List ℕ)) → AllByRecursion IsPart parts → AllByRecursion IsScript xs
    → AreLong xs puts → list_all is_short_part (filled_parts parts puts) ≡ true → AllByRecursion IsPart (parts_with parts xs)
parts_stand [] xs puts right fine same short = tt
parts_stand (part ∷ parts) [] puts right fine same short = (right.0, parts_stand parts [] [] right.1 tt refl (none_long parts))
parts_stand (part ∷ parts) (x ∷ xs) [] right fine same short = absurd (let no : ⊥ = cc in no)
parts_stand (part ∷ parts) (x ∷ xs) (put ∷ puts) right fine same short =
    let first : x.length ≡ length put = cc in
    let later : map length_of xs ≡ map length puts = cc in
    let both = and_parts (nat_le (length put) 32768) (list_all is_short_part (filled_parts parts puts)) short in
    ((right.0.0, output_long x put first fine.0 both.0), parts_stand parts xs puts right.1 fine.1 later both.1)

one_stored : (x : Extent) (xs : List Extent) → AsMany xs (x ∷ []) → first_or x xs ∷ [] ≡ xs
one_stored x [] many = absurd (omega (arith, many))
one_stored x (y ∷ []) many = refl
one_stored x (y ∷ z ∷ xs) many = absurd (omega (arith, many))

one_put : (puts : List (List ℕ)) (x : Extent) → AsMany puts (x ∷ []) → get_or puts 0 [] ∷ [] ≡ puts
one_put [] x many = absurd (omega (arith, many))
one_put (put ∷ []) x many = refl
one_put (put ∷ other ∷ puts) x many = absurd (omega (arith, many))

one_stands : (x : Extent) (xs : List Extent) → IsScript x → AllByRecursion IsScript xs → IsScript (first_or x xs)
one_stands x [] right fine = right
one_stands x (y ∷ xs) right fine = fine.0

output_stands : (x : Extent) (xs : List Extent) (puts : List (List ℕ)) → IsOutput x → AllByRecursion IsScript xs → AreLong xs puts
    → nat_le (length (get_or puts 0 [])) 32768 ≡ true → IsOutput (first_or x xs)
output_stands x [] puts right fine same short = right
output_stands x (y ∷ xs) [] right fine same short = absurd (let no : ⊥ = cc in no)
output_stands x (y ∷ xs) (put ∷ puts) right fine same short = let first : y.length ≡ length put = cc in output_long y put first fine.0 short

-- none left over where nothing is stored
no_parts : {A : Type 0} (xs : List A) → AsMany {B = Extent} xs [] → [] ≡ xs
no_parts [] many = refl
no_parts (x ∷ xs) many = absurd (omega (arith, many))

-- the old extents put back

pub with_back : (change : Change Extent) (xs : List Extent) → with_extents (with_extents change xs) (stored_parts change) ≡ change
with_back (Site me site) xs = refl
with_back (Submitted queue job script) xs = refl
with_back (Deleted id) xs = refl
with_back (Doomed id) xs = refl
with_back (Started id device) xs = refl
with_back (Ended id parts) xs = ap (Ended id) (parts_back parts xs)
with_back (Unlaunched id) xs = refl
with_back Boot xs = refl
with_back (Edited e) xs = refl
with_back (HandOpened peer number id queue since) xs = refl
with_back (HandCommitted peer number) xs = refl
with_back (HandRefused peer number cause) xs = refl
with_back (HandsSilent until hands) xs = refl
with_back (HandDone peer number) xs = refl
with_back (OldPromised peer number queue c script) xs = refl
with_back (Promised peer number low queue c script) xs = refl
with_back (Accepted peer number) xs = refl
with_back (Dropped peer number) xs = refl
with_back (MovedLocal id queue) xs = refl
with_back (RefusedLocal id queue cause) xs = refl
with_back (HeldFar id) xs = refl
with_back (StageGot peer number path bytes) xs = refl
with_back (StageGone peer number) xs = refl
with_back (FileGone file) xs = refl

-- the rest of the change stays

pub shape_kept : (change : Change Extent) (xs : List Extent) → map_change none (with_extents change xs) ≡ map_change none change
shape_kept (Site me site) xs = refl
shape_kept (Submitted queue job script) xs = refl
shape_kept (Deleted id) xs = refl
shape_kept (Doomed id) xs = refl
shape_kept (Started id device) xs = refl
shape_kept (Ended id parts) xs = ap (Ended id) (parts_shape parts xs)
shape_kept (Unlaunched id) xs = refl
shape_kept Boot xs = refl
shape_kept (Edited e) xs = refl
shape_kept (HandOpened peer number id queue since) xs = refl
shape_kept (HandCommitted peer number) xs = refl
shape_kept (HandRefused peer number cause) xs = refl
shape_kept (HandsSilent until hands) xs = refl
shape_kept (HandDone peer number) xs = refl
shape_kept (OldPromised peer number queue c script) xs = refl
shape_kept (Promised peer number low queue c script) xs = refl
shape_kept (Accepted peer number) xs = refl
shape_kept (Dropped peer number) xs = refl
shape_kept (MovedLocal id queue) xs = refl
shape_kept (RefusedLocal id queue cause) xs = refl
shape_kept (HeldFar id) xs = refl
shape_kept (StageGot peer number path bytes) xs = refl
shape_kept (StageGone peer number) xs = refl
shape_kept (FileGone file) xs = refl

-- whether it fits isn't said by extents

pub fits_kept : {E : Type 0} (change : Change Extent) (xs : List Extent) (s : State E) → fits (with_extents change xs) s ≡ fits change s
fits_kept (Site me site) xs s = refl
fits_kept (Submitted queue job script) xs s = refl
fits_kept (Deleted id) xs s = refl
fits_kept (Doomed id) xs s = refl
fits_kept (Started id device) xs s = refl
fits_kept (Ended id parts) xs s = refl
fits_kept (Unlaunched id) xs s = refl
fits_kept Boot xs s = refl
fits_kept (Edited e) xs s = refl
fits_kept (HandOpened peer number id queue since) xs s = refl
fits_kept (HandCommitted peer number) xs s = refl
fits_kept (HandRefused peer number cause) xs s = refl
fits_kept (HandsSilent until hands) xs s = refl
fits_kept (HandDone peer number) xs s = refl
fits_kept (OldPromised peer number queue c script) xs s = refl
fits_kept (Promised peer number low queue c script) xs s = refl
fits_kept (Accepted peer number) xs s = refl
fits_kept (Dropped peer number) xs s = refl
fits_kept (MovedLocal id queue) xs s = refl
fits_kept (RefusedLocal id queue cause) xs s = refl
fits_kept (HeldFar id) xs s = refl
fits_kept (StageGot peer number path bytes) xs s = refl
fits_kept (StageGone peer number) xs s = refl
fits_kept (FileGone file) xs s = refl

-- with extents of what was put, which is short, it may stand in a record

pub stands_kept : (change : Change Extent) (xs : List Extent) (puts : List (List ℕ)) → MayStand change → AllByRecursion IsScript xs → AreLong xs puts
    → AreShortFor change puts → MayStand (with_extents change xs)
stands_kept (Site me site) xs puts right fine same short = right
stands_kept (Submitted queue job script) xs puts right fine same short = (right.0, right.1, one_stands script xs right.2 fine)
stands_kept (Deleted id) xs puts right fine same short = right
stands_kept (Doomed id) xs puts right fine same short = right
stands_kept (Started id device) xs puts right fine same short = right
stands_kept (Ended id parts) xs puts right fine same short = (
  right.0,
  (
    subst (λ n. IsTrue (is_at_most 2 n))
        (sym (length-parts_with parts xs)) right.1.0,
    parts_stand parts xs puts right.1.1 fine same short,
  ),
)
stands_kept (Unlaunched id) xs puts right fine same short = right
stands_kept Boot xs puts right fine same short = right
stands_kept (Edited e) xs puts right fine same short = right
stands_kept (HandOpened peer number id queue since) xs puts right fine same short = right
stands_kept (HandCommitted peer number) xs puts right fine same short = right
stands_kept (HandRefused peer number cause) xs puts right fine same short = right
stands_kept (HandsSilent until hands) xs puts right fine same short = right
stands_kept (HandDone peer number) xs puts right fine same short = right
stands_kept (OldPromised peer number queue c script) xs puts right fine same short = (right.0, right.1, right.2, right.3, one_stands script xs right.4 fine)
stands_kept (Promised peer number low queue c script) xs puts right fine same short = (right.0, right.1, right.2, right.3, one_stands script xs right.4 fine)
stands_kept (Accepted peer number) xs puts right fine same short = right
stands_kept (Dropped peer number) xs puts right fine same short = right
stands_kept (MovedLocal id queue) xs puts right fine same short = right
stands_kept (RefusedLocal id queue cause) xs puts right fine same short = right
stands_kept (HeldFar id) xs puts right fine same short = right
stands_kept (StageGot peer number path bytes) xs puts right fine same short = (right.0, right.1, right.2, output_stands bytes xs puts right.3 fine same short)
stands_kept (StageGone peer number) xs puts right fine same short = right
stands_kept (FileGone file) xs puts right fine same short = right

-- what is put is no more than a script may have

one_short : (puts : List (List ℕ)) (most : ℕ) → most ≤ longest_script → length puts ≡ 1 → nat_le (length (get_or puts 0 [])) most ≡ true
    → AllByRecursion IsShortPut puts
one_short [] most few many short = tt
one_short (put ∷ []) most few many short = (let is = leb-true (length put) most short in omega (arith, is, few), tt)
one_short (put ∷ other ∷ puts) most few many short = absurd (omega (arith, many))

none_short : (puts : List (List ℕ)) → length puts ≡ 0 → AllByRecursion IsShortPut puts
none_short [] many = tt
none_short (put ∷ puts) many = absurd (omega (arith, many))

each_short : (parts : List (OutPart Extent)) (puts : List (List ℕ)) → AsMany puts parts → list_all is_short_part (filled_parts parts puts) ≡ true
    → AllByRecursion IsShortPut puts
each_short parts [] many short = tt
each_short [] (put ∷ puts) many short = absurd (omega (arith, many))
each_short (part ∷ parts) (put ∷ puts) many short =
    let both = and_parts (nat_le (length put) 32768) (list_all is_short_part (filled_parts parts puts)) short in
    (let is = leb-true (length put) 32768 both.0 in omega (arith, is), each_short parts puts (omega (arith, many)) both.1)

pub puts_short : (change : Change Extent) (puts : List (List ℕ)) → length puts ≡ length (stored_parts change) → AreShortFor change puts
    → AllByRecursion IsShortPut puts
puts_short (Submitted queue job script) puts many short = one_short puts longest_script (omega arith) many short
puts_short (Ended id parts) puts many short = each_short parts puts (many ∙ length-map parts part_bytes) short
puts_short (OldPromised peer number queue c script) puts many short = one_short puts longest_script (omega arith) many short
puts_short (Promised peer number low queue c script) puts many short = one_short puts longest_script (omega arith) many short
puts_short (StageGot peer number path bytes) puts many short = one_short puts 32768 (omega arith) many short
puts_short Boot puts many short = none_short puts many
puts_short change puts many short = none_short puts many

-- its extents are these

pub stored : (change : Change Extent) (xs : List Extent) → AsMany xs (stored_parts change) → stored_parts (with_extents change xs) ≡ xs
stored (Site me site) xs many = no_parts xs many
stored (Submitted queue job script) xs many = one_stored script xs many
stored (Deleted id) xs many = no_parts xs many
stored (Doomed id) xs many = no_parts xs many
stored (Started id device) xs many = no_parts xs many
stored (Ended id parts) xs many = parts_stored parts xs (many ∙ length-map parts part_bytes)
stored (Unlaunched id) xs many = no_parts xs many
stored Boot xs many = no_parts xs many
stored (Edited e) xs many = no_parts xs many
stored (HandOpened peer number id queue since) xs many = no_parts xs many
stored (HandCommitted peer number) xs many = no_parts xs many
stored (HandRefused peer number cause) xs many = no_parts xs many
stored (HandsSilent until hands) xs many = no_parts xs many
stored (HandDone peer number) xs many = no_parts xs many
stored (OldPromised peer number queue c script) xs many = one_stored script xs many
stored (Promised peer number low queue c script) xs many = one_stored script xs many
stored (Accepted peer number) xs many = no_parts xs many
stored (Dropped peer number) xs many = no_parts xs many
stored (MovedLocal id queue) xs many = no_parts xs many
stored (RefusedLocal id queue cause) xs many = no_parts xs many
stored (HeldFar id) xs many = no_parts xs many
stored (StageGot peer number path bytes) xs many = one_stored bytes xs many
stored (StageGone peer number) xs many = no_parts xs many
stored (FileGone file) xs many = no_parts xs many

-- the change with the bytes is the same otherwise

pub filled_shape_kept : (change : Change Extent) (puts : List (List ℕ)) → AsMany puts (stored_parts change)
    → map_change none (filled change puts) ≡ map_change none change
filled_shape_kept (Site me site) puts many = refl
filled_shape_kept (Submitted queue job script) puts many = refl
filled_shape_kept (Deleted id) puts many = refl
filled_shape_kept (Doomed id) puts many = refl
filled_shape_kept (Started id device) puts many = refl
filled_shape_kept (Ended id parts) puts many = ap (Ended id) (filled_shape parts puts (many ∙ length-map parts part_bytes))
filled_shape_kept (Unlaunched id) puts many = refl
filled_shape_kept Boot puts many = refl
filled_shape_kept (Edited e) puts many = refl
filled_shape_kept (HandOpened peer number id queue since) puts many = refl
filled_shape_kept (HandCommitted peer number) puts many = refl
filled_shape_kept (HandRefused peer number cause) puts many = refl
filled_shape_kept (HandsSilent until hands) puts many = refl
filled_shape_kept (HandDone peer number) puts many = refl
filled_shape_kept (OldPromised peer number queue c script) puts many = refl
filled_shape_kept (Promised peer number low queue c script) puts many = refl
filled_shape_kept (Accepted peer number) puts many = refl
filled_shape_kept (Dropped peer number) puts many = refl
filled_shape_kept (MovedLocal id queue) puts many = refl
filled_shape_kept (RefusedLocal id queue cause) puts many = refl
filled_shape_kept (HeldFar id) puts many = refl
filled_shape_kept (StageGot peer number path bytes) puts many = refl
filled_shape_kept (StageGone peer number) puts many = refl
filled_shape_kept (FileGone file) puts many = refl

-- and its bytes are these

pub filled_bytes : (change : Change Extent) (puts : List (List ℕ)) → AsMany puts (stored_parts change) → stored_parts (filled change puts) ≡ puts
filled_bytes (Site me site) puts many = no_parts puts many
filled_bytes (Submitted queue job script) puts many = one_put puts script many
filled_bytes (Deleted id) puts many = no_parts puts many
filled_bytes (Doomed id) puts many = no_parts puts many
filled_bytes (Started id device) puts many = no_parts puts many
filled_bytes (Ended id parts) puts many = filled_stored parts puts (many ∙ length-map parts part_bytes)
filled_bytes (Unlaunched id) puts many = no_parts puts many
filled_bytes Boot puts many = no_parts puts many
filled_bytes (Edited e) puts many = no_parts puts many
filled_bytes (HandOpened peer number id queue since) puts many = no_parts puts many
filled_bytes (HandCommitted peer number) puts many = no_parts puts many
filled_bytes (HandRefused peer number cause) puts many = no_parts puts many
filled_bytes (HandsSilent until hands) puts many = no_parts puts many
filled_bytes (HandDone peer number) puts many = no_parts puts many
filled_bytes (OldPromised peer number queue c script) puts many = one_put puts script many
filled_bytes (Promised peer number low queue c script) puts many = one_put puts script many
filled_bytes (Accepted peer number) puts many = no_parts puts many
filled_bytes (Dropped peer number) puts many = no_parts puts many
filled_bytes (MovedLocal id queue) puts many = no_parts puts many
filled_bytes (RefusedLocal id queue cause) puts many = no_parts puts many
filled_bytes (HeldFar id) puts many = no_parts puts many
filled_bytes (StageGot peer number path bytes) puts many = one_put puts bytes many
filled_bytes (StageGone peer number) puts many = no_parts puts many
filled_bytes (FileGone file) puts many = no_parts puts many
