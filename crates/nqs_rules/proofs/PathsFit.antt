-- The default paths of a job's outputs are paths, and paths in a folder are.
use Rattle.std.proofs.Common.{◌≡◌, ℕ, ◌+◌, ◌<◌, ◌≤◌, ◌^◌, ◌%◌, true, false, cond, not, ◌&&◌, ◌==◌, nat_le, List, [], ◌∷◌, ◌++◌, length, refl, ap, ◌∙◌, arith}
use Rattle.std.proofs.Common.{Option, Some, None, sym, true≢false}
use Rattle.std.proofs.lemmas.Bool.{and_parts, and_from, le-leb, leb-true, not-true, not_from_false, false_from_ne_true, or_from}
use Rattle.std.proofs.lemmas.Bool.Decides.{nat_tests}
use Rattle.std.proofs.lemmas.List.{length-append}
use Rattle.std.proofs.lemmas.List.Folds.{list_all-append}
use Rattle.std.specs.List.{list_any, list_all, onto_first}
use Rattle.std.specs.Fmt.{decimal}
use Rattle.std.proofs.lemmas.Fmt.{decimal_by_steps, length-decimal-le}
use Rattle.nqs_base.specs.Same.{name_exact}
use Rattle.nqs_base.specs.Path.{is_visible, begins_with_slash, is_parent, components, has_parent, is_path}
use Rattle.nqs_types.specs.declared.request.Job.{Job}
use Rattle.nqs_rules.specs.Tests.{last_seq}
use Rattle.nqs_rules.specs.Sane.{is_name_byte, is_sane_name, is_path_or_none, is_sane_folder, is_asked_job, is_sane_job}
use Rattle.nqs_rules.specs.Step.{within, path_or, completed}
use Rattle.nqs_rules.proofs.Chains.{each, chained}
use Rattle.nqs_rules.proofs.ListFacts.{list_all-weaker}
use Rattle.nqs_rules.proofs.KeyFacts.{all-added}

digit_seen : (d : ℕ) → d < 10 → is_name_byte (48 + d) ≡ true
digit_seen d low = and_from (is_visible (48 + d)) (not ((48 + d) == 47)) (and_from (nat_le 33 (48 + d)) (nat_le (48 + d) 126) (le-leb 33 (48 + d) (omega arith))
    (le-leb (48 + d) 126 (omega arith))) (grind (arith, nat_tests))

digits_seen : (n : ℕ) → n < 2 ^ 64 → list_all is_name_byte (decimal n) ≡ true
digits_seen n few = decimal_by_steps (λ n ds. list_all is_name_byte ds ≡ true) (λ n low. and_from (is_name_byte (48 + n)) true (digit_seen n low) refl)
    (λ n ds more front. all-added is_name_byte ds (48 + n % 10) front (digit_seen (n % 10) (omega arith))) n few

no_slash : (p : List ℕ) → list_all is_name_byte p ≡ true → begins_with_slash p ≡ false
no_slash [] h = refl
no_slash (b ∷ p) h = not-true (b == 47) (and_parts (is_visible b) (not (b == 47)) (and_parts (is_name_byte b) (list_all is_name_byte p) h).0).1

one_part : (p : List ℕ) → list_all is_name_byte p ≡ true → components p ≡ p ∷ []
one_part [] h = refl
one_part (b ∷ p) h =
    let k = and_parts (is_name_byte b) (list_all is_name_byte p) h in
    (λ j. cond (not-true (b == 47) (and_parts (is_visible b) (not (b == 47)) k.0).1 j) ([] ∷ components p) (onto_first b (components p)))
    ∙ ap (onto_first b) (one_part p k.1)

-- a name of more than two bytes has no part `..`
no_parent : (p : List ℕ) → list_all is_name_byte p ≡ true → 2 < length p → has_parent p ≡ false
unfolding has_parent
no_parent p h long = ap (list_any is_parent) (one_part p h) ∙ or_from (is_parent p) false
    (false_from_ne_true (is_parent p) (λ e. let is : length p ≡ 2 = ap length (name_exact p (46 ∷ 46 ∷ []) e) in omega arith)) refl

-- ---- in a folder

-- a name and `/` before a path are one part more
part_before : (name path : List ℕ) → list_all is_name_byte name ≡ true → components (name ++ 47 ∷ [] ++ path) ≡ name ∷ components path
part_before [] path h = refl
part_before (b ∷ name) path h =
    let k = and_parts (is_name_byte b) (list_all is_name_byte name) h in
    (λ j. cond (not-true (b == 47) (and_parts (is_visible b) (not (b == 47)) k.0).1 j) ([] ∷ components (name ++ 47 ∷ [] ++ path))
    (onto_first b (components (name ++ 47 ∷ [] ++ path))))
    ∙ ap (onto_first b) (part_before name path k.1)

-- no `/` stands in front of what a name begins
no_slash_before : (name path : List ℕ) → list_all is_name_byte name ≡ true → nat_le 1 (length name) ≡ true
    → begins_with_slash (name ++ 47 ∷ [] ++ path) ≡ false
no_slash_before [] path h some = absurd (true≢false (sym some))
no_slash_before (b ∷ name) path h some =
    not-true (b == 47) (and_parts (is_visible b) (not (b == 47)) (and_parts (is_name_byte b) (list_all is_name_byte name) h).0).1

-- a path is one in a folder too, where it has at most 255 bytes there
pub path_within : (folder : Option (List ℕ)) (path : List ℕ) → is_sane_folder folder ≡ true → is_path path ≡ true → length (within folder path) ≤ 255
    → is_path (within folder path) ≡ true
unfolding has_parent
path_within None path sane right few = right
path_within (Some folder) path sane right few =
    let both = and_parts (is_sane_name folder) (not (is_parent folder)) sane in
    let k = each (nat_le 1 (length folder)) (nat_le (length folder) 15 ∷ list_all is_name_byte folder ∷ []) both.0 in
    let p = each (nat_le 1 (length path)) (nat_le (length path) 255 ∷ list_all is_visible path ∷ not (begins_with_slash path) ∷ not (has_parent path) ∷ [])
    right in
    let front : List ℕ = folder ++ 47 ∷ [] in
    let whole : List ℕ = front ++ path in
    let size : length whole ≡ length front + length path = length-append front path in
    let more : length front ≡ length folder + length {A = ℕ} (47 ∷ []) = length-append folder (47 ∷ []) in
    let some = leb-true 1 (length folder) k.0 in
    let seen = list_all-weaker is_name_byte is_visible (λ b h. (and_parts (is_visible b) (not (b == 47)) h).0) folder k.1.1.0 in
    chained (nat_le 1 (length whole)) (nat_le (length whole) 255 ∷ list_all is_visible whole ∷ not (begins_with_slash whole) ∷ not (has_parent whole) ∷ []) (
      le-leb 1 (length whole) (omega (arith, size, more, some)),
      (
        le-leb (length whole) 255 few,
        (
          list_all-append is_visible front path ∙ and_from (list_all is_visible front) (list_all is_visible path)
              (list_all-append is_visible folder (47 ∷ []) ∙ and_from (list_all is_visible folder) true seen refl) p.1.1.0,
          (
            not_from_false (begins_with_slash whole) (no_slash_before folder path k.1.1.0 k.0),
            (
              not_from_false (has_parent whole)
                  (ap (list_any is_parent) (part_before folder path k.1.1.0)
                  ∙ or_from (is_parent folder) (has_parent path) (not-true (is_parent folder) both.1) (not-true (has_parent path) p.1.1.1.1.0)),
              tt,
            ),
          ),
        ),
      ),
    )

-- a folder has at most 16 bytes before a path, its `/` among them
room_within : (folder : Option (List ℕ)) (path : List ℕ) → is_sane_folder folder ≡ true → length (within folder path) ≤ 16 + length path
room_within None path sane = omega arith
room_within (Some folder) path sane =
    let both = and_parts (is_sane_name folder) (not (is_parent folder)) sane in
    let k = each (nat_le 1 (length folder)) (nat_le (length folder) 15 ∷ list_all is_name_byte folder ∷ []) both.0 in
    let size : length (folder ++ 47 ∷ [] ++ path) ≡ length (folder ++ 47 ∷ []) + length path = length-append (folder ++ 47 ∷ []) path in
    let more : length (folder ++ 47 ∷ []) ≡ length folder + length {A = ℕ} (47 ∷ []) = length-append folder (47 ∷ []) in
    let one : length {A = ℕ} (47 ∷ []) ≡ 1 = refl in
    let short = leb-true (length folder) 15 k.1.0 in
    omega (arith, size, more, one, short)

-- ---- default paths

default_path : (name : List ℕ) (letter seq : ℕ) → is_sane_name name ≡ true → is_name_byte letter ≡ true → seq ≤ last_seq
    → is_path (name ++ 46 ∷ letter ∷ [] ++ decimal seq) ≡ true
default_path name letter seq sane seen few =
    let k = each (nat_le 1 (length name)) (nat_le (length name) 15 ∷ list_all is_name_byte name ∷ []) sane in
    let path : List ℕ = name ++ 46 ∷ letter ∷ [] ++ decimal seq in
    let digits = length-decimal-le 10 seq (omega arith) (omega arith) (omega arith) in
    let some = leb-true 1 (length name) k.0 in
    let short = leb-true (length name) 15 k.1.0 in
    let size : length path ≡ length (name ++ 46 ∷ letter ∷ []) + length (decimal seq) = length-append (name ++ 46 ∷ letter ∷ []) (decimal seq) in
    let front : length (name ++ 46 ∷ letter ∷ []) ≡ length name + length (46 ∷ letter ∷ []) = length-append name (46 ∷ letter ∷ []) in
    let two : length (46 ∷ letter ∷ []) ≡ 2 = refl in
    let all : list_all is_name_byte path ≡ true =
    list_all-append is_name_byte (name ++ 46 ∷ letter ∷ []) (decimal seq)
    ∙ and_from (list_all is_name_byte (name ++ 46 ∷ letter ∷ [])) (list_all is_name_byte (decimal seq))
    (list_all-append is_name_byte name (46 ∷ letter ∷ []) ∙ and_from (list_all is_name_byte name) (is_name_byte letter && true) k.1.1.0
    (and_from (is_name_byte letter) true seen refl)) (digits_seen seq (omega arith)) in
    chained (nat_le 1 (length path)) (nat_le (length path) 255 ∷ list_all is_visible path ∷ not (begins_with_slash path) ∷ not (has_parent path) ∷ []) (
      le-leb 1 (length path) (omega (arith, size, front, two, some)),
      (
        le-leb (length path) 255 (omega (arith, size, front, two, short, digits)),
        (
          list_all-weaker is_name_byte is_visible (λ b h. (and_parts (is_visible b) (not (b == 47)) h).0) path all,
          (
            not_from_false (begins_with_slash path) (no_slash path all),
            (
              not_from_false (has_parent path)
                  (no_parent path all (omega (arith, size, front, two, some))),
              tt,
            ),
          ),
        ),
      ),
    )

-- a default path has at most 27 bytes
default_short : (name : List ℕ) (letter seq : ℕ) → is_sane_name name ≡ true → seq ≤ last_seq → length (name ++ 46 ∷ letter ∷ [] ++ decimal seq) ≤ 27
default_short name letter seq sane few =
    let k = each (nat_le 1 (length name)) (nat_le (length name) 15 ∷ list_all is_name_byte name ∷ []) sane in
    let digits = length-decimal-le 10 seq (omega arith) (omega arith) (omega arith) in
    let short = leb-true (length name) 15 k.1.0 in
    let size : length (name ++ 46 ∷ letter ∷ [] ++ decimal seq) ≡ length (name ++ 46 ∷ letter ∷ []) + length (decimal seq) =
    length-append (name ++ 46 ∷ letter ∷ []) (decimal seq) in
    let front : length (name ++ 46 ∷ letter ∷ []) ≡ length name + length (46 ∷ letter ∷ []) = length-append name (46 ∷ letter ∷ []) in
    let two : length (46 ∷ letter ∷ []) ≡ 2 = refl in
    omega (arith, size, front, two, short, digits)

path_given : (folder : Option (List ℕ)) (path name : List ℕ) (letter seq : ℕ) → is_sane_folder folder ≡ true → is_path_or_none path ≡ true
    → is_sane_name name ≡ true → is_name_byte letter ≡ true → seq ≤ last_seq → is_path (path_or folder path name letter seq) ≡ true
path_given folder [] name letter seq stands asked sane seen few =
    let path : List ℕ = name ++ 46 ∷ letter ∷ [] ++ decimal seq in
    let room = room_within folder path stands in
    let short = default_short name letter seq sane few in
    path_within folder path stands (default_path name letter seq sane seen few) (omega (arith, room, short))
path_given folder (b ∷ path) name letter seq stands asked sane seen few = asked

-- what is asked for is stored with its paths
pub completed_sane : (seq : ℕ) (folder : Option (List ℕ)) (j : Job) → seq ≤ last_seq → is_asked_job j ≡ true → is_sane_folder folder ≡ true
    → is_sane_job (completed seq folder j) ≡ true
completed_sane seq folder j few h stands =
    let k = each (is_sane_name j.name) (nat_le j.priority 63 ∷ is_path_or_none j.out ∷ is_path_or_none j.err ∷ []) h in
    chained (nat_le j.priority 63) (is_path (path_or folder j.out j.name 111 seq) ∷ is_path (path_or folder j.err j.name 101 seq) ∷ [])
    (k.1.0, (path_given folder j.out j.name 111 seq stands k.1.1.0 k.0 refl few, (path_given folder j.err j.name 101 seq stands k.1.1.1.0 k.0 refl few, tt)))
