-- Bytes that were read behind those of a list.
use Rattle.std.proofs.Common.{◌≡◌, ℕ, ◌+◌, ◌-◌, ◌<◌, ◌≤◌, min, List, ◌++◌, length, take, drop, get_or, sym, ap, ◌∙◌, arith, append_assoc, length-append}
use Rattle.std.proofs.Common.{length-drop}
use Rattle.std.proofs.lemmas.List.{length-replicate}
use Rattle.std.specs.Prelude.{replicate}
use Rattle.std.proofs.lemmas.List.{length-take, take-take, take_min, take_all, take_at, get_or-take, get_or-drop}
use Rattle.std.proofs.lemmas.Grind.{same_number_lists}

take_of_read : (content : List ℕ) (place count read : ℕ) → read ≡ min count (length content - place)
    → take read (drop place content) ≡ take count (drop place content)
take_of_read content place count read is = ap (λ n. take n (drop place content)) (is ∙ ap (λ n. min count n) (sym (length-drop place content)))
    ∙ take_min count (drop place content)

length_of_read : (content : List ℕ) (place count read : ℕ) → read ≡ min count (length content - place) → length (take read (drop place content)) ≡ read
length_of_read content place count read is = omega (arith, length-take read (drop place content), length-drop place content, is)

pub read_behind : (filled later post rest content : List ℕ) (start size place count read : ℕ) → start ≤ length filled → start + read ≤ size
    → read ≡ min count (length content - place)
    → take (start + read) (take size ((take start filled ++ ((take read (drop place content) ++ later) ++ post)) ++ rest))
    ≡ take start filled ++ take count (drop place content)
read_behind filled later post rest content start size place count read within most is =
    let front = take start filled in
    let new = take read (drop place content) in
    let size_is : length (front ++ new) ≡ start + read = omega (
      arith,
      length-append front new,
      length-take start filled,
      within,
      length_of_read content place
          count read is,
    ) in
    let whole : (front ++ ((new ++ later) ++ post)) ++ rest ≡ (front ++ new) ++ (later ++ (post ++ rest)) =
    append_assoc front ((new ++ later) ++ post) rest ∙ ap (λ l. front ++ l) (append_assoc (new ++ later) post rest ∙ append_assoc new later (post ++ rest))
    ∙ sym (append_assoc front new (later ++ (post ++ rest))) in
    take-take (start + read) size _ most ∙ ap (take (start + read)) whole ∙ take_at (front ++ new) (later ++ (post ++ rest)) (start + read) size_is
    ∙ ap (λ l. front ++ l) (take_of_read content place count read is)

-- the same bytes between two places
pub same_slice : (a b : List ℕ) (from count : ℕ) → from + count ≤ length a → from + count ≤ length b
    → ((i : ℕ) → from ≤ i → i < from + count → get_or a i 0 ≡ get_or b i 0) → take count (drop from a) ≡ take count (drop from b)
same_slice a b from count long long' same =
    let left : length (take count (drop from a)) ≡ count = omega (arith, length-take count (drop from a), length-drop from a, long) in
    let right : length (take count (drop from b)) ≡ count = omega (arith, length-take count (drop from b), length-drop from b, long') in
    same_number_lists (take count (drop from a)) (take count (drop from b)) (left ∙ sym right) (λ i lt.
    let below : i < count = omega (arith, lt, left) in
    get_or-take count (drop from a) i 0 below ∙ get_or-drop from a i 0 ∙ same (from + i) (omega arith) (omega (arith, below)) ∙ sym (get_or-drop from b i 0)
    ∙ sym (get_or-take count (drop from b) i 0 below))

-- a list that was filled up behind its elements
pub filled_front : (out filled : List ℕ) (start count more byte : ℕ) → start ≡ length out → filled ≡ take (start + count) out ++ replicate more byte
    → take start filled ≡ out
filled_front out filled start count more byte size is =
    ap (take start) (is ∙ ap (λ l. l ++ replicate more byte) (take_all (start + count) out (omega (arith, size))))
    ∙ take_at out (replicate more byte) start (sym size)

pub filled_length : (out filled : List ℕ) (start count more byte : ℕ) → start ≡ length out → more ≡ count
    → filled ≡ take (start + count) out ++ replicate more byte → length filled ≡ start + count
filled_length out filled start count more byte size fill is =
    omega (
      arith,
      size,
      fill,
      ap length is,
      length-append (take (start + count) out) (replicate more byte),
      length-take
          (start + count) out,
      length-replicate more byte,
    )
