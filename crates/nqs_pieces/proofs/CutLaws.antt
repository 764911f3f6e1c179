-- Pieces of a message, one behind the other.
use Rattle.std.proofs.Common.{◌≡◌, ℕ, zero, suc, ◌+◌, ◌*◌, ◌≤◌, List, ◌++◌, length, take, drop, sym, ap, ◌∙◌, arith}
use Rattle.std.specs.List.{flat_map, range_with_len}
use Rattle.std.proofs.lemmas.List.{take-take, drop-take, drop-drop, take-append-drop, take_all}
use Rattle.nqs_pieces.specs.Pieces.{piece_count, bytes_of}

-- a front in two parts
take_both : (x y : ℕ) (xs : List ℕ) → take x xs ++ take y (drop x xs) ≡ take (x + y) xs
take_both x y xs =
    ap (λ front. front ++ take y (drop x xs)) (sym (take-take x (x + y) xs (omega arith)))
    ∙ ap (λ back. take x (take (x + y) xs) ++ back) (sym (drop-take x y xs))
    ∙ take-append-drop x (take (x + y) xs)

-- parts of one size, from the part at a on
parts_join : (size : ℕ) (message : List ℕ) (a n : ℕ)
    → flat_map (λ i. take size (drop (size * i) message)) (range_with_len a n) ≡ take (size * n) (drop (size * a) message)
parts_join size message a zero = let none : size * zero ≡ 0 = omega arith in ap (λ k. take k (drop (size * a) message)) (sym none)
parts_join size message a (suc n) =
    let next : size * (a + 1) ≡ size * a + size = omega arith in
    let all : size + size * n ≡ size * suc n = omega arith in
    ap (λ rest. take size (drop (size * a) message) ++ rest) (parts_join size message (a + 1) n)
    ∙ ap (λ rest. take size (drop (size * a) message) ++ take (size * n) rest)
    (ap (λ k. drop k message) next ∙ sym (drop-drop size (size * a) message))
    ∙ take_both size (size * n) (drop (size * a) message)
    ∙ ap (λ k. take k (drop (size * a) message)) all

-- as many pieces as there are hold the message
pub pieces_hold : (message : List ℕ) → length message ≤ 48000 * piece_count message
unfolding piece_count
pieces_hold message = omega arith

-- the bytes of all indices are the message
pub pieces_join : (message : List ℕ) → flat_map (bytes_of message) (range_with_len 0 (piece_count message)) ≡ message
unfolding bytes_of
pieces_join message =
    parts_join 48000 message 0 (piece_count message) ∙ take_all (48000 * piece_count message) message (pieces_hold message)
