-- What comes into places, read one by one.
use Rattle.std.proofs.Common.{◌≡◌, ℕ, zero, suc, ◌+◌, ◌<◌, ◌≤◌, Bool, true, false, ◌&&◌, List, [], ◌∷◌, ◌++◌, length, get_or, set, take, drop, Option, Some}
use Rattle.std.proofs.Common.{None, refl, sym, ap, ◌∙◌, arith, is_some}
use Rattle.std.proofs.lemmas.List.{take_more, length-append, append-nil, take-append-drop}
use Rattle.std.proofs.lemmas.List.Concat.{flat_map-append}
use Rattle.nqs_pieces.specs.Gathering.{bytes_at, first_come, is_whole, message_of, with_bytes}

-- bytes stand where none were
pub with_bytes-none : (i : ℕ) (bytes : List ℕ) (slots : List (Option (List ℕ))) (slot : Option (List ℕ)) → i < length slots
    → slot ≡ get_or slots i slot → is_some slot ≡ false → with_bytes i bytes slots ≡ set slots i (Some bytes)
unfolding with_bytes
with_bytes-none i bytes [] slot inside is none = absurd (omega arith)
with_bytes-none zero bytes (x ∷ xs) None inside is none = rw (← is) refl
with_bytes-none zero bytes (x ∷ xs) (Some there) inside is none = absurd (cc)
with_bytes-none (suc i) bytes (x ∷ xs) slot inside is none = ap (λ rest. x ∷ rest) (with_bytes-none i bytes xs slot (omega arith) is none)

-- where some are, they stay
pub with_bytes-some : (i : ℕ) (bytes : List ℕ) (slots : List (Option (List ℕ))) (slot : Option (List ℕ)) → i < length slots
    → slot ≡ get_or slots i slot → is_some slot ≡ true → with_bytes i bytes slots ≡ slots
unfolding with_bytes
with_bytes-some i bytes [] slot inside is some = refl
with_bytes-some zero bytes (x ∷ xs) None inside is some = absurd (cc)
with_bytes-some zero bytes (x ∷ xs) (Some there) inside is some = rw (← is) refl
with_bytes-some (suc i) bytes (x ∷ xs) slot inside is some = ap (λ rest. x ∷ rest) (with_bytes-some i bytes xs slot (omega arith) is some)

-- there are as many places as before
pub length-with_bytes : (i : ℕ) (bytes : List ℕ) (slots : List (Option (List ℕ))) → length (with_bytes i bytes slots) ≡ length slots
unfolding with_bytes
length-with_bytes i bytes [] = refl
length-with_bytes zero bytes (x ∷ xs) = refl
length-with_bytes (suc i) bytes (x ∷ xs) = ap suc (length-with_bytes i bytes xs)

there_now : (bytes : List ℕ) (slot : Option (List ℕ)) → is_some (first_come bytes slot) ≡ true
there_now bytes None = refl
there_now bytes (Some there) = refl

and_assoc : (a b c : Bool) → (a && (b && c)) ≡ ((a && b) && c)
and_assoc true b c = refl
and_assoc false b c = refl

-- with bytes at an index all are there where the others are
pub whole-with_bytes : (i : ℕ) (bytes : List ℕ) (slots : List (Option (List ℕ))) → i < length slots
    → is_whole (with_bytes i bytes slots) ≡ (is_whole (take i slots) && is_whole (drop (suc i) slots))
unfolding with_bytes
whole-with_bytes i bytes [] inside = absurd (omega arith)
whole-with_bytes zero bytes (x ∷ xs) inside = ap (λ b. b && is_whole xs) (there_now bytes x)
whole-with_bytes (suc i) bytes (x ∷ xs) inside =
    ap (λ b. is_some x && b) (whole-with_bytes i bytes xs (omega arith)) ∙ and_assoc (is_some x) (is_whole (take i xs)) (is_whole (drop (suc i) xs))

-- the message so far and the next place's bytes
pub message_more : (slots : List (Option (List ℕ))) (i : ℕ) (slot : Option (List ℕ)) → i < length slots → slot ≡ get_or slots i slot
    → message_of (take (i + 1) slots) ≡ message_of (take i slots) ++ bytes_at slot
message_more slots i slot inside is =
    ap message_of (take_more slots i slot inside ∙ ap (λ x. take i slots ++ x ∷ []) (sym is))
    ∙ flat_map-append bytes_at (take i slots) (slot ∷ [])
    ∙ ap (λ bytes. message_of (take i slots) ++ bytes) (append-nil (bytes_at slot))

-- no part is longer than the message
pub message_front : (slots : List (Option (List ℕ))) (i : ℕ) → length (message_of (take i slots)) ≤ length (message_of slots)
message_front slots i =
    let whole = ap length (sym (flat_map-append bytes_at (take i slots) (drop i slots)) ∙ ap message_of (take-append-drop i slots)) in
    omega (arith, whole, length-append (message_of (take i slots)) (message_of (drop i slots)))

-- the next place's bytes fit behind what stands before them
pub message_fits : (slots : List (Option (List ℕ))) (i : ℕ) (slot : Option (List ℕ)) → i < length slots → slot ≡ get_or slots i slot
    → length (message_of (take i slots)) + length (bytes_at slot) ≤ length (message_of slots)
message_fits slots i slot inside is =
    let more = ap length (message_more slots i slot inside is) in
    omega (arith, more, length-append (message_of (take i slots)) (bytes_at slot), message_front slots (i + 1))

-- with bytes at an index the message grows by no more than these
pub message_with : (i : ℕ) (bytes : List ℕ) (slots : List (Option (List ℕ)))
    → length (message_of (with_bytes i bytes slots)) ≤ length (message_of slots) + length bytes
unfolding with_bytes
message_with i bytes [] = omega arith
message_with zero bytes (None ∷ xs) = omega (arith, length-append bytes (message_of xs))
message_with zero bytes (Some there ∷ xs) = omega arith
message_with (suc i) bytes (x ∷ xs) =
    omega (arith, length-append (bytes_at x) (message_of (with_bytes i bytes xs)), length-append (bytes_at x) (message_of xs), message_with i bytes xs)
