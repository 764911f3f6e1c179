-- What was sealed opens under its own key, and nothing else does.
use Rattle.std.proofs.Common.{◌≡◌, ◌≢◌, ◌-◌, ◌<◌, ◌++◌, ℕ, List, [], ◌∷◌, length, take, drop, ap, sym, refl, ◌∙◌, arith, Bool, true, false, nat_le, ◌&&◌}
use Rattle.std.proofs.Common.{bytes_eq, length-append, take-append-drop}
use Rattle.std.proofs.lemmas.Slice.Eq.{bytes_eq-Decides}
use Rattle.std.proofs.lemmas.Bool.{and_parts}
use Rattle.std.proofs.lemmas.Bool.Decides.{nat_tests}
use Rattle.std.proofs.Math.Seq.{take-append_seam, drop-append_seam}
use Rattle.sha2.specs.Sha256.{sha256}
use Rattle.sha2.proofs.Facts256.{length-sha256}
use Rattle.std.specs.Option.{option_map}
use Rattle.std.specs.declared.option.Option.{Option}
use Rattle.nqs_outside.specs.declared.wire.Address.{Address}
use Rattle.nqs_outside.specs.Asked.{came, quiet, packet, Traffic, inbound, outbound}
use Rattle.nqs_outside.specs.Told.{Extends}
use Rattle.nqs_seal.specs.Hmac.{hmac, padded, block_of}
use Rattle.nqs_seal.specs.Sealed.{is_sealed, body_of, sealed, opened, opened_one, unless}
use Rattle.nqs_seal.proofs.Opened.{one_true, one_false, opened_sent}

pub length-hmac : (key m : List ℕ) → length (hmac key m) ≡ 32
unfolding hmac
length-hmac key m = length-sha256 (padded 92 (block_of key) ++ sha256 (padded 54 (block_of key) ++ m))

bytes_same : (xs : List ℕ) → bytes_eq xs xs ≡ true
bytes_same xs = grind (arith, bytes_eq-Decides)

bytes_same_back : (xs ys : List ℕ) → bytes_eq xs ys ≡ true → xs ≡ ys
bytes_same_back xs ys e = grind (arith, bytes_eq-Decides)

bytes_differ : (xs ys : List ℕ) → xs ≢ ys → bytes_eq xs ys ≡ false
bytes_differ xs ys apart = grind (arith, bytes_eq-Decides)

both_false : (a b : Bool) → b ≡ false → (a && b) ≡ false
both_false true b e = e
both_false false b e = refl

-- where a sealed datagram is parted
seam : (bytes tag : List ℕ) → length tag ≡ 32 → length (bytes ++ tag) - 32 ≡ length bytes
seam bytes tag e = omega (arith, length-append bytes tag, e)

pub body_sealed : (key bytes : List ℕ) → body_of (sealed key bytes) ≡ bytes
body_sealed key bytes =
    ap (λ k. take k (bytes ++ hmac key bytes)) (seam bytes (hmac key bytes) (length-hmac key bytes)) ∙ take-append_seam bytes (hmac key bytes)

-- what was sealed is opened
sealed_is_true : (key bytes : List ℕ) → is_sealed key (sealed key bytes) ≡ true
sealed_is_true key bytes =
    let long : nat_le 32 (length (sealed key bytes)) ≡ true = grind (arith, nat_tests, length-append bytes (hmac key bytes), length-hmac key bytes) in
    let tag : drop (length (sealed key bytes) - 32) (sealed key bytes) ≡ hmac key bytes =
    ap (λ k. drop k (sealed key bytes)) (seam bytes (hmac key bytes) (length-hmac key bytes)) ∙ drop-append_seam bytes (hmac key bytes) in
    let same : bytes_eq (drop (length (sealed key bytes) - 32) (sealed key bytes)) (hmac key (body_of (sealed key bytes))) ≡ true =
    ap (λ t. bytes_eq t (hmac key (body_of (sealed key bytes)))) tag ∙ ap (λ b. bytes_eq (hmac key bytes) (hmac key b)) (body_sealed key bytes)
    ∙ bytes_same (hmac key bytes) in
    ap (λ b. b && bytes_eq (drop (length (sealed key bytes) - 32) (sealed key bytes)) (hmac key (body_of (sealed key bytes)))) long ∙ same

pub sealed_opens : (key bytes : List ℕ) → opened_one key (inbound (came (sealed key bytes))) ≡ inbound (came bytes) ∷ []
sealed_opens key bytes = one_true key (sealed key bytes) (sealed_is_true key bytes) ∙ ap (λ b. inbound (came b) ∷ []) (body_sealed key bytes)

-- what has no 32 bytes is nothing
pub short_is_nothing : (key bytes : List ℕ) → length bytes < 32 → opened_one key (inbound (came bytes)) ≡ []
short_is_nothing key bytes short =
    let no : nat_le 32 (length bytes) ≡ false = grind (arith, nat_tests, short) in
    one_false key bytes (ap (λ b. b && bytes_eq (drop (length bytes - 32) bytes) (hmac key (body_of bytes))) no)

-- a tag that isn't that of the bytes is nothing
pub wrong_is_nothing : (key bytes tag : List ℕ) → length tag ≡ 32 → tag ≢ hmac key bytes → opened_one key (inbound (came (bytes ++ tag))) ≡ []
wrong_is_nothing key bytes tag long wrong =
    let front : body_of (bytes ++ tag) ≡ bytes = ap (λ k. take k (bytes ++ tag)) (seam bytes tag long) ∙ take-append_seam bytes tag in
    let back : drop (length (bytes ++ tag) - 32) (bytes ++ tag) ≡ tag = ap (λ k. drop k (bytes ++ tag)) (seam bytes tag long) ∙ drop-append_seam bytes tag in
    let no : bytes_eq (drop (length (bytes ++ tag) - 32) (bytes ++ tag)) (hmac key (body_of (bytes ++ tag))) ≡ false =
    ap (λ t. bytes_eq t (hmac key (body_of (bytes ++ tag)))) back ∙ ap (λ b. bytes_eq tag (hmac key b)) front ∙ bytes_differ tag (hmac key bytes) wrong in
    one_false key (bytes ++ tag) (both_false (nat_le 32 (length (bytes ++ tag))) _ no)

-- what was sealed with another key, by which its tag is another, is nothing
pub other_is_nothing : (key other bytes : List ℕ) → hmac other bytes ≢ hmac key bytes → opened_one key (inbound (came (sealed other bytes))) ≡ []
other_is_nothing key other bytes apart = wrong_is_nothing key bytes (hmac other bytes) (length-hmac other bytes) apart

-- what a datagram with a true tag is
sealed_again : (key bytes : List ℕ) → is_sealed key bytes ≡ true → bytes ≡ sealed key (body_of bytes)
sealed_again key bytes e =
    let parts = and_parts (nat_le 32 (length bytes)) (bytes_eq (drop (length bytes - 32) bytes) (hmac key (body_of bytes))) e in
    let tag : drop (length bytes - 32) bytes ≡ hmac key (body_of bytes) = bytes_same_back (drop (length bytes - 32) bytes) (hmac key (body_of bytes)) parts.1 in
    sym (take-append-drop (length bytes - 32) bytes) ∙ ap (λ t. body_of bytes ++ t) tag

-- the one item of two lists
abbrev only_of : Traffic → List Traffic → Traffic
only_of none [] = none
only_of none (call ∷ more) = call

-- the bytes of what came
abbrev bytes_of : Traffic → List ℕ
bytes_of (inbound (came bytes)) = bytes
bytes_of (inbound quiet) = []
bytes_of (outbound sent) = []

by_test : (key bytes body : List ℕ) (b : Bool) → is_sealed key bytes ≡ b → opened_one key (inbound (came bytes)) ≡ inbound (came body) ∷ []
    → bytes ≡ sealed key body
by_test key bytes body true e told =
    let same : body_of bytes ≡ body = ap (λ l. bytes_of (only_of (inbound quiet) l)) (sym (one_true key bytes e) ∙ told) in
    sealed_again key bytes e ∙ ap (sealed key) same
by_test key bytes body false e told =
    let apart : [] ≡ inbound (came body) ∷ [] = sym (one_false key bytes e) ∙ told in
    absurd (let no : ⊥ = cc in no)

-- nothing but a sealed datagram is opened to one
pub only_sealed_opens : (key bytes body : List ℕ) → opened_one key (inbound (came bytes)) ≡ inbound (came body) ∷ [] → bytes ≡ sealed key body
only_sealed_opens key bytes body told = by_test key bytes body (is_sealed key bytes) refl told

-- a send of what was sealed is told as a send of what was to be sent
pub sends_one : (key bytes : List ℕ) (to : Address) (b d : Bool) (was now : Option (List Traffic)) (room : List ℕ) → d ≡ b → room ≡ sealed key bytes
    → Extends was now (outbound (packet to room) ∷ [])
    → Extends (unless b (option_map (opened key) was)) (unless d (option_map (opened key) now)) (outbound (packet to bytes) ∷ [])
sends_one key bytes to b d was now room same is told =
    opened_sent key b d was now room bytes to same (ap body_of is ∙ body_sealed key bytes) told
