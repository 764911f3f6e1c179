-- Datagrams that are sent one after the other.
use Rattle.std.proofs.Common.{◌≡◌, ℕ, ◌+◌, ◌<◌, ◌≤◌, List, [], ◌∷◌, ◌++◌, take, length, get_or, Option, sym, ap, ◌∙◌, arith}
use Rattle.std.proofs.Math.Seq.{take-length}
use Rattle.std.proofs.lemmas.List.{get_or-map, length-map, take_more}
use Rattle.nqs_types.specs.declared.ids.HostId.{HostId}
use Rattle.nqs_outside.specs.Asked.{packet, Traffic, outbound}
use Rattle.nqs_outside.specs.Told.{Extends}
use Rattle.nqs_outside.specs.declared.wire.Address.TheVariants.{Host}
use Rattle.nqs_outside.proofs.Told.{extends_same, extends_then}
use Rattle.nqs_clients.specs.Exchange.{sends}

abbrev as_sent : HostId → List ℕ → Traffic
as_sent host letter = outbound (packet (Host host) letter)

pub sends_long : (host : HostId) (letters : List (List ℕ)) (i : ℕ) → i < length letters → i < length (sends host letters)
sends_long host letters i less = omega (arith, less, length-map letters (as_sent host))

-- one more was sent
pub one_sent : (host : HostId) (letters : List (List ℕ)) (i : ℕ) (letter bytes : List ℕ) → i < length letters → letter ≡ get_or letters i letter
    → bytes ≡ letter → (was mid now : Option (List Traffic)) → Extends was mid (take i (sends host letters)) → Extends mid now (as_sent host bytes ∷ [])
    → Extends was now (take (i + 1) (sends host letters))
one_sent host letters i letter bytes less is same was mid now before then =
    let all = sends host letters in
    let there : get_or all i (as_sent host letter) ≡ as_sent host bytes =
    get_or-map (as_sent host) letters i letter (as_sent host letter) less ∙ ap (as_sent host) (sym is ∙ sym same) in
    extends_same was now (take i all ++ as_sent host bytes ∷ []) (take (i + 1) all)
    (sym (take_more all i (as_sent host letter) (sends_long host letters i less) ∙ ap (λ t. take i all ++ t ∷ []) there))
    (extends_then was mid now (take i all) (as_sent host bytes ∷ []) before then)

-- all were sent
pub all_sent : (host : HostId) (letters : List (List ℕ)) (i : ℕ) → length letters ≤ i → i ≤ length letters → take i (sends host letters) ≡ sends host letters
all_sent host letters i from to =
    let same : i ≡ length (sends host letters) = omega (arith, from, to, length-map letters (as_sent host)) in
    ap (λ n. take n (sends host letters)) same ∙ take-length (sends host letters)
