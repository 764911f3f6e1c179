-- What a call adds to what a wire under a key tells.
use Rattle.std.proofs.Common.{◌≡◌, ◌-◌, ◌≤◌, ℕ, List, [], ◌∷◌, length, take, ap, refl, ◌∙◌, arith, Bool, true, false}
use Rattle.std.proofs.lemmas.List.{length-take, take-take, append-nil}
use Rattle.std.specs.Option.{option_map}
use Rattle.std.specs.declared.option.Option.{Option}
use Rattle.nqs_outside.specs.declared.wire.Address.{Address}
use Rattle.nqs_outside.specs.Asked.{came, quiet, packet, Traffic, inbound, outbound}
use Rattle.nqs_outside.specs.Told.{Extends}
use Rattle.nqs_outside.proofs.Told.{extends_same}
use Rattle.nqs_seal.specs.Sealed.{is_sealed, body_of, opened, opened_one, unless}
use Rattle.nqs_seal.proofs.Told.{extends_flat, extends_unless}

-- the body of what came is the front of the buffer
body_in : (n : ℕ) (buf : List ℕ) → n ≤ length buf → body_of (take n buf) ≡ take (n - 32) buf
body_in n buf within =
    let long : length (take n buf) ≡ n = omega (arith, length-take n buf) in
    ap (λ k. take (k - 32) (take n buf)) long ∙ take-take (n - 32) n buf (omega arith) ∙ ap (λ k. take k buf) (omega arith)

pub one_true : (key bytes : List ℕ) → is_sealed key bytes ≡ true → opened_one key (inbound (came bytes)) ≡ inbound (came (body_of bytes)) ∷ []
unfolding opened_one
one_true key bytes e = rw e refl

pub one_false : (key bytes : List ℕ) → is_sealed key bytes ≡ false → opened_one key (inbound (came bytes)) ≡ []
unfolding opened_one
one_false key bytes e = rw e refl

one_quiet : (key : List ℕ) → opened_one key (inbound quiet) ≡ inbound quiet ∷ []
unfolding opened_one
one_quiet key = refl

one_sent : (key bytes : List ℕ) (to : Address) → opened_one key (outbound (packet to bytes)) ≡ outbound (packet to (body_of bytes)) ∷ []
unfolding opened_one
one_sent key bytes to = refl

-- a call of the wire below that told this tells it opened
pub extends_opened : (key : List ℕ) (b d : Bool) (was now : Option (List Traffic)) (call : Traffic) (more : List Traffic) → d ≡ b
    → opened_one key call ≡ more → Extends was now (call ∷ [])
    → Extends (unless b (option_map (opened key) was)) (unless d (option_map (opened key) now)) more
extends_opened key b d was now call more same one told =
    rw same
    (extends_unless b _ _ _ (extends_same _ _ _ _ (append-nil (opened_one key call) ∙ one) (extends_flat (opened_one key) was now (call ∷ []) told)))

pub opened_true : (key : List ℕ) (b d : Bool) (was now : Option (List Traffic)) (n : ℕ) (buf : List ℕ) → d ≡ b → n ≤ length buf
    → is_sealed key (take n buf) ≡ true
    → Extends was now (inbound (came (take n buf)) ∷ [])
    → Extends (unless b (option_map (opened key) was)) (unless d (option_map (opened key) now)) (inbound (came (take (n - 32) buf)) ∷ [])
opened_true key b d was now n buf same within e told =
    extends_opened key b d was now (inbound (came (take n buf))) _ same
    (one_true key (take n buf) e ∙ ap (λ body. inbound (came body) ∷ []) (body_in n buf within)) told

pub opened_false : (key : List ℕ) (b d : Bool) (was now : Option (List Traffic)) (bytes : List ℕ) → d ≡ b → is_sealed key bytes ≡ false
    → Extends was now (inbound (came bytes) ∷ [])
    → Extends (unless b (option_map (opened key) was)) (unless d (option_map (opened key) now)) []
opened_false key b d was now bytes same e told =
    extends_opened key b d was now (inbound (came bytes)) [] same (one_false key bytes e) told

pub opened_quiet : (key : List ℕ) (b d : Bool) (was now : Option (List Traffic)) → d ≡ b
    → Extends was now (inbound quiet ∷ [])
    → Extends (unless b (option_map (opened key) was)) (unless d (option_map (opened key) now)) (inbound quiet ∷ [])
opened_quiet key b d was now same told = extends_opened key b d was now (inbound quiet) _ same (one_quiet key) told

pub opened_sent : (key : List ℕ) (b d : Bool) (was now : Option (List Traffic)) (bytes body : List ℕ) (to : Address) → d ≡ b → body_of bytes ≡ body
    → Extends was now (outbound (packet to bytes) ∷ [])
    → Extends (unless b (option_map (opened key) was)) (unless d (option_map (opened key) now)) (outbound (packet to body) ∷ [])
opened_sent key b d was now bytes body to same is told =
    extends_opened key b d was now (outbound (packet to bytes)) _ same
    (one_sent key bytes to ∙ ap (λ plain. outbound (packet to plain) ∷ []) is) told

pub opened_nothing : (key : List ℕ) (b d : Bool) (was now : Option (List Traffic)) → d ≡ b
    → Extends was now [] → Extends (unless b (option_map (opened key) was)) (unless d (option_map (opened key) now)) []
opened_nothing key b d was now same told = rw same (extends_unless b _ _ _ (extends_flat (opened_one key) was now [] told))
