use Rattle.std.proofs.Common.{◌≡◌, ◌++◌, ◌-◌, ℕ, List, drop, length, replicate, ap, ◌∙◌}
use Rattle.std.proofs.lemmas.List.{drop-replicate}
use Rattle.nqs_seal.proofs.mac.filled.Goals as goal

zeros_left : (n : ℕ) (bs : List ℕ) → bs ++ drop n (replicate 64 0) ≡ bs ++ replicate (64 - n) 0
zeros_left n bs = ap (λ z. bs ++ z) (drop-replicate n 64 0)

pub returns : goal.returns
returns c =
    ap (λ z. z ++ drop (length c.args.bytes.now) (replicate 64 0)) c.copy_from_slice.ensures.after
    ∙ zeros_left (length c.args.bytes.now) c.args.bytes.now
