-- The text of an end is that of no other end: so who reads it is told that end.
use Rattle.std.proofs.Common.{◌≡◌, ℕ, ◌/◌, ◌%◌, List, ◌++◌, length, take, drop, arith}
use Rattle.std.proofs.Math.Seq.{take-append_seam, drop-append_seam}
use Rattle.nqs_real.specs.Ends.{end_text}

-- two ends with one text are one
pub one_end : (s t : ℕ) (o p e f : List ℕ) → end_text s o e ≡ end_text t p f → (s ≡ t) × (o ≡ p) × (e ≡ f)
one_end s t o p e f h =
    let status : s ≡ t = cc in
    let high : length o / 256 ≡ length p / 256 = cc in
    let low : length o % 256 ≡ length p % 256 = cc in
    let rest : o ++ e ≡ p ++ f = cc in
    let same : length o ≡ length p = omega arith in
    let a : take (length o) (o ++ e) ≡ o = take-append_seam o e in
    let b : take (length p) (p ++ f) ≡ p = take-append_seam p f in
    let c : drop (length o) (o ++ e) ≡ e = drop-append_seam o e in
    let d : drop (length p) (p ++ f) ≡ f = drop-append_seam p f in
    let out : o ≡ p = cc in
    let err : e ≡ f = cc in
    (status, out, err)
