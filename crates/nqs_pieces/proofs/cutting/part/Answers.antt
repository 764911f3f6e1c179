use Rattle.std.proofs.Common.{◌≡◌, ◌∙◌, ap, arith, length, min, drop, take}
use Rattle.std.proofs.lemmas.List.{length-drop, take_rest, take_min}
use Rattle.nqs_pieces.proofs.cutting.part.Goals as goal

pub returns : goal.returns
returns c =
    let message = c.args.message.now in
    let rest = drop c.args.start message in
    let short : c.min.result ≡ min 48000 (length rest) =
    omega (arith, c.min.ensures, length-drop c.args.start message, ap length (take_rest message c.args.start)) in
    ap (take c.min.result) (take_rest message c.args.start) ∙ ap (λ n. take n rest) short ∙ take_min 48000 rest
