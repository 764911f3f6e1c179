use Rattle.std.proofs.Common.{◌≡◌, ℕ, ◌<◌, List, length, subst, arith}
use Rattle.nqs_pieces.specs.Pieces.{piece_count, piece_of}
use Rattle.nqs_packets.specs.Letters.{head_of}
use Rattle.nqs_packets.specs.Spelling.{spelling}
use Rattle.nqs_packets.proofs.LetterLaws.{at_piece, piece_may}
use Rattle.nqs_packets.proofs.letters.piece_letters.Goals as goal

pub piece_letter-requires : goal.piece_letter-requires
piece_letter-requires c =
    let m = c.args.message.now in
    let i = c.loop-place.place in
    let p = c.index.result.now in
    let spelled = c.requires.spelled in
    let long : 49152 < length (spelling m) = subst (λ (l : List ℕ). 49152 < length l) spelled c.requires.long in
    let inside : i < length c.in_ok-pieces.pieces.items = omega (arith, c.loop-place-test.true, c.len-place-end.ensures) in
    let at = at_piece c.args.bytes.now (head_of m) i c.in_ok-pieces.pieces.items p c.in_ok-pieces.ensures inside c.index.ensures in
    let below = subst (λ (l : List ℕ). i < piece_count l) spelled at.0 in
    let same = subst (λ (l : List ℕ). p ≡ piece_of l (head_of m) i) spelled at.1 in
    piece_may m i p c.requires.go long same (c.pieces_are_in_form.ensures (spelling m) (head_of m) i (omega (arith, long)) c.requires.go.short below)
    c.what_is_in_form_may_be_sent.ensures
