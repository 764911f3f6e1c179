use Rattle.std.proofs.Common.{◌*◌, ◌∙◌, ap, drop, take}
use Rattle.nqs_pieces.proofs.FormLaws.{bytes_are}
use Rattle.nqs_pieces.proofs.cutting.piece_at.Goals as goal

pub returns : goal.returns
returns c =
    let head = c.args.head.now in
    let message = c.args.message.now in
    let count = c.requires.counted in
    let bytes = c.in_ok-bytes.ensures ∙ c.part.ensures ∙ ap (λ i. take 48000 (drop (48000 * i) message)) c.from.ensures ∙ bytes_are message c.args.index in
    λ j. record {
      from = head.from;
      to = head.to;
      kind = head.kind;
      port = head.port;
      number = head.number;
      index = c.args.index;
      count = count j;
      bytes = bytes j;
    }
