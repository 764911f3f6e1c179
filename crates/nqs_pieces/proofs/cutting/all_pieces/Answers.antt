use Rattle.std.proofs.Common.{sym, ◌∙◌, arith, [], ◌∷◌, ◌++◌}
use Rattle.std.proofs.lemmas.List.FromFn.{map-range_with_len_more}
use Rattle.nqs_pieces.specs.Pieces.{piece_of}
use Rattle.nqs_pieces.proofs.FormLaws.{begins_within}
use Rattle.nqs_pieces.proofs.cutting.all_pieces.Goals as goal

pub piece_at-requires-clause-inside : goal.piece_at-requires-clause-inside
piece_at-requires-clause-inside c = begins_within c.args.message.now c.loop-index.index (omega (arith, c.loop-index.invariant.1))

pub loop-index-preserved : goal.loop-index-preserved
loop-index-preserved c =
    let i = c.loop-index.index in (
      c.in_ok-push.ensures.items
          ∙ (λ j. c.loop-index.invariant.0 j ++ c.in_ok-piece.ensures j ∷ [])
          ∙ sym (map-range_with_len_more (piece_of c.args.message.now c.args.head.now) 0 i i (omega arith)),
      c.loop-index.invariant.1,
    )
