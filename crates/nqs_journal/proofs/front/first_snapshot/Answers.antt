use Rattle.std.proofs.Common.{◌∙◌, ◌++◌, sym, ap, take, drop, length, arith}
use Rattle.std.specs.Int.{w64, from_be_bytes}
use Rattle.nqs_journal.specs.Either.{long_frame}
use Rattle.nqs_journal.proofs.LongFrames.{no_snapshot_short, no_snapshot_past, long_frame_stands}
use Rattle.nqs_journal.proofs.front.first_snapshot.Goals as goal

pub returns-then-bytes-lt8-clause-none : goal.returns-then-bytes-lt8-clause-none
returns-then-bytes-lt8-clause-none c = no_snapshot_short c.args.bytes.now c.if-bytes-lt8.true

pub returns-then-length-rest-clause-none : goal.returns-then-length-rest-clause-none
returns-then-length-rest-clause-none c =
    no_snapshot_past c.args.bytes.now c.from_be_bytes-length.result (c.from_be_bytes-length.ensures ∙ ap (from_be_bytes w64) c.split_at.ensures.front)
    (omega (arith, c.if-length-rest.true, ap length c.split_at.ensures.back))

pub returns-clause-some : goal.returns-clause-some
returns-clause-some c =
    let n = c.from_be_bytes-length.result in
    let back = c.split_at.ensures.back in
    let whole = long_frame_stands c.args.bytes.now n (λ i. omega (arith, c.type_inv.bytes i)) c.if-bytes-lt8.false
    (c.from_be_bytes-length.ensures ∙ ap (from_be_bytes w64) c.split_at.ensures.front) (omega (arith, c.if-length-rest.false, ap length back)) in
    let snapshot = c.split_at-2.ensures.front ∙ ap (take n) back in
    (drop n (drop 8 c.args.bytes.now), whole ∙ ap (λ l. long_frame l ++ drop n (drop 8 c.args.bytes.now)) (sym snapshot))
