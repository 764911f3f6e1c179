use Rattle.std.proofs.Common.{◌+◌, ◌++◌, ◌∷◌, [], take, drop, arith}
use Rattle.std.proofs.lemmas.Result.{err_from_is_err_and}
use Rattle.std.proofs.lemmas.List.{take_rest, length-append}
use Rattle.nqs_schedule.proofs.Fronts.{Front-start, Front-more, first_line, bad_line}
use Rattle.nqs_schedule.proofs.reader.read_schedule.Goals as goal

pub returns-in_err-take_line : goal.returns-in_err-take_line
returns-in_err-take_line c =
    let p = err_from_is_err_and c.from_residual-in_err-take_line.result c.from_residual-in_err-take_line.ensures.1 in
    let front = c.loop-rest.invariant.so_far in
    let rest = c.loop-rest.rest.now in
    let end = c.in-Some.end in
    let found = c.in-Some.ensures in
    rw (p.1, p.2) (bad_line _ _ front.0 _ rest (take end rest) (drop (end + 1) rest) _ _ front.1 front.2
    (first_line rest end found.0 found.1) found.2 c.in_err-take_line.ensures)

pub loop-rest-preserved : goal.loop-rest-preserved
loop-rest-preserved c =
    let front = c.loop-rest.invariant.so_far in
    let rest = c.loop-rest.rest.now in
    let end = c.in-Some.end in
    let found = c.in-Some.ensures in
    let added = c.in_ok-take_line.ensures in
    let more = Front-more _ front.0 _ rest (take end rest) (drop (end + 1) rest) added.0 front.1 (first_line rest end found.0 found.1) found.2 added.1 in
    record {
      so_far = (front.0 ++ take end rest ∷ [], rw (take_rest rest (end + 1), added.2) more, omega (arith, length-append front.0 (take end rest ∷ []), front.2));
      fits = omega arith;
    }

pub loop-rest-init : goal.loop-rest-init
loop-rest-init c = record {
  so_far = ([], Front-start c.args.bytes.now c.in_ok-alpha.field-0 c.new.result c.in_ok-alpha.ensures c.new.ensures, omega arith);
  fits = omega arith;
}
