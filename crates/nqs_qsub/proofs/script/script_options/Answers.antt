use Rattle.std.proofs.Common.{ℕ, ◌+◌, ◌-◌, length, ap, ◌∙◌, arith}
use Rattle.std.proofs.lemmas.Result.{err_from_is_err_and}
use Rattle.nqs_qsub.specs.Script.{script_options}
use Rattle.nqs_qsub.specs.Options.{no_options}
use Rattle.nqs_qsub.proofs.Lines.{line_fails, line_ends, line_goes_on, lines_end}
use Rattle.nqs_qsub.proofs.script.script_options.Goals as goal

pub returns-in_err-more : goal.returns-in_err-more
returns-in_err-more c =
    let n = length c.args.script.now in
    let all = script_options n c.args.script.now 1 0 no_options in
    let e = line_fails n c.loop.counter c.args.script.now c.loop.line c.loop.place c.loop.options all c.line_options.result _ c.loop-test.true
    c.line_options.ensures c.loop.invariant.so_far c.in_err-more.was in
    let p = err_from_is_err_and c.from_residual.result c.from_residual.ensures.1 in
    rw (p.1, p.2) e

pub returns-then-not-goes_on : goal.returns-then-not-goes_on
returns-then-not-goes_on c =
    let n = length c.args.script.now in
    let all = script_options n c.args.script.now 1 0 no_options in
    line_ends n c.loop.counter c.args.script.now c.loop.line c.loop.place c.loop.options all c.line_options.result c.in_ok-more.more c.in_ok-more.goes_on
    c.loop-test.true c.line_options.ensures c.loop.invariant.so_far c.in_ok-more.was c.if-not-goes_on.true

pub loop-preserved : goal.loop-preserved
loop-preserved c =
    let n = length c.args.script.now in
    let all = script_options n c.args.script.now 1 0 no_options in
    let on = line_goes_on n c.loop.counter c.args.script.now c.loop.line c.loop.place c.loop.options all c.line_options.result c.in_ok-more.more
    c.in_ok-more.goes_on c.loop-test.true c.line_options.ensures c.loop.invariant.so_far c.in_ok-more.was c.if-not-goes_on.false in
    record {
      inside = c.next_line-place.ensures.fits;
      counted = omega arith;
      so_far = ap (λ (p : ℕ). script_options (n - (c.loop.counter + 1)) c.args.script.now (c.loop.line + 1) p c.in_ok-more.more) c.next_line-place.ensures.next
          ∙ on;
    }

pub returns : goal.returns
returns c =
    let n = length c.args.script.now in
    let all = script_options n c.args.script.now 1 0 no_options in
    lines_end n c.loop.counter c.args.script.now c.loop.line c.loop.place c.loop.options all c.loop-test.false c.loop.invariant.so_far
