use Rattle.std.proofs.Common.{sym, ◌∙◌, arith}
use Rattle.nqs_serve.proofs.Lines.{ends_here, goes_on_here}
use Rattle.nqs_serve.proofs.text.lines_end.Goals as goal

pub loop-end-preserved : goal.loop-end-preserved
loop-end-preserved c = record {
  within = omega (arith, c.loop-end.invariant.within);
  lines = sym (goes_on_here c.args.text.now c.loop-end.end c.loop-end-test.true c.loop-end.invariant.within c.if-text-end-ne10.true)
      ∙ c.loop-end.invariant.lines;
}

pub returns-else-text-end-ne10-clause-lines : goal.returns-else-text-end-ne10-clause-lines
returns-else-text-end-ne10-clause-lines c =
    sym (ends_here c.args.text.now c.loop-end.end c.loop-end-test.true c.loop-end.invariant.within c.if-text-end-ne10.false) ∙ c.loop-end.invariant.lines
