use Rattle.nqs_schedule.specs.Summary.{summary_of}
use Rattle.nqs_schedule.proofs.Counts.{count_more, count_end}
use Rattle.nqs_network_runs.proofs.run.count_all.Goals as goal

pub loop-i-preserved : goal.loop-i-preserved
loop-i-preserved c = record {
  so_far = count_more c.args.seen.now c.loop-i.i c.index-seen-i.result c.loop-i.summary c.count.new.self
      (summary_of c.args.summary.now c.args.seen.now) c.loop-i-test.true c.index-seen-i.is c.count.ensures c.loop-i.invariant.so_far;
}

pub returns : goal.returns
returns c = count_end c.args.seen.now c.loop-i.i c.loop-i.summary (summary_of c.args.summary.now c.args.seen.now) c.loop-i-test.false c.loop-i.invariant.so_far
