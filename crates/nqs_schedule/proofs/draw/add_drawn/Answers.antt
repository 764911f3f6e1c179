use Rattle.std.proofs.Common.{◌++◌, ◌+◌, ◌-◌}
use Rattle.nqs_schedule.specs.Generated.{drawn_from, generator_of}
use Rattle.nqs_schedule.proofs.Draws.{drawn_more, drawn_end}
use Rattle.nqs_schedule.proofs.draw.add_drawn.Goals as goal

pub loop-i-preserved : goal.loop-i-preserved
loop-i-preserved c = record {
  so_far = drawn_more c.args.hosts (c.loop-i.i + 1) c.args.count c.loop-i.i c.loop-i.generator c.next_word-word.new.self c.next_word-word.result
      c.in_ok-drawn.field-0 c.loop-i.events c.push.new.self
      (c.args.events.now ++ drawn_from c.args.hosts 1 (generator_of c.args.seed) c.args.count) c.loop-i-test.true c.next_word-word.ensures c.in_ok-drawn.ensures
      c.in_ok-push.ensures.ok c.loop-i.invariant.so_far;
}

pub returns : goal.returns
returns c = drawn_end c.args.hosts (c.loop-i.i + 1) c.args.count c.loop-i.i c.loop-i.generator c.loop-i.events
    (c.args.events.now ++ drawn_from c.args.hosts 1 (generator_of c.args.seed) c.args.count) c.loop-i-test.false c.loop-i.invariant.so_far
