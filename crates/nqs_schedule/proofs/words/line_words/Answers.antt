use Rattle.std.proofs.Common.{◌-◌, ◌+◌, length, ap, ◌∙◌, List}
use Rattle.nqs_schedule.specs.declared.words.LineWord.{LineWord}
use Rattle.nqs_schedule.specs.Lines.{words_from}
use Rattle.nqs_schedule.proofs.Splits.{joined, words_end, words_bad, words_more, words_done}
use Rattle.nqs_schedule.proofs.words.line_words.Goals as goal

pub returns-in-End : goal.returns-in-End
returns-in-End c =
    let n = length c.args.line.now in
    words_end n c.loop.counter c.args.line.now c.loop.place c.loop.words (words_from n c.args.line.now 0) c.in_ok-next_of.field-0 c.loop-test.true
    c.in_ok-next_of.ensures.next c.loop.invariant.so_far c.in-End.is

pub returns-in-BadQuote : goal.returns-in-BadQuote
returns-in-BadQuote c =
    let n = length c.args.line.now in
    words_bad n c.loop.counter c.args.line.now c.loop.place c.loop.words (words_from n c.args.line.now 0) c.in_ok-next_of.field-0 c.loop-test.true
    c.in_ok-next_of.ensures.next c.loop.invariant.so_far c.in-BadQuote.is

pub loop-preserved : goal.loop-preserved
loop-preserved c =
    let n = length c.args.line.now in
    let more = words_more n c.loop.counter c.args.line.now c.loop.place c.loop.words
    (words_from n c.args.line.now 0) c.in_ok-next_of.field-0 c.in-Found.word c.loop-test.true c.in_ok-next_of.ensures.next c.loop.invariant.so_far
    c.in-Found.is in
    record {
      inside = rw c.in-Found.is at c.in_ok-next_of.ensures.fits;
      so_far = ap (λ (l : List LineWord). joined l (words_from (n - (c.loop.counter + 1)) c.args.line.now c.in-Found.word.end)) c.in_ok-push-in-Found.ensures.ok
          ∙ more;
    }

pub returns : goal.returns
returns c = words_done (length c.args.line.now) c.loop.counter c.args.line.now c.loop.place c.loop.words
    (words_from (length c.args.line.now) c.args.line.now 0) c.loop-test.false c.loop.invariant.so_far
