use Rattle.std.proofs.Common.{◌≡◌, length, drop, [], ◌∷◌, ◌++◌, sym, arith, rules}
use Rattle.std.proofs.lemmas.List.{append-nil, length-drop, take_rest}
use Rattle.nqs_words.specs.Quoted.{quoted}
use Rattle.nqs_words.specs.declared.quoted.Step.TheVariants.{End, Bad, Byte}
use Rattle.nqs_words.proofs.Steps.{turned, quoted-none, after-after, byte_inside, end_inside, drops}
use Rattle.nqs_words.proofs.quoted.read_quoted.Goals as goal

pub returns-in-Bad-clause-word : goal.returns-in-Bad-clause-word
returns-in-Bad-clause-word c =
    let n = length c.args.bytes.now in
    sym (turned n c.loop.counter (drop c.loop.place c.args.bytes.now) c.loop.word.items (quoted n c.args.bytes.now) Bad c.loop-test.true
    (rw (take_rest c.args.bytes.now c.loop.place) at c.in-Bad.ensures) c.loop.invariant.so_far)

pub returns-in-End-clause-word : goal.returns-in-End-clause-word
returns-in-End-clause-word c =
    let n = length c.args.bytes.now in
    let t = turned n c.loop.counter (drop c.loop.place c.args.bytes.now) c.loop.word.items (quoted n c.args.bytes.now) End c.loop-test.true
    (rw (take_rest c.args.bytes.now c.loop.place) at c.in-End.ensures) c.loop.invariant.so_far in
    sym (rw (append-nil c.loop.word.items, drops 1 c.loop.place c.args.bytes.now) at t)

pub returns-in-End-clause-inside : goal.returns-in-End-clause-inside
returns-in-End-clause-inside c =
    let inside = end_inside (drop c.loop.place c.args.bytes.now) (rw (take_rest c.args.bytes.now c.loop.place) at c.in-End.ensures) in
    omega (arith, inside, length-drop c.loop.place c.args.bytes.now, c.loop.invariant.inside)

pub overflow_add-place : goal.overflow_add-place
overflow_add-place c =
    let inside = byte_inside (drop c.loop.place c.args.bytes.now) c.in-Byte.byte c.in-Byte.taken
    (rw (take_rest c.args.bytes.now c.loop.place) at c.in-Byte.ensures) in
    omega (arith, inside, length-drop c.loop.place c.args.bytes.now, c.loop.invariant.inside)

pub loop-preserved : goal.loop-preserved
loop-preserved c =
    let n = length c.args.bytes.now in
    let inside = byte_inside (drop c.loop.place c.args.bytes.now) c.in-Byte.byte c.in-Byte.taken
    (rw (take_rest c.args.bytes.now c.loop.place) at c.in-Byte.ensures) in
    let t = turned n c.loop.counter (drop c.loop.place c.args.bytes.now) c.loop.word.items (quoted n c.args.bytes.now)
    (Byte c.in-Byte.byte c.in-Byte.taken) c.loop-test.true (rw (take_rest c.args.bytes.now c.loop.place) at c.in-Byte.ensures) c.loop.invariant.so_far in
    let pushed : c.push.new.self.items ≡ c.loop.word.items ++ c.in-Byte.byte ∷ [] = search rules in
    record {
      inside = omega (arith, inside, length-drop c.loop.place c.args.bytes.now, c.loop.invariant.inside);
      so_far = rw pushed (rw (after-after c.loop.word.items (c.in-Byte.byte ∷ []) _, drops c.in-Byte.taken c.loop.place c.args.bytes.now) at t);
    }

pub returns-clause-word : goal.returns-clause-word
returns-clause-word c =
    let n = length c.args.bytes.now in
    sym (rw (quoted-none n c.loop.counter (drop c.loop.place c.args.bytes.now) c.loop-test.false) at c.loop.invariant.so_far)
