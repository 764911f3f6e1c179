use Rattle.std.proofs.Common.{◌≡◌, ◌∙◌, sym, ap, Some, slice_get}
use Rattle.nqs_rules.proofs.KeyFacts.{all_get}
use Rattle.nqs_store.proofs.Lists.{get_at}
use Rattle.nqs_node.specs.Reading.{sends_short}
use Rattle.nqs_serve.specs.Sends.{is_right_output}
use Rattle.nqs_serve.proofs.letter.add_letters.Goals as goal

pub letter_of-requires-clause-right : goal.letter_of-requires-clause-right
letter_of-requires-clause-right c =
    let i = c.loop-place.place in
    let outputs = c.args.outputs.now in
    let output = c.index-outputs-place.result in
    let at : slice_get outputs i ≡ Some output = get_at outputs i output c.loop-place-test.true ∙ ap Some (sym c.index-outputs-place.is) in
    all_get (is_right_output 16) outputs i output c.requires.right at

pub letter_of-requires-clause-short : goal.letter_of-requires-clause-short
letter_of-requires-clause-short c =
    let i = c.loop-place.place in
    let outputs = c.args.outputs.now in
    let output = c.index-outputs-place.result in
    let at : slice_get outputs i ≡ Some output = get_at outputs i output c.loop-place-test.true ∙ ap Some (sym c.index-outputs-place.is) in
    all_get sends_short outputs i output c.requires.short at
