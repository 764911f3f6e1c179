use Rattle.std.proofs.Common.{◌∙◌, ◌++◌, [], ap, sym, length}
use Rattle.nqs_journal.specs.Text.{records}
use Rattle.nqs_journal.proofs.Counts.{few, within, counted_by}
use Rattle.nqs_journal.proofs.Eithers.{plain_form, stands_plain}
use Rattle.nqs_journal.proofs.journal.Journal.load.Goals as goal

pub invariant_of-result-clause-within : goal.invariant_of-result-clause-within
invariant_of-result-clause-within g c = λ told running.
    let read = c.in-Ok-read_journal in
    rw (read.ensures.gate, read.ensures.reads.same told) (within _ _ read.read.0.payloads.items (read.ensures.stands told))

pub invariant_of-result-clause-few : goal.invariant_of-result-clause-few
invariant_of-result-clause-few g c =
    let read = c.in-Ok-read_journal in
    rw (read.ensures.gate, c.len-count.ensures, read.read.0.payloads.ok.0) (few _ read.read.0.payloads.items)

pub invariant_of-result-clause-counted : goal.invariant_of-result-clause-counted
invariant_of-result-clause-counted g c = λ told running.
    let read = c.in-Ok-read_journal in
    let plain = plain_form read.read.1 in
    let items = read.read.0.payloads.items in
    counted_by _ _ _ _ _ plain.0 [] items (read.ensures.reads.same told) (c.requires told)
    (stands_plain _ items (read.read.1, read.ensures.stands told))
    (read.ensures.gate ∙ ap (λ f. length (f ++ records items)) (sym plain.2)) (c.len-count.ensures ∙ read.read.0.payloads.ok.0) plain.4
