use Rattle.std.proofs.Common.{◌∙◌, ◌-◌, ap, subst, sym, length, false, arith}
use Rattle.nqs_journal.specs.Opened.{IsCounted}
use Rattle.nqs_journal.specs.Text.{snapshot_front}
use Rattle.nqs_journal.proofs.Counts.{counted_none}
use Rattle.nqs_journal.proofs.journal.Journal.begin.Goals as goal

pub invariant_of-result : goal.invariant_of-result
invariant_of-result g c =
    let begun = c.in-Ok-write_begin.ensures in
    let text = c.in-Ok-snapshot_text.text in
    let made = c.in-Ok-snapshot_text.ensures in
    let size = c.len.ensures ∙ text.ok.0 in
    let few = ap length c.deref.ensures.value in
    let front = snapshot_front c.args.snapshot.now in
    record {
      small = omega (arith, begun.small, size, few);
      within = λ told running. omega (arith, begun.length told, size, few, c.len.ensures, made.length);
      room = c.in-Ok.ensures.capacity;
      few = omega arith;
      counted = λ told running. subst (λ n. ∥ IsCounted (g.D.Disk.history c.write_begin.new.disk) n 0 false ∥₁) (sym (ap (λ n. n - 1) size))
          (counted_none _ c.args.snapshot.now text.items (omega (arith, begun.small, few, text.ok.0, made.length)) made.text
          (begun.open told front (c.deref.ensures.value ∙ made.text)));
    }
