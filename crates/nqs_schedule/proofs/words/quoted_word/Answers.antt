use Rattle.std.proofs.Common.{◌+◌, ℕ, List, sym, ap, ◌∙◌}
use Rattle.std.proofs.lemmas.List.{take_rest}
use Rattle.nqs_schedule.specs.declared.words.Next.TheVariants.{Found}
use Rattle.nqs_schedule.specs.Lines.{is_over}
use Rattle.nqs_schedule.proofs.Splits.{over, not_over, no_end}
use Rattle.nqs_schedule.proofs.words.quoted_word.Goals as goal

pub returns-then-is_over-clause-next : goal.returns-then-is_over-clause-next
returns-then-is_over-clause-next c =
    let line = c.args.line.now in
    let start = c.args.start in
    let read = rw (take_rest line (start + 1)) at c.in-Ok.ensures.word in
    let inside = rw (take_rest line (start + 1)) at c.in-Ok.ensures.inside in
    let ends = sym (rw (take_rest line (start + 1 + c.in-Ok.taken)) at c.is_over.ensures) ∙ c.if-is_over.true in
    ap (λ (t : List ℕ). Found (record { text = t; end = start + 1 + c.in-Ok.taken })) c.from_vec.ensures
    ∙ over line start c.in-Ok.taken c.in-Ok.text.items inside c.requires read ends

pub returns-else-is_over-clause-next : goal.returns-else-is_over-clause-next
returns-else-is_over-clause-next c =
    let line = c.args.line.now in
    let start = c.args.start in
    let read = rw (take_rest line (start + 1)) at c.in-Ok.ensures.word in
    let ends = sym (rw (take_rest line (start + 1 + c.in-Ok.taken)) at c.is_over.ensures) ∙ c.if-is_over.false in
    not_over line start c.in-Ok.taken c.in-Ok.text.items read ends

pub returns-in-Err-BadQuote-clause-next : goal.returns-in-Err-BadQuote-clause-next
returns-in-Err-BadQuote-clause-next c =
    let w = rw c.in-Err-BadQuote.field-0-is at c.in-Err-BadQuote.ensures.word in
    no_end c.args.line.now c.args.start (rw (take_rest c.args.line.now (c.args.start + 1)) at w)
