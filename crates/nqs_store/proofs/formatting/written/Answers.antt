use Rattle.std.proofs.Common.{◌++◌, ◌∙◌, ℕ, List, length, ap, arith}
use Rattle.nqs_records.specs.Changes.{spelling}
use Rattle.nqs_records.proofs.ShortKinds.{short_spelling}
use Rattle.nqs_store.proofs.formatting.written.Goals as goal

pub returns : goal.returns
returns c =
    let is = c.in_ok-write_change.ensures ∙ ap (λ (l : List ℕ). l ++ spelling c.args.change.now) c.new-text.ensures.items in
    record { text = is; short = omega (arith, short_spelling c.args.change.now c.requires, ap length is, c.write_change.new.out.ok.0); fault = tt }
