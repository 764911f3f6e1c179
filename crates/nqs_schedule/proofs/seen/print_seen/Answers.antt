use Rattle.std.proofs.Common.{◌++◌, ◌∷◌, [], ℕ, List, ap, sym, ◌∙◌, append_assoc}
use Rattle.nqs_schedule.specs.Seen.{seen_line}
use Rattle.nqs_schedule.proofs.Tables.{one_line}
use Rattle.nqs_schedule.proofs.seen.print_seen.Goals as goal

pub returns : goal.returns
returns c =
    let a = c.in_default.not-Reply in
    let b = c.in_default-seen.not-Table in
    let text = seen_line c.args.site.now c.args.seen.now in
    let e = c.in_ok-put_line_end.ensures.put ∙ (ap (λ (l : List ℕ). l ++ 10 ∷ []) c.in_ok-put_one_line.ensures
    ∙ append_assoc c.args.out.now.items text (10 ∷ [])) in
    e ∙ ap (λ (l : List ℕ). c.args.out.now.items ++ l) (sym (one_line c.args.site.now c.args.seen.now a b))
