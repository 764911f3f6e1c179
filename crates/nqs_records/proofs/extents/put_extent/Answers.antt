use Rattle.std.proofs.Common.{ℕ, List, ◌++◌, ◌-◌, ◌∙◌, length, length-append, ap, arith}
use borrow.Rule.Slice.PartMut.{put_mid}
use Rattle.nqs_records.specs.Spelling.{extent_field}
use Rattle.nqs_records.proofs.PutBack.{put_back, length-extent}
use Rattle.nqs_records.proofs.extents.put_extent.Goals as goal

pub returns-clause-put : goal.returns-clause-put
returns-clause-put c = λ front back old is behind.
    let n = length c.args.text.now in
    let mid = extent_field old in
    let size = length-extent old in
    let whole = ap length is in
    let two = length-append (front ++ mid) back in
    let one = length-append front mid in
    let end = n - c.args.behind in
    ap (λ (l : List ℕ). put_mid (end - 12) (end - (end - 12)) l c.copy_from_slice.new.self) is
    ∙ put_back front mid back c.copy_from_slice.new.self (end - 12) (end - (end - 12)) (omega (arith, whole, size, behind, one, two))
    (omega (arith, whole, size, behind, one, two))
    ∙ ap (λ (l : List ℕ). front ++ l ++ back) (c.copy_from_slice.ensures.after ∙ c.spelled.ensures)
