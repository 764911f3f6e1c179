use Rattle.std.proofs.Common.{◌≡◌, ◌∙◌, ◌∷◌, ap, sym, true≢false, is_ok, if◌then◌else◌, position, remove, insert, Some, None}
use Rattle.nqs_base_tables.specs.Table.{without_first}
use Rattle.nqs_rules.specs.Tests.{same_dest}
use Rattle.nqs_conf.proofs.Places.{first_at, nowhere}
use Rattle.nqs_conf.proofs.dest.put_first.Goals as goal

pub returns-in_default : goal.returns-in_default
returns-in_default c = λ listed.
    let none : position (same_dest c.args.dest) c.args.dests.now ≡ None =
    ap (position (same_dest c.args.dest)) (sym c.as_slice.ensures) ∙ sym c.place_of_dest.ensures ∙ c.in_default.is in
    absurd (true≢false (sym listed ∙ nowhere (same_dest c.args.dest) c.args.dests.now none))

pub returns : goal.returns
returns c = λ listed.
    let dest = c.args.dest in
    let there : position (same_dest dest) c.args.dests.now ≡ Some c.in-Some.place =
    ap (position (same_dest dest)) (sym c.as_slice.ensures) ∙ sym c.place_of_dest.ensures ∙ c.in-Some.is in
    let others : c.remove.new.self.items ≡ without_first (same_dest dest) c.args.dests.now =
    c.remove.ensures.items ∙ ap (λ l. remove l c.in-Some.place) (c.into_vec-items.ensures ∙ c.replace.ensures.value)
    ∙ (first_at (same_dest dest) c.args.dests.now c.in-Some.place there).others in
    c.from_vec.ensures ∙ c.insert.ensures.items
    ∙ ap (λ r. if is_ok r then insert c.remove.new.self.items 0 dest else c.remove.new.self.items) c.unwrap.ensures
    ∙ ap (λ l. dest ∷ l) others
