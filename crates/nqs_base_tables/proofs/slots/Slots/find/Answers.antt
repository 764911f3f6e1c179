use Rattle.std.proofs.Common.{◌∙◌, is_some, position, sym, ap, subst}
use Rattle.std.specs.Map.{keys_of, lookup}
use Rattle.std.specs.List.{IsDistinct}
use Rattle.nqs_base_tables.proofs.SlotLemmas.{found, lookup-none, lookup-hole, position-none}
use Rattle.nqs_base_tables.proofs.TableLemmas.{none_from_is_some}
use Rattle.nqs_base_tables.proofs.slots.Slots.find.Goals as goal

pub returns-in-Some-clause-place : goal.returns-in-Some-clause-place
returns-in-Some-clause-place g c =
    let eq = g.K.PartialEq.eq in
    let es = c.args.self.now.entries in
    let unique : IsDistinct eq (keys_of es) = subst (λ r. IsDistinct eq (keys_of r.entries)) c.self.view_is c.in-Some.ensures.unique in
    found (eq c.args.key.now) es c.in-Some.slot
    (ap (λ r. position (eq c.args.key.now) (keys_of r.entries)) (sym c.self.view_is) ∙ sym c.in-Some.ensures.index)
    (lookup-hole eq g.met.K.Key.exact c.args.key.now es unique) c.unless_hole.result c.unless_hole.ensures.filled c.unless_hole.ensures.hole

pub returns-in-None-clause-place : goal.returns-in-None-clause-place
returns-in-None-clause-place g c =
    let test = g.K.PartialEq.eq c.args.key.now in
    let es = c.args.self.now.entries in
    sym (position-none test es (lookup-none test es (none_from_is_some _ (ap (λ r. is_some (lookup test r.entries)) (sym c.self.view_is)
    ∙ sym c.in-None.ensures.found))))
