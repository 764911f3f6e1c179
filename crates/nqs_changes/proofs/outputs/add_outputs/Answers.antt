use Rattle.std.proofs.Common.{refl, ap, sym, subst, arith, length, ◌≡◌, ◌∙◌, ◌∷◌, [], true}
use Rattle.std.proofs.lemmas.Bool.{and_parts, and_from}
use Rattle.std.specs.List.{list_all}
use Rattle.nqs_state.specs.State.{content}
use Rattle.nqs_rules.specs.InOrder.{IsInOrder}
use Rattle.nqs_rules.specs.Sane.{has_path}
use Rattle.nqs_rules.specs.Applied.{add_outputs}
use Rattle.nqs_rules.proofs.OutputsOrder.{outputs_added}
use Rattle.nqs_changes.proofs.outputs.add_outputs.Goals as goal

pub loop-part-preserved : goal.loop-part-preserved
loop-part-preserved c =
    let s = content c.loop-part.state in
    let part = c.in-Some.part in
    let rest = c.take_first.new.self in
    let i = c.loop-part.invariant in
    let is : c.loop-part.parts ≡ part ∷ rest = c.in-Some.ensures.some in
    let paths = and_parts (has_path part) (list_all has_path rest) (ap (list_all has_path) (sym is) ∙ i.paths) in
    let one : list_all has_path (part ∷ []) ≡ true = and_from (has_path part) true paths.0 refl in
    record {
      files = omega (arith, i.files, c.add_output.ensures.files, ap length is);
      stages = omega (arith, i.stages, c.add_output.ensures.stages, ap length is);
      order = subst IsInOrder (sym c.add_output.ensures.content) (outputs_added s c.args.id (part ∷ []) i.order one);
      paths = paths.1;
      rest = ap (add_outputs c.args.id rest) c.add_output.ensures.content ∙ ap (λ ps. add_outputs c.args.id ps s) (sym is) ∙ i.rest;
    }
