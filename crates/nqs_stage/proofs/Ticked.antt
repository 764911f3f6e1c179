-- What a tick sends of outputs: the due stages, and then the files.
use Rattle.std.proofs.Common.{◌≡◌, ◌∙◌, [], ◌∷◌, map}
use Rattle.std.specs.Prelude.{fold}
use Rattle.std.proofs.lemmas.List.Concat.{flat_map_single}
use Rattle.nqs_state.specs.State.{State}
use Rattle.nqs_base.specs.declared.extent.Extent.{Extent}
use Rattle.nqs_types.specs.declared.event.Plan.{Plan}
use Rattle.nqs_rules.specs.Stage.{file_again, stages_from, due_outputs}
use Rattle.nqs_plans.specs.More.{with_more}
use Rattle.nqs_plans.proofs.Grown.{more-both, folded-more}

pub due_is : (s : State Extent) (p q : Plan) → q ≡ with_more p (stages_from 0 s s.site)
    → fold (λ r f. with_more r (file_again f ∷ [])) q s.files ≡ with_more p (due_outputs s)
due_is s p q h =
    folded-more (λ f. file_again f ∷ []) q s.files
    ∙ (λ j. with_more (h j) (flat_map_single file_again s.files j))
    ∙ more-both p (stages_from 0 s s.site) (map file_again s.files)
