use Rattle.std.proofs.Common.{◌∙◌, ◌<◌, slice_get, slice_set, length, Some, refl, ap, subst, sym}
use Rattle.std.proofs.lemmas.Option.{slice_get_read}
use Rattle.nqs_base.proofs.items.Items.change.Goals as goal

pub returns : goal.returns
returns g c = (
  c.index_mut-value.result.now,
  c.change_value.new.value,
  ap (λ l. slice_get l c.args.place) (sym c.self.view_is) ∙ slice_get_read c.self.inside.items.items (length c.self.inside.items.items) c.args.place
      c.index_mut-value.result.now refl (subst (λ l. c.args.place < length l) (sym c.self.view_is) c.requires.place) c.index_mut-value.ensures.value,
  c.change_value.ensures,
  ap (λ l. slice_set l c.args.place c.change_value.new.value) c.self.view_is,
)
