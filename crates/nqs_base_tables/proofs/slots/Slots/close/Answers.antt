use Rattle.std.proofs.Common.{◌≡◌, ◌∙◌, is_some, length, sym, ap, refl, subst}
use Rattle.nqs_base_tables.specs.Slots.{live, IsClosed, IsCounted}
use Rattle.nqs_base_tables.proofs.SlotLemmas.{live-filter, IsClosed-filter, IsCounted-none}
use Rattle.std.proofs.Common.{filter}
use Rattle.indexmap.proofs.CallerLemmas.{filter-RetainsPairs}
use Rattle.nqs_base_tables.proofs.slots.Slots.close.Given.{Over}
use Rattle.nqs_base_tables.proofs.slots.Slots.close.Goals as goal

kept : (g : Over) (c : goal.After-clear g) → c.retain.new.self.entries ≡ filter (λ e. is_some e.1) c.self.inside.map.entries
kept g c = filter-RetainsPairs _ (λ e. is_some e.1) _ (λ k v b w t call. (
  call.called.met.0 ∙ ap is_some call.shows.1,
  sym call.leaves
      ∙ call.called.met.1 ∙ call.shows.1,
  refl,
)) _ _ c.retain.ensures.filtered

pub invariant_of-self : goal.invariant_of-self
invariant_of-self g c = (
  c.self.invariant.0 ∙ ap length (sym (ap live (kept g c) ∙ live-filter c.self.inside.map.entries)),
  subst (λ l. IsCounted l c.retain.new.self.entries) (sym c.clear.ensures.items) (IsCounted-none c.retain.new.self.entries),
)

pub returns-clause-entries : goal.returns-clause-entries
returns-clause-entries g c = ap live (kept g c) ∙ live-filter c.self.inside.map.entries ∙ ap (λ r. live r.entries) c.self.view_is

pub returns-clause-closed : goal.returns-clause-closed
returns-clause-closed g c = subst IsClosed (sym (kept g c)) (IsClosed-filter c.self.inside.map.entries)
