use Rattle.std.proofs.Common.{◌∙◌, sym, subst}
use Rattle.nqs_base_tables.specs.Slots.{live, IsCounted, Asks}
use Rattle.nqs_base_tables.proofs.SlotLemmas.{retained-live, IsClosed-retained, IsCounted-none}
use Rattle.std.specs.Map.Calls.{CalledAtPair, RetainsPairs}
use Rattle.nqs_base_tables.proofs.TableLemmas.{RetainsPairs-asked}
use Rattle.nqs_base_tables.proofs.slots.Slots.revise.Given.{Over}
use Rattle.nqs_base_tables.proofs.slots.Slots.revise.Goals as goal

-- the values were asked by f itself
ran : (g : Over) (c : goal.After-clear g) → RetainsPairs (Asks (CalledAtPair g.F.FnMut)) c.args.f c.self.inside.map.entries c.retain.new.self.entries
ran g c =
    RetainsPairs-asked (λ s. s.0) _ (Asks (CalledAtPair g.F.FnMut)) (λ s t k v w b call.
    let called : Asks (CalledAtPair g.F.FnMut) s.0 call.key.now call.value.now b call.left.now t.0 = call.called.met in
    subst (λ k. Asks (CalledAtPair g.F.FnMut) s.0 k v b w t.0) call.shows.0
    (subst (λ v. Asks (CalledAtPair g.F.FnMut) s.0 call.key.now v b w t.0) call.shows.1
    (subst (λ w. Asks (CalledAtPair g.F.FnMut) s.0 call.key.now call.value.now b w t.0) call.leaves called))) _ _ _ c.retain.ensures.filtered

pub invariant_of-self : goal.invariant_of-self
invariant_of-self g c = (
  c.len-self-inside.ensures.len ∙ IsClosed-retained (CalledAtPair g.F.FnMut) c.args.f c.self.inside.map.entries _ (ran g c),
  subst (λ l. IsCounted l c.retain.new.self.entries) (sym c.clear.ensures.items) (IsCounted-none c.retain.new.self.entries),
)

pub returns-clause-retained : goal.returns-clause-retained
returns-clause-retained g c =
    subst (λ r. RetainsPairs (CalledAtPair g.F.FnMut) c.args.f (live r.entries) (live c.retain.new.self.entries)) c.self.view_is
    (retained-live (CalledAtPair g.F.FnMut) c.args.f c.self.inside.map.entries c.retain.new.self.entries (ran g c))
