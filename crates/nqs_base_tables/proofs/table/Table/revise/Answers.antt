use Rattle.std.proofs.Common.{◌∙◌, ap, subst, map, filter, if◌then◌else◌, Some, None, Contains, refl, true}
use Rattle.std.specs.List.{filter_map}
use Rattle.std.specs.Map.{values_of}
use Rattle.nqs_base_tables.specs.Slots.{live}
use Rattle.nqs_base_tables.proofs.TableLemmas.{IsKeyed-retained, values-retained, filter_map-mapped, filter_map-filtered, if_some}
use Rattle.nqs_base_tables.proofs.table.Table.revise.Goals as goal

pub invariant_of-self : goal.invariant_of-self
invariant_of-self g c = IsKeyed-retained g.V.Keyed.key_of _ c.requires.keeps _ _ _ c.revise.ensures.retained c.self.invariant

pub returns-clause-revised : goal.returns-clause-revised
returns-clause-revised g c h says =
    values-retained g.V.Keyed.key_of _ c.requires.keeps h c.args.f _ refl _ _
    (λ k v w b t there. says k v w b t (subst (λ l. Contains l.items v) c.self.view_is there)) c.revise.ensures.retained
    ∙ ap (λ r. filter_map h r.items) c.self.view_is

pub returns-clause-mapped : goal.returns-clause-mapped
returns-clause-mapped g c f says =
    values-retained g.V.Keyed.key_of _ c.requires.keeps (λ v. Some (f v)) c.args.f _ refl _ _
    (λ k v w b t there call. let h = says k v w b t call in (if_some (f v) b true w h.0 h.1, h.2)) c.revise.ensures.retained
    ∙ filter_map-mapped f (values_of (live c.self.inside.slots.entries))
    ∙ ap (λ r. map f r.items) c.self.view_is

pub returns-clause-filtered : goal.returns-clause-filtered
returns-clause-filtered g c p says =
    values-retained g.V.Keyed.key_of _ c.requires.keeps (λ v. if p v then Some v else None) c.args.f _ refl _ _
    (λ k v w b t there call. let h = says k v w b t call in (if_some v b (p v) w h.0 h.1, h.2)) c.revise.ensures.retained
    ∙ filter_map-filtered p (values_of (live c.self.inside.slots.entries))
    ∙ ap (λ r. filter p r.items) c.self.view_is
