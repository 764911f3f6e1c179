use Rattle.std.proofs.Common.{◌≡◌, ◌∙◌, Some, find, sym, ap, refl, subst}
use Rattle.std.specs.Map.{values_of}
use Rattle.nqs_base_tables.specs.Slots.{live, filled}
use Rattle.nqs_base_tables.specs.Table.{IsKeyed, has_key, change_first}
use Rattle.std.specs.Option.{option_map}
use Rattle.std.proofs.lemmas.Option.{slice_get-map}
use Rattle.nqs_base_tables.proofs.TableLemmas.{IsKeyed-set, values-changed, change_first-none, find-key, find-no_key}
use Rattle.nqs_base_tables.proofs.table.Table.change.Goals as goal

pub invariant_of-self : goal.invariant_of-self
invariant_of-self g c =
    let (v, w, at, ran, is) = c.change.ensures.entries in
    subst (IsKeyed g.V.Keyed.key_of) (sym is)
    (IsKeyed-set g.V.Keyed.key_of (live c.self.inside.slots.entries) (filled c.self.inside.slots.entries c.in-Some.slot) w c.self.invariant
    (slice_get-map g.V.Keyed.key_of (values_of (live c.self.inside.slots.entries)) (filled c.self.inside.slots.entries c.in-Some.slot)
    ∙ ap (option_map g.V.Keyed.key_of) at ∙ ap Some (sym (c.requires.keeps _ _ ran))))

found : (g : Rattle.nqs_base_tables.proofs.table.Table.change.Given.Over) (c : goal.After-change g)
    → find (has_key g.K.PartialEq.eq g.V.Keyed.key_of c.args.key.now) c.args.self.now.items ≡ Some c.change.ensures.entries.0
found g c =
    ap (λ r. find (has_key g.K.PartialEq.eq g.V.Keyed.key_of c.args.key.now) r.items) (sym c.self.view_is)
    ∙ find-key g.K.PartialEq.eq g.V.Keyed.key_of c.args.key.now (live c.self.inside.slots.entries) (filled c.self.inside.slots.entries
    c.in-Some.slot) _ c.self.invariant (sym c.in-Some.ensures.place) c.change.ensures.entries.2

pub returns-in-Some-clause-changed : goal.returns-in-Some-clause-changed
returns-in-Some-clause-changed g c change does =
    let (v, w, at, ran, is) = c.change.ensures.entries in
    ap values_of is
    ∙ values-changed g.K.PartialEq.eq g.V.Keyed.key_of c.args.key.now change (live c.self.inside.slots.entries) (filled c.self.inside.slots.entries
    c.in-Some.slot) v w c.self.invariant (sym c.in-Some.ensures.place) at
    (does v w (found g c) ran)
    ∙ ap (λ r. change_first (has_key g.K.PartialEq.eq g.V.Keyed.key_of c.args.key.now) change r.items) c.self.view_is

pub returns-in-Some-clause-made : goal.returns-in-Some-clause-made
returns-in-Some-clause-made g c =
    let (v, w, at, ran, is) = c.change.ensures.entries in
    rw (found g c) (
      w,
      ran,
      ap values_of is
          ∙ values-changed g.K.PartialEq.eq g.V.Keyed.key_of c.args.key.now (λ _. w) (live c.self.inside.slots.entries) (filled
          c.self.inside.slots.entries c.in-Some.slot) v w c.self.invariant
          (sym c.in-Some.ensures.place) at refl
          ∙ ap (λ r. change_first (has_key g.K.PartialEq.eq g.V.Keyed.key_of c.args.key.now) (λ _. w) r.items) c.self.view_is,
    )

pub returns-in-None-clause-changed : goal.returns-in-None-clause-changed
returns-in-None-clause-changed g c change does =
    sym (change_first-none (has_key g.K.PartialEq.eq g.V.Keyed.key_of c.args.key.now) change c.args.self.now.items (ap (λ r. find (has_key
    g.K.PartialEq.eq g.V.Keyed.key_of c.args.key.now) r.items) (sym c.self.view_is)
    ∙ find-no_key g.K.PartialEq.eq g.V.Keyed.key_of c.args.key.now (live c.self.inside.slots.entries) c.self.invariant (sym c.in-None.ensures.place)))

pub returns-in-None-clause-made : goal.returns-in-None-clause-made
returns-in-None-clause-made g c =
    rw (ap (λ r. find (has_key g.K.PartialEq.eq g.V.Keyed.key_of c.args.key.now) r.items) (sym c.self.view_is)
    ∙ find-no_key g.K.PartialEq.eq g.V.Keyed.key_of c.args.key.now (live c.self.inside.slots.entries) c.self.invariant (sym c.in-None.ensures.place)) tt
