use Rattle.std.proofs.Common.{◌≡◌, ◌+◌, ◌≤◌, ◌∙◌, ◌++◌, ◌∷◌, [], Some, length, sym, ap, subst, arith}
use Rattle.std.specs.Map.{lookup}
use Rattle.nqs_base_tables.specs.Slots.{live, IsCounted}
use Rattle.nqs_base_tables.proofs.SlotLemmas.{live-added, length-added, live-small, IsCounted-added}
use Rattle.indexmap.proofs.CallerLemmas.{insert_entry-new}
use Rattle.nqs_base_tables.proofs.slots.Slots.push.Goals as goal

pub overflow_add-self : goal.overflow_add-self
overflow_add-self g c =
    let is : c.self.inside.len ≡ length (live c.self.inside.map.entries) = c.self.invariant.0 in
    let v : length (live c.self.inside.map.entries) ≡ length (live c.forget.new.self.entries) = ap (λ r. length (live r.entries)) c.self.view_is in
    let b : length (live c.forget.new.self.entries) ≤ length c.forget.new.self.entries = live-small c.forget.new.self.entries in
    omega arith

pub invariant_of-self : goal.invariant_of-self
invariant_of-self g c =
    let entries : c.insert.new.self.entries ≡ c.self.inside.map.entries ++ (c.args.key, Some c.args.value) ∷ [] =
    (rw c.unwrap-none.ensures at c.insert.ensures.entries)
    ∙ insert_entry-new g.K.PartialEq.eq c.self.inside.map c.args.key (Some c.args.value)
    (ap (λ r. lookup (g.K.PartialEq.eq c.args.key) r.entries) c.self.view_is ∙ c.forget.ensures.absent) in
    let is : c.self.inside.len ≡ length (live c.self.inside.map.entries) = c.self.invariant.0 in
    let a : length (live c.insert.new.self.entries) ≡ length (live c.self.inside.map.entries) + 1 =
    ap (λ l. length (live l)) entries ∙ length-added c.self.inside.map.entries c.args.key c.args.value in (
      omega arith,
      subst (IsCounted c.self.inside.blocks.items) (sym entries)
          (IsCounted-added c.self.inside.blocks.items c.self.inside.map.entries (c.args.key, Some c.args.value) c.self.invariant.1),
    )

pub returns-clause-entries : goal.returns-clause-entries
returns-clause-entries g c =
    let entries : c.insert.new.self.entries ≡ c.self.inside.map.entries ++ (c.args.key, Some c.args.value) ∷ [] =
    (rw c.unwrap-none.ensures at c.insert.ensures.entries)
    ∙ insert_entry-new g.K.PartialEq.eq c.self.inside.map c.args.key (Some c.args.value)
    (ap (λ r. lookup (g.K.PartialEq.eq c.args.key) r.entries) c.self.view_is ∙ c.forget.ensures.absent) in
    ap live c.cover.ensures.entries ∙ ap live entries ∙ live-added c.self.inside.map.entries c.args.key c.args.value
    ∙ ap (λ r. live r.entries ++ (c.args.key, c.args.value) ∷ []) c.self.view_is
    ∙ ap (λ l. l ++ (c.args.key, c.args.value) ∷ []) c.forget.ensures.entries
