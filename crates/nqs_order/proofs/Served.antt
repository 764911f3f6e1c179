-- A queue that has an eligible row has a class, and can do something with a row.
use Rattle.std.proofs.Common.{◌≡◌, ℕ, length, arith, Bool, true, false, ◌&&◌, ◌||◌, List, [], ◌∷◌, Option, None, Some, is_some, refl, sym, ◌∙◌}
use Rattle.std.proofs.Common.{true≢false}
use Rattle.std.specs.List.{list_any}
use Rattle.std.proofs.lemmas.Bool.{and_parts, and_from, lt-ltb}
use Rattle.nqs_state.specs.State.{State}
use Rattle.nqs_types.specs.declared.request.Row.{Row}
use Rattle.nqs_types.specs.declared.queue.Kind.{Kind}
use Rattle.nqs_types.specs.declared.queue.Kind.TheVariants.{Batch, Device, Pipe}
use Rattle.nqs_types.specs.declared.queue.QueueDef.{QueueDef}
use Rattle.nqs_types.specs.declared.queue.DeviceDef.{DeviceDef}
use Rattle.nqs_rules.specs.Tests.{passes}
use Rattle.nqs_rules.specs.Find.{find_device}
use Rattle.nqs_rules.specs.Devices.{has_forms, can_serve}
use Rattle.nqs_rules.specs.InOrder.{IsInOrder}
use Rattle.nqs_rules.specs.Order as by_rows
use Rattle.nqs_rules.proofs.ListFacts.{position_at}
use Rattle.nqs_index.specs.declared.index.Index.{Index}
use Rattle.nqs_index.specs.declared.classes.ClassLine.{ClassLine}
use Rattle.nqs_index.specs.Indexed.{StandsForIndex, classes_in}
use Rattle.nqs_order.specs.ByIndex.{is_filled, is_free_device, free_device, has_free_device, may_serve, kind_allows, has_eligible}
use Rattle.nqs_order.proofs.KeyedPlaces.{any_of}
use Rattle.nqs_order.proofs.CountsOfRows.{kind_is}
use Rattle.nqs_order.proofs.FirstOfClasses.{has_same}

module _ {A : Type 0} where
  -- what follows from each that passes
  from_any : (p : A → Bool) (b : Bool) → ((x : A) → p x ≡ true → b ≡ true) → (xs : List A) → list_any p xs ≡ true → b ≡ true
  from_any p b follows [] h = absurd (true≢false (sym h))
  from_any p b follows (x ∷ xs) h = of (p x) refl h (λ k. from_any p b follows xs k)
    where
      of : (c : Bool) → p x ≡ c → (c || list_any p xs) ≡ true → (list_any p xs ≡ true → b ≡ true) → b ≡ true
      of true e h rest = follows x e
      of false e h rest = rest h

module _ {E : Type 0} (index : Index) (d : QueueDef) (now : ℕ) (s : State E) where
  pub filled : (ls : List ClassLine) → has_eligible index d now s ls ≡ true → is_filled ls ≡ true
  filled [] h = absurd (true≢false (sym h))
  filled (l ∷ ls) h = lt-ltb 0 (length (l ∷ ls)) (omega arith)

module _ {E : Type 0} (index : Index) (s : State E) where
  any_forms : (forms : Option (List ℕ)) (device : List ℕ) → is_free_device index forms s device ≡ true → is_free_device index None s device ≡ true
  any_forms forms device h = of (find_device device s) _ h
    where
      of : (o : Option DeviceDef) (b : Bool) → (passes (can_serve forms) o && b) ≡ true → (passes (can_serve None) o && b) ≡ true
      of None b h = absurd (true≢false (sym h))
      of (Some e) b h =
          let p = and_parts (e.enabled && has_forms forms e) b h in
          and_from (e.enabled && true) b (and_from e.enabled true (and_parts e.enabled (has_forms forms e) p.0).0 refl) p.1

  serves : (k : Kind) (d : QueueDef) (now : ℕ) (r : Row E) → kind_allows k index d now s r ≡ true → may_serve k index d s ≡ true
  serves Batch d now r h = refl
  serves Device d now r h = of (free_device index d r.job.forms s) refl h
    where
      of : (o : Option ℕ) → free_device index d r.job.forms s ≡ o → is_some o ≡ true → has_free_device index d s ≡ true
      of None e h = absurd (true≢false (sym h))
      of (Some n) e h =
          let p = position_at (is_free_device index r.job.forms s) d.devices n e in
          any_of (is_free_device index None s) d.devices n p.value p.at (any_forms r.job.forms p.value p.passes)
  serves Pipe d now r h = refl

  module _ (stands : StandsForIndex index s.rows) (order : IsInOrder s) (d : QueueDef) (now : ℕ) where
    pub served : has_eligible index d now s (classes_in d.name index) ≡ true → may_serve d.kind index d s ≡ true
    served h = from_any (by_rows.is_eligible d now s) (may_serve d.kind index d s) by s.rows (sym (has_same index s stands order d now) ∙ h)
      where
        by : (r : Row E) → by_rows.is_eligible d now s r ≡ true → may_serve d.kind index d s ≡ true
        by r e = serves d.kind d now r (kind_is index s stands d.kind d now r ∙ (and_parts _ (by_rows.kind_allows d.kind d now s r) e).1)
