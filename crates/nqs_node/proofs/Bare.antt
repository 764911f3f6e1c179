-- Starts without the stored bytes.
use Rattle.std.proofs.Common.{◌≡◌, ℕ, List, [], ◌++◌, map, option_map, None, Some, sym, ap, ◌∙◌}
use Rattle.std.proofs.lemmas.List.{append-nil}
use Rattle.nqs_types.specs.declared.event.Output.{Output}
use Rattle.nqs_base.specs.declared.extent.Extent.{Extent}
use Rattle.nqs_rules.specs.Plain.{map_state}
use Rattle.nqs_rules.specs.Start.{start}
use Rattle.nqs_rules.specs.Starts.{after_step}
use Rattle.nqs_rules.specs.Stepped.{Stepped, quiet, map_stepped, shown}
use Rattle.nqs_store.specs.Told.{Host}
use Rattle.nqs_back.specs.Bare.{emptied, without_bytes}
use Rattle.nqs_back.proofs.Plans.{emptied_twice}
use Rattle.nqs_node.specs.Carried.{started}
use Rattle.nqs_node.proofs.Planning.{started_is}

-- a start, seen from its plan

-- whatever stands for the bytes it is the same
pub started_filled : (now : ℕ) (old : Host) (bytes : Extent → List ℕ) → start now (map_state bytes old) ≡ option_map (map_stepped bytes) (start now old)
    → (done : Stepped Extent) → start now old ≡ Some done → started now (map_state bytes old) ≡ map_stepped bytes done
started_filled now old bytes alike done picked =
    started_is now (map_state bytes old) (Some (map_stepped bytes done)) (alike ∙ ap (option_map (map_stepped bytes)) picked)

module _ (now : ℕ) (old : Host) (alike : start now (emptied old) ≡ option_map (map_stepped (λ _. [])) (start now old)) where
  -- it starts without the bytes too
  pub picked_bare : (done : Stepped Extent) → start now old ≡ Some done → start now (emptied old) ≡ Some (map_stepped (λ _. []) done)
  picked_bare done picked = alike ∙ ap (option_map (map_stepped (λ _. []))) picked

  pub started_bare : (done : Stepped Extent) → start now old ≡ Some done → started now (emptied old) ≡ map_stepped (λ _. []) done
  started_bare done picked = started_is now (emptied old) (Some (map_stepped (λ _. []) done)) (picked_bare done picked)

  -- nothing starts, with the bytes or without
  none_bare : start now old ≡ None → started now (emptied old) ≡ quiet
  none_bare none = started_is now (emptied old) None (alike ∙ ap (option_map (map_stepped (λ _. []))) none)

  pub bare_none : start now old ≡ None → emptied old ≡ emptied (after_step (started now (emptied old)) (emptied old))
  bare_none none = sym (emptied_twice old) ∙ ap (λ x. emptied (after_step x (emptied old))) (sym (none_bare none))

  pub alike_none : start now old ≡ None → (os : List Output) → map without_bytes os
      ≡ map without_bytes os ++ map without_bytes (map shown (started now (emptied old)).outputs)
  alike_none none os = sym (append-nil (map without_bytes os)) ∙ ap (λ (x : Stepped (List ℕ)). map without_bytes os ++ map without_bytes (map shown x.outputs))
      (sym (none_bare none))
