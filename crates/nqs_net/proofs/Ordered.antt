-- An event keeps each host of a network in order, and each packet within its limits.
use Rattle.std.proofs.Common.{◌≡◌, ℕ, nat_le, true, List, [], ◌∷◌, length, refl}
use Rattle.std.proofs.lemmas.Bool.{and_from}
use Rattle.std.specs.List.{list_all}
use Rattle.nqs_types.specs.Scripts.{longest_script}
use Rattle.nqs_state.specs.State.{Plain}
use Rattle.nqs_rules.specs.Run.{happens}
use Rattle.nqs_rules.specs.World.{Act, World as Network}
use Rattle.nqs_rules.proofs.Chains.{each}
use Rattle.nqs_laws.specs.Sane.{is_sane_act}
use Rattle.nqs_laws.specs.Words.{IsRight, IsInOrderAll}
use Rattle.nqs_laws.proofs.Frame.{moment, steps_of, run_kept}
use Rattle.nqs_laws.proofs.Sound.{IsHost, IsSound, sound_frames}
use Rattle.nqs_laws.proofs.Always.{host_right}

module _ (site : List (List ℕ)) where
  -- the two forms of a host in order

  host_of_right : (place : ℕ) (s : Plain) → IsRight site place s → IsHost site place s
  host_of_right place s right =
      let parts = each (list_all (λ r. nat_le (length r.script) longest_script) s.rows)
      (list_all (λ p. nat_le (length p.row.script) longest_script) s.promises ∷ list_all (λ t. nat_le (length t.bytes) 32768) s.stages
      ∷ list_all (λ f. nat_le (length f.bytes) 32768) s.files ∷ [])
      right.order.parts in
      record {
        head = λ j. (right.me j, right.names j);
        order = right.order.order;
        calm = right.consistent;
        scripts = record { rows = parts.0; promises = parts.1.0 };
        outputs = record { stages = parts.1.1.0; files = parts.1.1.1.0 };
      }

  pub order_kept : (w : Network) (a : Act) → is_sane_act a ≡ true → IsInOrderAll site w → IsInOrderAll site (happens a w).world
  order_kept w a sane order =
      let first : IsSound site (moment w []) = record {
        hosts = λ place s at. host_of_right place s (order.hosts place s at);
        count = order.count;
        packets =
            order.packets;
      } in
      let next = run_kept (IsSound site) (steps_of (IsSound site) (sound_frames site)) (a ∷ []) w [] (and_from (is_sane_act a) true sane refl) first in
      record { hosts = λ place s at. host_right site place s (next.hosts place s at); count = next.count; packets = next.packets }
