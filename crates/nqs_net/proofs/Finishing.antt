-- The least running request of a node is that of its host.
use Rattle.std.proofs.Common.{◌≡◌, ℕ, List, [], ◌∷◌, ◌++◌, map, Option, None, Some, Ok, Err, IfOk, OnOk, OnErr, refl, sym, ap, subst, ◌∙◌}
use Rattle.std.proofs.lemmas.Option.{same_Some, none-some}
use Rattle.std.specs.Option.{option_map}
use Rattle.std.specs.declared.result.Result.{Result}
use Rattle.nqs_base_tables.specs.Table.{best_from}
use Rattle.nqs_base.specs.declared.extent.Extent.{Extent}
use Rattle.nqs_types.specs.declared.event.Event.TheVariants as event
use Rattle.nqs_types.specs.declared.ids.HostId.{HostId}
use Rattle.nqs_types.specs.declared.ids.RequestId.{RequestId}
use Rattle.nqs_types.specs.declared.request.Row.{Row}
use Rattle.nqs_types.specs.declared.message.Message.{Message}
use Rattle.nqs_base.specs.declared.tear.Tear.{Tear}
use Rattle.nqs_types.specs.declared.world.Seen.{Seen}
use Rattle.nqs_state.specs.Least.{runs_now, is_less_row}
use Rattle.nqs_types.specs.declared.world.Seen.TheVariants as seen
use Rattle.nqs_rules.specs.Plain.{map_row}
use Rattle.nqs_rules.specs.Tests.{is_running}
use Rattle.nqs_rules.specs.World.{Host, World as Network, is_less_id, takes_up, finishes, finishes_up, seeing}
use Rattle.nqs_rules.proofs.ListMaps.{best_from-map, at_place}
use Rattle.nqs_disk.specs.contracts.mem_disk.MemDiskDisk.TheImpl.{ghosts}
use Rattle.nqs_disk.specs.declared.lack.Lack.{Lack}
use Rattle.nqs_disk.specs.declared.mem_disk.MemDisk.{MemDisk}
use Rattle.nqs_node.specs.Nodes.{content_of}
use Rattle.nqs_node.specs.declared.node.Node.{Node}
use Rattle.nqs_store.specs.Stores.{bytes_of}
use Rattle.nqs_net.specs.Least.{start_of, least_of}
use Rattle.nqs_net.specs.Followed.{disks_in, StandsAfter, IsDone}
use Rattle.nqs_net.specs.Worlds.{IsUp, IsSlot}
use Rattle.nqs_net.specs.declared.slot.Slot.{Slot}
use Rattle.nqs_net.specs.declared.turn.Turn.{Turn}
use Rattle.nqs_net.specs.Turns.{Faces, IsTurnOf, Turns}
use Rattle.nqs_net.proofs.Following.{follow_self}
use Rattle.nqs_net.proofs.Fronts.{none_shown}

least_same : (f : Extent → List ℕ) (rows : List (Row Extent)) → least_of (map (map_row f) rows) ≡ least_of rows
least_same f rows = ap (option_map start_of) (best_from-map (map_row f) (λ r. is_running r.state) (λ a b. is_less_id a.id b.id) 0 rows)
    ∙ by (best_from (λ r. is_running r.state) (λ a b. is_less_id a.id b.id) 0 rows)
  where
    by : (o : Option (ℕ × Row Extent)) → option_map start_of (option_map (at_place (map_row f)) o) ≡ option_map start_of o
    by None = refl
    by (Some p) = refl

module _ (node : Node MemDisk ghosts) (host : Host) (is : IsUp node host) (h : HostId) (w : Network) where
  least_up : least_of host.state.rows ≡ least_of (content_of node).rows
  least_up = ap (λ s. least_of s.rows) (sym is.tells.is) ∙ least_same (bytes_of node.store) (content_of node).rows

  by_id : (o : Option (ℕ × Row (List ℕ))) (p : RequestId × ℕ) → option_map start_of o ≡ Some p
      → finishes h host o w ≡ takes_up h host (event.Ended w.now 0 p.0 p.1 0 [] []) w
  by_id None p e = absurd (none-some p e)
  by_id (Some q) p e = ap (λ x. takes_up h host (event.Ended w.now 0 x.0 x.1 0 [] []) w) (same_Some (start_of q) p e)

  by_none : (o : Option (ℕ × Row (List ℕ))) → option_map start_of o ≡ None → finishes h host o w ≡ seeing (seen.Idle h) w
  by_none None e = refl
  by_none (Some q) e = absurd (none-some (start_of q) (sym e))

  pub least_ends : (p : RequestId × ℕ) → Some p ≡ least_of (content_of node).rows
      → finishes_up h host w ≡ takes_up h host (event.Ended w.now 0 p.0 p.1 0 [] []) w
  least_ends p e = by_id (best_from runs_now is_less_row 0 host.state.rows) p (least_up ∙ sym e)

  pub none_ends : None ≡ least_of (content_of node).rows → finishes_up h host w ≡ seeing (seen.Idle h) w
  none_ends e = by_none (best_from runs_now is_less_row 0 host.state.rows) (least_up ∙ sym e)

-- a host stays as it is, and this is seen
pub stay_turn : (h : HostId) (w : Network) (host : Host) (tear : Tear) (packets : List Message) → Faces h host tear packets w → (P : Host → Type 0) → P host
    → (x : Seen) (before after : List Seen) → after ≡ before ++ x ∷ []
    → Turns h P tear packets before after w (seeing x w)
stay_turn h w host tear packets faces P p x before after saw = record {
  at = record { host = host; stands = p; faces = faces };
  rest = record { hosts = λ y. refl; site = refl; now = refl };
  seen = saw;
}

pub stayed : (before after : Turn) (r : Result Slot Lack) (slot : Slot) (x : Seen) → after.packets.now ≡ before.packets.now → IfOk r (λ new. new ≡ slot)
    → OnOk r (after.seen.now.items ≡ before.seen.now.items ++ x ∷ []) → OnErr r (after.seen.now.items ≡ before.seen.now.items)
    → (w : Network) (host : Host) → IsTurnOf before host w → IsSlot slot host → IsDone before after (disks_in slot) w (seeing x w) r
stayed before after (Ok new) slot x sent same saw unseen w host faces is =
    let there = subst (λ (l : List Message). Faces before.me host before.tear l w) (sym (ap (λ v. v.items) sent)) faces in
    stay_turn before.me w host before.tear after.packets.now.items there (StandsAfter before.tear (disks_in slot) new)
    (subst (λ s. StandsAfter before.tear (disks_in slot) s host) (sym same) (record { stands = is; follows = follow_self before.tear slot })) x
    before.seen.now.items after.seen.now.items saw
stayed before after (Err e) slot x sent same saw unseen w host faces is = none_shown before.seen.now.items after.seen.now.items (x ∷ []) unseen
