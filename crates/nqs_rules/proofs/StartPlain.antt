-- A start looks at no stored part.
use Rattle.std.proofs.Common.{◌≡◌, ℕ, not, ◌&&◌, ◌||◌, nat_lt, nat_le, List, sum, slice_get, position, Option, None, Some, is_some, Result, Ok, Err, option_map}
use Rattle.std.proofs.Common.{refl, ap, ◌∙◌}
use Rattle.std.specs.Option.{option_and_then}
use Rattle.std.specs.List.{list_all}
use Rattle.std.proofs.lemmas.Simd.{map-map}
use Rattle.std.proofs.lemmas.Option.{slice_get-map}
use Rattle.nqs_base.specs.Same.{name_eq}
use Rattle.nqs_base.proofs.Plain.{is_some-option_map}
use Rattle.nqs_state.specs.State.{State}
use Rattle.nqs_base_tables.specs.Table.{best_from}
use Rattle.nqs_types.specs.declared.ids.Dest.{Dest}
use Rattle.nqs_types.specs.declared.request.Row.{Row}
use Rattle.nqs_types.specs.declared.request.Peer.{Peer}
use Rattle.nqs_types.specs.declared.queue.Kind.{Kind}
use Rattle.nqs_types.specs.declared.queue.Kind.TheVariants.{Batch, Device, Pipe}
use Rattle.nqs_types.specs.declared.queue.QueueDef.{QueueDef}
use Rattle.nqs_types.specs.declared.queue.ComplexDef.{ComplexDef}
use Rattle.nqs_types.specs.declared.rule.Choice.{Choice}
use Rattle.nqs_types.specs.declared.rule.Choice.TheVariants.{Launch, Print, TooFar, Local, Hand}
use Rattle.nqs_types.specs.declared.refusal.Refusal.{Refusal}
use Rattle.nqs_rules.specs.Tests.{passes, is_ready, is_batch}
use Rattle.nqs_rules.specs.Causes.{first_refusal}
use Rattle.nqs_rules.specs.Find.{has_name, find_device, find_peer}
use Rattle.nqs_rules.specs.Devices.{can_serve, free_device}
use Rattle.nqs_rules.specs.Order.{below, is_greater, is_active_in, is_active_of, runs_in, runs_in_batch, complex_allows, is_within_limits, kind_allows}
use Rattle.nqs_rules.specs.Order.{is_eligible, comes_before, first_eligible, is_candidate, next_queue, print_on, choice_for, choice_of, pick_in, pick}
use Rattle.nqs_rules.specs.Handover.{opened_with, open_hand}
use Rattle.nqs_rules.specs.Stepped.{Stepped, map_stepped}
use Rattle.nqs_rules.specs.Start.{launching, printing, local_causes, moving_by, moving, holding, with_row, device_at, dest_at, started, start_by, start}
use Rattle.nqs_rules.specs.Measure.{starts_of, starts_left}
use Rattle.nqs_rules.specs.Plain.{map_row, map_state}
use Rattle.nqs_index.proofs.Numbers.{number-map}
use Rattle.nqs_rules.proofs.ListMaps.{best_from-map, at_place}
use Rattle.nqs_rules.proofs.FoundPlain.{is_busy-map}

module _ {E F : Type 0} (f : E → F) where
  -- limits

  pub complex_allows-map : (q : List ℕ) (s : State E) (c : ComplexDef) → complex_allows q (map_state f s) c ≡ complex_allows q s c
  complex_allows-map q s c = ap (λ n. not (has_name c.queues q) || nat_lt n c.limit) (number-map (map_row f) (runs_in c) s.rows)

  within-map : (d : QueueDef) (s : State E) → is_within_limits d (map_state f s) ≡ is_within_limits d s
  within-map d s = (λ j. nat_lt (number-map (map_row f) (is_active_in d.name) s.rows j) d.run_limit
      && (not (is_batch d.kind)
      || (list_all (λ c. complex_allows-map d.name s c j) s.complexes && nat_lt
      (number-map (map_row f) (runs_in_batch (map_state f s)) s.rows j) s.global_limit)))

  -- eligible rows, and queues that have one

  free_device-map : (d : QueueDef) (forms : Option (List ℕ)) (s : State E) → free_device d forms (map_state f s) ≡ free_device d forms s
  free_device-map d forms s = (λ j. position (λ device. passes (can_serve forms) (find_device device s) && not (is_busy-map f device s j)) d.devices)

  pub kind_allows-map : (k : Kind) (d : QueueDef) (now : ℕ) (s : State E) (r : Row E) → kind_allows k d now (map_state f s) (map_row f r)
      ≡ kind_allows k d now s r
  kind_allows-map Batch d now s r = refl
  kind_allows-map Device d now s r = ap is_some (free_device-map d r.job.forms s)
  kind_allows-map Pipe d now s r = refl

  pub eligible-map : (d : QueueDef) (now : ℕ) (s : State E) (r : Row E) → is_eligible d now (map_state f s) (map_row f r) ≡ is_eligible d now s r
  eligible-map d now s r = (λ j. name_eq d.name r.queue && is_ready r && nat_le r.job.earliest now
      && below (number-map (map_row f) (is_active_of d.name r.job.owner) s.rows j) d.user_limit && kind_allows-map d.kind d now s r j)

  first_eligible-map : (d : QueueDef) (now : ℕ) (s : State E) → first_eligible d now (map_state f s)
      ≡ option_map (at_place (map_row f)) (first_eligible d now s)
  first_eligible-map d now s =
      best_from-map (map_row f) (is_eligible d now (map_state f s)) comes_before 0 s.rows
      ∙ (λ j. option_map (at_place (map_row f)) (best_from (λ r. eligible-map d now s r j) comes_before 0 s.rows))

  candidate-map : (now : ℕ) (s : State E) (d : QueueDef) → is_candidate now (map_state f s) d ≡ is_candidate now s d
  candidate-map now s d =
      (λ j. d.started && within-map d s j && (ap is_some (first_eligible-map d now s) ∙ is_some-option_map (at_place (map_row f)) (first_eligible d now s)) j)

  next_queue-map : (now : ℕ) (s : State E) → next_queue now (map_state f s) ≡ next_queue now s
  next_queue-map now s = (λ j. best_from (λ d. candidate-map now s d j) is_greater 0 s.queues)

  -- the choice

  choice_for-map : (k : Kind) (d : QueueDef) (now : ℕ) (s : State E) (place : ℕ) (r : Row E)
      → choice_for k d now (map_state f s) place (map_row f r) ≡ choice_for k d now s place r
  choice_for-map Batch d now s place r = refl
  choice_for-map Device d now s place r = ap (print_on place) (free_device-map d r.job.forms s)
  choice_for-map Pipe d now s place r = refl

  pub pick-map : (now : ℕ) (s : State E) → pick now (map_state f s) ≡ pick now s
  pick-map now s = ap (pick_in now (map_state f s)) (next_queue-map now s) ∙ by (next_queue now s)
    where
      of : (d : QueueDef) (o : Option (ℕ × Row E)) → choice_of d now (map_state f s) (option_map (at_place (map_row f)) o) ≡ choice_of d now s o
      of d None = refl
      of d (Some p) = choice_for-map d.kind d now s p.0 p.1

      by : (o : Option (ℕ × QueueDef)) → pick_in now (map_state f s) o ≡ pick_in now s o
      by None = refl
      by (Some q) = ap (choice_of q.1 now (map_state f s)) (first_eligible-map q.1 now s) ∙ of q.1 (first_eligible q.1 now s)

  -- the start

  with_row-map : (place : ℕ) (s : State E) (h : Row F → Option (Stepped F)) (g : Row E → Option (Stepped E))
      → ((r : Row E) → h (map_row f r) ≡ option_map (map_stepped f) (g r))
      → with_row place (map_state f s) h ≡ option_map (map_stepped f) (with_row place s g)
  with_row-map place s h g same = ap (option_and_then h) (slice_get-map (map_row f) s.rows place) ∙ by (slice_get s.rows place)
    where
      by : (o : Option (Row E)) → option_and_then h (option_map (map_row f) o) ≡ option_map (map_stepped f) (option_and_then g o)
      by None = refl
      by (Some r) = same r

  -- what is done at a value that may be there
  done-map : {V : Type 0} (h : V → Stepped F) (g : V → Stepped E) → ((v : V) → h v ≡ map_stepped f (g v)) → (o : Option V)
      → option_map h o ≡ option_map (map_stepped f) (option_map g o)
  done-map h g same None = refl
  done-map h g same (Some v) = ap Some (same v)

  moving-map : (dest : Dest) (s : State E) (r : Row E) → moving dest (map_state f s) (map_row f r) ≡ map_stepped f (moving dest s r)
  moving-map dest s r = by (first_refusal (local_causes dest.queue s r))
    where
      by : (o : Result (Unit {0}) Refusal) → moving_by o dest.queue (map_row f r) ≡ map_stepped f (moving_by o dest.queue r)
      by (Ok u) = refl
      by (Err e) = refl

  hand-map : (dest : Dest) (now : ℕ) (s : State E) (r : Row E) → open_hand dest now (map_state f s) (map_row f r) ≡ map_stepped f (open_hand dest now s r)
  hand-map dest now s r = by (find_peer dest.host s)
    where
      by : (o : Option Peer) → opened_with o dest now (map_state f s) (map_row f r) ≡ map_stepped f (opened_with o dest now s r)
      by None = refl
      by (Some p) = refl

  started-map : (c : Choice) (now : ℕ) (s : State E) → started c now (map_state f s) ≡ option_map (map_stepped f) (started c now s)
  started-map (Launch row) now s = with_row-map row s _ (λ r. Some (launching r s)) (λ r. refl)
  started-map (Print row device) now s =
      with_row-map row s _ (λ r. option_map (λ d. printing d r s) (device_at device r s))
      (λ r. done-map (λ d. printing d (map_row f r) (map_state f s)) (λ d. printing d r s) (λ d. refl) (device_at device r s))
  started-map (TooFar row) now s = with_row-map row s _ (λ r. Some (holding r)) (λ r. refl)
  started-map (Local row dest) now s =
      with_row-map row s _ (λ r. option_map (λ d. moving d s r) (dest_at dest r s))
      (λ r. done-map (λ d. moving d (map_state f s) (map_row f r)) (λ d. moving d s r) (λ d. moving-map d s r) (dest_at dest r s))
  started-map (Hand row dest) now s =
      with_row-map row s _ (λ r. option_map (λ d. open_hand d now s r) (dest_at dest r s))
      (λ r. done-map (λ d. open_hand d now (map_state f s) (map_row f r)) (λ d. open_hand d now s r) (λ d. hand-map d now s r) (dest_at dest r s))

  -- a start of a state and one of what it is mapped to are the same
  pub start-map : (now : ℕ) (s : State E) → start now (map_state f s) ≡ option_map (map_stepped f) (start now s)
  start-map now s = ap (λ o. start_by o now (map_state f s)) (pick-map now s) ∙ by (pick now s)
    where
      by : (o : Option Choice) → start_by o now (map_state f s) ≡ option_map (map_stepped f) (start_by o now s)
      by None = refl
      by (Some c) = started-map c now s

  pub starts_left-map : (s : State E) → starts_left (map_state f s) ≡ starts_left s
  starts_left-map s = ap sum (map-map (starts_of (map_state f s)) (map_row f) s.rows)
