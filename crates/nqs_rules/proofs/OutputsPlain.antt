-- What goes out of a state and of what it is mapped to: stored parts go out mapped, and nothing
-- else differs.
use Rattle.std.proofs.Common.{◌≡◌, ℕ, ◌+◌, false, List, [], ◌∷◌, ◌++◌, map, Option, None, Some, option_map, refl, sym, ap, ◌∙◌, if◌then◌else◌}
use Rattle.std.proofs.lemmas.List.{map-append}
use Rattle.nqs_state.specs.State.{State}
use Rattle.nqs_base_tables.specs.Table.{best_from}
use Rattle.nqs_types.specs.declared.ids.HostId.{HostId}
use Rattle.nqs_types.specs.declared.ids.RequestId.{RequestId}
use Rattle.nqs_types.specs.declared.request.Row.{Row}
use Rattle.nqs_types.specs.declared.request.Hand.{Hand}
use Rattle.nqs_types.specs.declared.request.Phase.{Phase}
use Rattle.nqs_types.specs.declared.request.Phase.TheVariants.{Offered, Committed}
use Rattle.nqs_types.specs.declared.request.Stage.{Stage}
use Rattle.nqs_types.specs.declared.event.Output.TheVariants as out
use Rattle.nqs_rules.specs.Find.{find_row, host_at}
use Rattle.nqs_rules.specs.Stepped.{Pending, map_pending, map_stepped}
use Rattle.nqs_rules.specs.Handover.{is_silent, repeat_offer, repeat_phase, repeat_hand, repeated_hands, send_inquire, inquiries, silence, silent_hands}
use Rattle.nqs_rules.specs.Handover.{on_tick}
use Rattle.nqs_rules.specs.Stage.{Part, goes_here, files_written, is_stage_to, has_stage_to, stage_sent, stage_due, parts_sent, first_number, kept_parts}
use Rattle.nqs_rules.specs.Stage.{is_earlier_stage, send_stage, due_of, file_again, stages_from, due_outputs, on_end}
use Rattle.nqs_rules.specs.Step.{ticked}
use Rattle.nqs_rules.specs.Plain.{map_row, map_promise, map_stage, map_file, map_state}
use Rattle.nqs_rules.proofs.ListMaps.{if-map, map-mapped, map-flat_map, list_any-map, best_from-map, at_place}
use Rattle.nqs_rules.proofs.FoundPlain.{find_row-map}

module _ {E F : Type 0} (f : E → F) where
  -- outputs, mapped
  abbrev pub mapped : List (Pending E) → List (Pending F)
  mapped = map (map_pending f)

  -- the outputs of a job that ended

  files-map : (n : ℕ) (parts : List Part) → files_written n parts ≡ mapped (files_written n parts)
  files-map n [] = refl
  files-map n (part ∷ parts) = (λ j. files_written n (part ∷ []) ++ files-map (n + 1) parts j)

  sent-map : (me peer : HostId) (number : ℕ) (parts : List Part) → stage_sent me peer number parts ≡ mapped (stage_sent me peer number parts)
  sent-map me peer number [] = refl
  sent-map me peer number (part ∷ parts) = refl

  due-map : (s : State E) (id : RequestId) (parts : List Part) → stage_due (map_state f s) id parts ≡ mapped (stage_due s id parts)
  due-map s id parts =
      (λ j. if list_any-map (map_stage f) (is_stage_to id.host) s.stages j then [] else sent-map s.me id.host (first_number s id) parts j)
      ∙ if-map mapped (has_stage_to id.host s) [] (stage_sent s.me id.host (first_number s id) parts)

  pub parts_sent-map : (s : State E) (id : RequestId) (parts : List Part) → parts_sent (map_state f s) id parts ≡ mapped (parts_sent s id parts)
  parts_sent-map s id parts =
      (λ j. if goes_here s id then files-map s.file_next parts j else due-map s id parts j)
      ∙ if-map mapped (goes_here s id) (files_written s.file_next parts) (stage_due s id parts)

  -- stages and files that wait

  pub due_of-map : (s : State E) (peer : HostId) (stages : List (Stage E))
      → due_of (map_state f s) peer (map (map_stage f) stages) ≡ mapped (due_of s peer stages)
  due_of-map s peer stages = ap (send_stage (map_state f s)) (best_from-map (map_stage f) (is_stage_to peer) is_earlier_stage 0 stages)
      ∙ by (best_from (is_stage_to peer) is_earlier_stage 0 stages)
    where
      by : (o : Option (ℕ × Stage E)) → send_stage (map_state f s) (option_map (at_place (map_stage f)) o) ≡ mapped (send_stage s o)
      by None = refl
      by (Some p) = refl

  stages_from-map : (place : ℕ) (s : State E) (names : List (List ℕ)) → stages_from place (map_state f s) names ≡ mapped (stages_from place s names)
  stages_from-map place s [] = refl
  stages_from-map place s (name ∷ names) =
      (λ j. due_of-map s (host_at place) s.stages j ++ stages_from-map (place + 1) s names j)
      ∙ sym (map-append (map_pending f) (due_of s (host_at place) s.stages) (stages_from (place + 1) s names))

  due_outputs-map : (s : State E) → due_outputs (map_state f s) ≡ mapped (due_outputs s)
  due_outputs-map s =
      (λ j. stages_from-map 0 s s.site j ++ sym (map-mapped (map_pending f) (map_file f) file_again file_again (λ o. refl) s.files) j)
      ∙ sym (map-append (map_pending f) (stages_from 0 s s.site) (map file_again s.files))

  -- hands and promises that are said again

  offer-map : (now : ℕ) (s : State E) (h : Hand) (o : Option (Row E))
      → repeat_offer now (map_state f s) h (option_map (map_row f) o) ≡ mapped (repeat_offer now s h o)
  offer-map now s h None = refl
  offer-map now s h (Some r) = refl

  phase-map : (p : Phase) (now : ℕ) (s : State E) (h : Hand) → repeat_phase p now (map_state f s) h ≡ mapped (repeat_phase p now s h)
  phase-map Offered now s h = ap (repeat_offer now (map_state f s) h) (find_row-map f h.id s) ∙ offer-map now s h (find_row h.id s)
  phase-map Committed now s h = refl

  hand-map : (now : ℕ) (s : State E) (h : Hand) → mapped (repeat_hand now s h) ≡ repeat_hand now (map_state f s) h
  hand-map now s h = sym ((λ j. if is_silent now s h then [] else phase-map h.phase now s h j)
      ∙ if-map mapped (is_silent now s h) [] (repeat_phase h.phase now s h))

  tick_outputs-map : (now : ℕ) (s : State E) → (on_tick now (map_state f s)).outputs ≡ mapped (on_tick now s).outputs
  tick_outputs-map now s =
      (λ j. sym (map-flat_map (map_pending f) (repeat_hand now s) (repeat_hand now (map_state f s)) (hand-map now s) s.hands) j
      ++ sym (map-mapped (map_pending f) (map_promise f) (send_inquire s) (send_inquire (map_state f s)) (λ p. refl) s.promises) j)
      ∙ sym (map-append (map_pending f) (repeated_hands now s) (inquiries s))

  pub ticked-map : (now : ℕ) (s : State E) → ticked now (map_state f s) ≡ map_stepped f (ticked now s)
  ticked-map now s =
      ap (λ l. record { change = silence now s.retry_wait (silent_hands now s); outputs = l; halts = false })
      ((λ j. tick_outputs-map now s j ++ due_outputs-map s j) ∙ sym (map-append (map_pending f) (on_tick now s).outputs (due_outputs s)))

  -- a job ends
  pub on_end-map : (status : ℕ) (r : Row E) (output error : List ℕ) (s : State E)
      → on_end status (map_row f r) output error (map_state f s) ≡ map_stepped f (on_end status r output error s)
  on_end-map status r output error s = ap (λ l. record {
    change = (on_end status r output error s).change;
    outputs = (out.Ended r.id r.starts status, None) ∷ l;
    halts = false;
  }) (parts_sent-map s r.id (kept_parts s r output error))
