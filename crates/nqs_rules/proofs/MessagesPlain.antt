-- What a host does at a message looks at no stored part.
use Rattle.std.proofs.Common.{◌≡◌, ℕ, Bool, not, ◌||◌, nat_le, List, [], ◌∷◌, ◌++◌, Option, None, Some, Result, Ok, Err, refl, sym, ap, ◌∙◌, if◌then◌else◌}
use Rattle.std.specs.List.{list_any}
use Rattle.nqs_state.specs.State.{State}
use Rattle.nqs_base_tables.specs.Table.{without_first}
use Rattle.nqs_state.specs.Keys.{is_stage, is_file}
use Rattle.nqs_types.specs.declared.ids.HostId.{HostId}
use Rattle.nqs_types.specs.declared.request.Carried.{Carried}
use Rattle.nqs_types.specs.declared.request.Hand.{Hand}
use Rattle.nqs_types.specs.declared.request.Phase.{Phase}
use Rattle.nqs_types.specs.declared.request.Phase.TheVariants.{Offered, Committed}
use Rattle.nqs_types.specs.declared.refusal.Refusal.{Refusal}
use Rattle.nqs_types.specs.declared.refusal.Refusal.TheVariants.{NoQueue, HostFull, NumbersUsed, RequestExists}
use Rattle.nqs_types.specs.declared.change.Change.TheVariants.{Accepted, Dropped, StageGone, FileGone}
use Rattle.nqs_types.specs.declared.message.Body.{Body}
use Rattle.nqs_types.specs.declared.message.Body.TheVariants as body
use Rattle.nqs_rules.specs.Tests.{passes}
use Rattle.nqs_rules.specs.Causes.{cause, first_refusal}
use Rattle.nqs_rules.specs.Find.{peer_number, has_queue, find_queue, has_promise, has_stage, find_hand, find_peer}
use Rattle.nqs_rules.specs.Rows.{causes_of, arrivals_used}
use Rattle.nqs_rules.specs.Stepped.{Stepped, map_stepped, quiet, says, makes}
use Rattle.nqs_rules.specs.Handover.{closes, was_given, is_not_given_here, named_of, offer_entry_causes, offer_causes, offer_by, on_offer, send_done}
use Rattle.nqs_rules.specs.Handover.{send_ready, ready_phase, ready_with, on_ready, refused_phase, refused_with, on_refused, commit_without, on_commit}
use Rattle.nqs_rules.specs.Handover.{done_phase, done_with, on_done, on_abort}
use Rattle.nqs_rules.specs.Stage.{has_left, is_got, on_stage, due_of, on_staged, on_written}
use Rattle.nqs_rules.specs.Step.{on_message}
use Rattle.nqs_rules.specs.Plain.{map_stage, map_state}
use Rattle.nqs_rules.proofs.ListMaps.{if-map, map-without_first}
use Rattle.nqs_rules.proofs.FoundPlain.{has_row-map, has_promise-map, has_stage-map, has_file-map, offered_count-map}
use Rattle.nqs_rules.proofs.OutputsPlain.{due_of-map}

module _ {E F : Type 0} (f : E → F) where
  -- one of two steps
  pub choice-map : (b : Bool) (x y : Stepped E) (x' y' : Stepped F) → x' ≡ map_stepped f x → y' ≡ map_stepped f y
      → (if b then x' else y') ≡ map_stepped f (if b then x else y)
  choice-map b x y x' y' e g = (λ j. if b then e j else g j) ∙ if-map (map_stepped f) b x y

  offer_causes-map : (peer : HostId) (low : ℕ) (queue : List ℕ) (c : Carried) (s : State E)
      → offer_causes peer low queue c (map_state f s) ≡ offer_causes peer low queue c s
  offer_causes-map peer low queue c s = (λ j. cause (has_row-map f c.id s j || is_not_given_here c.id s) (RequestExists (named_of c.id s))
      ∷ cause (not (has_queue queue s)) (NoQueue queue)
      ∷ causes_of (offer_entry_causes c) (find_queue queue s) ++ cause (nat_le 10000 (offered_count-map f peer low s j)) HostFull
      ∷ cause (arrivals_used s) NumbersUsed ∷ [])

  offer_by-map : (r : Result (Unit {0}) Refusal) (peer : HostId) (n low : ℕ) (queue : List ℕ) (c : Carried) (script : List ℕ) (s : State E)
      → offer_by r peer n low queue c script (map_state f s) ≡ map_stepped f (offer_by r peer n low queue c script s)
  offer_by-map (Ok u) peer n low queue c script s = refl
  offer_by-map (Err e) peer n low queue c script s = refl

  on_offer-map : (peer : HostId) (n low : ℕ) (queue : List ℕ) (c : Carried) (script : List ℕ) (s : State E)
      → on_offer peer n low queue c script (map_state f s) ≡ map_stepped f (on_offer peer n low queue c script s)
  on_offer-map peer n low queue c script s =
      choice-map (closes n (find_peer peer s)) _ _ _ _ refl
      ((λ j. if has_promise-map f peer n s j then says (send_ready (map_state f s) peer n ∷ []) else
      offer_by (first_refusal (offer_causes-map peer low queue c s j)) peer n low queue c script (map_state f s))
      ∙ choice-map (has_promise peer n s) _ _ _ _ refl (offer_by-map (first_refusal (offer_causes peer low queue c s)) peer n low queue c script s))

  on_ready-map : (peer : HostId) (n : ℕ) (s : State E) → on_ready peer n (map_state f s) ≡ map_stepped f (on_ready peer n s)
  on_ready-map peer n s = by (find_hand peer n s)
    where
      phase : (p : Phase) → ready_phase p peer n (map_state f s) ≡ map_stepped f (ready_phase p peer n s)
      phase Offered = refl
      phase Committed = refl

      by : (o : Option Hand) → ready_with o peer n (map_state f s) ≡ map_stepped f (ready_with o peer n s)
      by None = choice-map (was_given n (find_peer peer s)) _ _ _ _ refl refl
      by (Some h) = phase h.phase

  on_refused-map : (peer : HostId) (n refusal : ℕ) (s : State E) → on_refused peer n refusal (map_state f s) ≡ map_stepped f (on_refused peer n refusal s)
  on_refused-map peer n refusal s = by (find_hand peer n s)
    where
      phase : (p : Phase) → refused_phase {E = F} p peer n refusal ≡ map_stepped f (refused_phase p peer n refusal)
      phase Offered = refl
      phase Committed = refl

      by : (o : Option Hand) → refused_with {E = F} o peer n refusal ≡ map_stepped f (refused_with o peer n refusal)
      by None = refl
      by (Some h) = phase h.phase

  on_commit-map : (peer : HostId) (n : ℕ) (s : State E) → on_commit peer n (map_state f s) ≡ map_stepped f (on_commit peer n s)
  on_commit-map peer n s =
      ap (λ b. if b then makes (Accepted peer n) (send_done (map_state f s) peer n ∷ []) else commit_without peer n (map_state f s))
      (has_promise-map f peer n s)
      ∙ choice-map (has_promise peer n s) _ _ _ _ refl (choice-map (closes n (find_peer peer s)) _ _ _ _ refl refl)

  on_done-map : (peer : HostId) (n : ℕ) (s : State E) → on_done peer n (map_state f s) ≡ map_stepped f (on_done peer n s)
  on_done-map peer n s = by (find_hand peer n s)
    where
      phase : (p : Phase) → done_phase {E = F} p peer n ≡ map_stepped f (done_phase p peer n)
      phase Offered = refl
      phase Committed = refl

      by : (o : Option Hand) → done_with {E = F} o peer n ≡ map_stepped f (done_with o peer n)
      by None = refl
      by (Some h) = phase h.phase

  on_abort-map : (peer : HostId) (n : ℕ) (s : State E) → on_abort peer n (map_state f s) ≡ map_stepped f (on_abort peer n s)
  on_abort-map peer n s = ap (λ b. if b then makes (Dropped peer n) [] else quiet) (has_promise-map f peer n s)
      ∙ choice-map (has_promise peer n s) _ _ _ _ refl refl

  on_stage-map : (peer : HostId) (n : ℕ) (path bytes : List ℕ) (s : State E)
      → on_stage peer n path bytes (map_state f s) ≡ map_stepped f (on_stage peer n path bytes s)
  on_stage-map peer n path bytes s = choice-map (passes (is_got n) (find_peer peer s)) _ _ _ _ refl (choice-map (has_left s.file_next 0) _ _ _ _ refl refl)

  on_staged-map : (peer : HostId) (n : ℕ) (s : State E) → on_staged peer n (map_state f s) ≡ map_stepped f (on_staged peer n s)
  on_staged-map peer n s =
      (λ j. if has_stage-map f peer n s j then makes (StageGone peer n) (due_of (map_state f s) peer
      (sym (map-without_first (map_stage f) (is_stage (peer_number peer n)) s.stages) j)) else quiet)
      ∙ choice-map (has_stage peer n s) _ _ _ _ (ap (makes (StageGone peer n))
      (due_of-map f s peer (without_first (is_stage (peer_number peer n)) s.stages))) refl

  pub on_written-map : (file : ℕ) (s : State E) → on_written file (map_state f s) ≡ map_stepped f (on_written file s)
  on_written-map file s = ap (λ b. if b then makes (FileGone file) [] else quiet) (has_file-map f file s)
      ∙ choice-map (list_any (is_file file) s.files) _ _ _ _ refl refl

  pub on_message-map : (peer : HostId) (b : Body) (s : State E) → on_message peer b (map_state f s) ≡ map_stepped f (on_message peer b s)
  on_message-map peer (body.Offer n low queue c script) s = on_offer-map peer n low queue c script s
  on_message-map peer (body.Ready n) s = on_ready-map peer n s
  on_message-map peer (body.Refused n refusal) s = on_refused-map peer n refusal s
  on_message-map peer (body.Commit n) s = on_commit-map peer n s
  on_message-map peer (body.Done n) s = on_done-map peer n s
  on_message-map peer (body.Inquire n) s = on_ready-map peer n s
  on_message-map peer (body.Abort n) s = on_abort-map peer n s
  on_message-map peer (body.Stage n path bytes) s = on_stage-map peer n path bytes s
  on_message-map peer (body.Staged n) s = on_staged-map peer n s
  on_message-map peer b s = refl
