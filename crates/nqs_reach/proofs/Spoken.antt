-- What goes out at a message: a message back to its sender, and a file.
use Rattle.std.proofs.Common.{◌≡◌, ℕ, Bool, true, false, List, [], ◌∷◌, map, Option, None, Some, Result, Ok, Err}
use Rattle.std.proofs.Common.{if◌then◌else◌}
use Rattle.std.specs.Option.{IfSome}
use Rattle.nqs_state.specs.State.{Plain}
use Rattle.nqs_state.specs.Keys.{is_stage}
use Rattle.nqs_base_tables.specs.Table.{best_from, without_first}
use Rattle.nqs_types.specs.declared.ids.HostId.{HostId}
use Rattle.nqs_types.specs.declared.request.Carried.{Carried}
use Rattle.nqs_types.specs.declared.request.Hand.{Hand}
use Rattle.nqs_types.specs.declared.request.Phase.{Phase}
use Rattle.nqs_types.specs.declared.request.Phase.TheVariants.{Offered, Committed}
use Rattle.nqs_types.specs.declared.request.Stage.{Stage}
use Rattle.nqs_types.specs.declared.refusal.Refusal.{Refusal}
use Rattle.nqs_types.specs.declared.change.Change.TheVariants.{Accepted, Dropped, StageGot, StageGone}
use Rattle.nqs_types.specs.declared.message.Body.{Body}
use Rattle.nqs_types.specs.declared.message.Body.TheVariants as body
use Rattle.nqs_types.specs.declared.event.Output.TheVariants as out
use Rattle.nqs_rules.specs.Tests.{passes, same_host}
use Rattle.nqs_rules.specs.Causes.{first_refusal}
use Rattle.nqs_rules.specs.Find.{find_hand, find_peer, has_promise, has_stage, peer_number}
use Rattle.nqs_rules.specs.Handover.{closes, was_given, offer_causes, offer_by, on_offer, ready_phase, ready_with, on_ready, refused_phase, refused_with}
use Rattle.nqs_rules.specs.Handover.{on_refused, on_commit, done_phase, done_with, on_done, on_abort, send_done, send_ready, send_abort}
use Rattle.nqs_rules.specs.Stage.{is_got, has_left, is_stage_to, is_earlier_stage, send_staged, send_stage, due_of, on_stage, on_staged}
use Rattle.nqs_rules.specs.Step.{on_message}
use Rattle.nqs_rules.specs.Stepped.{Stepped, shown, quiet, says, makes, ready}
use Rattle.nqs_rules.proofs.RowFacts.{same_it}
use Rattle.nqs_reach.specs.Reach.{AnswersOnly}
use Rattle.nqs_reach.proofs.Lists.{best_passes}

module _ (peer : HostId) (s : Plain) where
  abbrev Answers : Stepped (List ℕ) → Type 0
  Answers x = AnswersOnly peer (map shown x.outputs)

  -- where a message goes back
  back : same_host peer peer ≡ true
  back = same_it peer.0

  offered : (n low : ℕ) (queue : List ℕ) (c : Carried) (script : List ℕ) → Answers (on_offer peer n low queue c script s)
  offered n low queue c script = by (closes n (find_peer peer s)) (has_promise peer n s)
    where
      taken : (r : Result (Unit {0}) Refusal) → Answers (offer_by r peer n low queue c script s)
      taken (Err refusal) = back
      taken (Ok u) = back

      by : (b d : Bool) → Answers (if b then says (send_done s peer n ∷ []) else (if d then says (send_ready s peer n ∷ []) else
          offer_by (first_refusal (offer_causes peer low queue c s)) peer n low queue c script s))
      by true d = back
      by false true = back
      by false false = taken (first_refusal (offer_causes peer low queue c s))

  readied : (n : ℕ) → Answers (on_ready peer n s)
  readied n = of (find_hand peer n s)
    where
      missing : (b : Bool) → Answers (if b then says (send_abort s peer n ∷ []) else quiet)
      missing true = back
      missing false = tt

      by : (p : Phase) → Answers (ready_phase p peer n s)
      by Offered = back
      by Committed = back

      of : (o : Option Hand) → Answers (ready_with o peer n s)
      of None = missing (was_given n (find_peer peer s))
      of (Some h) = by h.phase

  refused : (n refusal : ℕ) → Answers (on_refused peer n refusal s)
  refused n refusal = of (find_hand peer n s)
    where
      by : (p : Phase) → Answers (refused_phase p peer n refusal)
      by Offered = tt
      by Committed = tt

      of : (o : Option Hand) → Answers (refused_with o peer n refusal)
      of None = tt
      of (Some h) = by h.phase

  finished : (n : ℕ) → Answers (on_done peer n s)
  finished n = of (find_hand peer n s)
    where
      by : (p : Phase) → Answers (done_phase p peer n)
      by Offered = tt
      by Committed = tt

      of : (o : Option Hand) → Answers (done_with o peer n)
      of None = tt
      of (Some h) = by h.phase

  commits : (n : ℕ) → Answers (on_commit peer n s)
  commits n = by (has_promise peer n s) (closes n (find_peer peer s))
    where
      by : (b d : Bool) → Answers (if b then makes (Accepted peer n) (send_done s peer n ∷ []) else (if d then says (send_done s peer n ∷ []) else quiet))
      by true d = back
      by false true = back
      by false false = tt

  aborted : (n : ℕ) → Answers (on_abort peer n s)
  aborted n = by (has_promise peer n s)
    where
      by : (b : Bool) → Answers (if b then makes (Dropped peer n) [] else quiet)
      by true = tt
      by false = tt

  staged : (n : ℕ) (path bytes : List ℕ) → Answers (on_stage peer n path bytes s)
  staged n path bytes = by (passes (is_got n) (find_peer peer s)) (has_left s.file_next 0)
    where
      by : (b d : Bool) → Answers (if b then says (send_staged s peer n ∷ []) else (if d then
          makes (StageGot peer n path bytes) (send_staged s peer n ∷ ready (out.File s.file_next path bytes) ∷ []) else
          makes (StageGot peer n path []) (send_staged s peer n ∷ [])))
      by true d = back
      by false true = back
      by false false = back

  unstaged : (n : ℕ) → Answers (on_staged peer n s)
  unstaged n = by (has_stage peer n s)
    where
      stages : List (Stage (List ℕ))
      stages = without_first (is_stage (peer_number peer n)) s.stages

      due : (o : Option (ℕ × Stage (List ℕ))) → IfSome o (λ p. is_stage_to peer p.1 ≡ true) → Answers (makes (StageGone peer n) (send_stage s o))
      due None right = tt
      due (Some p) right = right

      by : (b : Bool) → Answers (if b then makes (StageGone peer n) (due_of s peer stages) else quiet)
      by true = due (best_from (is_stage_to peer) is_earlier_stage 0 stages) (best_passes (is_stage_to peer) is_earlier_stage 0 stages)
      by false = tt

  -- whatever the message is
  pub answered : (b : Body) → Answers (on_message peer b s)
  answered (body.Offer n low queue c script) = offered n low queue c script
  answered (body.Ready n) = readied n
  answered (body.Refused n refusal) = refused n refusal
  answered (body.Commit n) = commits n
  answered (body.Done n) = finished n
  answered (body.Inquire n) = readied n
  answered (body.Abort n) = aborted n
  answered (body.Stage n path bytes) = staged n path bytes
  answered (body.Staged n) = unstaged n
  answered b = tt
