-- Each change of a host is of a kind that its cause makes.
use Rattle.std.proofs.Common.{◌≡◌, ◌⊎◌, inl, inr, ℕ, Bool, true, false, List, [], Option, None, Some, Result, Ok, Err, sym, ap, subst, ◌∙◌, slice_get}
use Rattle.std.proofs.Common.{if◌then◌else◌}
use Rattle.std.proofs.lemmas.Option.{same_Some, none-some}
use Rattle.std.specs.Option.{IfSome, option_map, option_and_then}
use Rattle.nqs_state.specs.State.{Plain}
use Rattle.nqs_state.proofs.LeastLemmas.{found_id}
use Rattle.nqs_types.specs.declared.ids.HostId.{HostId}
use Rattle.nqs_types.specs.declared.ids.Named.{Named}
use Rattle.nqs_types.specs.declared.ids.RequestId.{RequestId}
use Rattle.nqs_types.specs.declared.request.Peer.{Peer}
use Rattle.nqs_types.specs.declared.request.Row.{Row}
use Rattle.nqs_types.specs.declared.rule.Choice.{Choice}
use Rattle.nqs_types.specs.declared.rule.Choice.TheVariants.{Launch, Print, TooFar, Local, Hand}
use Rattle.nqs_types.specs.declared.ids.Dest.{Dest}
use Rattle.nqs_types.specs.declared.refusal.Refusal.{Refusal}
use Rattle.nqs_types.specs.declared.change.Change.{Change}
use Rattle.nqs_types.specs.declared.change.Change.TheVariants.{Deleted, Doomed, Ended, StageGot}
use Rattle.nqs_types.specs.declared.event.Command.{Command}
use Rattle.nqs_types.specs.declared.event.Command.TheVariants as command
use Rattle.nqs_types.specs.declared.event.Event.{Event}
use Rattle.nqs_types.specs.declared.event.Event.TheVariants as event
use Rattle.nqs_types.specs.declared.message.Body.{Body}
use Rattle.nqs_types.specs.declared.message.Body.TheVariants as body
use Rattle.nqs_rules.specs.Causes.{first_refusal}
use Rattle.nqs_rules.specs.Find.{find_peer, meant_row, row_of, request_of, host_named}
use Rattle.nqs_rules.specs.Handover.{open_hand, opened_with}
use Rattle.nqs_rules.specs.Order.{pick}
use Rattle.nqs_rules.specs.Start.{launching, printing, local_causes, moving_by, moving, holding, device_at, dest_at, started, start_by, start}
use Rattle.nqs_rules.specs.Step.{step}
use Rattle.nqs_rules.specs.Stepped.{Stepped}
use Rattle.nqs_rules.specs.Tests.{is_running}
use Rattle.nqs_laws.specs.Caused.{IsByCommand, IsByMessage, IsByEvent, IsByStart}
use Rattle.nqs_laws.proofs.Makes.{Answers, IsDeleted, Obeys, Follows, step_makes}

-- events

module _ (s : Plain) (c : Change (List ℕ)) where
  -- a request that a name means has the name's number
  meant_number : (id : Named) (r : Row (List ℕ)) → meant_row id s ≡ Some r → r.id.seq ≡ id.seq
  meant_number id r found = of (host_named id.host s) found
    where
      of : (o : Option HostId) → row_of (request_of id.seq o) s ≡ Some r → r.id.seq ≡ id.seq
      of None e = absurd (none-some r e)
      of (Some host) e = ap (λ x. x.seq) (sym (found_id (record { seq = id.seq; host = host }) s.rows r e))

  deleted_kind : (id : Named) → IsDeleted id s c → (x : RequestId) × (x.seq ≡ id.seq) × ((c ≡ Deleted x) ⊎ (c ≡ Doomed x))
  deleted_kind id d = (d.row.id, meant_number id d.row d.found, by (is_running d.row.state) d.is)
    where
      by : (b : Bool) → c ≡ (if b then Doomed d.row.id else Deleted d.row.id) → (c ≡ Deleted d.row.id) ⊎ (c ≡ Doomed d.row.id)
      by true is = inr is
      by false is = inl is

  command_kind : (now : ℕ) (command : Command) → Obeys now command s c → IsByCommand command c
  command_kind now (command.Submit sub) k = (k.0, _, k.1)
  command_kind now (command.Edit e) k = k
  command_kind now (command.Delete id forced) k = deleted_kind id k
  command_kind now command.Tick k = (k.0, _, k.1)
  command_kind now command k = absurd k

  stage_kind : (peer : HostId) (n : ℕ) (path bytes kept : List ℕ) → c ≡ StageGot peer n path kept → (kept ≡ bytes) ⊎ (kept ≡ [])
      → (c ≡ StageGot peer n path bytes) ⊎ (c ≡ StageGot peer n path [])
  stage_kind peer n path bytes kept is (inl e) = inl (is ∙ ap (StageGot peer n path) e)
  stage_kind peer n path bytes kept is (inr e) = inr (is ∙ ap (StageGot peer n path) e)

  message_kind : (b : Body) (peer : HostId) → Answers b peer s c → IsByMessage b peer c
  message_kind (body.Offer n low queue load script) peer k = k.0
  message_kind (body.Ready n) peer k = k.0
  message_kind (body.Refused n refusal) peer k = k.0
  message_kind (body.Commit n) peer k = k.0
  message_kind (body.Done n) peer k = k.0
  message_kind (body.Inquire n) peer k = k.0
  message_kind (body.Abort n) peer k = k.0
  message_kind (body.Stage n path bytes) peer k = stage_kind peer n path bytes k.0 k.1 k.2
  message_kind (body.Staged n) peer k = k
  message_kind b peer k = absurd k

  event_kind : (e : Event) → Follows e s c → IsByEvent e c
  event_kind (event.Ask now port token user command) k = command_kind now command k
  event_kind (event.Arrived now m) k = message_kind m.body m.from k
  event_kind (event.Ended now port id start status output error) k =
      (k.0, k.4 ∙ ap (λ x. Ended x k.0) (sym (found_id id s.rows k.1 k.2)))
  event_kind (event.Unlaunched now id start) k = k.3
  event_kind (event.Written now file) k = k
  event_kind (event.Unwritten now file) k = absurd k
  event_kind (event.Tick now) k = (k.0, _, k.1)

-- what an event changes is of its kind
pub step_kind : (e : Event) (s : Plain) → IfSome (step e s).change (IsByEvent e)
step_kind e s = of (step e s).change (step_makes s e)
  where
    of : (o : Option (Change (List ℕ))) → IfSome o (Follows e s) → IfSome o (IsByEvent e)
    of None k = tt
    of (Some c) k = event_kind s c e k

-- starts

abbrev Starts : Stepped (List ℕ) → Type 0
Starts x = IfSome x.change IsByStart

module _ (now : ℕ) (s : Plain) where
  of_row : (o : Option (Row (List ℕ))) (f : Row (List ℕ) → Option (Stepped (List ℕ))) → ((r : Row (List ℕ)) → IfSome (f r) Starts)
      → IfSome (option_and_then f o) Starts
  of_row None f k = tt
  of_row (Some r) f k = k r

  of_value : {V : Type 0} (o : Option V) (f : V → Stepped (List ℕ)) → ((v : V) → Starts (f v)) → IfSome (option_map f o) Starts
  of_value None f k = tt
  of_value (Some v) f k = k v

  moving_kind : (o : Result (Unit {0}) Refusal) (queue : List ℕ) (r : Row (List ℕ)) → Starts (moving_by o queue r)
  moving_kind (Ok u) queue r = tt
  moving_kind (Err refusal) queue r = tt

  opened_kind : (o : Option Peer) (dest : Dest) (r : Row (List ℕ)) → Starts (opened_with o dest now s r)
  opened_kind None dest r = tt
  opened_kind (Some p) dest r = tt

  choice_kind : (c : Choice) → IfSome (started c now s) Starts
  choice_kind (Launch row) = of_row (slice_get s.rows row) (λ r. Some (launching r s)) (λ r. tt)
  choice_kind (Print row device) = of_row (slice_get s.rows row) (λ r. option_map (λ d. printing d r s) (device_at device r s))
      (λ r. of_value (device_at device r s) (λ d. printing d r s) (λ d. tt))
  choice_kind (TooFar row) = of_row (slice_get s.rows row) (λ r. Some (holding r)) (λ r. tt)
  choice_kind (Local row dest) = of_row (slice_get s.rows row) (λ r. option_map (λ d. moving d s r) (dest_at dest r s))
      (λ r. of_value (dest_at dest r s) (λ d. moving d s r) (λ d. moving_kind (first_refusal (local_causes d.queue s r)) d.queue r))
  choice_kind (Hand row dest) = of_row (slice_get s.rows row) (λ r. option_map (λ d. open_hand d now s r) (dest_at dest r s))
      (λ r. of_value (dest_at dest r s) (λ d. open_hand d now s r) (λ d. opened_kind (find_peer d.host s) d r))

-- what a start changes is of a start's kind
pub start_kind : (now : ℕ) (s : Plain) (x : Stepped (List ℕ)) → start now s ≡ Some x → IfSome x.change IsByStart
start_kind now s x e = of (pick now s) e
  where
    made : (o : Option (Stepped (List ℕ))) → IfSome o Starts → o ≡ Some x → Starts x
    made None k e = absurd (none-some x e)
    made (Some y) k e = subst Starts (same_Some y x e) k

    of : (o : Option Choice) → start_by o now s ≡ Some x → Starts x
    of None e = absurd (none-some x e)
    of (Some c) e = made (started c now s) (choice_kind now s c) e
