-- What a step or a start makes is modest: what it stores is short, and it takes few offers back.
use Rattle.std.proofs.Common.{◌≡◌, ℕ, ◌+◌, ◌≤◌, Bool, true, false, nat_le, List, [], ◌∷◌, ◌++◌, filter, length, slice_get, Option, None, Some, option_map}
use Rattle.std.proofs.Common.{Result, Ok, Err, refl, arith, length-append, ◌∙◌, if◌then◌else◌}
use Rattle.std.proofs.lemmas.Bool.{and_parts, and_from, leb-true, le-leb}
use Rattle.std.proofs.lemmas.List.{length-map}
use Rattle.std.proofs.lemmas.List.Folds.{list_all-append}
use Rattle.std.specs.List.{list_all, list_any}
use Rattle.std.specs.Option.{IfSome, option_and_then}
use Rattle.nqs_state.specs.State.{State}
use Rattle.nqs_base.specs.Path.{is_path}
use Rattle.nqs_state.specs.Keys.{is_file}
use Rattle.nqs_types.specs.declared.ids.HostId.{HostId}
use Rattle.nqs_types.specs.declared.ids.Dest.{Dest}
use Rattle.nqs_types.specs.declared.ids.RequestId.{RequestId}
use Rattle.nqs_types.specs.declared.ids.Named.{Named}
use Rattle.nqs_types.specs.declared.ids.PeerNumber.{PeerNumber}
use Rattle.nqs_types.specs.declared.request.Job.{Job}
use Rattle.nqs_types.specs.declared.request.Carried.{Carried}
use Rattle.nqs_types.specs.declared.request.Row.{Row}
use Rattle.nqs_types.specs.declared.request.Hand.{Hand}
use Rattle.nqs_types.specs.declared.request.Peer.{Peer}
use Rattle.nqs_types.specs.declared.request.Phase.{Phase}
use Rattle.nqs_types.specs.declared.request.Phase.TheVariants.{Offered, Committed}
use Rattle.nqs_types.specs.declared.refusal.Refusal.{Refusal}
use Rattle.nqs_types.specs.declared.rule.Choice.{Choice}
use Rattle.nqs_types.specs.declared.rule.Choice.TheVariants.{Launch, Print, TooFar, Local, Hand as HandTo}
use Rattle.nqs_types.specs.declared.change.Change.{Change}
use Rattle.nqs_types.specs.declared.change.Change.TheVariants.{Site, Submitted, Deleted, Doomed, Started, Ended, Unlaunched, Boot, Edited, HandOpened}
use Rattle.nqs_types.specs.declared.change.Change.TheVariants.{HandCommitted, HandRefused, HandsSilent, HandDone, OldPromised, Promised, Accepted, Dropped}
use Rattle.nqs_types.specs.declared.change.Change.TheVariants.{MovedLocal}
use Rattle.nqs_types.specs.declared.change.Change.TheVariants.{RefusedLocal, HeldFar, StageGot, StageGone, FileGone}
use Rattle.nqs_types.specs.declared.message.Body.{Body}
use Rattle.nqs_types.specs.declared.message.Body.TheVariants as body
use Rattle.nqs_types.specs.declared.event.Command.{Command}
use Rattle.nqs_types.specs.declared.event.Command.TheVariants as command
use Rattle.nqs_types.specs.declared.event.Submission.{Submission}
use Rattle.nqs_types.specs.declared.event.Event.{Event}
use Rattle.nqs_types.specs.declared.event.Event.TheVariants as event
use Rattle.nqs_rules.specs.Tests.{passes, is_running}
use Rattle.nqs_rules.specs.Causes.{first_refusal}
use Rattle.nqs_rules.specs.Find.{peer_number, find_row, find_hand, find_peer, has_promise, has_stage, meant_row}
use Rattle.nqs_rules.specs.Access.{rank, may_command}
use Rattle.nqs_rules.specs.Order.{pick}
use Rattle.nqs_rules.specs.Rows.{queue_meant, submit_causes, delete_causes}
use Rattle.nqs_rules.specs.Fits.{edit_causes}
use Rattle.nqs_rules.specs.Sane.{is_of_site, is_asked, is_short_script, is_short_file, is_short_output, is_short_change, is_sane_carried}
use Rattle.nqs_rules.specs.Sane.{is_sane_command, is_sane_body, is_sane_low, is_sane_event}
use Rattle.nqs_rules.specs.InOrder.{IsInOrder}
use Rattle.nqs_rules.specs.Stepped.{Stepped, map_change}
use Rattle.nqs_rules.specs.Handover.{closes, was_given, is_silent, silence, silent_hands, offer_causes, offer_by, on_offer, ready_phase, ready_with, on_ready}
use Rattle.nqs_rules.specs.Handover.{refused_phase, refused_with, on_refused, done_phase, done_with, on_done, opened_with, open_hand}
use Rattle.nqs_rules.specs.Stage.{Part, part_to, parts_of, has_left, numbered, first_number, is_got, on_end, on_stage}
use Rattle.nqs_rules.specs.Start.{launching, printing, holding, moving_by, moving, local_causes, with_row, device_at, dest_at, started, start_by, start}
use Rattle.nqs_rules.specs.Step.{Asker, unless_refused, submit_to, on_submit, delete_meant, stat_causes, on_allowed, on_message, is_start, ended_by}
use Rattle.nqs_rules.specs.Step.{unlaunched_by, ticked, step}
use Rattle.nqs_rules.proofs.Chains.{each}
use Rattle.nqs_rules.proofs.Sublists.{filter_part, part_length}
use Rattle.nqs_host_laws.specs.Offers.{takes_back_few}
use Rattle.nqs_host_laws.proofs.FewHands.{hands_few}

-- what is stored is short, and few offers are taken back
abbrev pub Modest : Option (Change (List ℕ)) → Type 0
Modest o = IfSome o (λ c. is_short_change length c ≡ true) × IfSome o (λ c. takes_back_few c ≡ true)

abbrev is_short_part : Part → Bool
is_short_part part = is_short_file part.bytes

abbrev AreShort : List Part → Type 0
AreShort parts = list_all is_short_part parts ≡ true

part_short : (path bytes : List ℕ) → length bytes ≤ 32768 → AreShort (part_to path bytes)
part_short path [] h = refl
part_short path (b ∷ bytes) h = and_from (is_short_file (b ∷ bytes)) true (le-leb (length (b ∷ bytes)) 32768 h) refl

all_short : (parts more : List Part) → AreShort parts → AreShort more → AreShort (parts ++ more)
all_short parts more h k = list_all-append is_short_part parts more ∙ and_from (list_all is_short_part parts) (list_all is_short_part more) h k

numbered_short : (counter n : ℕ) (parts : List Part) → AreShort parts → AreShort (numbered counter n parts)
numbered_short counter n [] h = refl
numbered_short counter n (part ∷ parts) h =
    let both = and_parts (is_short_part part) (list_all is_short_part parts) h in
    by (has_left counter n) both.0 (numbered_short counter (n + 1) parts both.1)
  where
    by : (b : Bool) → is_short_part part ≡ true → AreShort (numbered counter (n + 1) parts)
        → AreShort (if b then part ∷ numbered counter (n + 1) parts else [])
    by true first rest = and_from (is_short_part part) (list_all is_short_part (numbered counter (n + 1) parts)) first rest
    by false first rest = refl

parts_short : (j : Job) (output error : List ℕ) → length output ≤ 16384 → length error ≤ 16384 → AreShort (parts_of j output error)
parts_short j output error one other = by j.join
  where
    by : (b : Bool) → AreShort (if b then part_to j.out (output ++ error) else part_to j.out output ++ part_to j.err error)
    by true = part_short j.out (output ++ error) (let both = length-append output error in omega (arith, both, one, other))
    by false = all_short (part_to j.out output) (part_to j.err error) (part_short j.out output (omega (arith, one)))
        (part_short j.err error (omega (arith, other)))

module _ {E : Type 0} where
  -- one of two
  choice : (b : Bool) (x y : Stepped E) → Modest x.change → Modest y.change → Modest (if b then x else y).change
  choice true x y h k = h
  choice false x y h k = k

  unless : (a : Asker) (r : Result (Unit {0}) Refusal) (done : Stepped E) → Modest done.change → Modest (unless_refused a r done).change
  unless a (Ok u) done h = h
  unless a (Err e) done h = (tt, tt)

module _ {E : Type 0} (s : State E) (h : IsInOrder s) where
  submit_modest : (a : Asker) (sub : Submission) → is_short_script sub.script ≡ true → Modest (on_submit a sub s).change
  submit_modest a sub short = unless a (first_refusal (submit_causes sub s)) (submit_to a sub s (queue_meant sub.queue s.default_queue))
      (to (queue_meant sub.queue s.default_queue))
    where
      to : (o : Option (List ℕ)) → Modest (submit_to a sub s o).change
      to None = (tt, tt)
      to (Some q) = (short, refl)

  delete_modest : (a : Asker) (id : Named) (o : Option (Row E)) → Modest (delete_meant a id o).change
  delete_modest a id None = (tt, tt)
  delete_modest a id (Some r) = choice (is_running r.state) _ _ (refl, refl) (refl, refl)

  tick_modest : (now : ℕ) → Modest (ticked now s).change
  tick_modest now =
      let some = length-map (filter (is_silent now s) s.hands) (λ x. peer_number x.peer x.number) in
      let fewer = part_length (filter_part (is_silent now s) s.hands) in
      let few = hands_few s h in
      by (silent_hands now s) (omega (arith, some, fewer, few))
    where
      by : (ks : List PeerNumber) → length ks ≤ 255 → Modest (silence now s.retry_wait ks)
      by [] few = (tt, tt)
      by (k ∷ ks) few = (refl, le-leb (length (k ∷ ks)) 255 few)

  allowed_modest : (now : ℕ) (a : Asker) (user : List ℕ) (c : Command) → is_sane_command c ≡ true → Modest (on_allowed now a user c s).change
  allowed_modest now a user (command.Submit sub) sane = submit_modest a sub (and_parts (is_asked sub) (is_short_script sub.script) sane).1
  allowed_modest now a user (command.Edit e) sane = unless a (first_refusal (edit_causes e s)) _ (refl, refl)
  allowed_modest now a user (command.Stat owner queues) sane = unless a (first_refusal (stat_causes queues s)) _ (tt, tt)
  allowed_modest now a user (command.Delete id forced) sane = unless a (first_refusal (delete_causes user id forced s)) (delete_meant a id (meant_row id s))
      (delete_modest a id (meant_row id s))
  allowed_modest now a user command.Tick sane = tick_modest now
  allowed_modest now a user c sane = (tt, tt)

  -- messages

  offer_modest : (peer : HostId) (n low : ℕ) (queue : List ℕ) (c : Carried) (script : List ℕ) → is_short_script script ≡ true
      → Modest (on_offer peer n low queue c script s).change
  offer_modest peer n low queue c script short = choice (closes n (find_peer peer s)) _ _ (tt, tt)
      (choice (has_promise peer n s) _ _ (tt, tt) (by (first_refusal (offer_causes peer low queue c s))))
    where
      by : (o : Result (Unit {0}) Refusal) → Modest (offer_by o peer n low queue c script s).change
      by (Err e) = (tt, tt)
      by (Ok u) = (short, refl)

  ready_modest : (peer : HostId) (n : ℕ) → Modest (on_ready peer n s).change
  ready_modest peer n = of (find_hand peer n s)
    where
      by : (p : Phase) → Modest (ready_phase p peer n s).change
      by Offered = (refl, refl)
      by Committed = (tt, tt)

      of : (o : Option Hand) → Modest (ready_with o peer n s).change
      of None = choice (was_given n (find_peer peer s)) _ _ (tt, tt) (tt, tt)
      of (Some x) = by x.phase

  refused_modest : (peer : HostId) (n refusal : ℕ) → Modest (on_refused peer n refusal s).change
  refused_modest peer n refusal = of (find_hand peer n s)
    where
      by : (p : Phase) → Modest (refused_phase {E = E} p peer n refusal).change
      by Offered = (refl, refl)
      by Committed = (tt, tt)

      of : (o : Option Hand) → Modest (refused_with {E = E} o peer n refusal).change
      of None = (tt, tt)
      of (Some x) = by x.phase

  done_modest : (peer : HostId) (n : ℕ) → Modest (on_done peer n s).change
  done_modest peer n = of (find_hand peer n s)
    where
      by : (p : Phase) → Modest (done_phase {E = E} p peer n).change
      by Offered = (tt, tt)
      by Committed = (refl, refl)

      of : (o : Option Hand) → Modest (done_with {E = E} o peer n).change
      of None = (tt, tt)
      of (Some x) = by x.phase

  stage_modest : (peer : HostId) (n : ℕ) (path bytes : List ℕ) → is_short_file bytes ≡ true → Modest (on_stage peer n path bytes s).change
  stage_modest peer n path bytes short = choice (passes (is_got n) (find_peer peer s)) _ _ (tt, tt)
      (choice (has_left s.file_next 0) _ _ (short, refl) (refl, refl))

  message_modest : (peer : HostId) (b : Body) → is_sane_body (length s.site) b ≡ true → Modest (on_message peer b s).change
  message_modest peer (body.Offer n low queue c script) sane =
      let k = each (nat_le 1 n) (is_sane_low low n ∷ is_sane_carried c ∷ is_of_site (length s.site) c.id.host ∷ is_short_script script ∷ []) sane in
      offer_modest peer n low queue c script k.1.1.1.1.0
  message_modest peer (body.Ready n) sane = ready_modest peer n
  message_modest peer (body.Refused n refusal) sane = refused_modest peer n refusal
  message_modest peer (body.Commit n) sane = choice (has_promise peer n s) _ _ (refl, refl) (choice (closes n (find_peer peer s)) _ _ (tt, tt) (tt, tt))
  message_modest peer (body.Done n) sane = done_modest peer n
  message_modest peer (body.Inquire n) sane = ready_modest peer n
  message_modest peer (body.Abort n) sane = choice {E = E} (has_promise peer n s) _ _ (refl, refl) (tt, tt)
  message_modest peer (body.Stage n path bytes) sane = stage_modest peer n path bytes
      (each (nat_le 1 n) (is_path path ∷ is_short_file bytes ∷ []) sane).1.1.0
  message_modest peer (body.Staged n) sane = choice (has_stage peer n s) _ _ (refl, refl) (tt, tt)
  message_modest peer b sane = (tt, tt)

  -- ends of jobs

  ended_modest : (o : Option (Row E)) (start status : ℕ) (output error : List ℕ) → length output ≤ 16384 → length error ≤ 16384
      → Modest (ended_by o start status output error s).change
  ended_modest None start status output error one other = (tt, tt)
  ended_modest (Some r) start status output error one other =
      choice (is_start start r) (on_end status r output error s) _ (
        numbered_short (first_number s r.id) 0 (parts_of r.job output error)
            (parts_short r.job output error one other),
        refl,
      ) (tt, tt)

  unlaunched_modest : (o : Option (Row E)) (id : RequestId) (start : ℕ) → Modest (unlaunched_by o id start).change
  unlaunched_modest None id start = (tt, tt)
  unlaunched_modest (Some r) id start = choice {E = E} (is_start start r) _ _ (refl, refl) (tt, tt)

  pub step_modest : (e : Event) → is_sane_event (length s.site) e ≡ true → Modest (step e s).change
  step_modest (event.Ask now port token user c) sane =
      let a : Asker = record { port = port; token = token } in
      unless a (may_command (rank user s) c) (on_allowed now a user c s) (allowed_modest now a user c sane)
  step_modest (event.Arrived now m) sane = message_modest m.from m.body (and_parts (is_of_site (length s.site) m.from)
      (is_sane_body (length s.site) m.body) sane).1
  step_modest (event.Ended now port id start status output error) sane =
      let k = and_parts (is_short_output output) (is_short_output error) sane in
      ended_modest (find_row id s) start status output error (leb-true (length output) 16384 k.0) (leb-true (length error) 16384 k.1)
  step_modest (event.Unlaunched now id start) sane = unlaunched_modest (find_row id s) id start
  step_modest (event.Written now file) sane = choice {E = E} (list_any (is_file file) s.files) _ _ (refl, refl) (tt, tt)
  step_modest (event.Unwritten now file) sane = (tt, tt)
  step_modest (event.Tick now) sane = tick_modest now

-- starts

module _ {E : Type 0} (s : State E) where
  abbrev IsModest : Option (Stepped E) → Type 0
  IsModest o = IfSome o (λ x. Modest x.change)

  one_modest : {V : Type 0} (f : V → Stepped E) → ((v : V) → Modest (f v).change) → (o : Option V) → IsModest (option_map f o)
  one_modest f modest None = tt
  one_modest f modest (Some v) = modest v

  row_modest : (place : ℕ) (f : Row E → Option (Stepped E)) → ((r : Row E) → IsModest (f r)) → IsModest (with_row place s f)
  row_modest place f modest = by (slice_get s.rows place)
    where
      by : (o : Option (Row E)) → IsModest (option_and_then f o)
      by None = tt
      by (Some r) = modest r

  moving_modest : (r : Row E) (d : Dest) → Modest (moving d s r).change
  moving_modest r d = by (first_refusal (local_causes d.queue s r))
    where
      by : (o : Result (Unit {0}) Refusal) → Modest (moving_by o d.queue r).change
      by (Ok u) = (refl, refl)
      by (Err e) = (refl, refl)

  hand_modest : (now : ℕ) (r : Row E) (d : Dest) → Modest (open_hand d now s r).change
  hand_modest now r d = by (find_peer d.host s)
    where
      by : (o : Option Peer) → Modest (opened_with o d now s r).change
      by None = (tt, tt)
      by (Some p) = (refl, refl)

  started_modest : (c : Choice) (now : ℕ) → IsModest (started c now s)
  started_modest (Launch row) now = row_modest row (λ r. Some (launching r s)) (λ r. (refl, refl))
  started_modest (Print row device) now = row_modest row (λ r. option_map (λ d. printing d r s) (device_at device r s))
      (λ r. one_modest (λ d. printing d r s) (λ d. (refl, refl)) (device_at device r s))
  started_modest (TooFar row) now = row_modest row (λ r. Some (holding r)) (λ r. (refl, refl))
  started_modest (Local row dest) now = row_modest row (λ r. option_map (λ d. moving d s r) (dest_at dest r s))
      (λ r. one_modest (λ d. moving d s r) (moving_modest r) (dest_at dest r s))
  started_modest (HandTo row dest) now = row_modest row (λ r. option_map (λ d. open_hand d now s r) (dest_at dest r s))
      (λ r. one_modest (λ d. open_hand d now s r) (hand_modest now r) (dest_at dest r s))

  pub start_modest : (now : ℕ) → IsModest (start now s)
  start_modest now = by (pick now s)
    where
      by : (o : Option Choice) → IsModest (start_by o now s)
      by None = tt
      by (Some c) = started_modest c now

-- what a modest start is made of
pub both_of : {E : Type 0} (o : Option (Stepped E)) → IfSome o (λ x. Modest x.change)
    → IfSome o (λ x. IfSome x.change (λ c. is_short_change length c ≡ true)) × IfSome o (λ x. IfSome x.change (λ c. takes_back_few c ≡ true))
both_of None h = (tt, tt)
both_of (Some x) h = h

-- how many offers a change takes back doesn't depend on its bytes
pub few-map : {E F : Type 0} (f : E → F) (c : Change E) → takes_back_few (map_change f c) ≡ takes_back_few c
few-map f (Site me site) = refl
few-map f (Submitted queue job script) = refl
few-map f (Deleted id) = refl
few-map f (Doomed id) = refl
few-map f (Started id device) = refl
few-map f (Ended id parts) = refl
few-map f (Unlaunched id) = refl
few-map f Boot = refl
few-map f (Edited e) = refl
few-map f (HandOpened peer number id queue since) = refl
few-map f (HandCommitted peer number) = refl
few-map f (HandRefused peer number cause) = refl
few-map f (HandsSilent until hands) = refl
few-map f (HandDone peer number) = refl
few-map f (OldPromised peer number queue c script) = refl
few-map f (Promised peer number low queue c script) = refl
few-map f (Accepted peer number) = refl
few-map f (Dropped peer number) = refl
few-map f (MovedLocal id queue) = refl
few-map f (RefusedLocal id queue cause) = refl
few-map f (HeldFar id) = refl
few-map f (StageGot peer number path bytes) = refl
few-map f (StageGone peer number) = refl
few-map f (FileGone file) = refl
