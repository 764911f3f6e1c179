-- The laws of the values of a snapshot: what is read stands there, and what stands there is read.
use Rattle.std.proofs.Common.{◌≡◌, ℕ, zero, suc, ◌+◌, ◌<◌, ◌^◌, IsTrue, List, ◌++◌, length, Option, Some, None, refl, sym, ap, ◌∙◌, subst, Ok, arith}
use Rattle.std.specs.Prelude.{⊤, [], ◌∷◌}
use Rattle.std.proofs.lemmas.Bool.Decides.{nat_tests}
use Rattle.nqs_base.specs.Name.{IsName}
use Rattle.nqs_base.specs.declared.extent.Extent.{Extent}
use Rattle.nqs_types.specs.declared.request.Hold.{Hold}
use Rattle.nqs_types.specs.declared.request.Hold.TheVariants.{No, User, System}
use Rattle.nqs_types.specs.declared.request.RowState.{RowState}
use Rattle.nqs_types.specs.declared.request.RowState.TheVariants.{Queued, Routing, Running}
use Rattle.nqs_types.specs.declared.request.Phase.{Phase}
use Rattle.nqs_types.specs.declared.request.Phase.TheVariants.{Offered, Committed}
use Rattle.nqs_types.specs.declared.request.Row.{Row}
use Rattle.nqs_types.specs.declared.queue.Kind.{Kind}
use Rattle.nqs_types.specs.declared.queue.Kind.TheVariants.{Batch, Device, Pipe}
use Rattle.nqs_types.specs.declared.queue.Access.{Access}
use Rattle.nqs_types.specs.declared.queue.Access.TheVariants.{All, Users}
use Rattle.nqs_types.specs.declared.queue.QueueDef.{QueueDef}
use Rattle.nqs_codec.specs.Fields.{u8_field, u16_field, u64_field, short_field, bool_field}
use Rattle.nqs_base.proofs.Readings.{given, bound, bind}
use Rattle.nqs_types.specs.declared.request.Peer.{Peer}
use Rattle.nqs_codec.specs.Takes.{Stands}
use Rattle.nqs_records.specs.Reading.{◌>>=◌, Reading, mapped}
use Rattle.nqs_records.specs.Spelling.{fields, opt_field}
use Rattle.nqs_records.specs.Values.{is_at_most, IsU16, IsU64, IsOpt}
use Rattle.nqs_records.proofs.IsRead.{IsRead}
use Rattle.nqs_records.proofs.Numbers.{u8_read, u16_read, u64_read}
use Rattle.nqs_records.proofs.Named.{bool_read, name_read, path_read}
use Rattle.nqs_records.proofs.Chains.{Found, both_read, mapped_read, mapped_where, within_read, last_read, opt_read, counted_read}
use Rattle.nqs_records.proofs.PartLaws.{host_law, id_law, script_law, output_law, job_law, priority_fits, hops_fit, two_fit}
use Rattle.nqs_snapshot.specs.declared.read_queues.Settings.{Settings}
use Rattle.nqs_snapshot.specs.declared.read_requests.Course.{Course}
use Rattle.nqs_snapshot.specs.Spelling.{many_field, kind_number, hold_number, state_number, phase_number, access_field, limits_field, dest_field}
use Rattle.nqs_snapshot.specs.Spelling.{settings_field, queue_field, complex_field, device_field, refused_field, course_field, row_field, hand_field}
use Rattle.nqs_snapshot.specs.Spelling.{promise_field, peer_field, closed_up_to, old_peer_field, stage_field, file_field}
use Rattle.nqs_snapshot.specs.Values.{IsMany, IsAccess, IsLimits, IsDest, AreSettings, IsQueue, IsComplex, IsDevice, IsRefused, IsRow, IsHand}
use Rattle.nqs_snapshot.specs.Values.{IsPromise, IsPeer, floor_below, alone_above, IsOldPeer, IsStage, IsFile}
use Rattle.nqs_snapshot.specs.Readings.{many_at, kind_of, hold_of, row_state_of, phase_of, kind_at, hold_at, row_state_at, phase_at, access_of, access_at}
use Rattle.nqs_snapshot.specs.Readings.{limits_at, dest_at, settings_of, settings_at, queue_of, queue_at, complex_at, device_at, refused_at, course_of}
use Rattle.nqs_snapshot.specs.Readings.{course_at}
use Rattle.nqs_snapshot.specs.Readings.{row_of, row_at, hand_at, promise_at, peer_at, OldPeerFields, renewed, old_peer_at, stage_at, file_at}

pub many_law : {A : Type 0} {IsA : A → Type 0} {f : A → List ℕ} {r : Reading A} → IsRead IsA f r → IsRead (IsMany IsA) (many_field f) (many_at r)
unfolding many_field
many_law one = counted_read u64_read one

-- ---- what may be one of several

one_fits : (n : ℕ) → IsTrue (is_at_most 1 n) → n < 2 ^ 8
one_fits n is = grind (arith, nat_tests)

more_than_two : (n : ℕ) → IsTrue (is_at_most 2 (suc (suc (suc n)))) → ⊥
more_than_two n is = grind (arith, nat_tests)

more_than_one : (n : ℕ) → IsTrue (is_at_most 1 (suc (suc n))) → ⊥
more_than_one n is = grind (arith, nat_tests)

kind_again : (k : Kind) → kind_of (kind_number k) ≡ k
kind_again Batch = refl
kind_again Device = refl
kind_again Pipe = refl

kind_within : (k : Kind) → IsTrue (is_at_most 2 (kind_number k))
kind_within Batch = refl
kind_within Device = refl
kind_within Pipe = refl

kind_spelled : (n : ℕ) → IsTrue (is_at_most 2 n) → u8_field (kind_number (kind_of n)) ≡ u8_field n
kind_spelled zero is = refl
kind_spelled (suc zero) is = refl
kind_spelled (suc (suc zero)) is = refl
kind_spelled (suc (suc (suc n))) is = absurd (more_than_two n is)

pub kind_law : IsRead (λ _. ⊤) (λ k. u8_field (kind_number k)) kind_at
unfolding kind_at
kind_law = mapped_where (λ _. ⊤) (λ k. u8_field (kind_number k)) kind_of kind_number kind_again (λ n is. tt) (λ k is. kind_within k) kind_spelled
    (within_read (is_at_most 2) two_fit u8_read)

hold_again : (h : Hold) → hold_of (hold_number h) ≡ h
hold_again No = refl
hold_again User = refl
hold_again System = refl

hold_within : (h : Hold) → IsTrue (is_at_most 2 (hold_number h))
hold_within No = refl
hold_within User = refl
hold_within System = refl

hold_spelled : (n : ℕ) → IsTrue (is_at_most 2 n) → u8_field (hold_number (hold_of n)) ≡ u8_field n
hold_spelled zero is = refl
hold_spelled (suc zero) is = refl
hold_spelled (suc (suc zero)) is = refl
hold_spelled (suc (suc (suc n))) is = absurd (more_than_two n is)

pub hold_law : IsRead (λ _. ⊤) (λ h. u8_field (hold_number h)) hold_at
unfolding hold_at
hold_law = mapped_where (λ _. ⊤) (λ h. u8_field (hold_number h)) hold_of hold_number hold_again (λ n is. tt) (λ h is. hold_within h) hold_spelled
    (within_read (is_at_most 2) two_fit u8_read)

state_again : (s : RowState) → row_state_of (state_number s) ≡ s
state_again Queued = refl
state_again Routing = refl
state_again Running = refl

state_within : (s : RowState) → IsTrue (is_at_most 2 (state_number s))
state_within Queued = refl
state_within Routing = refl
state_within Running = refl

state_spelled : (n : ℕ) → IsTrue (is_at_most 2 n) → u8_field (state_number (row_state_of n)) ≡ u8_field n
state_spelled zero is = refl
state_spelled (suc zero) is = refl
state_spelled (suc (suc zero)) is = refl
state_spelled (suc (suc (suc n))) is = absurd (more_than_two n is)

pub row_state_law : IsRead (λ _. ⊤) (λ s. u8_field (state_number s)) row_state_at
unfolding row_state_at
row_state_law = mapped_where (λ _. ⊤) (λ s. u8_field (state_number s)) row_state_of state_number state_again (λ n is. tt) (λ s is. state_within s)
    state_spelled (within_read (is_at_most 2) two_fit u8_read)

phase_again : (p : Phase) → phase_of (phase_number p) ≡ p
phase_again Offered = refl
phase_again Committed = refl

phase_within : (p : Phase) → IsTrue (is_at_most 1 (phase_number p))
phase_within Offered = refl
phase_within Committed = refl

phase_spelled : (n : ℕ) → IsTrue (is_at_most 1 n) → u8_field (phase_number (phase_of n)) ≡ u8_field n
phase_spelled zero is = refl
phase_spelled (suc zero) is = refl
phase_spelled (suc (suc n)) is = absurd (more_than_one n is)

pub phase_law : IsRead (λ _. ⊤) (λ p. u8_field (phase_number p)) phase_at
unfolding phase_at
phase_law = mapped_where (λ _. ⊤) (λ p. u8_field (phase_number p)) phase_of phase_number phase_again (λ n is. tt) (λ p is. phase_within p) phase_spelled
    (within_read (is_at_most 1) one_fits u8_read)

-- the list of those who may use a queue, if there is one
abbrev users_of : Access → Option (List (List ℕ))
users_of All = None
users_of (Users users) = Some users

access_again : (a : Access) → access_of (users_of a) ≡ a
access_again All = refl
access_again (Users users) = refl

access_to : (o : Option (List (List ℕ))) → IsOpt (IsMany IsName) o → IsAccess (access_of o)
access_to None is = tt
access_to (Some users) is = is

access_from : (a : Access) → IsAccess a → IsOpt (IsMany IsName) (users_of a)
access_from All is = tt
access_from (Users users) is = is

access_spelled : (o : Option (List (List ℕ))) → access_field (access_of o) ≡ opt_field (many_field short_field) o
unfolding access_field u8_field bool_field
access_spelled None = refl
access_spelled (Some users) = refl

pub access_law : IsRead IsAccess access_field access_at
unfolding access_at
access_law = mapped_read IsAccess access_field access_of users_of access_again access_to access_from access_spelled (opt_read (many_law name_read))

-- ---- queues, complexes and devices

pub limits_law : IsRead IsLimits limits_field limits_at
unfolding limits_at limits_field
limits_law =
    mapped_read IsLimits limits_field (λ v. record { cpu = v.0; memory = v.1 }) (λ l. (l.cpu, l.memory)) (λ l. refl) (λ v is. is) (λ l is. is) (λ v. refl)
    (both_read (opt_read u64_read) (λ _ _. last_read (opt_read u64_read)))

pub dest_law : IsRead IsDest dest_field dest_at
unfolding dest_at dest_field
dest_law =
    mapped_read IsDest dest_field (λ v. record { queue = v.0; host = v.1 }) (λ d. (d.queue, d.host)) (λ d. refl) (λ v is. is) (λ d is. is) (λ v. refl)
    (both_read name_read (λ _ _. last_read host_law))

-- a queue with these settings
abbrev of_settings : Settings → QueueDef
of_settings c = queue_of c All [] []

settings_law : IsRead (λ c. AreSettings (of_settings c)) (λ c. settings_field (of_settings c)) settings_at
unfolding settings_at settings_field
settings_law =
    mapped_read (λ c. AreSettings (of_settings c)) (λ c. settings_field (of_settings c)) settings_of
    (λ c. (c.name, (c.kind, (c.enabled, (c.started, (c.pipe_only, (c.priority, (c.run_limit, (c.user_limit, c.limits)))))))))
    (λ c. refl)
    (λ v is. (is.0, is.1.1.1.1.1.0, is.1.1.1.1.1.1.0, is.1.1.1.1.1.1.1.0, is.1.1.1.1.1.1.1.1))
    (λ c is. (is.0, (tt, (tt, (tt, (tt, (is.1, (is.2, (is.3, is.4)))))))))
    (λ v. refl)
    (both_read name_read λ _ _. both_read kind_law λ _ _. both_read bool_read λ _ _. both_read bool_read λ _ _. both_read bool_read λ _ _.
    both_read (within_read (is_at_most 63) priority_fits u8_read) λ _ _. both_read u16_read λ _ _. both_read (opt_read u16_read) λ _ _.
    last_read limits_law)

-- the settings of a queue
abbrev settings_in : QueueDef → Settings
settings_in q = record {
  name = q.name;
  kind = q.kind;
  enabled = q.enabled;
  started = q.started;
  pipe_only = q.pipe_only;
  priority = q.priority;
  run_limit = q.run_limit;
  user_limit = q.user_limit;
  limits = q.limits;
}

pub queue_law : IsRead IsQueue queue_field queue_at
unfolding queue_at queue_field settings_field
queue_law =
    mapped_read IsQueue queue_field (λ v. queue_of v.0 v.1.0 v.1.1.0 v.1.1.1) (λ q. (settings_in q, (q.access, (q.dests, q.devices))))
    (λ q. refl)
    (λ v is. (is.0, is.1.0, is.1.1.0, is.1.1.1))
    (λ q is. (is.0, (is.1, (is.2, is.3))))
    (λ v. refl)
    (both_read settings_law λ _ _. both_read access_law λ _ _. both_read (many_law dest_law) λ _ _. last_read (many_law name_read))

pub complex_law : IsRead IsComplex complex_field complex_at
unfolding complex_at complex_field
complex_law =
    mapped_read IsComplex complex_field (λ v. record { name = v.0; limit = v.1.0; queues = v.1.1 }) (λ c. (c.name, (c.limit, c.queues)))
    (λ c. refl) (λ v is. (is.0, is.1.0, is.1.1)) (λ c is. (is.0, (is.1, is.2))) (λ v. refl)
    (both_read name_read λ _ _. both_read u16_read λ _ _. last_read (many_law name_read))

pub device_law : IsRead IsDevice device_field device_at
unfolding device_at device_field
device_law =
    mapped_read IsDevice device_field (λ v. record { name = v.0; forms = v.1.0; enabled = v.1.1 }) (λ d. (d.name, (d.forms, d.enabled)))
    (λ d. refl) (λ v is. (is.0, is.1.0, is.1.1)) (λ d is. (is.0, (is.1, is.2))) (λ v. refl)
    (both_read name_read λ _ _. both_read name_read λ _ _. last_read bool_read)

-- ---- requests

pub refused_law : IsRead IsRefused refused_field refused_at
unfolding refused_at refused_field
refused_law =
    mapped_read IsRefused refused_field (λ v. record { dest = v.0; cause = v.1 }) (λ r. (r.dest, r.cause)) (λ r. refl) (λ v is. is) (λ r is. is) (λ v. refl)
    (both_read dest_law (λ _ _. last_read u8_read))

-- where a request stands, within its limits
abbrev IsStanding : Course → Type 0
IsStanding c =
    IsName c.queue × IsU64 c.arrival × IsU16 c.starts × IsU16 c.lost × IsTrue (is_at_most 32 c.hops) × IsOpt IsName c.device

-- the fields of where a request stands
abbrev spelled_course : Course → List ℕ
spelled_course c = fields (
    short_field c.queue ∷ u8_field (state_number c.state) ∷ u8_field (hold_number c.hold) ∷ u64_field c.arrival ∷ bool_field c.doomed
    ∷ u16_field c.starts ∷ u16_field c.lost ∷ u8_field c.hops ∷ opt_field short_field c.device ∷ []
    )

course_law : IsRead IsStanding spelled_course course_at
unfolding course_at
course_law =
    mapped_read IsStanding spelled_course course_of
    (λ c. (c.queue, (c.state, (c.hold, (c.arrival, (c.doomed, (c.starts, (c.lost, (c.hops, c.device)))))))))
    (λ c. refl)
    (λ v is. (is.0, is.1.1.1.0, is.1.1.1.1.1.0, is.1.1.1.1.1.1.0, is.1.1.1.1.1.1.1.0, is.1.1.1.1.1.1.1.1))
    (λ c is. (is.0, (tt, (tt, (is.1, (tt, (is.2, (is.3, (is.4, is.5)))))))))
    (λ v. refl)
    (both_read name_read λ _ _. both_read row_state_law λ _ _. both_read hold_law λ _ _. both_read u64_read λ _ _. both_read bool_read λ _ _.
    both_read u16_read λ _ _. both_read u16_read λ _ _. both_read (within_read (is_at_most 32) hops_fit u8_read) λ _ _.
    last_read (opt_read name_read))

-- where a request stands
abbrev course_in : Row Extent → Course
course_in r = record {
  queue = r.queue;
  state = r.state;
  hold = r.hold;
  arrival = r.arrival;
  doomed = r.doomed;
  starts = r.starts;
  lost = r.lost;
  hops = r.hops;
  device = r.device;
}

pub row_law : IsRead IsRow row_field row_at
unfolding row_at row_field course_field
row_law =
    mapped_read IsRow row_field (λ v. row_of v.0 v.1.0 v.1.1.0 v.1.1.1.0 v.1.1.1.1) (λ r. (r.id, (r.job, (course_in r, (r.refused, r.script)))))
    (λ r. refl)
    (λ v is. (is.0, is.1.0, is.1.1.0, is.1.1.1.0, is.1.1.1.1))
    (λ r is. (is.0, (is.1, (is.2, (is.3, is.4)))))
    (λ v. refl)
    (both_read id_law λ _ _. both_read job_law λ _ _. both_read course_law λ _ _. both_read (many_law refused_law) λ _ _. last_read script_law)

-- ---- dealings with other hosts, and files

pub hand_law : IsRead IsHand hand_field hand_at
unfolding hand_at hand_field
hand_law =
    mapped_read IsHand hand_field
    (λ v. record { peer = v.0; number = v.1.0; id = v.1.1.0; queue = v.1.1.1.0; since = v.1.1.1.1.0; phase = v.1.1.1.1.1 })
    (λ h. (h.peer, (h.number, (h.id, (h.queue, (h.since, h.phase))))))
    (λ h. refl)
    (λ v is. (is.0, is.1.0, is.1.1.0, is.1.1.1.0, is.1.1.1.1.0))
    (λ h is. (is.0, (is.1, (is.2, (is.3, (is.4, tt))))))
    (λ v. refl)
    (both_read host_law λ _ _. both_read u64_read λ _ _. both_read id_law λ _ _. both_read name_read λ _ _. both_read u64_read λ _ _. last_read phase_law)

pub promise_law : IsRead IsPromise promise_field promise_at
unfolding promise_at promise_field
promise_law =
    mapped_read IsPromise promise_field (λ v. record { peer = v.0; number = v.1.0; row = v.1.1 }) (λ p. (p.peer, (p.number, p.row)))
    (λ p. refl) (λ v is. (is.0, is.1.0, is.1.1)) (λ p is. (is.0, (is.1, is.2))) (λ v. refl)
    (both_read host_law λ _ _. both_read u64_read λ _ _. last_read row_law)

pub peer_law : IsRead IsPeer peer_field peer_at
unfolding peer_at peer_field
peer_law =
    mapped_read IsPeer peer_field
    (λ v. record { next = v.0; floor = v.1.0; closed = v.1.1.0; wait = v.1.1.1.0; stage_next = v.1.1.1.1.0; stage_got = v.1.1.1.1.1 })
    (λ p. (p.next, (p.floor, (p.closed, (p.wait, (p.stage_next, p.stage_got))))))
    (λ p. refl)
    (λ v is. (is.0, is.1.0, is.1.1.0, is.1.1.1.0, is.1.1.1.1.0, is.1.1.1.1.1))
    (λ p is. (is.0, (is.1, (is.2, (is.3, (is.4, is.5))))))
    (λ v. refl)
    (both_read u64_read λ _ _. both_read u64_read λ _ _. both_read (many_law u64_read) λ _ _. both_read u64_read λ _ _. both_read u64_read λ _ _.
    last_read u64_read)

-- as mapped_read, where a value is made again of its parts if it may stand
made_read : {A B : Type 0} {IsA : A → Type 0} {fa : A → List ℕ} {ra : Reading A} (IsB : B → Type 0) (fb : B → List ℕ) (make : A → B) (part : B → A)
    → ((b : B) → IsB b → make (part b) ≡ b) → ((a : A) → IsA a → IsB (make a)) → ((b : B) → IsB b → IsA (part b)) → ((a : A) → fb (make a) ≡ fa a)
    → IsRead IsA fa ra → IsRead IsB fb (mapped make ra)
made_read {A} {B} {IsA} {fa} {ra} IsB fb make part again to from spelled one = record {
  found = λ bytes place value next fits e.
      let a = bound (ra bytes place) (λ a. Ok (make a.0, a.1)) (value, next) e in
      let here = one.found bytes place a.0.0 a.0.1 fits a.1 in
      subst (Found IsB fb bytes place) (sym (given (make a.0.0, a.0.1) (value, next) a.2))
      (to a.0.0 here.0, subst (λ (l : List ℕ). Stands bytes place l a.0.1) (sym (spelled a.0.0)) here.1);
  taken = λ bytes rest place value fits is_value is.
      let whole = again value is_value in
      let same : fb value ≡ fa (part value) = ap fb (sym whole) ∙ spelled (part value) in
      let here = one.taken bytes rest place (part value) fits (from value is_value) (is ∙ ap (λ (l : List ℕ). l ++ rest) same) in
      bind (ra bytes place) _ _ _ here (λ j. Ok (whole j, place + length (sym same j)));
}

closed_again : (n : ℕ) → closed_up_to (alone_above n) ≡ n
closed_again zero = refl
closed_again (suc n) = refl

-- the numbers of an old peer
abbrev old_fields : Peer → OldPeerFields
old_fields p = (p.next, (closed_up_to p.closed, (p.wait, (p.stage_next, p.stage_got))))

renewed_again : (p : Peer) → IsOldPeer p → renewed (old_fields p) ≡ p
renewed_again p is =
    λ j. record { next = p.next; floor = sym is.1.1 j; closed = sym is.1.2 j; wait = p.wait; stage_next = p.stage_next; stage_got = p.stage_got }

-- the numbers have 64 bits each
abbrev AreOldFields : OldPeerFields → Type 0
AreOldFields v = IsU64 v.0 × (IsU64 v.1.0 × (IsU64 v.1.1.0 × (IsU64 v.1.1.1.0 × IsU64 v.1.1.1.1)))

renewed_stands : (v : OldPeerFields) → AreOldFields v → IsOldPeer (renewed v)
renewed_stands v is =
    let again = sym (closed_again v.1.0) in (
      is.0,
      (subst IsU64 again is.1.0, ap floor_below again, ap alone_above again),
      is.1.1.0,
      is.1.1.1.0,
      is.1.1.1.1,
    )

pub old_peer_law : IsRead IsOldPeer old_peer_field old_peer_at
unfolding old_peer_at old_peer_field
old_peer_law =
    made_read IsOldPeer old_peer_field renewed old_fields renewed_again renewed_stands
    (λ p is. (is.0, (is.1.0, (is.2, (is.3, is.4)))))
    (λ v. ap (λ (n : ℕ). fields (u64_field v.0 ∷ u64_field n ∷ u64_field v.1.1.0 ∷ u64_field v.1.1.1.0 ∷ u64_field v.1.1.1.1 ∷ [])) (closed_again v.1.0))
    (both_read u64_read λ _ _. both_read u64_read λ _ _. both_read u64_read λ _ _. both_read u64_read λ _ _. last_read u64_read)

pub stage_law : IsRead IsStage stage_field stage_at
unfolding stage_at stage_field
stage_law =
    mapped_read IsStage stage_field (λ v. record { peer = v.0; number = v.1.0; path = v.1.1.0; bytes = v.1.1.1 })
    (λ t. (t.peer, (t.number, (t.path, t.bytes))))
    (λ t. refl) (λ v is. (is.0, is.1.0, is.1.1.0, is.1.1.1)) (λ t is. (is.0, (is.1, (is.2, is.3)))) (λ v. refl)
    (both_read host_law λ _ _. both_read u64_read λ _ _. both_read path_read λ _ _. last_read output_law)

pub file_law : IsRead IsFile file_field file_at
unfolding file_at file_field
file_law =
    mapped_read IsFile file_field (λ v. record { number = v.0; path = v.1.0; bytes = v.1.1 }) (λ f. (f.number, (f.path, f.bytes)))
    (λ f. refl) (λ v is. (is.0, is.1.0, is.1.1)) (λ f is. (is.0, (is.1, is.2))) (λ v. refl)
    (both_read u64_read λ _ _. both_read path_read λ _ _. last_read output_law)
