-- What each step of a world keeps, a whole run keeps, whatever stops.
use Rattle.std.proofs.Common.{◌≡◌, ℕ, ◌+◌, Bool, true, false, cond, List, [], ◌∷◌, ◌++◌, map, filter, length, slice_get, Option, None, Some, zero, suc, refl}
use Rattle.std.proofs.Common.{sym, ap, subst, ◌∙◌, if◌then◌else◌}
use Rattle.std.proofs.lemmas.Bool.{and_parts}
use Rattle.std.proofs.lemmas.List.{append_assoc, append-nil, length-append, map-append}
use Rattle.std.proofs.lemmas.Option.{same_Some, none-some, slice_get-map}
use Rattle.std.specs.Option.{option_map}
use Rattle.std.specs.List.{filter_map, list_all}
use Rattle.nqs_state.specs.State.{Plain}
use Rattle.nqs_base_tables.specs.Table.{best_from}
use Rattle.nqs_rules.specs.Edits.{change_at}
use Rattle.nqs_rules.specs.Applied.{applied}
use Rattle.nqs_rules.specs.Sane.{is_sane_event}
use Rattle.nqs_rules.specs.Starts.{after_change}
use Rattle.nqs_rules.specs.Step.{step}
use Rattle.nqs_rules.specs.Start.{start}
use Rattle.nqs_rules.specs.Stepped.{Stepped, shown, stored_parts}
use Rattle.nqs_rules.specs.World.{World, Host, Ran, Fate, Made, StoppedBefore, StoppedAfter, Act, Asks, Ends, Finishes, Fails, Writes, Leaves, Delivers, Newest}
use Rattle.nqs_rules.specs.World.{Ticks, Clock, Fuse, Crashes, Boots, Shows, fate, host_of, put_host, then_noted, then_ran, seeing, unseen, stopped, used}
use Rattle.nqs_rules.specs.World.{ready, cut_off, recorded}
use Rattle.nqs_rules.specs.World.{seen_output, sent_by, emits, change_fated, makes_change, carries_out, steps, starts, all_starts, left_of}
use Rattle.nqs_rules.specs.World.{halted_host, halts, takes_up}
use Rattle.nqs_rules.specs.World.{taken_by, takes, finishes, finishes_up, delivers, packet_at, last_of, is_between, newest_between, boot_output, boots_down}
use Rattle.nqs_rules.specs.World.{boots, crashes_up, fused_host, fuses}
use Rattle.nqs_rules.specs.Run.{states_of, happens, run}
use Rattle.nqs_rules.specs.Notes.{Why, ByEvent, ByStart, ByBoot, Note, Saw, Kept, saws}
pub use Rattle.nqs_laws.specs.Outputs.{sent_in, seen_from}
use Rattle.nqs_laws.specs.Sane.{is_sane_act, AreSane}
use Rattle.nqs_types.specs.declared.ids.HostId.{HostId}
use Rattle.nqs_types.specs.declared.request.Row.{Row}
use Rattle.nqs_types.specs.declared.message.Message.{Message}
use Rattle.nqs_types.specs.declared.change.Change.{Change}
use Rattle.nqs_types.specs.declared.change.Change.TheVariants.{Boot}
use Rattle.nqs_types.specs.declared.event.Event.{Event}
use Rattle.nqs_types.specs.declared.event.Event.TheVariants as event
use Rattle.nqs_types.specs.declared.event.Output.{Output}
use Rattle.nqs_types.specs.declared.world.Seen.{Seen}
use Rattle.nqs_state.specs.Least.{runs_now, is_less_row}
use Rattle.nqs_types.specs.declared.world.Seen.TheVariants as seen

-- what laws look at: the states of the hosts, all packets ever sent, and what happened so far
pub record Moment : Type 0 where
  pub states : List Plain
  pub packets : List Message
  pub notes : List Note

abbrev pub moment : World → List Note → Moment
moment w ns = record { states = states_of w; packets = w.packets; notes = ns }

abbrev pub put_state : HostId → Plain → List Plain → List Plain
put_state h s states = change_at h.0 (λ _. s) states

abbrev pub WasSent : Message → List Message → Type 0
WasSent m packets = (k : ℕ) × (slice_get packets k ≡ Some m)

-- what may come to a host: a packet that was sent to it, or what is within its limits
abbrev pub Comes : List Message → HostId → Event → Type 0
Comes packets h (event.Arrived now m) = (m.to ≡ h) × WasSent m packets
Comes packets h e = is_sane_event 0 e ≡ true

-- why a host does something
pub data Way (packets : List Message) (h : HostId) (s : Plain) : Type 0 where
  Taken : (e : Event) → Comes packets h e → Way packets h s
  Begun : (now : ℕ) → (x : Stepped (List ℕ)) → start now s ≡ Some x → Way packets h s
  Booted : Way packets h s

module _ {packets : List Message} {h : HostId} {s : Plain} where
  abbrev pub change_by : Way packets h s → Option (Change (List ℕ))
  change_by (Taken e c) = (step e s).change
  change_by (Begun now x e) = x.change
  change_by Booted = Some Boot

  abbrev pub outputs_by : Way packets h s → List Output
  outputs_by (Taken e c) = map shown (step e s).outputs
  outputs_by (Begun now x e) = map shown x.outputs
  outputs_by Booted = filter_map boot_output s.rows

  abbrev pub first_by : Way packets h s → List Seen
  first_by (Taken e c) = []
  first_by (Begun now x e) = []
  first_by Booted = seen.Boot h ∷ []

abbrev pub why_by : {packets : List Message} {h : HostId} {s : Plain} → Way packets h s → Why
why_by (Taken e c) = ByEvent e
why_by (Begun now x e) = ByStart
why_by Booted = ByBoot

abbrev pub kept_of : HostId → Why → Option (Change (List ℕ)) → List Note
kept_of h why None = []
kept_of h why (Some c) = Kept h why c ∷ []

-- what nothing is done for
abbrev pub IsIdle : Seen → Type 0
IsIdle (seen.Stop h) = Unit {0}
IsIdle (seen.Down h) = Unit {0}
IsIdle (seen.Up h) = Unit {0}
IsIdle (seen.Idle h) = Unit {0}
IsIdle (seen.NoPacket k) = Unit {0}
IsIdle (seen.Table rows) = Unit {0}
IsIdle _ = ⊥

abbrev pub noted : Moment → List Note → Moment
noted m ns = record { states = m.states; packets = m.packets; notes = m.notes ++ ns }

-- a change is kept, and nothing goes out
abbrev pub silent : Moment → HostId → Plain → Why → Change (List ℕ) → Moment
silent m h s why c = record { states = put_state h (applied c s) m.states; packets = m.packets; notes = m.notes ++ Kept h why c ∷ [] }

abbrev pub notes_by : {packets : List Message} {s : Plain} → (h : HostId) → ℕ → Way packets h s → List Note
notes_by h n way = kept_of h (why_by way) (change_by way) ++ saws (first_by way ++ seen_from h n (outputs_by way))

-- all is done
abbrev pub whole : {packets : List Message} → Moment → (h : HostId) → (s : Plain) → Way packets h s → Moment
whole m h s way = record {
  states = put_state h (after_change (change_by way) s) m.states;
  packets = m.packets ++ sent_in (outputs_by way);
  notes = m.notes ++ notes_by h (length m.packets) way;
}

-- what each step keeps
pub record Frames (P : Moment → Type 0) : Type 0 where
  pub idle : (m : Moment) (x : Seen) → IsIdle x → P m → P (noted m (Saw x ∷ []))
  pub kept : (m : Moment) (h : HostId) (s : Plain) → slice_get m.states h.0 ≡ Some s → (way : Way m.packets h s) (c : Change (List ℕ)) → change_by way ≡ Some c
      → P m → P (silent m h s (why_by way) c)
  pub made : (m : Moment) (h : HostId) (s : Plain) → slice_get m.states h.0 ≡ Some s → (way : Way m.packets h s) → P m → P (whole m h s way)

-- a change is kept, and the host stops right behind it
abbrev pub cut : Moment → HostId → Plain → Why → Change (List ℕ) → Moment
cut m h s why c = noted (silent m h s why c) (Saw (seen.Stop h) ∷ [])

-- what each step keeps, where a kept change goes with the stop behind it
pub record Steps (P : Moment → Type 0) : Type 0 where
  pub idle : (m : Moment) (x : Seen) → IsIdle x → P m → P (noted m (Saw x ∷ []))
  pub stopped : (m : Moment) (h : HostId) (s : Plain) → slice_get m.states h.0 ≡ Some s → (way : Way m.packets h s) (c : Change (List ℕ))
      → change_by way ≡ Some c → P m → P (cut m h s (why_by way) c)
  pub made : (m : Moment) (h : HostId) (s : Plain) → slice_get m.states h.0 ≡ Some s → (way : Way m.packets h s) → P m → P (whole m h s way)

pub steps_of : (P : Moment → Type 0) → Frames P → Steps P
steps_of P f = record {
  idle = f.idle;
  stopped = λ m h s there way c e p. f.idle (silent m h s (why_by way) c) (seen.Stop h) tt (f.kept m h s there way c e p);
  made = f.made;
}

-- lists of hosts

pub put-same : {V : Type 0} (n : ℕ) (v : V) (vs : List V) → slice_get vs n ≡ Some v → change_at n (λ _. v) vs ≡ vs
put-same n v [] e = refl
put-same zero v (x ∷ vs) e = ap (λ y. y ∷ vs) (sym (same_Some x v e))
put-same (suc n) v (x ∷ vs) e = ap (λ l. x ∷ l) (put-same n v vs e)

pub map-at : {V W : Type 0} (m : V → W) (n : ℕ) (f : V → V) (g : W → W) → ((v : V) → m (f v) ≡ g (m v)) → (vs : List V)
    → map m (change_at n f vs) ≡ change_at n g (map m vs)
map-at m n f g same [] = refl
map-at m zero f g same (v ∷ vs) = ap (λ y. y ∷ map m vs) (same v)
map-at m (suc n) f g same (v ∷ vs) = ap (λ l. m v ∷ l) (map-at m n f g same vs)

at-id : {V : Type 0} (n : ℕ) (vs : List V) → change_at n (λ v. v) vs ≡ vs
at-id n [] = refl
at-id zero (v ∷ vs) = refl
at-id (suc n) (v ∷ vs) = ap (λ l. v ∷ l) (at-id n vs)

abbrev pub state_in : Host → Plain
state_in host = host.state

put_states : (h : HostId) (host : Host) (w : World) → states_of (put_host h host w) ≡ put_state h host.state (states_of w)
put_states h host w = map-at state_in h.0 (λ _. host) (λ _. host.state) (λ v. refl) w.hosts

pub state_at : (h : HostId) (host : Host) (w : World) → host_of h w ≡ Some host → slice_get (states_of w) h.0 ≡ Some host.state
state_at h host w e = slice_get-map state_in w.hosts h.0 ∙ ap (option_map state_in) e

-- a host that stops with its state, whatever else its disks hold
stop_states : (h : HostId) (host left : Host) (w : World) → host_of h w ≡ Some host → states_of (put_host h (stopped host.state left) w) ≡ states_of w
stop_states h host left w e = put_states h (stopped host.state left) w ∙ put-same h.0 host.state (states_of w) (state_at h host w e)

-- outputs

-- things seen in two parts
pub saws-append : (a b : List Seen) → saws (a ++ b) ≡ saws a ++ saws b
saws-append a b = map-append Saw a b

pub emits_notes : (h : HostId) (os : List Output) (w : World) → (emits h os w).notes ≡ saws (seen_from h (length w.packets) os)
emits_notes h [] w = refl
emits_notes h (o ∷ os) w = ap (λ l. saws (seen_output h (length w.packets + 1) o) ++ l)
    (emits_notes h os (record w { packets = w.packets ++ sent_by o }) ∙ ap (λ n. saws (seen_from h n os)) (length-append w.packets (sent_by o)))
    ∙ sym (saws-append (seen_output h (length w.packets + 1) o) (seen_from h (length w.packets + length (sent_by o)) os))

pub emits_world : (h : HostId) (os : List Output) (w : World) → (emits h os w).world ≡ record w { packets = w.packets ++ sent_in os }
emits_world h [] w = λ j. record w { packets = sym (append-nil w.packets) j }
emits_world h (o ∷ os) w = emits_world h os (record w { packets = w.packets ++ sent_by o })
    ∙ (λ j. record w { packets = append_assoc w.packets (sent_by o) (sent_in os) j })

-- packets

pub was_first : {V : Type 0} (t : V → Bool) (vs : List V) (v : V) → last_of (filter t vs) ≡ Some v → (k : ℕ) × (slice_get vs k ≡ Some v)
was_first t [] v e = absurd (none-some v e)
was_first t (x ∷ vs) v e = by (t x) e (was_first t vs v)
  where
    next : (k : ℕ) × (slice_get vs k ≡ Some v) → (k : ℕ) × (slice_get (x ∷ vs) k ≡ Some v)
    next (k, at) = (suc k, at)

    of : (ys : List _) → last_of (x ∷ ys) ≡ Some v → (last_of ys ≡ Some v → (k : ℕ) × (slice_get vs k ≡ Some v)) → (k : ℕ) × (slice_get (x ∷ vs) k ≡ Some v)
    of [] e rest = (0, e)
    of (y ∷ ys) e rest = next (rest e)

    by : (b : Bool) → last_of (cond b (x ∷ filter t vs) (filter t vs)) ≡ Some v → (last_of (filter t vs) ≡ Some v → (k : ℕ) × (slice_get vs k ≡ Some v))
        → (k : ℕ) × (slice_get (x ∷ vs) k ≡ Some v)
    by true e rest = of (filter t vs) e rest
    by false e rest = next (rest e)

pub packet_sent : (k : ℕ) (w : World) (m : Message) → packet_at k w ≡ Some m → WasSent m w.packets
packet_sent zero w m e = absurd (none-some m e)
packet_sent (suc k) w m e = (k, e)

abbrev pub world_of : Ran → World
world_of r = r.world

module _ (P : Moment → Type 0) (f : Steps P) where
  -- what is known of a world, and of what was noted until then
  abbrev pub After : World → List Note → Type 0
  After w ns = P (moment w ns)

  -- what is known after something, behind such notes
  abbrev pub Then : List Note → Ran → Type 0
  Then ns r = After r.world (ns ++ r.notes)

  -- one thing after the other
  parts : (ns : List Note) (r : Ran) (g : World → Ran) → Then (ns ++ r.notes) (g r.world) → Then ns (then_ran r g)
  parts ns r g p = subst (λ l. After (g r.world).world l) (append_assoc ns r.notes (g r.world).notes) p

  nothing : (w : World) (ns : List Note) → After w ns → Then ns (unseen w)
  nothing w ns p = subst (λ l. After w l) (sym (append-nil ns)) p

  -- a change or none, and what goes out

  abbrev does : HostId → Host → Why → Option (Change (List ℕ)) → List Seen → List Output → World → Ran
  does h host why None first os w = then_noted (saws first) (emits h os w)
  does h host why (Some c) first os w = makes_change h host why c first os w

  module _ (w : World) (ns : List Note) (h : HostId) (host : Host) (there : host_of h w ≡ Some host) (way : Way w.packets h host.state) (p : After w ns) where
    abbrev at : slice_get (states_of w) h.0 ≡ Some host.state
    at = state_at h host w there

    done : P (whole (moment w ns) h host.state way)
    done = f.made (moment w ns) h host.state at way p

    -- what is seen of the outputs, as it is noted
    told : (v : World) → saws (first_by way ++ seen_from h (length v.packets) (outputs_by way)) ≡ saws (first_by way) ++ (emits h (outputs_by way) v).notes
    told v = saws-append (first_by way) (seen_from h (length v.packets) (outputs_by way))
        ∙ ap (λ l. saws (first_by way) ++ l) (sym (emits_notes h (outputs_by way) v))

    fated : (x : Fate) (c : Change (List ℕ)) → change_by way ≡ Some c → Then ns (change_fated x h host (why_by way) c (first_by way) (outputs_by way) w)
    fated Made c e =
        let v : World = put_host h (used (stored_parts c) (applied c host.state) host) w in
        let states : put_state h (after_change (change_by way) host.state) (states_of w) ≡ states_of v =
        ap (λ o. put_state h (after_change o host.state) (states_of w)) e ∙ sym (put_states h (used (stored_parts c) (applied c host.state) host) w) in
        let world = emits_world h (outputs_by way) v in
        let notes = told v in
        subst P
        ((λ j. record {
          states = states j;
          packets = w.packets ++ sent_in (outputs_by way);
          notes =
              ns ++ (kept_of h (why_by way) (e j) ++ notes j);
        })
        ∙ (λ j. moment (sym world j) (ns ++ (Kept h (why_by way) c ∷ (saws (first_by way) ++ (emits h (outputs_by way) v).notes)))))
        done
    fated StoppedBefore c e =
        subst (λ l. P (record { states = l; packets = w.packets; notes = ns ++ Saw (seen.Stop h) ∷ [] })) (sym (stop_states h host (cut_off host) w there))
        (f.idle (moment w ns) (seen.Stop h) tt p)
    fated StoppedAfter c e =
        let new : Host = stopped (applied c host.state) (recorded (ready host)) in
        subst P (λ j. record {
          states = sym (put_states h new w) j;
          packets = w.packets;
          notes =
              append_assoc ns (Kept h (why_by way) c ∷ []) (Saw (seen.Stop h) ∷ []) j;
        })
        (f.stopped (moment w ns) h host.state at way c e p)

    pub does_kept : (o : Option (Change (List ℕ))) → change_by way ≡ o → Then ns (does h host (why_by way) o (first_by way) (outputs_by way) w)
    does_kept (Some c) e = fated (fate (stored_parts c) host) c e
    does_kept None e =
        let states : put_state h (after_change (change_by way) host.state) (states_of w) ≡ states_of w =
        ap (λ o. put_state h (after_change o host.state) (states_of w)) e ∙ put-same h.0 host.state (states_of w) at in
        let world = emits_world h (outputs_by way) w in
        let notes = told w in
        subst P
        ((λ j. record {
          states = states j;
          packets = w.packets ++ sent_in (outputs_by way);
          notes =
              ns ++ (kept_of h (why_by way) (e j) ++ notes j);
        })
        ∙ (λ j. moment (sym world j) (ns ++ (saws (first_by way) ++ (emits h (outputs_by way) w).notes))))
        done

  -- a step

  pub step_kept : (w : World) (ns : List Note) (h : HostId) (host : Host) → host_of h w ≡ Some host → (e : Event) → Comes w.packets h e → After w ns
      → Then ns (steps h host (ByEvent e) (step e host.state) w)
  step_kept w ns h host there e comes p = by (step e host.state).change refl
    where
      by : (o : Option (Change (List ℕ))) → (step e host.state).change ≡ o
          → Then ns (carries_out h host (ByEvent e) o (map shown (step e host.state).outputs) w)
      by None k = does_kept w ns h host there (Taken e comes) p None k
      by (Some c) k = does_kept w ns h host there (Taken e comes) p (Some c) k

  pub begin_kept : (w : World) (ns : List Note) (h : HostId) (host : Host) → host_of h w ≡ Some host → (x : Stepped (List ℕ)) → start w.now host.state ≡ Some x
      → After w ns → Then ns (steps h host ByStart x w)
  begin_kept w ns h host there x e p = by x.change refl
    where
      by : (o : Option (Change (List ℕ))) → x.change ≡ o → Then ns (carries_out h host ByStart o (map shown x.outputs) w)
      by None k = does_kept w ns h host there (Begun w.now x e) p None k
      by (Some c) k = does_kept w ns h host there (Begun w.now x e) p (Some c) k

  -- starts

  starts_kept : (n : ℕ) (h : HostId) (w : World) (ns : List Note) → After w ns → Then ns (starts n h w)
  starts_kept zero h w ns p = nothing w ns p
  starts_kept (suc n) h w ns p = of (host_of h w) refl (starts_kept n h)
    where
      by : (host : Host) → host_of h w ≡ Some host → (up : Bool) (o : Option (Stepped (List ℕ))) → start w.now host.state ≡ o
          → ((v : World) (ms : List Note) → After v ms → Then ms (starts n h v))
          → Then ns (elim up [
            | false ↦ unseen w
            | true ↦ elim o [
              | None ↦ unseen w
              | Some s ↦ (let r = steps h host ByStart s w in then_noted r.notes (starts n h r.world))
            ]
          ])
      by host there false o e rest = nothing w ns p
      by host there true None e rest = nothing w ns p
      by host there true (Some s) e rest =
          let r : Ran = steps h host ByStart s w in parts ns r (starts n h) (rest r.world (ns ++ r.notes) (begin_kept w ns h host there s e p))

      of : (o : Option Host) → host_of h w ≡ o → ((v : World) (ms : List Note) → After v ms → Then ms (starts n h v))
          → Then ns (elim o [
            | None ↦ unseen w
            | Some host ↦ elim host.up [
              | false ↦ unseen w
              | true ↦ elim (start w.now host.state) [
                | None ↦ unseen w
                | Some s ↦ (let r = steps h host ByStart s w in then_noted r.notes (starts n h r.world))
              ]
            ]
          ])
      of None e rest = nothing w ns p
      of (Some host) e rest = by host e host.up (start w.now host.state) refl rest

  all_starts_kept : (h : HostId) (w : World) (ns : List Note) → After w ns → Then ns (all_starts h w)
  all_starts_kept h w ns p = starts_kept (left_of (host_of h w)) h w ns p

  -- stops

  stop_kept : (w : World) (ns : List Note) (h : HostId) (host : Host) → host_of h w ≡ Some host → After w ns → Then ns (crashes_up h host w)
  stop_kept w ns h host there p = subst (λ l. P (record { states = l; packets = w.packets; notes = ns ++ Saw (seen.Stop h) ∷ [] }))
      (sym (stop_states h host host w there)) (f.idle (moment w ns) (seen.Stop h) tt p)

  halts_kept : (b : Bool) (h : HostId) (w : World) (ns : List Note) → After w ns → Then ns (halts b h w)
  halts_kept false h w ns p = nothing w ns p
  halts_kept true h w ns p = of (host_of h w) refl
    where
      by : (host : Host) → host_of h w ≡ Some host → (up : Bool)
          → Then ns (if up then seeing (seen.Stop h) (put_host h (stopped host.state host) w) else unseen w)
      by host there true = stop_kept w ns h host there p
      by host there false = nothing w ns p

      of : (o : Option Host) → host_of h w ≡ o → Then ns (halted_host h o w)
      of None e = nothing w ns p
      of (Some host) e = by host e host.up

  -- events

  event_kept : (w : World) (ns : List Note) (h : HostId) (host : Host) → host_of h w ≡ Some host → (e : Event) → Comes w.packets h e → After w ns
      → Then ns (takes_up h host e w)
  event_kept w ns h host there e comes p =
      let r : Ran = steps h host (ByEvent e) (step e host.state) w in
      let u : Ran = then_ran r (all_starts h) in
      let started : Then ns u = parts ns r (all_starts h) (all_starts_kept h r.world (ns ++ r.notes) (step_kept w ns h host there e comes p)) in
      parts ns u (halts (step e host.state).halts h) (halts_kept (step e host.state).halts h u.world (ns ++ u.notes) started)

  -- a host that is down takes nothing
  taken_kept : (w : World) (ns : List Note) (h : HostId) (g : Host → World → Ran) → After w ns
      → ((host : Host) → host_of h w ≡ Some host → Then ns (g host w)) → Then ns (taken_by (host_of h w) h g w)
  taken_kept w ns h g p done = of (host_of h w) refl
    where
      by : (host : Host) → host_of h w ≡ Some host → (up : Bool) → Then ns (if up then g host w else seeing (seen.Down h) w)
      by host there true = done host there
      by host there false = f.idle (moment w ns) (seen.Down h) tt p

      of : (o : Option Host) → host_of h w ≡ o → Then ns (taken_by o h g w)
      of None e = nothing w ns p
      of (Some host) e = by host e host.up

  takes_kept : (w : World) (ns : List Note) (h : HostId) (e : Event) → Comes w.packets h e → After w ns → Then ns (takes h e w)
  takes_kept w ns h e comes p = taken_kept w ns h (λ host. takes_up h host e) p (λ host there. event_kept w ns h host there e comes p)

  finishes_kept : (w : World) (ns : List Note) (h : HostId) (host : Host) → host_of h w ≡ Some host → After w ns → (o : Option (ℕ × Row (List ℕ)))
      → Then ns (finishes h host o w)
  finishes_kept w ns h host there p None = f.idle (moment w ns) (seen.Idle h) tt p
  finishes_kept w ns h host there p (Some q) = event_kept w ns h host there (event.Ended w.now 0 q.1.id q.1.starts 0 [] []) refl p

  delivers_kept : (w : World) (ns : List Note) (k : Option ℕ) (o : Option Message) → ((m : Message) → o ≡ Some m → WasSent m w.packets) → After w ns
      → Then ns (delivers k o w)
  delivers_kept w ns k None sent p = f.idle (moment w ns) (seen.NoPacket k) tt p
  delivers_kept w ns k (Some m) sent p = takes_kept w ns m.to (event.Arrived w.now m) (refl, sent m refl) p

  boots_kept : (w : World) (ns : List Note) (h : HostId) → After w ns → Then ns (boots h (host_of h w) w)
  boots_kept w ns h p = of (host_of h w) refl
    where
      down : (host : Host) → host_of h w ≡ Some host → Then ns (boots_down h host w)
      down host there =
          let r : Ran = makes_change h host ByBoot Boot (seen.Boot h ∷ []) (filter_map boot_output host.state.rows) w in
          parts ns r (all_starts h) (all_starts_kept h r.world (ns ++ r.notes) (does_kept w ns h host there Booted p (Some Boot) refl))

      by : (host : Host) → host_of h w ≡ Some host → (up : Bool) → Then ns (if up then seeing (seen.Up h) w else boots_down h host w)
      by host there true = f.idle (moment w ns) (seen.Up h) tt p
      by host there false = down host there

      of : (o : Option Host) → host_of h w ≡ o → Then ns (boots h o w)
      of None e = nothing w ns p
      of (Some host) e = by host e host.up

  happens_kept : (a : Act) (w : World) (ns : List Note) → is_sane_act a ≡ true → After w ns → Then ns (happens a w)
  happens_kept (Asks h user c) w ns sane p = takes_kept w ns h (event.Ask w.now 0 0 user c) sane p
  happens_kept (Ends h id start status output error) w ns sane p = takes_kept w ns h (event.Ended w.now 0 id start status output error) sane p
  happens_kept (Finishes h) w ns sane p = taken_kept w ns h (finishes_up h) p
      (λ host there. finishes_kept w ns h host there p (best_from runs_now is_less_row 0 host.state.rows))
  happens_kept (Fails h id start) w ns sane p = takes_kept w ns h (event.Unlaunched w.now id start) refl p
  happens_kept (Writes h file) w ns sane p = takes_kept w ns h (event.Written w.now file) refl p
  happens_kept (Leaves h file) w ns sane p = takes_kept w ns h (event.Unwritten w.now file) refl p
  happens_kept (Delivers k) w ns sane p = delivers_kept w ns (Some k) (packet_at k w) (λ m e. packet_sent k w m e) p
  happens_kept (Newest a b) w ns sane p = delivers_kept w ns None (newest_between a b w) (λ m e. was_first (is_between a b) w.packets m e) p
  happens_kept (Ticks h) w ns sane p = takes_kept w ns h (event.Tick w.now) refl p
  happens_kept (Clock n) w ns sane p = nothing (record w { now = n }) ns p
  happens_kept (Fuse h disk calls tear) w ns sane p =
      nothing (fuses h disk calls tear w) ns (subst (λ l. P (record { states = l; packets = w.packets; notes = ns }))
      (sym (map-at state_in h.0 (fused_host disk calls tear) (λ s. s) (λ v. refl) w.hosts ∙ at-id h.0 (states_of w))) p)
  happens_kept (Crashes h) w ns sane p = taken_kept w ns h (crashes_up h) p (λ host there. stop_kept w ns h host there p)
  happens_kept (Boots h) w ns sane p = boots_kept w ns h p
  happens_kept Shows w ns sane p = f.idle (moment w ns) _ tt p

  -- and so does each run
  pub run_kept : (acts : List Act) (w : World) (ns : List Note) → AreSane acts → After w ns → Then ns (run acts w)
  run_kept [] w ns sane p = nothing w ns p
  run_kept (a ∷ acts) w ns sane p =
      let sane_each = and_parts (is_sane_act a) (list_all is_sane_act acts) sane in
      let r : Ran = happens a w in
      parts ns r (run acts) (run_kept acts r.world (ns ++ r.notes) sane_each.1 (happens_kept a w ns sane_each.0 p))
