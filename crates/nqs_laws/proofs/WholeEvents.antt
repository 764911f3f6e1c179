-- What a whole event makes of the packets and of its host, where no fuse falls within it.
use Rattle.std.proofs.Common.{◌≡◌, ℕ, ◌+◌, Bool, true, false, List, [], ◌∷◌, ◌++◌, map, length, slice_get, Option, None, Some, true≢false, zero, suc, refl, sym}
use Rattle.std.proofs.Common.{ap, subst, ◌∙◌, arith, if◌then◌else◌}
use Rattle.std.proofs.lemmas.List.{append_assoc, append-nil}
use Rattle.std.proofs.lemmas.Option.{same_Some, none-some, slice_get-map}
use Rattle.std.specs.Option.{option_map}
use Rattle.nqs_state.specs.State.{Plain}
use Rattle.nqs_types.specs.declared.ids.HostId.{HostId}
use Rattle.nqs_types.specs.declared.message.Message.{Message}
use Rattle.nqs_types.specs.declared.change.Change.{Change}
use Rattle.nqs_types.specs.declared.event.Event.{Event}
use Rattle.nqs_types.specs.declared.event.Output.{Output}
use Rattle.nqs_rules.specs.Tests.{passes}
use Rattle.nqs_rules.specs.Applied.{applied}
use Rattle.nqs_rules.specs.InOrder.{IsInOrder}
use Rattle.nqs_rules.specs.Starts.{after_change, after_step}
use Rattle.nqs_rules.specs.Step.{step}
use Rattle.nqs_rules.specs.Start.{start}
use Rattle.nqs_rules.specs.Stepped.{Stepped, shown, stored_parts}
use Rattle.nqs_rules.specs.World.{World, Host, Fate, Made, StoppedBefore, StoppedAfter, fate, host_of, put_host, then_noted, seeing, unseen, stopped, used}
use Rattle.nqs_rules.specs.World.{ready, cut_off, recorded}
use Rattle.nqs_rules.specs.World.{emits, change_fated, carries_out, steps, starts, all_starts, left_of, halts, takes_up, taken_by, takes, packet_at}
use Rattle.nqs_types.specs.declared.world.Seen.TheVariants as seen
use Rattle.nqs_rules.specs.Notes.{Why, Note, ByEvent, ByStart}
use Rattle.nqs_laws.specs.Handovers.{IsStateOf}
use Rattle.nqs_laws.specs.Sending.{Sends}
use Rattle.nqs_laws.specs.Whole.{is_up, WasSentBetween}
use Rattle.nqs_laws.proofs.Frame.{moment, Comes, sent_in, world_of, state_in, emits_world, steps_of, step_kept, begin_kept}
use Rattle.nqs_laws.proofs.Sound.{IsSound, sound_frames, get-here}

-- the state of a host
pub state_of_host : (h : HostId) (w : World) (host : Host) (s : Plain) → host_of h w ≡ Some host → IsStateOf w h s → s ≡ host.state
state_of_host h w host s there at = same_Some s host.state (sym at ∙ (slice_get-map state_in w.hosts h.0 ∙ ap (option_map state_in) there))

-- one change, or none, and what goes out

-- the packets after it are those before and these
abbrev pub More : World → World → Type 0
More w v = (more : List Message) × (v.packets ≡ w.packets ++ more)

more_none : (w : World) → More w w
more_none w = ([], sym (append-nil w.packets))

more_more : (u v w : World) → More u v → More v w → More u w
more_more u v w a b = (a.0 ++ b.0, b.1 ∙ (ap (λ l. l ++ b.0) a.1 ∙ append_assoc u.packets a.0 b.0))

-- what a host has done where it is still up
pub record Did (w v : World) (h : HostId) (s : Plain) (x : Stepped (List ℕ)) : Type 0 where
  pub packets : v.packets ≡ w.packets ++ sent_in (map shown x.outputs)
  pub host : Host
  pub there : host_of h v ≡ Some host
  pub is : host.state ≡ after_step x s

module _ (h : HostId) (w : World) (host : Host) (there : host_of h w ≡ Some host) where
  put_there : (new : Host) → host_of h (put_host h new w) ≡ Some new
  put_there new = get-here h.0 new host w.hosts there

  -- a host that stopped is down
  down : (s : Plain) (left : Host) → is_up h (put_host h (stopped s left) w) ≡ true → ⊥
  down s left up = true≢false (sym up ∙ ap (passes (λ (x : Host). x.up)) (put_there (stopped s left)))

  pub steps_did : (why : Why) (x : Stepped (List ℕ)) → is_up h (steps h host why x w).world ≡ true → Did w (steps h host why x w).world h host.state x
  steps_did why x up = of x.change up
    where
      os : List Output
      os = map shown x.outputs

      fated : (f : Fate) (c : Change (List ℕ)) → is_up h (change_fated f h host why c [] os w).world ≡ true
          → Did w (change_fated f h host why c [] os w).world h host.state (record { change = Some c; outputs = x.outputs; halts = x.halts })
      fated Made c up =
          let new : Host = used (stored_parts c) (applied c host.state) host in
          let v : World = put_host h new w in
          record {
            packets = ap (λ (u : World). u.packets) (emits_world h os v);
            host = new;
            there = ap (host_of h) (emits_world h os v)
                ∙ put_there new;
            is = refl;
          }
      fated StoppedBefore c up = absurd (down host.state (cut_off host) up)
      fated StoppedAfter c up = absurd (down (applied c host.state) (recorded (ready host)) up)

      of : (o : Option (Change (List ℕ))) → is_up h (carries_out h host why o os w).world ≡ true
          → Did w (carries_out h host why o os w).world h host.state (record { change = o; outputs = x.outputs; halts = x.halts })
      of None up = record {
        packets = ap (λ (u : World). u.packets) (emits_world h os w);
        host = host;
        there = ap (host_of h) (emits_world h os w)
            ∙ there;
        is = refl;
      }
      of (Some c) up = fated (fate (stored_parts c) host) c up

  -- whatever falls, packets stay, and the state is that before or that after
  pub steps_more : (why : Why) (x : Stepped (List ℕ)) → More w (steps h host why x w).world
  steps_more why x = of x.change
    where
      os : List Output
      os = map shown x.outputs

      fated : (f : Fate) (c : Change (List ℕ)) → More w (change_fated f h host why c [] os w).world
      fated Made c = (sent_in os, ap (λ (u : World). u.packets) (emits_world h os (put_host h (used (stored_parts c) (applied c host.state) host) w)))
      fated StoppedBefore c = more_none w
      fated StoppedAfter c = more_none w

      of : (o : Option (Change (List ℕ))) → More w (carries_out h host why o os w).world
      of None = (sent_in os, ap (λ (u : World). u.packets) (emits_world h os w))
      of (Some c) = fated (fate (stored_parts c) host) c

  pub steps_state : (why : Why) (x : Stepped (List ℕ)) (P : Plain → Type 0) → P host.state → P (after_step x host.state) → (s : Plain)
      → IsStateOf (steps h host why x w).world h s → P s
  steps_state why x P before behind s at = of x.change behind at
    where
      os : List Output
      os = map shown x.outputs

      at_host : (v : World) (new : Host) → host_of h v ≡ Some new → P new.state → IsStateOf v h s → P s
      at_host v new is p at = subst P (sym (state_of_host h v new s is at)) p

      fated : (f : Fate) (c : Change (List ℕ)) → P (applied c host.state) → IsStateOf (change_fated f h host why c [] os w).world h s → P s
      fated Made c p at =
          let new : Host = used (stored_parts c) (applied c host.state) host in
          let v : World = put_host h new w in
          at_host (emits h os v).world new (ap (host_of h) (emits_world h os v) ∙ put_there new) p at
      fated StoppedBefore c p at =
          let new : Host = stopped host.state (cut_off host) in
          at_host (put_host h new w) new (put_there new) before at
      fated StoppedAfter c p at =
          let new : Host = stopped (applied c host.state) (recorded (ready host)) in
          at_host (put_host h new w) new (put_there new) p at

      of : (o : Option (Change (List ℕ))) → P (after_change o host.state) → IsStateOf (carries_out h host why o os w).world h s → P s
      of None p at = at_host (emits h os w).world host (ap (host_of h) (emits_world h os w) ∙ there) p at
      of (Some c) p at = fated (fate (stored_parts c) host) c p at

-- starts

-- what a host that is up does next
abbrev pub begins : ℕ → HostId → Host → Bool → Option (Stepped (List ℕ)) → World → World
begins n h host up o w = world_of (elim up [
  | false ↦ unseen w
  | true ↦ elim o [
    | None ↦ unseen w
    | Some s ↦ (let r = steps h host ByStart s w in then_noted r.notes (starts n h r.world))
  ]
])

abbrev pub starts_of : ℕ → HostId → Option Host → World → World
starts_of n h o w = world_of (elim o [
  | None ↦ unseen w
  | Some host ↦ elim host.up [
    | false ↦ unseen w
    | true ↦ elim (start w.now host.state) [
      | None ↦ unseen w
      | Some s ↦ (let r = steps h host ByStart s w in then_noted r.notes (starts n h r.world))
    ]
  ]
])

-- a host that is down starts nothing
starts_down : (n : ℕ) (h : HostId) (w : World) → is_up h w ≡ false → (starts n h w).world ≡ w
starts_down zero h w no_up = refl
starts_down (suc n) h w no_up = of (host_of h w) no_up
  where
    by : (host : Host) (up : Bool) (o : Option (Stepped (List ℕ))) → up ≡ false → begins n h host up o w ≡ w
    by host false o e = refl
    by host true o e = absurd (true≢false e)

    of : (o : Option Host) → passes (λ (x : Host). x.up) o ≡ false → starts_of n h o w ≡ w
    of None e = refl
    of (Some host) e = by host host.up (start w.now host.state) e

pub up_before : (n : ℕ) (h : HostId) (w : World) → is_up h (starts n h w).world ≡ true → is_up h w ≡ true
up_before n h w up = by (is_up h w) refl
  where
    by : (b : Bool) → is_up h w ≡ b → b ≡ true
    by true e = refl
    by false e = absurd (true≢false (sym up ∙ (ap (is_up h) (starts_down n h w e) ∙ e)))

-- what each start keeps, all starts keep
module _ (site : List (List ℕ)) (h : HostId) (R : World → Type 0) (keeps : (w : World) (ns : List Note) → IsSound site (moment w ns) → (host : Host)
    → host_of h w ≡ Some host → (x : Stepped (List ℕ)) → start w.now host.state ≡ Some x → R w → R (steps h host ByStart x w).world) where
  pub starts_keep : (n : ℕ) (w : World) (ns : List Note) → IsSound site (moment w ns) → R w → R (starts n h w).world
  starts_keep zero w ns sound r = r
  starts_keep (suc n) w ns sound r = of (host_of h w) refl (starts_keep n)
    where
      by : (host : Host) → host_of h w ≡ Some host → (up : Bool) (o : Option (Stepped (List ℕ))) → start w.now host.state ≡ o
          → ((v : World) (ms : List Note) → IsSound site (moment v ms) → R v → R (starts n h v).world) → R (begins n h host up o w)
      by host there false o e rest = r
      by host there true None e rest = r
      by host there true (Some x) e rest = rest (steps h host ByStart x w).world (ns ++ (steps h host ByStart x w).notes)
          (begin_kept (IsSound site) (steps_of (IsSound site) (sound_frames site)) w ns h host there x e sound) (keeps w ns sound host there x e r)

      of : (o : Option Host) → host_of h w ≡ o → ((v : World) (ms : List Note) → IsSound site (moment v ms) → R v → R (starts n h v).world)
          → R (starts_of n h o w)
      of None e rest = r
      of (Some host) e rest = by host e host.up (start w.now host.state) refl rest

-- whole events

-- how a host took an event where it is still up: its step, and then its starts
pub record Took (site : List (List ℕ)) (w v : World) (h : HostId) (e : Event) : Type 0 where
  pub host : Host
  pub there : host_of h w ≡ Some host
  pub stepped : World
  pub did : Did w stepped h host.state (step e host.state)
  pub notes : List Note
  pub sound : IsSound site (moment stepped notes)
  pub then_started : v ≡ (all_starts h stepped).world

pub took : (site : List (List ℕ)) (w : World) (ns : List Note) → IsSound site (moment w ns) → (h : HostId) (e : Event) → Comes w.packets h e
    → ((s : Plain) → (step e s).halts ≡ false) → is_up h (takes h e w).world ≡ true → Took site w (takes h e w).world h e
took site w ns sound h e comes open_still up = of (host_of h w) refl up
  where
    ended : (host : Host) → (b : Bool) → b ≡ false → (v : World) → (halts b h v).world ≡ v
    ended host false k v = refl
    ended host true k v = absurd (true≢false k)

    taken : (host : Host) → host_of h w ≡ Some host → is_up h (takes_up h host e w).world ≡ true → Took site w (takes_up h host e w).world h e
    taken host there up =
        let x : Stepped (List ℕ) = step e host.state in
        let v : World = (steps h host (ByEvent e) x w).world in
        let after : (takes_up h host e w).world ≡ (all_starts h v).world =
        ended host (step e host.state).halts (open_still host.state) (all_starts h v).world in
        record {
          host = host;
          there = there;
          stepped = v;
          did = steps_did h w host there (ByEvent e) x (up_before (left_of (host_of h v)) h v (sym (ap (is_up h) after) ∙ up));
          notes = ns ++ (steps h host (ByEvent e) x w).notes;
          sound = step_kept (IsSound site) (steps_of (IsSound site) (sound_frames site)) w ns h host there e comes sound;
          then_started = after;
        }

    by : (host : Host) → host_of h w ≡ Some host → (b : Bool) → host.up ≡ b → is_up h (if b then takes_up h host e w else seeing (seen.Down h) w).world ≡ true
        → Took site w (if b then takes_up h host e w else seeing (seen.Down h) w).world h e
    by host there true k up = taken host there up
    by host there false k up = absurd (true≢false (sym up ∙ (ap (passes (λ (x : Host). x.up)) there ∙ k)))

    of : (o : Option Host) → host_of h w ≡ o → is_up h (taken_by o h (λ host. takes_up h host e) w).world ≡ true
        → Took site w (taken_by o h (λ host. takes_up h host e) w).world h e
    of None k up = absurd (true≢false (sym up ∙ ap (passes (λ (x : Host). x.up)) k))
    of (Some host) k up = by host k host.up refl up

get_first : {V : Type 0} (a b : List V) (n : ℕ) (m : V) → slice_get a n ≡ Some m → slice_get (a ++ b) n ≡ Some m
get_first [] b n m e = absurd (none-some m e)
get_first (x ∷ a) b zero m e = e
get_first (x ∷ a) b (suc n) m e = get_first a b n m e

module _ (site : List (List ℕ)) (w v : World) (h : HostId) (e : Event) (k : Took site w v h e) where
  -- packets that were sent stay
  took_more : More k.stepped v
  took_more =
      subst (More k.stepped) (sym k.then_started)
      (starts_keep site h (More k.stepped) (λ u ns sound host there x begun more. more_more k.stepped u (steps h host ByStart x u).world more
      (steps_more h u host there ByStart x))
      (left_of (host_of h k.stepped)) k.stepped k.notes k.sound (more_none k.stepped))

  pub packets_stay : (n : ℕ) (m : Message) → packet_at n w ≡ Some m → packet_at n v ≡ Some m
  packets_stay zero m e = e
  packets_stay (suc n) m e =
      ap (λ l. slice_get l n) (took_more.1 ∙ ap (λ l. l ++ took_more.0) k.did.packets)
      ∙ get_first (w.packets ++ sent_in (map shown (step _ k.host.state).outputs)) took_more.0 n m
      (get_first w.packets (sent_in (map shown (step _ k.host.state).outputs)) n m e)

  -- what its step sends is sent
  pub sent_now : (m : Message) → Sends (step e k.host.state) m → WasSentBetween w v m
  sent_now m sends =
      let os = sent_in (map shown (step e k.host.state).outputs) in
      let all : v.packets ≡ w.packets ++ (os ++ took_more.0) = took_more.1
      ∙ (ap (λ l. l ++ took_more.0) k.did.packets ∙ append_assoc w.packets os took_more.0) in (
        suc (length w.packets + sends.0),
        record {
          fresh = omega arith;
          there = ap (λ l. slice_get l (length w.packets + sends.0)) all ∙
              (get_second w.packets (os ++ took_more.0) sends.0 (length w.packets + sends.0) refl ∙ get_first os took_more.0 sends.0 m sends.1);
        },
      )
    where
      get_second : {V : Type 0} (a b : List V) (n k : ℕ) → k ≡ length a + n → slice_get (a ++ b) k ≡ slice_get b n
      get_second [] b n k e = let same : k ≡ n = omega (arith, e) in ap (slice_get b) same
      get_second (x ∷ a) b n zero e = absurd (omega (arith, e))
      get_second (x ∷ a) b n (suc k) e = get_second a b n k (omega (arith, e))

  -- what its step leaves, and each start keeps, is so afterwards
  pub holds_after : (P : Plain → Type 0) → ((s : Plain) → IsInOrder s → (now : ℕ) (x : Stepped (List ℕ)) → start now s ≡ Some x → P s → P (after_step x s))
      → P (after_step (step e k.host.state) k.host.state) → (s : Plain) → IsStateOf v h s → P s
  holds_after P keeps first s at =
      starts_keep site h (λ u. (t : Plain) → IsStateOf u h t → P t) (λ u ns sound host there x begun all. begin u ns sound host there x begun all)
      (left_of (host_of h k.stepped)) k.stepped k.notes k.sound (λ t is. subst P (sym (state_of_host h k.stepped k.did.host t k.did.there is ∙ k.did.is)) first)
      s (subst (λ u. IsStateOf u h s) k.then_started at)
    where
      begin : (u : World) (ns : List Note) → IsSound site (moment u ns) → (host : Host) → host_of h u ≡ Some host → (x : Stepped (List ℕ))
          → start u.now host.state ≡ Some x → ((t : Plain) → IsStateOf u h t → P t) → (t : Plain) → IsStateOf (steps h host ByStart x u).world h t → P t
      begin u ns sound host there x begun all =
          let at : IsStateOf u h host.state = slice_get-map state_in u.hosts h.0 ∙ ap (option_map state_in) there in
          let now : P host.state = all host.state at in
          steps_state h u host there ByStart x P now (keeps host.state (sound.hosts h.0 host.state at).order u.now x begun now)
