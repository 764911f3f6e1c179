-- An event leaves the hosts that it isn't for, and a host without fuses stays up.
use Rattle.std.proofs.Common.{◌≡◌, ℕ, ◌⊎◌, inl, inr, map, Bool, true, false, List, [], ◌∷◌, Option, None, Some, zero, suc, refl, sym, ap, subst, ◌∙◌}
use Rattle.std.proofs.Common.{if◌then◌else◌}
use Rattle.std.proofs.lemmas.Option.{same_Some}
use Rattle.std.specs.List.{filter_map}
use Rattle.std.specs.Option.{option_map}
use Rattle.nqs_state.specs.State.{Plain}
use Rattle.nqs_base_tables.specs.Table.{best_from}
use Rattle.nqs_types.specs.declared.ids.HostId.{HostId}
use Rattle.nqs_types.specs.declared.message.Message.{Message}
use Rattle.nqs_types.specs.declared.request.Row.{Row}
use Rattle.nqs_types.specs.declared.change.Change.{Change}
use Rattle.nqs_types.specs.declared.change.Change.TheVariants.{Boot}
use Rattle.nqs_types.specs.declared.event.Event.{Event}
use Rattle.nqs_types.specs.declared.event.Event.TheVariants as event
use Rattle.nqs_types.specs.declared.event.Output.{Output}
use Rattle.nqs_types.specs.declared.world.Seen.{Seen}
use Rattle.nqs_state.specs.Least.{runs_now, is_less_row}
use Rattle.nqs_types.specs.declared.world.Seen.TheVariants as seen
use Rattle.nqs_rules.specs.Applied.{applied}
use Rattle.nqs_rules.specs.Step.{step}
use Rattle.nqs_rules.specs.Start.{start}
use Rattle.nqs_rules.specs.Stepped.{Stepped, shown, stored_parts}
use Rattle.nqs_rules.specs.Notes.{Why, ByEvent, ByStart, ByBoot}
use Rattle.nqs_rules.specs.World.{World, Host, Ran, Fate, Made, StoppedBefore, StoppedAfter, Act, Asks, Ends, Finishes, Fails, Writes, Leaves, Delivers, Newest}
use Rattle.nqs_rules.specs.World.{Ticks, Clock, Fuse, Crashes, Boots, Shows, no_fuses, fate, host_of}
use Rattle.nqs_rules.specs.World.{ready, cut_off, recorded}
use Rattle.nqs_rules.specs.World.{put_host, seeing, unseen, stopped, used, emits, change_fated, makes_change, carries_out, steps, starts, all_starts, left_of}
use Rattle.nqs_rules.specs.World.{halted_host, halts, takes_up, taken_by, takes, finishes, finishes_up, delivers, packet_at, newest_between}
use Rattle.nqs_rules.specs.World.{boot_output, boots_down, boots, crashes_up, fused_host}
use Rattle.nqs_rules.proofs.StepHalts.{step-halts}
use Rattle.nqs_rules.proofs.PeersOrder.{get-other}
use Rattle.nqs_laws.specs.Whole.{after, IsSafe, taker, receiver}
use Rattle.nqs_laws.proofs.Frame.{emits_world}
use Rattle.nqs_laws.proofs.Sound.{get-here}
use Rattle.nqs_laws.proofs.Views.{host_cases}
use Rattle.nqs_laws.proofs.Unfused.{made, still_none}
use Rattle.nqs_laws.proofs.WholeEvents.{begins, starts_of}

-- other hosts

-- nothing that host g does changes host h
module _ (g h : HostId) (apart : g ≡ h → ⊥) where
  places : g.0 ≡ h.0 → ⊥
  places e = apart (λ j. record { 0 = e j })

  put_other : (new : Host) (w : World) → host_of h (put_host g new w) ≡ host_of h w
  put_other new w = get-other g.0 h.0 (λ _. new) w.hosts places

  emits_other : (os : List Output) (w : World) → host_of h (emits g os w).world ≡ host_of h w
  emits_other os w = ap (host_of h) (emits_world g os w)

  fated_other : (f : Fate) (host : Host) (why : Why) (c : Change (List ℕ)) (first : List Seen) (os : List Output) (w : World)
      → host_of h (change_fated f g host why c first os w).world ≡ host_of h w
  fated_other Made host why c first os w = emits_other os (put_host g (used (stored_parts c) (applied c host.state) host) w)
      ∙ put_other (used (stored_parts c) (applied c host.state) host) w
  fated_other StoppedBefore host why c first os w = put_other (stopped host.state (cut_off host)) w
  fated_other StoppedAfter host why c first os w = put_other (stopped (applied c host.state) (recorded (ready host))) w

  steps_other : (host : Host) (why : Why) (x : Stepped (List ℕ)) (w : World) → host_of h (steps g host why x w).world ≡ host_of h w
  steps_other host why x w = of x.change
    where
      of : (o : Option (Change (List ℕ))) → host_of h (carries_out g host why o (map shown x.outputs) w).world ≡ host_of h w
      of None = emits_other (map shown x.outputs) w
      of (Some c) = fated_other (fate (stored_parts c) host) host why c [] (map shown x.outputs) w

  starts_other : (n : ℕ) (w : World) → host_of h (starts n g w).world ≡ host_of h w
  starts_other zero w = refl
  starts_other (suc n) w = of (host_of g w) (starts_other n)
    where
      by : (host : Host) (up : Bool) (o : Option (Stepped (List ℕ))) → ((v : World) → host_of h (starts n g v).world ≡ host_of h v)
          → host_of h (begins n g host up o w) ≡ host_of h w
      by host false o rest = refl
      by host true None rest = refl
      by host true (Some x) rest = rest (steps g host ByStart x w).world ∙ steps_other host ByStart x w

      of : (o : Option Host) → ((v : World) → host_of h (starts n g v).world ≡ host_of h v) → host_of h (starts_of n g o w) ≡ host_of h w
      of None rest = refl
      of (Some host) rest = by host host.up (start w.now host.state) rest

  all_starts_other : (w : World) → host_of h (all_starts g w).world ≡ host_of h w
  all_starts_other w = starts_other (left_of (host_of g w)) w

  halts_other : (b : Bool) (w : World) → host_of h (halts b g w).world ≡ host_of h w
  halts_other false w = refl
  halts_other true w = of (host_of g w)
    where
      by : (host : Host) (up : Bool) → host_of h (if up then seeing (seen.Stop g) (put_host g (stopped host.state host) w) else unseen w).world ≡ host_of h w
      by host true = put_other (stopped host.state host) w
      by host false = refl

      of : (o : Option Host) → host_of h (halted_host g o w).world ≡ host_of h w
      of None = refl
      of (Some host) = by host host.up

  event_other : (host : Host) (e : Event) (w : World) → host_of h (takes_up g host e w).world ≡ host_of h w
  event_other host e w =
      let v : World = (steps g host (ByEvent e) (step e host.state) w).world in
      halts_other (step e host.state).halts (all_starts g v).world ∙ (all_starts_other v ∙ steps_other host (ByEvent e) (step e host.state) w)

  taken_other : (f : Host → World → Ran) → ((host : Host) (w : World) → host_of h (f host w).world ≡ host_of h w) → (o : Option Host) (w : World)
      → host_of h (taken_by o g f w).world ≡ host_of h w
  taken_other f keeps None w = refl
  taken_other f keeps (Some host) w = by host.up
    where
      by : (up : Bool) → host_of h (if up then f host w else seeing (seen.Down g) w).world ≡ host_of h w
      by true = keeps host w
      by false = refl

  takes_other : (e : Event) (w : World) → host_of h (takes g e w).world ≡ host_of h w
  takes_other e w = taken_other (λ host. takes_up g host e) (λ host v. event_other host e v) (host_of g w) w

  finishes_other : (w : World) → host_of h (taken_by (host_of g w) g (finishes_up g) w).world ≡ host_of h w
  finishes_other w = taken_other (finishes_up g) (λ host v. by host v (best_from runs_now is_less_row 0 host.state.rows)) (host_of g w) w
    where
      by : (host : Host) (v : World) (o : Option (ℕ × Row (List ℕ))) → host_of h (finishes g host o v).world ≡ host_of h v
      by host v None = refl
      by host v (Some p) = event_other host (event.Ended v.now 0 p.1.id p.1.starts 0 [] []) v

  boots_other : (o : Option Host) (w : World) → host_of h (boots g o w).world ≡ host_of h w
  boots_other None w = refl
  boots_other (Some host) w = by host.up
    where
      by : (up : Bool) → host_of h (if up then seeing (seen.Up g) w else boots_down g host w).world ≡ host_of h w
      by true = refl
      by false =
          let r = makes_change g host ByBoot Boot (seen.Boot g ∷ []) (filter_map boot_output host.state.rows) w in
          all_starts_other r.world ∙ fated_other (fate (stored_parts Boot) host) host ByBoot Boot (seen.Boot g ∷ []) (filter_map boot_output host.state.rows) w

  crashes_other : (w : World) → host_of h (taken_by (host_of g w) g (crashes_up g) w).world ≡ host_of h w
  crashes_other w = taken_other (crashes_up g) (λ host v. put_other (stopped host.state host) v) (host_of g w) w

-- the host of an event isn't this one
other_than : (g h : HostId) → (Some g ≡ Some h → ⊥) → g ≡ h → ⊥
other_than g h k e = k (ap Some e)

delivers_other : (k : Option ℕ) (o : Option Message) (w : World) (h : HostId) → (option_map receiver o ≡ Some h → ⊥)
    → host_of h (delivers k o w).world ≡ host_of h w
delivers_other k None w h apart = refl
delivers_other k (Some m) w h apart = takes_other m.to h (other_than m.to h apart) (event.Arrived w.now m) w

pub leaves_others : (act : Act) (w : World) (h : HostId) → (taker act w ≡ Some h → ⊥) → host_of h (after act w) ≡ host_of h w
leaves_others (Asks g user c) w h k = takes_other g h (other_than g h k) (event.Ask w.now 0 0 user c) w
leaves_others (Ends g id start status output error) w h k = takes_other g h (other_than g h k) (event.Ended w.now 0 id start status output error) w
leaves_others (Finishes g) w h k = finishes_other g h (other_than g h k) w
leaves_others (Fails g id start) w h k = takes_other g h (other_than g h k) (event.Unlaunched w.now id start) w
leaves_others (Writes g file) w h k = takes_other g h (other_than g h k) (event.Written w.now file) w
leaves_others (Leaves g file) w h k = takes_other g h (other_than g h k) (event.Unwritten w.now file) w
leaves_others (Delivers n) w h k = delivers_other (Some n) (packet_at n w) w h k
leaves_others (Newest a b) w h k = delivers_other None (newest_between a b w) w h k
leaves_others (Ticks g) w h k = takes_other g h (other_than g h k) (event.Tick w.now) w
leaves_others (Clock moment) w h k = refl
leaves_others (Fuse g disk calls tear) w h k = get-other g.0 h.0 (fused_host disk calls tear) w.hosts (places g h (other_than g h k))
leaves_others (Crashes g) w h k = crashes_other g h (other_than g h k) w
leaves_others (Boots g) w h k = boots_other g h (other_than g h k) (host_of g w) w
leaves_others Shows w h k = refl

-- a host without fuses

module _ (h : HostId) where
  safe_put : (new host : Host) (w : World) → host_of h w ≡ Some host → new.up ≡ true → new.fuses ≡ no_fuses → IsSafe h (put_host h new w)
  safe_put new host w there up none = record { host = new; there = get-here h.0 new host w.hosts there; up = up; fuses = none }

  safe_emits : (os : List Output) (w : World) → IsSafe h w → IsSafe h (emits h os w).world
  safe_emits os w k = record { host = k.host; there = ap (host_of h) (emits_world h os w) ∙ k.there; up = k.up; fuses = k.fuses }

  steps_safe : (why : Why) (x : Stepped (List ℕ)) (w : World) (k : IsSafe h w) → IsSafe h (steps h k.host why x w).world
  steps_safe why x w k = of x.change
    where
      of : (o : Option (Change (List ℕ))) → IsSafe h (carries_out h k.host why o (map shown x.outputs) w).world
      of None = safe_emits (map shown x.outputs) w k
      of (Some c) =
          let new : Host = used (stored_parts c) (applied c k.host.state) k.host in
          subst (λ f. IsSafe h (change_fated f h k.host why c [] (map shown x.outputs) w).world) (sym (made (stored_parts c) k.host k.fuses))
          (safe_emits (map shown x.outputs) (put_host h new w) (safe_put new k.host w k.there refl
          (still_none (stored_parts c) (applied c k.host.state) k.host k.fuses)))

  starts_safe : (n : ℕ) (w : World) → IsSafe h w → IsSafe h (starts n h w).world
  starts_safe zero w k = k
  starts_safe (suc n) w k = of (host_of h w) refl (starts_safe n)
    where
      by : (host : Host) → host_of h w ≡ Some host → (up : Bool) (o : Option (Stepped (List ℕ))) → ((v : World) → IsSafe h v → IsSafe h (starts n h v).world)
          → IsSafe h (begins n h host up o w)
      by host there false o rest = k
      by host there true None rest = k
      by host there true (Some x) rest =
          let same : k.host ≡ host = same_Some k.host host (sym k.there ∙ there) in
          rest (steps h host ByStart x w).world (subst (λ y. IsSafe h (steps h y ByStart x w).world) same (steps_safe ByStart x w k))

      of : (o : Option Host) → host_of h w ≡ o → ((v : World) → IsSafe h v → IsSafe h (starts n h v).world) → IsSafe h (starts_of n h o w)
      of None there rest = k
      of (Some host) there rest = by host there host.up (start w.now host.state) rest

  takes_safe : (e : Event) → ((s : Plain) → (step e s).halts ≡ false) → (w : World) → IsSafe h w → IsSafe h (takes h e w).world
  takes_safe e open_still w k =
      subst (λ o. IsSafe h (taken_by o h (λ host. takes_up h host e) w).world) (sym k.there)
      (subst (λ b. IsSafe h (if b then takes_up h k.host e w else seeing (seen.Down h) w).world) (sym k.up)
      (subst (λ b. IsSafe h (halts b h (all_starts h v).world).world) (sym (open_still k.host.state))
      (starts_safe (left_of (host_of h v)) v (steps_safe (ByEvent e) (step e k.host.state) w k))))
    where
      v : World
      v = (steps h k.host (ByEvent e) (step e k.host.state) w).world

  -- whoever takes an event
  any_safe : (g : HostId) (e : Event) → ((s : Plain) → (step e s).halts ≡ false) → (w : World) → IsSafe h w → IsSafe h (takes g e w).world
  any_safe g e open_still w k = by (host_cases g h)
    where
      by : (g ≡ h) ⊎ (g ≡ h → ⊥) → IsSafe h (takes g e w).world
      by (inl same) = subst (λ i. IsSafe h (takes i e w).world) (sym same) (takes_safe e open_still w k)
      by (inr apart) = record { host = k.host; there = takes_other g h apart e w ∙ k.there; up = k.up; fuses = k.fuses }

  pub tick_safe : (w : World) (g : HostId) → IsSafe h w → IsSafe h (after (Ticks g) w)
  tick_safe w g k = any_safe g (event.Tick w.now) (λ s. refl) w k

  pub arrival_safe : (w : World) (n : ℕ) → IsSafe h w → IsSafe h (after (Delivers n) w)
  arrival_safe w n k = of (packet_at n w)
    where
      of : (o : Option Message) → IsSafe h (delivers (Some n) o w).world
      of None = k
      of (Some m) = any_safe m.to (event.Arrived w.now m) (step-halts (event.Arrived w.now m)) w k
