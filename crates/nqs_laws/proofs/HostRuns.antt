-- What each change, stop and fuse of a host keeps, every host keeps in every run.
use Rattle.std.proofs.Common.{◌≡◌, ℕ, map, Bool, true, false, List, [], ◌∷◌, slice_get, Option, None, Some, zero, suc, refl, sym, subst, if◌then◌else◌}
use Rattle.std.proofs.lemmas.Option.{same_Some, none-some}
use Rattle.std.specs.List.{filter_map}
use Rattle.nqs_state.specs.State.{Plain}
use Rattle.nqs_base_tables.specs.Table.{best_from}
use Rattle.nqs_types.specs.declared.ids.HostId.{HostId}
use Rattle.nqs_types.specs.declared.message.Message.{Message}
use Rattle.nqs_types.specs.declared.request.Row.{Row}
use Rattle.nqs_types.specs.declared.change.Change.{Change}
use Rattle.nqs_types.specs.declared.change.Change.TheVariants.{Boot}
use Rattle.nqs_types.specs.declared.event.Event.{Event}
use Rattle.nqs_types.specs.declared.event.Event.TheVariants as event
use Rattle.nqs_types.specs.declared.event.Output.{Output}
use Rattle.nqs_types.specs.declared.world.Seen.{Seen}
use Rattle.nqs_types.specs.declared.world.Seen.TheVariants as seen
use Rattle.nqs_types.specs.declared.world.Which.{Which}
use Rattle.nqs_base.specs.declared.tear.Tear.{Tear}
use Rattle.nqs_state.specs.Least.{runs_now, is_less_row}
use Rattle.nqs_rules.specs.Applied.{applied}
use Rattle.nqs_rules.specs.Edits.{change_at}
use Rattle.nqs_rules.specs.Step.{step}
use Rattle.nqs_rules.specs.Start.{start}
use Rattle.nqs_rules.specs.Stepped.{Stepped, shown, stored_parts}
use Rattle.nqs_rules.specs.Notes.{Why, ByEvent, ByStart, ByBoot}
use Rattle.nqs_rules.specs.World.{World, Host, Ran, Fate, Made, StoppedBefore, StoppedAfter, Act, Asks, Ends, Finishes, Fails, Writes, Leaves, Delivers, Newest}
use Rattle.nqs_rules.specs.World.{Ticks, Clock, Fuse, Crashes, Boots, Shows, fate, host_of, ready, cut_off, recorded, fused_host}
use Rattle.nqs_rules.specs.World.{put_host, seeing, unseen, stopped, used, emits, change_fated, makes_change, carries_out, steps, starts, all_starts, left_of}
use Rattle.nqs_rules.specs.World.{halted_host, halts, takes_up, taken_by, takes, finishes, finishes_up, delivers, packet_at, newest_between}
use Rattle.nqs_rules.specs.World.{boot_output, boots_down, boots, crashes_up}
use Rattle.nqs_rules.specs.Run.{happens, run}
use Rattle.nqs_laws.proofs.Frame.{emits_world}
use Rattle.nqs_laws.proofs.WholeEvents.{begins, starts_of}

-- what a host keeps, whatever becomes of it
pub record HostFrames (P : Host → Type 0) : Type 0 where
  pub made : (puts : List (List ℕ)) (s : Plain) (h : Host) → P h → P (used puts s h)
  pub before : (h : Host) → P h → P (stopped h.state (cut_off h))
  pub after : (s : Plain) (h : Host) → P h → P (stopped s (recorded (ready h)))
  pub halted : (h : Host) → P h → P (stopped h.state h)
  pub fused : (disk : Which) (calls : ℕ) (tear : Tear) (h : Host) → P h → P (fused_host disk calls tear h)

module _ (P : Host → Type 0) (f : HostFrames P) where
  -- each host of the world has it
  abbrev pub All : World → Type 0
  All w = (place : ℕ) (h : Host) → slice_get w.hosts place ≡ Some h → P h

  changed : (k : ℕ) (u : Host → Host) → ((h : Host) → P h → P (u h)) → (hosts : List Host) → ((place : ℕ) (h : Host) → slice_get hosts place ≡ Some h → P h)
      → (place : ℕ) (g : Host) → slice_get (change_at k u hosts) place ≡ Some g → P g
  changed k u keeps [] all place g is = absurd (none-some g is)
  changed zero u keeps (h ∷ hosts) all zero g is = subst P (same_Some (u h) g is) (keeps h (all 0 h refl))
  changed zero u keeps (h ∷ hosts) all (suc place) g is = all (suc place) g is
  changed (suc k) u keeps (h ∷ hosts) all zero g is = all 0 g is
  changed (suc k) u keeps (h ∷ hosts) all (suc place) g is = changed k u keeps hosts (λ n v at. all (suc n) v at) place g is

  put_all : (i : HostId) (new : Host) (w : World) → All w → P new → All (put_host i new w)
  put_all i new w all p = changed i.0 (λ _. new) (λ h k. p) w.hosts all

  emits_all : (i : HostId) (os : List Output) (w : World) → All w → All (emits i os w).world
  emits_all i os w all = subst All (sym (emits_world i os w)) all

  fated_all : (x : Fate) (i : HostId) (host : Host) (why : Why) (c : Change (List ℕ)) (first : List Seen) (os : List Output) (w : World) → P host → All w
      → All (change_fated x i host why c first os w).world
  fated_all Made i host why c first os w p all =
      let new : Host = used (stored_parts c) (applied c host.state) host in
      emits_all i os (put_host i new w) (put_all i new w all (f.made (stored_parts c) (applied c host.state) host p))
  fated_all StoppedBefore i host why c first os w p all = put_all i (stopped host.state (cut_off host)) w all (f.before host p)
  fated_all StoppedAfter i host why c first os w p all = put_all i (stopped (applied c host.state) (recorded (ready host))) w all
      (f.after (applied c host.state) host p)

  steps_all : (i : HostId) (host : Host) (why : Why) (x : Stepped (List ℕ)) (w : World) → P host → All w → All (steps i host why x w).world
  steps_all i host why x w p all = of x.change
    where
      of : (o : Option (Change (List ℕ))) → All (carries_out i host why o (map shown x.outputs) w).world
      of None = emits_all i (map shown x.outputs) w all
      of (Some c) = fated_all (fate (stored_parts c) host) i host why c [] (map shown x.outputs) w p all

  starts_all : (n : ℕ) (i : HostId) (w : World) → All w → All (starts n i w).world
  starts_all zero i w all = all
  starts_all (suc n) i w all = of (host_of i w) refl (starts_all n i)
    where
      by : (host : Host) → P host → (up : Bool) (o : Option (Stepped (List ℕ))) → ((v : World) → All v → All (starts n i v).world)
          → All (begins n i host up o w)
      by host p false o rest = all
      by host p true None rest = all
      by host p true (Some x) rest = rest (steps i host ByStart x w).world (steps_all i host ByStart x w p all)

      of : (o : Option Host) → host_of i w ≡ o → ((v : World) → All v → All (starts n i v).world) → All (starts_of n i o w)
      of None is rest = all
      of (Some host) is rest = by host (all i.0 host is) host.up (start w.now host.state) rest

  every_start_all : (i : HostId) (w : World) → All w → All (all_starts i w).world
  every_start_all i w all = starts_all (left_of (host_of i w)) i w all

  halts_all : (b : Bool) (i : HostId) (w : World) → All w → All (halts b i w).world
  halts_all false i w all = all
  halts_all true i w all = of (host_of i w) refl
    where
      by : (host : Host) → P host → (up : Bool) → All (if up then seeing (seen.Stop i) (put_host i (stopped host.state host) w) else unseen w).world
      by host p true = put_all i (stopped host.state host) w all (f.halted host p)
      by host p false = all

      of : (o : Option Host) → host_of i w ≡ o → All (halted_host i o w).world
      of None is = all
      of (Some host) is = by host (all i.0 host is) host.up

  event_all : (i : HostId) (host : Host) (e : Event) (w : World) → P host → All w → All (takes_up i host e w).world
  event_all i host e w p all =
      let v : World = (steps i host (ByEvent e) (step e host.state) w).world in
      halts_all (step e host.state).halts i (all_starts i v).world (every_start_all i v (steps_all i host (ByEvent e) (step e host.state) w p all))

  taken_all : (i : HostId) (g : Host → World → Ran) → ((host : Host) (w : World) → P host → All w → All (g host w).world) → (w : World) → All w
      → All (taken_by (host_of i w) i g w).world
  taken_all i g keeps w all = of (host_of i w) refl
    where
      by : (host : Host) → P host → (up : Bool) → All (if up then g host w else seeing (seen.Down i) w).world
      by host p true = keeps host w p all
      by host p false = all

      of : (o : Option Host) → host_of i w ≡ o → All (taken_by o i g w).world
      of None is = all
      of (Some host) is = by host (all i.0 host is) host.up

  takes_all : (i : HostId) (e : Event) (w : World) → All w → All (takes i e w).world
  takes_all i e w all = taken_all i (λ host. takes_up i host e) (λ host v p rest. event_all i host e v p rest) w all

  finishes_all : (i : HostId) (host : Host) (w : World) → P host → All w → All (finishes_up i host w).world
  finishes_all i host w p all = by (best_from runs_now is_less_row 0 host.state.rows)
    where
      by : (o : Option (ℕ × Row (List ℕ))) → All (finishes i host o w).world
      by None = all
      by (Some r) = event_all i host (event.Ended w.now 0 r.1.id r.1.starts 0 [] []) w p all

  delivers_all : (k : Option ℕ) (o : Option Message) (w : World) → All w → All (delivers k o w).world
  delivers_all k None w all = all
  delivers_all k (Some m) w all = takes_all m.to (event.Arrived w.now m) w all

  boots_all : (i : HostId) (w : World) → All w → All (boots i (host_of i w) w).world
  boots_all i w all = of (host_of i w) refl
    where
      by : (host : Host) → P host → (up : Bool) → All (if up then seeing (seen.Up i) w else boots_down i host w).world
      by host p true = all
      by host p false =
          let r = makes_change i host ByBoot Boot (seen.Boot i ∷ []) (filter_map boot_output host.state.rows) w in
          every_start_all i r.world
          (fated_all (fate (stored_parts Boot) host) i host ByBoot Boot (seen.Boot i ∷ []) (filter_map boot_output host.state.rows) w p all)

      of : (o : Option Host) → host_of i w ≡ o → All (boots i o w).world
      of None is = all
      of (Some host) is = by host (all i.0 host is) host.up

  happens_all : (act : Act) (w : World) → All w → All (happens act w).world
  happens_all (Asks i user c) w all = takes_all i (event.Ask w.now 0 0 user c) w all
  happens_all (Ends i id start status output error) w all = takes_all i (event.Ended w.now 0 id start status output error) w all
  happens_all (Finishes i) w all = taken_all i (finishes_up i) (finishes_all i) w all
  happens_all (Fails i id start) w all = takes_all i (event.Unlaunched w.now id start) w all
  happens_all (Writes i file) w all = takes_all i (event.Written w.now file) w all
  happens_all (Leaves i file) w all = takes_all i (event.Unwritten w.now file) w all
  happens_all (Delivers n) w all = delivers_all (Some n) (packet_at n w) w all
  happens_all (Newest a b) w all = delivers_all None (newest_between a b w) w all
  happens_all (Ticks i) w all = takes_all i (event.Tick w.now) w all
  happens_all (Clock moment) w all = all
  happens_all (Fuse i disk calls tear) w all = changed i.0 (fused_host disk calls tear) (f.fused disk calls tear) w.hosts all
  happens_all (Crashes i) w all = taken_all i (crashes_up i) (λ host v p rest. put_all i (stopped host.state host) v rest (f.halted host p)) w all
  happens_all (Boots i) w all = boots_all i w all
  happens_all Shows w all = all

  pub run_all : (acts : List Act) (w : World) → All w → All (run acts w).world
  run_all [] w all = all
  run_all (act ∷ acts) w all = run_all acts (happens act w).world (happens_all act w all)
