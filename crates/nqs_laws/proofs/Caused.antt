-- In each event of a run one host alone keeps changes: what its cause makes, and then starts.
use Rattle.std.proofs.Common.{◌≡◌, ◌⊎◌, inl, inr, ℕ, zero, suc, Bool, true, false, not, List, [], ◌∷◌, ◌++◌, map, Option, None, Some, refl, sym, ap, subst, ◌∙◌}
use Rattle.std.proofs.Common.{if◌then◌else◌, true≢false}
use Rattle.std.proofs.lemmas.List.{append_assoc, append-nil}
use Rattle.std.proofs.lemmas.Option.{same_Some}
use Rattle.std.specs.List.{filter_map}
use Rattle.std.specs.Option.{IfSome, option_map, option_and_then}
use Rattle.nqs_base_tables.specs.Table.{best_from}
use Rattle.nqs_state.specs.Least.{runs_now, is_less_row}
use Rattle.nqs_types.specs.declared.ids.HostId.{HostId}
use Rattle.nqs_types.specs.declared.request.Row.{Row}
use Rattle.nqs_types.specs.declared.message.Message.{Message}
use Rattle.nqs_types.specs.declared.change.Change.{Change}
use Rattle.nqs_types.specs.declared.change.Change.TheVariants.{Boot}
use Rattle.nqs_types.specs.declared.event.Event.{Event}
use Rattle.nqs_types.specs.declared.event.Event.TheVariants as event
use Rattle.nqs_types.specs.declared.event.Output.{Output}
use Rattle.nqs_types.specs.declared.event.Output.TheVariants as out
use Rattle.nqs_types.specs.declared.world.Seen.{Seen}
use Rattle.nqs_types.specs.declared.world.Seen.TheVariants as seen
use Rattle.nqs_rules.specs.Applied.{applied}
use Rattle.nqs_rules.specs.Notes.{Why, ByEvent, ByStart, ByBoot, Note, Kept, saws}
use Rattle.nqs_rules.specs.Run.{happens}
use Rattle.nqs_rules.specs.Start.{start}
use Rattle.nqs_rules.specs.Step.{step}
use Rattle.nqs_rules.specs.Stepped.{Stepped, shown, stored_parts}
use Rattle.nqs_rules.specs.Tests.{passes}
use Rattle.nqs_rules.specs.World.{World, Host, Ran, Fate, Made, StoppedBefore, StoppedAfter, Act, Asks, Ends, Finishes, Fails, Writes, Leaves, Delivers, Newest}
use Rattle.nqs_rules.specs.World.{Ticks, Clock, Fuse, Crashes, Boots, Shows, fate, host_of, put_host, then_noted, seeing, unseen, stopped}
use Rattle.nqs_rules.specs.World.{cut_off, ready, recorded, used, seen_output, sent_by, next_number, emits, change_fated, makes_change, carries_out, steps}
use Rattle.nqs_rules.specs.World.{starts, all_starts, left_of, halted_host, halts, takes_up, taken_by, takes, finishes, finishes_up, delivers, packet_at}
use Rattle.nqs_rules.specs.World.{newest_between, boot_output, boots_down, boots, crashes_up}
use Rattle.nqs_laws.specs.Caused.{IsOfKind, while_up, while_down, first_end, arrival, cause_of, KeepsNone, KeepsOwn, KeepsBy, IsCaused}
use Rattle.nqs_laws.specs.History.{history}
use Rattle.nqs_laws.proofs.ChangeKinds.{step_kind, start_kind}
use Rattle.nqs_laws.proofs.Sound.{get-here}

abbrev notes_of : Ran → List Note
notes_of r = r.notes

-- outputs keep nothing

sight_keeps : (h g : HostId) (own : Why) (k : ℕ) (o : Output) (ns : List Note) → KeepsOwn h own ns → KeepsOwn h own (saws (seen_output g k o) ++ ns)
sight_keeps h g own k (out.Reply port token reply) ns p = p
sight_keeps h g own k (out.Send m) ns p = p
sight_keeps h g own k (out.Launch order bytes) ns p = p
sight_keeps h g own k (out.Print device order bytes) ns p = p
sight_keeps h g own k (out.Kill id n) ns p = p
sight_keeps h g own k (out.File file path bytes) ns p = p
sight_keeps h g own k (out.Ended id n status) ns p = p
sight_keeps h g own k (out.Unlaunched id n) ns p = p
sight_keeps h g own k (out.Again id) ns p = p
sight_keeps h g own k (out.Lost id) ns p = p
sight_keeps h g own k (out.Ack port id n) ns p = p

emits_keep : (h : HostId) (own : Why) (os : List Output) (w : World) (ns : List Note) → KeepsOwn h own ns → KeepsOwn h own ((emits h os w).notes ++ ns)
emits_keep h own [] w ns p = p
emits_keep h own (o ∷ os) w ns p =
    let later : World = record w { packets = w.packets ++ sent_by o } in
    let here = saws (seen_output h (next_number w) o) in
    subst (KeepsOwn h own) (sym (append_assoc here (emits h os later).notes ns))
    (sight_keeps h h own (next_number w) o ((emits h os later).notes ++ ns) (emits_keep h own os later ns p))

-- what comes behind a step: it keeps what a host that is up may keep, and nothing where it is down
record Follows (h : HostId) (w : World) (ns : List Note) : Type 0 where
  up : (own : Why) → KeepsOwn h own ns
  down : (g : Host) → host_of h w ≡ Some g → g.up ≡ false → KeepsNone ns

-- one change

-- what is seen first keeps nothing
abbrev KeepsNothing : HostId → List Seen → Type 0
KeepsNothing h first = (own : Why) (ns : List Note) → KeepsOwn h own ns → KeepsOwn h own (saws first ++ ns)

module _ (h : HostId) (host : Host) (w : World) (there : host_of h w ≡ Some host) (own why : Why) (may : (why ≡ own) ⊎ (why ≡ ByStart)) (ns : List Note) where
  -- a host that stopped is down
  behind : (g : Host) → g.up ≡ false → Follows h (put_host h g w) ns → KeepsNone ns
  behind g is_down f = f.down g (get-here h.0 g host w.hosts there) is_down

  fated : (x : Fate) (c : Change (List ℕ)) (first : List Seen) (os : List Output) → KeepsNothing h first → IsOfKind why c
      → Follows h (change_fated x h host why c first os w).world ns → KeepsOwn h own ((change_fated x h host why c first os w).notes ++ ns)
  fated Made c first os nothing kind f =
      let v : World = put_host h (used (stored_parts c) (applied c host.state) host) w in (
        refl,
        may,
        kind,
        subst (KeepsOwn h ByStart) (sym (append_assoc (saws first) (emits h os v).notes ns))
            (nothing ByStart ((emits h os v).notes ++ ns) (emits_keep h ByStart os v ns (f.up ByStart))),
      )
  fated StoppedBefore c first os nothing kind f = behind (stopped host.state (cut_off host)) refl f
  fated StoppedAfter c first os nothing kind f = (refl, may, kind, behind (stopped (applied c host.state) (recorded (ready host))) refl f)

  carried : (o : Option (Change (List ℕ))) (os : List Output) → IfSome o (IsOfKind why) → Follows h (carries_out h host why o os w).world ns
      → KeepsOwn h own ((carries_out h host why o os w).notes ++ ns)
  carried None os kind f = emits_keep h own os w ns (f.up own)
  carried (Some c) os kind f = fated (fate (stored_parts c) host) c [] os (λ own ns p. p) kind f

-- starts

-- what comes behind the starts of a host is no change
record IsEnd (ns : List Note) : Type 0 where
  none : KeepsNone ns
  any : (h : HostId) (own : Why) → KeepsOwn h own ns

no_notes : IsEnd []
no_notes = record { none = tt; any = λ h own. tt }

module _ (ns : List Note) (end : IsEnd ns) where
  asleep : (n : ℕ) (h : HostId) (w : World) (g : Host) → host_of h w ≡ Some g → g.up ≡ false → KeepsNone ((starts n h w).notes ++ ns)
  asleep zero h w g there is_down = end.none
  asleep (suc n) h w g there is_down = of (host_of h w) there
    where
      by : (up : Bool) (host : Host) → up ≡ false → KeepsNone (notes_of (elim up [
        | false ↦ unseen w
        | true ↦ elim (start w.now host.state) [
          | None ↦ unseen w
          | Some s ↦ (let r = steps h host ByStart s w in then_noted r.notes (starts n h r.world))
        ]
      ]) ++ ns)
      by false host e = end.none
      by true host e = absurd (true≢false e)

      of : (o : Option Host) → o ≡ Some g → KeepsNone (notes_of (elim o [
        | None ↦ unseen w
        | Some host ↦ elim host.up [
          | false ↦ unseen w
          | true ↦ elim (start w.now host.state) [
            | None ↦ unseen w
            | Some s ↦ (let r = steps h host ByStart s w in then_noted r.notes (starts n h r.world))
          ]
        ]
      ]) ++ ns)
      of None e = end.none
      of (Some host) e = by host.up host (ap (λ v. v.up) (same_Some host g e) ∙ is_down)

  -- starts of one host
  started : (n : ℕ) (h : HostId) (own : Why) (w : World) → KeepsOwn h own ((starts n h w).notes ++ ns)
  started zero h own w = end.any h own
  started (suc n) h own w = of (host_of h w) refl (λ own v. started n h own v)
    where
      by : (host : Host) → host_of h w ≡ Some host → (up : Bool) (o : Option (Stepped (List ℕ))) → start w.now host.state ≡ o
          → ((own : Why) (v : World) → KeepsOwn h own ((starts n h v).notes ++ ns))
          → KeepsOwn h own (notes_of (elim up [
            | false ↦ unseen w
            | true ↦ elim o [
              | None ↦ unseen w
              | Some s ↦ (let r = steps h host ByStart s w in then_noted r.notes (starts n h r.world))
            ]
          ]) ++ ns)
      by host there false o e rest = end.any h own
      by host there true None e rest = end.any h own
      by host there true (Some x) e rest =
          let r : Ran = steps h host ByStart x w in
          subst (KeepsOwn h own) (sym (append_assoc r.notes (starts n h r.world).notes ns))
          (carried h host w there own ByStart (inr refl) ((starts n h r.world).notes ++ ns) x.change (map shown x.outputs) (start_kind w.now host.state x e)
          (record { up = λ own. rest own r.world; down = λ g at is_down. asleep n h r.world g at is_down }))

      of : (o : Option Host) → host_of h w ≡ o → ((own : Why) (v : World) → KeepsOwn h own ((starts n h v).notes ++ ns))
          → KeepsOwn h own (notes_of (elim o [
            | None ↦ unseen w
            | Some host ↦ elim host.up [
              | false ↦ unseen w
              | true ↦ elim (start w.now host.state) [
                | None ↦ unseen w
                | Some s ↦ (let r = steps h host ByStart s w in then_noted r.notes (starts n h r.world))
              ]
            ]
          ]) ++ ns)
      of None e rest = end.any h own
      of (Some host) e rest = by host e host.up (start w.now host.state) refl rest

  -- so all starts come behind a step
  all_follow : (h : HostId) (w : World) → Follows h w ((all_starts h w).notes ++ ns)
  all_follow h w = record {
    up = λ own. started (left_of (host_of h w)) h own w;
    down = λ g at is_down. asleep (left_of (host_of h w)) h w g at is_down;
  }

-- events that a host takes, and its boot

-- a stop of its own keeps nothing
halted : (b : Bool) (h : HostId) (w : World) → IsEnd (halts b h w).notes
halted false h w = no_notes
halted true h w = of (host_of h w)
  where
    by : (host : Host) (up : Bool) → IsEnd (if up then seeing (seen.Stop h) (put_host h (stopped host.state host) w) else unseen w).notes
    by host true = record { none = tt; any = λ g own. tt }
    by host false = no_notes

    of : (o : Option Host) → IsEnd (halted_host h o w).notes
    of None = no_notes
    of (Some host) = by host host.up

taken : (h : HostId) (host : Host) (e : Event) (w : World) → host_of h w ≡ Some host → KeepsOwn h (ByEvent e) (takes_up h host e w).notes
taken h host e w there =
    let s : Stepped (List ℕ) = step e host.state in
    let r : Ran = steps h host (ByEvent e) s w in
    let u : Ran = all_starts h r.world in
    let end : Ran = halts s.halts h u.world in
    subst (KeepsOwn h (ByEvent e)) (sym (append_assoc r.notes u.notes end.notes))
    (carried h host w there (ByEvent e) (ByEvent e) (inl refl) (u.notes ++ end.notes) s.change (map shown s.outputs) (step_kind e host.state)
    (all_follow end.notes (halted s.halts h u.world) h r.world))

booted : (h : HostId) (host : Host) (w : World) → host_of h w ≡ Some host → KeepsOwn h ByBoot (boots_down h host w).notes
booted h host w there =
    let os : List Output = filter_map boot_output host.state.rows in
    let r : Ran = makes_change h host ByBoot Boot (seen.Boot h ∷ []) os w in
    let u : Ran = all_starts h r.world in
    subst (KeepsOwn h ByBoot) (ap (λ ns. r.notes ++ ns) (append-nil u.notes))
    (fated h host w there ByBoot ByBoot (inl refl) (u.notes ++ []) (fate (stored_parts Boot) host) Boot (seen.Boot h ∷ []) os (λ own ns p. p) refl
    (all_follow [] no_notes h r.world))

-- each event of a schedule

module _ (w : World) where
  -- what a host that is up does, for a cause or none
  up_caused : (h : HostId) (why : Option Why) (f : Host → World → Ran)
      → ((host : Host) → host_of h w ≡ Some host → KeepsBy (option_map (λ y. (h, y)) why) (f host w).notes)
      → KeepsBy (while_up h why w) (taken_by (host_of h w) h f w).notes
  up_caused h why f keeps = of (host_of h w) refl
    where
      by : (host : Host) → host_of h w ≡ Some host → (up : Bool)
          → KeepsBy (if up then option_map (λ y. (h, y)) why else None) (if up then f host w else seeing (seen.Down h) w).notes
      by host there true = keeps host there
      by host there false = tt

      of : (o : Option Host) → host_of h w ≡ o
          → KeepsBy (if passes (λ host. host.up) o then option_map (λ y. (h, y)) why else None) (taken_by o h f w).notes
      of None e = tt
      of (Some host) e = by host e host.up

  takes_caused : (h : HostId) (e : Event) → KeepsBy (while_up h (Some (ByEvent e)) w) (takes h e w).notes
  takes_caused h e = up_caused h (Some (ByEvent e)) (λ host. takes_up h host e) (λ host there. taken h host e w there)

  finish_caused : (h : HostId) → KeepsBy (while_up h (option_and_then (first_end w.now) (host_of h w)) w) (taken_by (host_of h w) h (finishes_up h) w).notes
  finish_caused h = up_caused h (option_and_then (first_end w.now) (host_of h w)) (finishes_up h) by
    where
      of : (host : Host) → host_of h w ≡ Some host → (o : Option (ℕ × Row (List ℕ)))
          → KeepsBy (option_map (λ y. (h, y)) (option_map (λ p. ByEvent (event.Ended w.now 0 p.1.id p.1.starts 0 [] [])) o)) (finishes h host o w).notes
      of host there None = tt
      of host there (Some p) = taken h host (event.Ended w.now 0 p.1.id p.1.starts 0 [] []) w there

      by : (host : Host) → host_of h w ≡ Some host
          → KeepsBy (option_map (λ y. (h, y)) (option_and_then (first_end w.now) (host_of h w))) (finishes_up h host w).notes
      by host there = subst (λ o. KeepsBy (option_map (λ y. (h, y)) (option_and_then (first_end w.now) o)) (finishes_up h host w).notes) (sym there)
          (of host there (best_from runs_now is_less_row 0 host.state.rows))

  arrival_caused : (k : Option ℕ) (o : Option Message) → KeepsBy (arrival o w) (delivers k o w).notes
  arrival_caused k None = tt
  arrival_caused k (Some m) = takes_caused m.to (event.Arrived w.now m)

  crash_caused : (h : HostId) → KeepsNone (taken_by (host_of h w) h (crashes_up h) w).notes
  crash_caused h = of (host_of h w)
    where
      by : (host : Host) (up : Bool) → KeepsNone (if up then crashes_up h host w else seeing (seen.Down h) w).notes
      by host true = tt
      by host false = tt

      of : (o : Option Host) → KeepsNone (taken_by o h (crashes_up h) w).notes
      of None = tt
      of (Some host) = by host host.up

  boot_caused : (h : HostId) → KeepsBy (while_down h ByBoot w) (boots h (host_of h w) w).notes
  boot_caused h = of (host_of h w) refl
    where
      by : (host : Host) → host_of h w ≡ Some host → (up : Bool)
          → KeepsBy (if not up then Some (h, ByBoot) else None) (if up then seeing (seen.Up h) w else boots_down h host w).notes
      by host there true = tt
      by host there false = booted h host w there

      of : (o : Option Host) → host_of h w ≡ o
          → KeepsBy (if passes (λ host. not host.up) o then Some (h, ByBoot) else None) (boots h o w).notes
      of None e = tt
      of (Some host) e = by host e host.up

  happens_caused : (a : Act) → KeepsBy (cause_of a w) (happens a w).notes
  happens_caused (Asks h user c) = takes_caused h (event.Ask w.now 0 0 user c)
  happens_caused (Ends h id start status output error) = takes_caused h (event.Ended w.now 0 id start status output error)
  happens_caused (Finishes h) = finish_caused h
  happens_caused (Fails h id start) = takes_caused h (event.Unlaunched w.now id start)
  happens_caused (Writes h file) = takes_caused h (event.Written w.now file)
  happens_caused (Leaves h file) = takes_caused h (event.Unwritten w.now file)
  happens_caused (Delivers k) = arrival_caused (Some k) (packet_at k w)
  happens_caused (Newest a b) = arrival_caused None (newest_between a b w)
  happens_caused (Ticks h) = takes_caused h (event.Tick w.now)
  happens_caused (Clock n) = tt
  happens_caused (Fuse h disk calls tear) = tt
  happens_caused (Crashes h) = crash_caused h
  happens_caused (Boots h) = boot_caused h
  happens_caused Shows = tt

-- and each run
pub run_caused : (acts : List Act) (w : World) → IsCaused acts w (history acts w)
run_caused [] w = refl
run_caused (a ∷ acts) w = (history acts (happens a w).world, refl, happens_caused w a, run_caused acts (happens a w).world)

-- behind a change comes no second one for an event
pub one_event : (h : HostId) (own : Why) (d e : Event) (b c : Change (List ℕ)) (ns : List Note)
    → KeepsOwn h own (Kept h (ByEvent d) b ∷ Kept h (ByEvent e) c ∷ ns) → ⊥
one_event h own d e b c ns (here, may, kind, (there, inl is, fits, more)) = absurd (let no : ⊥ = cc in no)
one_event h own d e b c ns (here, may, kind, (there, inr is, fits, more)) = absurd (let no : ⊥ = cc in no)
