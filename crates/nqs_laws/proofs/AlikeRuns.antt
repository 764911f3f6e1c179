-- Hosts without fuses that are the same but for their disks do and show the same.
use Rattle.std.proofs.Common.{◌≡◌, ℕ, map, Bool, true, false, List, [], ◌∷◌, ◌++◌, length, slice_get, Option, None, Some, zero, suc, refl, sym, ap, subst, ◌∙◌}
use Rattle.std.proofs.Common.{true≢false, if◌then◌else◌, ◌+◌, filter}
use Rattle.std.proofs.lemmas.Bool.{and_parts}
use Rattle.std.specs.List.{filter_map, list_all}
use Rattle.nqs_base_tables.specs.Table.{best_from}
use Rattle.nqs_types.specs.declared.ids.HostId.{HostId}
use Rattle.nqs_types.specs.declared.message.Message.{Message}
use Rattle.nqs_types.specs.declared.request.Row.{Row}
use Rattle.nqs_types.specs.declared.change.Change.{Change}
use Rattle.nqs_types.specs.declared.change.Change.TheVariants.{Boot}
use Rattle.nqs_types.specs.declared.event.Event.{Event}
use Rattle.nqs_types.specs.declared.event.Event.TheVariants as event
use Rattle.nqs_types.specs.declared.event.Output.{Output}
use Rattle.nqs_types.specs.declared.world.Seen.{Seen}
use Rattle.nqs_state.specs.Least.{runs_now, is_less_row}
use Rattle.nqs_types.specs.declared.world.Seen.TheVariants as seen
use Rattle.nqs_rules.specs.Applied.{applied}
use Rattle.nqs_rules.specs.Edits.{change_at}
use Rattle.nqs_rules.specs.Step.{step}
use Rattle.nqs_rules.specs.Start.{start}
use Rattle.nqs_rules.specs.Stepped.{Stepped, shown, stored_parts}
use Rattle.nqs_rules.specs.Notes.{Why, ByEvent, ByStart, ByBoot, Saw, Kept, saws}
use Rattle.nqs_rules.specs.World.{World, Host, Ran, Made, Act, Asks, Ends, Finishes, Fails, Writes, Leaves, Delivers, Newest}
use Rattle.nqs_rules.specs.World.{Ticks, Clock, Fuse, Crashes, Boots, Shows, host_of, ready, no_fuses, no_calls, then_noted, then_ran, seen_output, sent_by}
use Rattle.nqs_rules.specs.World.{put_host, seeing, unseen, stopped, used, emits, change_fated, makes_change, carries_out, steps, starts, all_starts, left_of}
use Rattle.nqs_rules.specs.World.{halted_host, halts, takes_up, taken_by, takes, finishes, finishes_up, delivers, packet_at, last_of}
use Rattle.nqs_rules.specs.World.{newest_between}
use Rattle.nqs_rules.specs.World.{boot_output, boots_down, boots, crashes_up, is_between}
use Rattle.nqs_rules.specs.Measure.{starts_left}
use Rattle.nqs_rules.specs.Net.{table}
use Rattle.nqs_rules.specs.Run.{happens, run}
use Rattle.nqs_laws.specs.Checkpoints.{AreAlike, AreEachAlike, AreWorldsAlike, AreRunsAlike, lays_none}
use Rattle.nqs_laws.proofs.Unfused.{made, still_none}
use Rattle.nqs_laws.proofs.CheckpointLaws.{ready_differs}

-- lists of hosts

-- both or neither
abbrev BothAlike : Option Host → Option Host → Type 0
BothAlike None None = Unit {0}
BothAlike (Some g) (Some h) = AreAlike g h
BothAlike _ _ = ⊥

alike_at : (gs hs : List Host) → AreEachAlike gs hs → (n : ℕ) → BothAlike (slice_get gs n) (slice_get hs n)
alike_at [] [] k n = tt
alike_at [] (h ∷ hs) k n = absurd k
alike_at (g ∷ gs) [] k n = absurd k
alike_at (g ∷ gs) (h ∷ hs) k zero = k.0
alike_at (g ∷ gs) (h ∷ hs) k (suc n) = alike_at gs hs k.1 n

alike_put : (n : ℕ) (new other : Host) → AreAlike new other → (gs hs : List Host) → AreEachAlike gs hs
    → AreEachAlike (change_at n (λ _. new) gs) (change_at n (λ _. other) hs)
alike_put n new other p [] [] k = k
alike_put n new other p [] (h ∷ hs) k = absurd k
alike_put zero new other p (g ∷ gs) [] k = absurd k
alike_put (suc n) new other p (g ∷ gs) [] k = absurd k
alike_put zero new other p (g ∷ gs) (h ∷ hs) k = (p, k.1)
alike_put (suc n) new other p (g ∷ gs) (h ∷ hs) k = (k.0, alike_put n new other p gs hs k.1)

alike_states : (gs hs : List Host) → AreEachAlike gs hs → map (λ h. h.state) gs ≡ map (λ h. h.state) hs
alike_states [] [] k = refl
alike_states [] (h ∷ hs) k = absurd k
alike_states (g ∷ gs) [] k = absurd k
alike_states (g ∷ gs) (h ∷ hs) k = λ j. (k.0.same j).state ∷ alike_states gs hs k.1 j

-- one change

pub ready_tear : (h : Host) → (ready h).tear ≡ h.tear
ready_tear h = ap (λ x. x.tear) (ready_differs h)

alike_used : (puts : List (List ℕ)) (c : Change (List ℕ)) (g h : Host) → AreAlike g h
    → AreAlike (used puts (applied c g.state) g) (used puts (applied c h.state) h)
alike_used puts c g h k =
    let tears : (ready g).tear ≡ (ready h).tear = ready_tear g ∙ (ap (λ x. x.tear) k.same ∙ sym (ready_tear h)) in
    record {
      same = λ j. record {
        up = true;
        state = applied c (k.same j).state;
        told = (k.same j).state ∷ (k.same j).told;
        tear = tears j;
        fuses = no_fuses;
        calls = no_calls;
        root = [];
        records = 0;
        is_old = false;
      };
      fuses = still_none puts (applied c g.state) g k.fuses;
      others = still_none puts (applied c h.state) h k.others;
    }

alike_stopped : (g h : Host) → AreAlike g h → AreAlike (stopped g.state g) (stopped h.state h)
alike_stopped g h k = record {
  same = λ j. record {
    up = false;
    state = (k.same j).state;
    told = [];
    tear = (k.same j).tear;
    fuses = no_fuses;
    calls = no_calls;
    root = [];
    records = 0;
    is_old = false;
  };
  fuses = refl;
  others = refl;
}

put_alike : (i : HostId) (new other : Host) (w v : World) → AreAlike new other → AreWorldsAlike w v → AreWorldsAlike (put_host i new w) (put_host i other v)
put_alike i new other w v p k = record { hosts = alike_put i.0 new other p w.hosts v.hosts k.hosts; packets = k.packets; now = k.now }

unseen_alike : (w v : World) → AreWorldsAlike w v → AreRunsAlike (unseen w) (unseen v)
unseen_alike w v k = record { notes = refl; world = k }

seeing_alike : (x : Seen) (w v : World) → AreWorldsAlike w v → AreRunsAlike (seeing x w) (seeing x v)
seeing_alike x w v k = record { notes = refl; world = k }

emits_alike : (i : HostId) (os : List Output) (w v : World) → AreWorldsAlike w v → AreRunsAlike (emits i os w) (emits i os v)
emits_alike i [] w v k = unseen_alike w v k
emits_alike i (o ∷ os) w v k =
    let rest = emits_alike i os (record w { packets = w.packets ++ sent_by o }) (record v { packets = v.packets ++ sent_by o })
    (record { hosts = k.hosts; packets = ap (λ l. l ++ sent_by o) k.packets; now = k.now }) in
    record { notes = λ j. saws (seen_output i (length (k.packets j) + 1) o) ++ rest.notes j; world = rest.world }

module _ (i : HostId) (g h : Host) (k : AreAlike g h) where
  change_alike : (why : Why) (c : Change (List ℕ)) (first : List Seen) (os : List Output) (w v : World) → AreWorldsAlike w v
      → AreRunsAlike (makes_change i g why c first os w) (makes_change i h why c first os v)
  change_alike why c first os w v all =
      let puts : List (List ℕ) = stored_parts c in
      let u : World = put_host i (used puts (applied c g.state) g) w in
      let t : World = put_host i (used puts (applied c h.state) h) v in
      let rest = emits_alike i os u t (put_alike i (used puts (applied c g.state) g) (used puts (applied c h.state) h) w v (alike_used puts c g h k) all) in
      subst (λ f. AreRunsAlike (change_fated f i g why c first os w) (makes_change i h why c first os v)) (sym (made puts g k.fuses))
      (subst (λ f. AreRunsAlike (change_fated Made i g why c first os w) (change_fated f i h why c first os v)) (sym (made puts h k.others))
      (record { notes = ap (λ l. (Kept i why c ∷ saws first) ++ l) rest.notes; world = rest.world }))

  steps_alike : (why : Why) (x : Stepped (List ℕ)) (w v : World) → AreWorldsAlike w v → AreRunsAlike (steps i g why x w) (steps i h why x v)
  steps_alike why x w v all = of x.change
    where
      of : (o : Option (Change (List ℕ))) → AreRunsAlike (carries_out i g why o (map shown x.outputs) w) (carries_out i h why o (map shown x.outputs) v)
      of None = emits_alike i (map shown x.outputs) w v all
      of (Some c) = change_alike why c [] (map shown x.outputs) w v all

then_alike : (r q : Ran) (f k : World → Ran) → AreRunsAlike r q → ((w v : World) → AreWorldsAlike w v → AreRunsAlike (f w) (k v))
    → AreRunsAlike (then_ran r f) (then_ran q k)
then_alike r q f k all next =
    let rest = next r.world q.world all.world in
    record { notes = λ j. all.notes j ++ rest.notes j; world = rest.world }

-- starts

abbrev start_of : ℕ → HostId → Option Host → World → Ran
start_of n i o w = elim o [
  | None ↦ unseen w
  | Some host ↦ elim host.up [
    | false ↦ unseen w
    | true ↦ elim (start w.now host.state) [
      | None ↦ unseen w
      | Some s ↦ (let r = steps i host ByStart s w in then_noted r.notes (starts n i r.world))
    ]
  ]
]

abbrev begin_of : ℕ → HostId → Host → Bool → Option (Stepped (List ℕ)) → World → Ran
begin_of n i host up o w = elim up [
  | false ↦ unseen w
  | true ↦ elim o [
    | None ↦ unseen w
    | Some s ↦ (let r = steps i host ByStart s w in then_noted r.notes (starts n i r.world))
  ]
]

starts_alike : (n : ℕ) (i : HostId) (w v : World) → AreWorldsAlike w v → AreRunsAlike (starts n i w) (starts n i v)
starts_alike zero i w v k = unseen_alike w v k
starts_alike (suc n) i w v k = of (host_of i w) (host_of i v) (alike_at w.hosts v.hosts k.hosts i.0) (starts_alike n i)
  where
    by : (g h : Host) → AreAlike g h → (up : Bool) (o : Option (Stepped (List ℕ)))
        → ((a b : World) → AreWorldsAlike a b → AreRunsAlike (starts n i a) (starts n i b)) → AreRunsAlike (begin_of n i g up o w) (begin_of n i h up o v)
    by g h p false o rest = unseen_alike w v k
    by g h p true None rest = unseen_alike w v k
    by g h p true (Some x) rest = then_alike (steps i g ByStart x w) (steps i h ByStart x v) (starts n i) (starts n i)
        (steps_alike i g h p ByStart x w v k) rest

    of : (a b : Option Host) → BothAlike a b → ((a b : World) → AreWorldsAlike a b → AreRunsAlike (starts n i a) (starts n i b))
        → AreRunsAlike (start_of n i a w) (start_of n i b v)
    of None None p rest = unseen_alike w v k
    of None (Some h) p rest = absurd p
    of (Some g) None p rest = absurd p
    of (Some g) (Some h) p rest =
        subst (λ up. AreRunsAlike (begin_of n i g g.up (start w.now g.state) w) (begin_of n i h up (start v.now h.state) v)) (ap (λ x. x.up) p.same)
        (subst (λ o. AreRunsAlike (begin_of n i g g.up (start w.now g.state) w) (begin_of n i h g.up o v)) (λ j. start (k.now j) (p.same j).state)
        (by g h p g.up (start w.now g.state) rest))

all_starts_alike : (i : HostId) (w v : World) → AreWorldsAlike w v → AreRunsAlike (all_starts i w) (all_starts i v)
all_starts_alike i w v k =
    subst (λ n. AreRunsAlike (all_starts i w) (starts n i v)) (of (host_of i w) (host_of i v) (alike_at w.hosts v.hosts k.hosts i.0))
    (starts_alike (left_of (host_of i w)) i w v k)
  where
    of : (a b : Option Host) → BothAlike a b → left_of a ≡ left_of b
    of None None p = refl
    of None (Some h) p = absurd p
    of (Some g) None p = absurd p
    of (Some g) (Some h) p = ap (λ x. starts_left x.state) p.same

-- events

-- what a host does that is up, or that is down
abbrev halt : HostId → Host → Bool → World → Ran
halt i host up w = if up then seeing (seen.Stop i) (put_host i (stopped host.state host) w) else unseen w

abbrev take_if : HostId → (Host → World → Ran) → Host → Bool → World → Ran
take_if i f host up w = if up then f host w else seeing (seen.Down i) w

abbrev boot_if : HostId → Host → Bool → World → Ran
boot_if i host up w = if up then seeing (seen.Up i) w else boots_down i host w

halts_alike : (b : Bool) (i : HostId) (w v : World) → AreWorldsAlike w v → AreRunsAlike (halts b i w) (halts b i v)
halts_alike false i w v k = unseen_alike w v k
halts_alike true i w v k = of (host_of i w) (host_of i v) (alike_at w.hosts v.hosts k.hosts i.0)
  where
    by : (g h : Host) → AreAlike g h → (up : Bool) → AreRunsAlike (halt i g up w) (halt i h up v)
    by g h p true = seeing_alike (seen.Stop i) (put_host i (stopped g.state g) w) (put_host i (stopped h.state h) v)
        (put_alike i (stopped g.state g) (stopped h.state h) w v (alike_stopped g h p) k)
    by g h p false = unseen_alike w v k

    of : (a b : Option Host) → BothAlike a b → AreRunsAlike (halted_host i a w) (halted_host i b v)
    of None None p = unseen_alike w v k
    of None (Some h) p = absurd p
    of (Some g) None p = absurd p
    of (Some g) (Some h) p = subst (λ up. AreRunsAlike (halt i g g.up w) (halt i h up v)) (ap (λ x. x.up) p.same) (by g h p g.up)

event_alike : (i : HostId) (e : Event) (g h : Host) → AreAlike g h → (w v : World) → AreWorldsAlike w v → AreRunsAlike (takes_up i g e w) (takes_up i h e v)
event_alike i e g h p w v k =
    let states : g.state ≡ h.state = ap (λ x. x.state) p.same in
    let stepped : AreRunsAlike (steps i g (ByEvent e) (step e g.state) w) (steps i h (ByEvent e) (step e h.state) v) =
    subst (λ s. AreRunsAlike (steps i g (ByEvent e) (step e g.state) w) (steps i h (ByEvent e) (step e s) v)) states
    (steps_alike i g h p (ByEvent e) (step e g.state) w v k) in
    subst (λ s. AreRunsAlike (takes_up i g e w) (then_ran (then_ran (steps i h (ByEvent e) (step e h.state) v) (all_starts i)) (halts (step e s).halts i)))
    states (then_alike (then_ran (steps i g (ByEvent e) (step e g.state) w) (all_starts i)) (then_ran (steps i h (ByEvent e) (step e h.state) v) (all_starts i))
    (halts (step e g.state).halts i) (halts (step e g.state).halts i)
    (then_alike (steps i g (ByEvent e) (step e g.state) w) (steps i h (ByEvent e) (step e h.state) v) (all_starts i) (all_starts i) stepped
    (all_starts_alike i)) (halts_alike (step e g.state).halts i))

taken_alike : (i : HostId) (f k : Host → World → Ran) → ((g h : Host) → AreAlike g h → (w v : World) → AreWorldsAlike w v → AreRunsAlike (f g w) (k h v))
    → (w v : World) → AreWorldsAlike w v → AreRunsAlike (taken_by (host_of i w) i f w) (taken_by (host_of i v) i k v)
taken_alike i f k does w v all = of (host_of i w) (host_of i v) (alike_at w.hosts v.hosts all.hosts i.0)
  where
    by : (g h : Host) → AreAlike g h → (up : Bool) → AreRunsAlike (take_if i f g up w) (take_if i k h up v)
    by g h p true = does g h p w v all
    by g h p false = seeing_alike (seen.Down i) w v all

    of : (a b : Option Host) → BothAlike a b → AreRunsAlike (taken_by a i f w) (taken_by b i k v)
    of None None p = unseen_alike w v all
    of None (Some h) p = absurd p
    of (Some g) None p = absurd p
    of (Some g) (Some h) p = subst (λ up. AreRunsAlike (take_if i f g g.up w) (take_if i k h up v)) (ap (λ x. x.up) p.same) (by g h p g.up)

takes_alike : (i : HostId) (a b : Event) → a ≡ b → (w v : World) → AreWorldsAlike w v → AreRunsAlike (takes i a w) (takes i b v)
takes_alike i a b same w v k =
    subst (λ e. AreRunsAlike (takes i a w) (takes i e v)) same
    (taken_alike i (λ host. takes_up i host a) (λ host. takes_up i host a) (event_alike i a) w v k)

finishes_alike : (i : HostId) (g h : Host) → AreAlike g h → (w v : World) → AreWorldsAlike w v → AreRunsAlike (finishes_up i g w) (finishes_up i h v)
finishes_alike i g h p w v k =
    subst (λ o. AreRunsAlike (finishes_up i g w) (finishes i h o v)) (ap (λ x. best_from runs_now is_less_row 0 x.state.rows) p.same)
    (of (best_from runs_now is_less_row 0 g.state.rows))
  where
    of : (o : Option (ℕ × Row (List ℕ))) → AreRunsAlike (finishes i g o w) (finishes i h o v)
    of None = seeing_alike (seen.Idle i) w v k
    of (Some r) = subst (λ now. AreRunsAlike (takes_up i g (event.Ended w.now 0 r.1.id r.1.starts 0 [] []) w)
        (takes_up i h (event.Ended now 0 r.1.id r.1.starts 0 [] []) v)) k.now (event_alike i (event.Ended w.now 0 r.1.id r.1.starts 0 [] []) g h p w v k)

delivers_alike : (n : Option ℕ) (o : Option Message) (w v : World) → AreWorldsAlike w v → AreRunsAlike (delivers n o w) (delivers n o v)
delivers_alike n None w v k = seeing_alike (seen.NoPacket n) w v k
delivers_alike n (Some m) w v k = takes_alike m.to (event.Arrived w.now m) (event.Arrived v.now m) (ap (λ now. event.Arrived now m) k.now) w v k

same_packet : (n : ℕ) (w v : World) → AreWorldsAlike w v → packet_at n w ≡ packet_at n v
same_packet zero w v k = refl
same_packet (suc n) w v k = ap (λ l. slice_get l n) k.packets

boots_alike : (i : HostId) (w v : World) → AreWorldsAlike w v → AreRunsAlike (boots i (host_of i w) w) (boots i (host_of i v) v)
boots_alike i w v k = of (host_of i w) (host_of i v) (alike_at w.hosts v.hosts k.hosts i.0)
  where
    down : (g h : Host) → AreAlike g h → AreRunsAlike (boots_down i g w) (boots_down i h v)
    down g h p =
        let os : Host → List Output = λ x. filter_map boot_output x.state.rows in
        subst (λ l. AreRunsAlike (boots_down i g w) (then_ran (makes_change i h ByBoot Boot (seen.Boot i ∷ []) l v) (all_starts i))) (ap (λ x. os x) p.same)
        (then_alike (makes_change i g ByBoot Boot (seen.Boot i ∷ []) (os g) w) (makes_change i h ByBoot Boot (seen.Boot i ∷ []) (os g) v)
        (all_starts i) (all_starts i) (change_alike i g h p ByBoot Boot (seen.Boot i ∷ []) (os g) w v k) (all_starts_alike i))

    by : (g h : Host) → AreAlike g h → (up : Bool) → AreRunsAlike (boot_if i g up w) (boot_if i h up v)
    by g h p true = seeing_alike (seen.Up i) w v k
    by g h p false = down g h p

    of : (a b : Option Host) → BothAlike a b → AreRunsAlike (boots i a w) (boots i b v)
    of None None p = unseen_alike w v k
    of None (Some h) p = absurd p
    of (Some g) None p = absurd p
    of (Some g) (Some h) p = subst (λ up. AreRunsAlike (boot_if i g g.up w) (boot_if i h up v)) (ap (λ x. x.up) p.same) (by g h p g.up)

happens_alike : (act : Act) → lays_none act ≡ true → (w v : World) → AreWorldsAlike w v → AreRunsAlike (happens act w) (happens act v)
happens_alike (Asks i user c) none w v k = takes_alike i (event.Ask w.now 0 0 user c) (event.Ask v.now 0 0 user c)
    (ap (λ now. event.Ask now 0 0 user c) k.now) w v k
happens_alike (Ends i id start status output error) none w v k = takes_alike i (event.Ended w.now 0 id start status output error)
    (event.Ended v.now 0 id start status output error) (ap (λ now. event.Ended now 0 id start status output error) k.now) w v k
happens_alike (Finishes i) none w v k = taken_alike i (finishes_up i) (finishes_up i) (finishes_alike i) w v k
happens_alike (Fails i id start) none w v k =
    takes_alike i (event.Unlaunched w.now id start) (event.Unlaunched v.now id start) (ap (λ now. event.Unlaunched now id start) k.now) w v k
happens_alike (Writes i file) none w v k = takes_alike i (event.Written w.now file) (event.Written v.now file) (ap (λ now. event.Written now file) k.now) w v k
happens_alike (Leaves i file) none w v k = takes_alike i (event.Unwritten w.now file) (event.Unwritten v.now file)
    (ap (λ now. event.Unwritten now file) k.now) w v k
happens_alike (Delivers n) none w v k = subst (λ o. AreRunsAlike (happens (Delivers n) w) (delivers (Some n) o v)) (same_packet n w v k)
    (delivers_alike (Some n) (packet_at n w) w v k)
happens_alike (Newest a b) none w v k = subst (λ o. AreRunsAlike (happens (Newest a b) w) (delivers None o v))
    (ap (λ l. last_of (filter (is_between a b) l)) k.packets) (delivers_alike None (newest_between a b w) w v k)
happens_alike (Ticks i) none w v k = takes_alike i (event.Tick w.now) (event.Tick v.now) (ap (λ now. event.Tick now) k.now) w v k
happens_alike (Clock moment) none w v k = record { notes = refl; world = record { hosts = k.hosts; packets = k.packets; now = refl } }
happens_alike (Fuse i disk calls tear) none w v k = absurd (true≢false (sym none))
happens_alike (Crashes i) none w v k = taken_alike i (crashes_up i) (crashes_up i) (λ g h p a b all. seeing_alike (seen.Stop i)
    (put_host i (stopped g.state g) a) (put_host i (stopped h.state h) b)
    (put_alike i (stopped g.state g) (stopped h.state h) a b (alike_stopped g h p) all)) w v k
happens_alike (Boots i) none w v k = boots_alike i w v k
happens_alike Shows none w v k = record { notes = ap (λ l. Saw (seen.Table (table l)) ∷ []) (alike_states w.hosts v.hosts k.hosts); world = k }

pub run_alike : (acts : List Act) (w v : World) → list_all lays_none acts ≡ true → AreWorldsAlike w v → AreRunsAlike (run acts w) (run acts v)
run_alike [] w v none k = unseen_alike w v k
run_alike (act ∷ acts) w v none k =
    let both = and_parts (lays_none act) (list_all lays_none acts) none in
    let now = happens_alike act both.0 w v k in
    let rest = run_alike acts (happens act w).world (happens act v).world both.1 now.world in
    record { notes = λ j. now.notes j ++ rest.notes j; world = rest.world }
