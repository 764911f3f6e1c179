-- After each event that a host took, or its boot, no queue has anything left to start.
use Rattle.std.proofs.Common.{◌≡◌, ℕ, Bool, true, false, not, List, [], ◌∷◌, ◌++◌, slice_get, Option, None, Some, is_some, true≢false, refl, sym, ap, subst}
use Rattle.std.proofs.Common.{◌∙◌, if◌then◌else◌}
use Rattle.std.proofs.lemmas.Bool.{and_parts}
use Rattle.std.proofs.lemmas.List.Folds.{list_all-append}
use Rattle.std.proofs.lemmas.Option.{same_Some, none-some}
use Rattle.std.specs.List.{list_any, list_all, filter_map}
use Rattle.nqs_base_tables.specs.Table.{best_from}
use Rattle.nqs_rules.specs.InOrder.{IsInOrder}
use Rattle.nqs_rules.specs.Picked.{may_start}
use Rattle.nqs_rules.specs.Start.{start}
use Rattle.nqs_rules.specs.Starts.{after_change}
use Rattle.nqs_rules.specs.Tests.{passes}
use Rattle.nqs_rules.specs.World.{World, Host, Ran, Act, Asks, Ends, Finishes, Fails, Writes, Leaves, Delivers, Newest, Ticks, Clock, Fuse, Crashes, Boots}
use Rattle.nqs_rules.specs.World.{Shows, host_of, seeing, takes_up, taken_by, takes, finishes, finishes_up, delivers, packet_at, is_between, newest_between}
use Rattle.nqs_rules.specs.World.{boot_output, boots_down, boots, new_world}
use Rattle.nqs_rules.specs.Run.{states_of, happens, run_of}
use Rattle.nqs_rules.proofs.BestLaws.{best_is_some}
use Rattle.nqs_rules.proofs.ChangesOrder.{applied_order}
use Rattle.nqs_rules.proofs.Until.{steady}
use Rattle.nqs_rules.specs.Notes.{ByBoot, Note}
use Rattle.nqs_laws.specs.History.{history}
use Rattle.nqs_laws.specs.Rest.{receiver, if_host, runs_something, host_for}
use Rattle.nqs_laws.specs.Sane.{is_sane_act, AreSane, IsSite}
use Rattle.nqs_laws.proofs.Frame.{moment, state_at, Comes, Way, Taken, Booted, change_by, packet_sent, was_first}
use Rattle.nqs_laws.proofs.Sound.{IsSound, way_suits, run_sound}
use Rattle.nqs_laws.proofs.Closing.{run-append}
use Rattle.nqs_laws.proofs.Begins.{none_may_start}
use Rattle.nqs_laws.proofs.Rests.{RestsNow, event_rests, change_rests}
use Rattle.nqs_types.specs.declared.ids.HostId.{HostId}
use Rattle.nqs_types.specs.declared.request.Row.{Row}
use Rattle.nqs_types.specs.declared.message.Message.{Message}
use Rattle.nqs_types.specs.declared.change.Change.{Change}
use Rattle.nqs_types.specs.declared.change.Change.TheVariants.{Boot}
use Rattle.nqs_types.specs.declared.event.Event.{Event}
use Rattle.nqs_state.specs.Least.{runs_now, is_less_row}
use Rattle.nqs_types.specs.declared.event.Event.TheVariants as event
use Rattle.nqs_types.specs.declared.world.Seen.TheVariants as seen

module _ (site : List (List ℕ)) (w : World) (ns : List Note) (k : IsSound site (moment w ns)) where
  -- what a host makes of an event, or of its boot, leaves it in order
  module _ (h : HostId) (host : Host) (there : host_of h w ≡ Some host) where
    at : slice_get (states_of w) h.0 ≡ Some host.state
    at = state_at h host w there

    order : IsInOrder host.state
    order = (k.hosts h.0 host.state at).order

    after : (way : Way w.packets h host.state) → IsInOrder (after_change (change_by way) host.state)
    after way = by (change_by way) refl
      where
        by : (o : Option (Change (List ℕ))) → change_by way ≡ o → IsInOrder (after_change o host.state)
        by None e = order
        by (Some c) e = let suits = way_suits site (moment w ns) k h host.state at way c e in applied_order c host.state order suits.sane suits.fit

  nowhere : (h : HostId) → host_of h w ≡ None → RestsNow h w
  nowhere h none g at up = absurd (none-some g (sym none ∙ at))

  asleep : (h : HostId) (host : Host) → host_of h w ≡ Some host → host.up ≡ false → RestsNow h w
  asleep h host there is_down g at up = absurd (true≢false (sym up ∙ ap (λ v. v.up) (same_Some g host (sym at ∙ there)) ∙ is_down))

  up_rests : (h : HostId) (host : Host) → host_of h w ≡ Some host → (e : Event) → Comes w.packets h e → RestsNow h (takes_up h host e w).world
  up_rests h host there e comes = event_rests h host e w there (after h host there (Taken e comes))

  taken_rests : (h : HostId) (f : Host → World → Ran) → ((host : Host) → host_of h w ≡ Some host → RestsNow h (f host w).world)
      → RestsNow h (taken_by (host_of h w) h f w).world
  taken_rests h f rests = of (host_of h w) refl
    where
      by : (host : Host) → host_of h w ≡ Some host → (up : Bool) → host.up ≡ up → RestsNow h (if up then f host w else seeing (seen.Down h) w).world
      by host there true is_up = rests host there
      by host there false is_down = asleep h host there is_down

      of : (o : Option Host) → host_of h w ≡ o → RestsNow h (taken_by o h f w).world
      of None e = nowhere h e
      of (Some host) e = by host e host.up refl

  takes_rests : (h : HostId) (e : Event) → Comes w.packets h e → RestsNow h (takes h e w).world
  takes_rests h e comes = taken_rests h (λ host. takes_up h host e) (λ host there. up_rests h host there e comes)

  -- the host of a test that is passed
  passed : (test : Host → Bool) (h g : HostId) → if_host test h w ≡ Some g → (h ≡ g) × (passes test (host_of h w) ≡ true)
  passed test h g e = by (passes test (host_of h w)) refl e
    where
      by : (b : Bool) → passes test (host_of h w) ≡ b → (if b then Some h else None) ≡ Some g → (h ≡ g) × (passes test (host_of h w) ≡ true)
      by true is_up e = (same_Some h g e, is_up)
      by false is_down e = absurd (none-some g e)

  finish_rests : (h : HostId) → passes runs_something (host_of h w) ≡ true → RestsNow h (taken_by (host_of h w) h (finishes_up h) w).world
  finish_rests h runs = taken_rests h (finishes_up h) (λ host there. of host there (best_from runs_now is_less_row 0 host.state.rows) refl)
    where
      of : (host : Host) → host_of h w ≡ Some host → (o : Option (ℕ × Row (List ℕ))) → best_from runs_now is_less_row 0 host.state.rows ≡ o
          → RestsNow h (finishes h host o w).world
      of host there None e = absurd (true≢false (sym runs ∙ ap (passes runs_something) there ∙ sym (best_is_some runs_now is_less_row 0 host.state.rows)
          ∙ ap is_some e))
      of host there (Some q) e = up_rests h host there (event.Ended w.now 0 q.1.id q.1.starts 0 [] []) refl

  arrival_rests : (number : Option ℕ) (o : Option Message) (h : HostId) → ((m : Message) → o ≡ Some m → (place : ℕ) × (slice_get w.packets place ≡ Some m))
      → receiver o ≡ Some h → RestsNow h (delivers number o w).world
  arrival_rests number None h sent is = absurd (none-some h is)
  arrival_rests number (Some m) h sent is = subst (λ g. RestsNow g (takes m.to (event.Arrived w.now m) w).world) (same_Some m.to h is)
      (takes_rests m.to (event.Arrived w.now m) (refl, sent m refl))

  boot_rests : (h : HostId) → passes (λ host. not host.up) (host_of h w) ≡ true → RestsNow h (boots h (host_of h w) w).world
  boot_rests h down = of (host_of h w) refl down
    where
      by : (host : Host) → host_of h w ≡ Some host → (up : Bool) → not up ≡ true → RestsNow h (if up then seeing (seen.Up h) w else boots_down h host w).world
      by host there true is_down = absurd (true≢false (sym is_down))
      by host there false is_up = change_rests h host ByBoot Boot (seen.Boot h ∷ []) (filter_map boot_output host.state.rows) w there
          (after h host there Booted)

      of : (o : Option Host) → host_of h w ≡ o → passes (λ host. not host.up) o ≡ true → RestsNow h (boots h o w).world
      of None e is_down = absurd (true≢false (sym is_down))
      of (Some host) e is_up = by host e host.up is_up

  event_rests_at : (e : Event) (g h : HostId) → Some g ≡ Some h → Comes w.packets g e → RestsNow h (takes g e w).world
  event_rests_at e g h is comes = subst (λ i. RestsNow i (takes g e w).world) (same_Some g h is) (takes_rests g e comes)

  happens_rests : (a : Act) → is_sane_act a ≡ true → (h : HostId) → host_for a w ≡ Some h → RestsNow h (happens a w).world
  happens_rests (Asks g user c) sane h is = event_rests_at (event.Ask w.now 0 0 user c) g h is sane
  happens_rests (Ends g id start status output error) sane h is = event_rests_at (event.Ended w.now 0 id start status output error) g h is sane
  happens_rests (Finishes g) sane h is = let p = passed runs_something g h is in
      subst (λ i. RestsNow i (taken_by (host_of g w) g (finishes_up g) w).world) p.0 (finish_rests g p.1)
  happens_rests (Fails g id start) sane h is = event_rests_at (event.Unlaunched w.now id start) g h is refl
  happens_rests (Writes g file) sane h is = event_rests_at (event.Written w.now file) g h is refl
  happens_rests (Leaves g file) sane h is = event_rests_at (event.Unwritten w.now file) g h is refl
  happens_rests (Delivers number) sane h is = arrival_rests (Some number) (packet_at number w) h (λ m e. packet_sent number w m e) is
  happens_rests (Newest a b) sane h is = arrival_rests None (newest_between a b w) h (λ m e. was_first (is_between a b) w.packets m e) is
  happens_rests (Ticks g) sane h is = event_rests_at (event.Tick w.now) g h is refl
  happens_rests (Clock n) sane h is = absurd (none-some h is)
  happens_rests (Fuse g disk calls tear) sane h is = absurd (none-some h is)
  happens_rests (Crashes g) sane h is = absurd (none-some h is)
  happens_rests (Boots g) sane h is = let p = passed (λ host. not host.up) g h is in
      subst (λ i. RestsNow i (boots g (host_of g w) w).world) p.0 (boot_rests g p.1)
  happens_rests Shows sane h is = absurd (none-some h is)

pub rests : (site : List (List ℕ)) → IsSite site → (acts : List Act) (a : Act) → AreSane (acts ++ a ∷ []) → (h : HostId)
    → host_for a (run_of site acts).world ≡ Some h
    → (host : Host) → host_of h (run_of site (acts ++ a ∷ [])).world ≡ Some host → host.up ≡ true
    → list_any (may_start (run_of site (acts ++ a ∷ [])).world.now host.state) host.state.queues ≡ false
rests site few acts a sane h is host at up =
    let w : World = (run_of site acts).world in
    let each = and_parts (list_all is_sane_act acts) (list_all is_sane_act (a ∷ [])) (sym (list_all-append is_sane_act acts (a ∷ [])) ∙ sane) in
    let one = and_parts (is_sane_act a) true each.1 in
    let rested : RestsNow h (happens a w).world = happens_rests site w (history acts (new_world site)) (run_sound site few.1 acts each.0) a one.0 h is in
    let now : RestsNow h (run_of site (acts ++ a ∷ [])).world = subst (RestsNow h) (sym (run-append acts (a ∷ []) (new_world site))) rested in
    let end = now host at up in
    none_may_start (run_of site (acts ++ a ∷ [])).world.now host.state (steady host.state end.0) end.1
