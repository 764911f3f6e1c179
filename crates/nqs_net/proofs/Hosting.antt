-- What a stop, a boot and a shutdown of a host make of a network.
use Rattle.std.proofs.Common.{◌≡◌, ◌⊎◌, inl, inr, ℕ, Bool, true, false, true≢false, IsTrue, List, [], ◌∷◌, ◌++◌, length, if◌then◌else◌, Some, refl, sym, ap}
use Rattle.std.proofs.Common.{subst, ◌∙◌}
use Rattle.std.proofs.lemmas.List.{append-nil}
use Rattle.std.specs.List.{filter_map}
use Rattle.nqs_types.specs.declared.ids.HostId.{HostId}
use Rattle.nqs_types.specs.declared.change.Change.TheVariants.{Boot}
use Rattle.nqs_types.specs.declared.message.Message.{Message}
use Rattle.nqs_base.specs.declared.tear.Tear.{Tear}
use Rattle.nqs_types.specs.declared.world.Seen.{Seen}
use Rattle.nqs_types.specs.declared.world.Seen.TheVariants as seen
use Rattle.nqs_types.specs.declared.world.Which.{Which}
use Rattle.nqs_types.specs.declared.world.Which.TheVariants.{Root}
use Rattle.nqs_outside.specs.History.{History, state, IsImage}
use Rattle.nqs_disk.specs.MemDisk as mem
use Rattle.nqs_disk.specs.Torn.{torn}
use Rattle.nqs_disk.specs.contracts.mem_disk.MemDiskDisk.TheImpl.{ghosts}
use Rattle.nqs_disk.specs.declared.mem_disk.MemDisk.{MemDisk}
use Rattle.nqs_rules.specs.Applied.{applied}
use Rattle.nqs_rules.specs.Stepped.{stored_parts}
use Rattle.nqs_rules.specs.Notes.{Saw, ByBoot}
use Rattle.nqs_rules.specs.World.{World as Network, Host, Ran, seen_of, stopped, used, all_starts, halted_host, halts, crashes_up, makes_change, of_disk}
use Rattle.nqs_rules.specs.World.{boot_output, unseen}
use Rattle.nqs_store.specs.Active.{IsActive, ready, recorded}
use Rattle.nqs_store.specs.Disks.{disk_at, histories_of, failing_of}
use Rattle.nqs_store.specs.declared.disks.Disks.{Disks}
use Rattle.nqs_store.specs.Sound.{IsSoundHost}
use Rattle.nqs_store.proofs.TellsNow.{only_image}
use Rattle.nqs_node.specs.Carried.{IsMade, IsCutBy, IsBlown, IsOneOrOther}
use Rattle.nqs_node.specs.Nodes.{disk_of, history_of, fails_of, active_of, content_of, Tells}
use Rattle.nqs_node.specs.declared.node.Node.{Node}
use Rattle.nqs_laws.specs.Outputs.{sent_in, seen_from}
use Rattle.nqs_net.specs.Worlds.{IsUp, IsDown, IsSlot, active_in}
use Rattle.nqs_net.specs.Turns.{IsStopped, Faces, Turns}
use Rattle.nqs_net.specs.declared.slot.Slot.{Slot}
use Rattle.nqs_net.specs.declared.slot.Slot.TheVariants.{Up, Down}
use Rattle.nqs_net.proofs.Fates.{unblown}
use Rattle.nqs_net.proofs.Stops.{AreFound}
use Rattle.nqs_net.proofs.Coming.{node_tells, down_quiet, down_come}
use Rattle.nqs_net.proofs.Starting.{down_all}
use Rattle.nqs_net.proofs.Turning.{put_turn, torn_down, kept_up, kept_turn, cut_turn, same_self}

-- what a node tells is found in what a stop leaves of its disks
node_found : (node : Node MemDisk ghosts) (host : Host) (tear : Tear) → IsUp node host
    → ((which : Which) → IsImage (state (history_of node which)) (torn tear (state (history_of node which))))
    → AreFound (λ which. torn tear (state (history_of node which))) host.state host
node_found node host tear is images =
    let left : Which → List ℕ = λ which. torn tear (state (history_of node which)) in
    let told = node_tells node host.state is.tells left images in
    record {
      told = told.0;
      root = sym (only_image (history_of node Root) (left Root) is.tells.told.root (images Root)) ∙ is.root;
      active = subst (IsActive left) is.active told.1;
    }

module _ (h : HostId) (w : Network) (host : Host) (tear : Tear) (packets : List Message) (faces : Faces h host tear packets w) where
  -- a host that is up stops as it is
  pub crash_turn : (node : Node MemDisk ghosts) → IsUp node host → (disks : Disks MemDisk) → ((which : Which) → disk_at which disks ≡ disk_of which node)
      → (slot : Slot) (before after : List Seen) → after ≡ before ++ seen.Stop h ∷ []
      → IsStopped tear (histories_of mem.history_of disks) slot → Turns h (IsSlot slot) tear packets before after w (crashes_up h host w)
  crash_turn node is disks closed slot before after saw torn_now =
      let there : IsStopped tear (history_of node) slot = subst (λ (now : Which → History). IsStopped tear now slot)
      (λ j which. mem.history_of (closed which j)) torn_now in
      of slot (subst (λ t. IsStopped t (history_of node) slot) faces.tear there)
    where
      of : (s : Slot) → IsStopped host.tear (history_of node) s → Turns h (IsSlot s) tear packets before after w (crashes_up h host w)
      of (Up up) torn_now = absurd torn_now
      of (Down down) torn_now =
          subst (λ l. Turns h (IsSlot (Down down)) tear l before after w (crashes_up h host w)) (sym faces.packets)
          (put_turn h w host (stopped host.state host) faces.there (IsSlot (Down down))
          (torn_down host.tear (history_of node) down.disks.value torn_now host host.state
          (node_found node host host.tear is torn_now.images)) tear faces.tear (Saw (seen.Stop h) ∷ []) before after saw)

  -- nothing is done
  pub idle_at : (P : Host → Type 0) → P host → (before : List Seen) → Turns h P tear packets before before w (unseen w)
  idle_at P p before = record { at = record { host = host; stands = p; faces = faces }; rest = same_self h w; seen = sym (append-nil before) }

  pub up_halts : host.up ≡ true → halts true h w ≡ crashes_up h host w
  up_halts up = ap (λ o. halted_host h o w) faces.there ∙ by host.up up
    where
      by : (b : Bool) → b ≡ true → (let stop = crashes_up h host w in if◌then◌else◌ b stop (unseen w) ≡ stop)
      by true e = refl
      by false e = absurd (true≢false (sym e))

  pub down_halts : host.up ≡ false → halts true h w ≡ unseen w
  down_halts down = ap (λ o. halted_host h o w) faces.there ∙ by host.up down
    where
      by : (b : Bool) → b ≡ false → if◌then◌else◌ b (crashes_up h host w) (unseen w) ≡ unseen w
      by true e = absurd (true≢false e)
      by false e = refl

  -- nothing starts there, so it doesn't matter whether it is to halt
  pub down_either : host.up ≡ false → (b d : Bool) → halts b h (all_starts h w).world ≡ halts d h (all_starts h w).world
  down_either down b d = still b ∙ sym (still d)
    where
      by : (b : Bool) → halts b h w ≡ unseen w
      by false = refl
      by true = down_halts down

      still : (b : Bool) → halts b h (all_starts h w).world ≡ unseen w
      still b = ap (λ (r : Ran). halts b h r.world) (down_all h w host faces.there down) ∙ by b

  -- the boot of a host that is down

  module _ (disks : Disks MemDisk) (is : IsDown disks host) where
    abbrev fails : Which → ℕ → Bool
    fails = failing_of mem.fails_of disks

    abbrev old : Which → History
    old = histories_of mem.history_of disks

    pub boot_turn : (node boxed : Node MemDisk ghosts) → boxed ≡ node → IsSoundHost (content_of node) → Tells node (applied Boot host.state)
        → IsMade (active_in host) fails old (history_of node) (Some Boot) → active_of node ≡ recorded (ready (active_in host))
        → IsOneOrOther (active_in host) old (history_of node) (Some Boot) host.state → ((which : Which) (i : ℕ) → fails_of node which i ≡ fails which i)
        → (sent : List Message) (before after : List Seen) → sent ≡ packets ++ sent_in (filter_map boot_output host.state.rows)
        → after ≡ before ++ (seen.Boot h ∷ seen_from h (length packets) (filter_map boot_output host.state.rows))
        → Turns h (IsUp boxed) tear sent before after w (makes_change h host ByBoot Boot (seen.Boot h ∷ []) (filter_map boot_output host.state.rows) w)
    boot_turn node boxed same_node sound tells kept goes moments same sent before after sends saw =
        kept_turn h w host tear packets faces (seen.Boot h ∷ []) (filter_map boot_output host.state.rows) ByBoot Boot fails old is.disks (history_of node)
        (IsUp boxed) kept
        (subst (λ n. IsUp n (used (stored_parts Boot) (applied Boot host.state) host)) (sym same_node)
        (kept_up host fails old is.disks node Boot (down_quiet disks host is Root) is.root (down_come disks host is) moments kept goes tells sound same))
        sent before after sends saw

    -- what there is to see of it
    pub boot_seen : (node : Node MemDisk ghosts) → IsSoundHost (content_of node) → Tells node (applied Boot host.state)
        → IsMade (active_in host) fails old (history_of node) (Some Boot) → active_of node ≡ recorded (ready (active_in host))
        → IsOneOrOther (active_in host) old (history_of node) (Some Boot) host.state → ((which : Which) (i : ℕ) → fails_of node which i ≡ fails which i)
        → seen.Boot h ∷ seen_from h (length packets) (filter_map boot_output host.state.rows)
        ≡ seen_of (makes_change h host ByBoot Boot (seen.Boot h ∷ []) (filter_map boot_output host.state.rows) w)
    boot_seen node sound tells kept goes moments same =
        let outs = filter_map boot_output host.state.rows in
        (boot_turn node node refl sound tells kept goes moments same (packets ++ sent_in outs) [] (seen.Boot h ∷ seen_from h (length packets) outs) refl
        refl).seen

    pub boot_cut : (now : Which → History) (slot : Slot) (which : Which) (starved : Bool) (before after : List Seen) → after ≡ before ++ seen.Stop h ∷ []
        → IsStopped tear now slot → starved ≡ false
        → IsTrue starved ⊎ (IsBlown (fails which) (old which) ⊎ IsCutBy (active_in host) fails old now (Some Boot) host.state which)
        → Turns h (IsSlot slot) tear packets before after w (makes_change h host ByBoot Boot (seen.Boot h ∷ []) (filter_map boot_output host.state.rows) w)
    boot_cut now slot which starved before after saw torn_now fed (inl hungry) = absurd (true≢false (sym hungry ∙ fed))
    boot_cut now slot which starved before after saw torn_now fed (inr (inl blown)) =
        absurd (unblown (of_disk which host.fuses) (old which) (fails which) (is.disks which).fuse blown)
    boot_cut now slot which starved before after saw torn_now fed (inr (inr cut)) =
        cut_turn h w host tear packets faces (seen.Boot h ∷ []) (filter_map boot_output host.state.rows) ByBoot Boot fails old is.disks now before after saw
        slot which torn_now (down_quiet disks host is Root) is.root cut
