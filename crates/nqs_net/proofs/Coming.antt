-- The disks of a host go on change by change.
use Rattle.std.proofs.Common.{◌≡◌, ℕ, ◌≤◌, List, [], ◌∷◌, length, Some, refl, sym, ap, subst, arith}
use Rattle.nqs_state.specs.State.{Plain}
use Rattle.nqs_types.specs.declared.change.Change.{Change}
use Rattle.nqs_types.specs.declared.world.Which.{Which}
use Rattle.nqs_types.specs.declared.world.Which.TheVariants.{Root, First, Second, Spool}
use Rattle.nqs_outside.specs.History.{Call, History, moment, fresh, after, IsQuiet}
use Rattle.nqs_disk.specs.MemDisk as mem
use Rattle.nqs_disk.specs.contracts.mem_disk.MemDiskDisk.TheImpl.{ghosts}
use Rattle.nqs_disk.specs.declared.mem_disk.MemDisk.{MemDisk}
use Rattle.nqs_rules.specs.Applied.{applied}
use Rattle.nqs_rules.specs.Stepped.{stored_parts}
use Rattle.nqs_rules.specs.World.{Host, used}
use Rattle.nqs_store.specs.Active.{Active, IsActive, ready, recorded}
use Rattle.nqs_store.specs.Commits.{LeavesHost}
use Rattle.nqs_store.specs.Disks.{histories_of, contents}
use Rattle.nqs_store.specs.Images.{IsTold}
use Rattle.nqs_store.specs.Plan.{CommitsBy}
use Rattle.nqs_store.specs.declared.disks.Disks.{Disks}
use Rattle.nqs_store.proofs.TellsNow.{only_image, told_now}
use Rattle.nqs_node.specs.Carried.{IsOneOrOther}
use Rattle.nqs_node.specs.Nodes.{history_of, active_of, content_of, Tells}
use Rattle.nqs_node.specs.declared.node.Node.{Node}
use Rattle.nqs_net.specs.Pasts.{point, HasCome}
use Rattle.nqs_net.specs.Worlds.{IsDown, active_in}
use Rattle.nqs_net.proofs.Burns.{ready_active}
use Rattle.nqs_net.proofs.Wholes.{kept_one_more}

-- what a node tells is told by each image of its disks, and so is its active journal
pub node_tells : (node : Node MemDisk ghosts) (s : Plain) → Tells node s → LeavesHost (history_of node) s (active_of node)
node_tells node s tells = subst (λ t. LeavesHost (history_of node) t (active_of node)) tells.is (told_now node.store (content_of node) tells.told refl)

-- the active journal of a host that kept a change
pub used_active : (puts : List (List ℕ)) (s : Plain) (host : Host) → active_in (used puts s host) ≡ recorded (ready (active_in host))
used_active puts s host = ap recorded (ready_active host)

-- one change more
pub come_more : (old : Which → History) (a : Active) (node : Node MemDisk ghosts) (states : List Plain) (s : Plain) (c : Change (List ℕ))
    → HasCome old a states s → CommitsBy (λ planned run. run ≡ planned) a (stored_parts c) old (history_of node)
    → IsOneOrOther a old (history_of node) (Some c) s → Tells node (applied c s) → active_of node ≡ recorded (ready a)
    → HasCome (history_of node) (recorded (ready a)) (s ∷ states) (applied c s)
come_more old a node states s c come calls moments tells is_active = (
  point old a s ∷ come.0,
  ap (λ l. s ∷ l) come.1,
  (
    record {
      change = c;
      made = refl;
      active = refl;
      calls = calls;
      moments = moments;
      one_more = kept_one_more a (stored_parts c) old (history_of node) s (applied c s) calls moments;
      told = subst (LeavesHost (history_of node) (applied c s)) is_active (node_tells node (applied c s) tells);
    },
    come.2,
  ),
)

-- no call was made
pub come_still : (old now : Which → History) (a : Active) (states : List Plain) (s : Plain) → ((which : Which) → now which ≡ old which)
    → HasCome old a states s → HasCome now a states s
come_still old now a states s same come = subst (λ h. HasCome h a states s) (sym (let e : now ≡ old = λ j which. same which j in e)) come

-- where no call was made, nothing is pending
pub uncalled_quiet : (h : History) → h.calls ≡ [] → IsQuiet h
uncalled_quiet h none = subst (λ (l : List Call). after (fresh h.start) l ≡ fresh (after (fresh h.start) l).content) (sym none) refl

-- disks with nothing pending leave what a read gives of them
pub told_here : (h : Which → History) (s : Plain) (a : Active) → ((which : Which) → IsQuiet (h which)) → IsTold (contents h) s → IsActive (contents h) a
    → LeavesHost h s a
told_here h s a quiet told is_active = λ images leaves.
    let same : contents h ≡ images = λ j which. only_image (h which) (images which) (quiet which) (leaves which) j in
    (subst (λ bytes. IsTold bytes s) same told, subst (λ bytes. IsActive bytes a) same is_active)

-- the disks of a host that is down
module _ (left : Disks MemDisk) (host : Host) (down : IsDown left host) where
  abbrev histories : Which → History
  histories = histories_of mem.history_of left

  pub down_quiet : (which : Which) → IsQuiet (histories which)
  down_quiet which = uncalled_quiet (histories which) (down.calls which)

  pub down_tells : LeavesHost histories host.state (active_in host)
  down_tells = told_here histories host.state (active_in host) down_quiet down.tells down.active

  none : (which : Which) → moment (histories which) ≡ 0
  none which = ap length (down.calls which)

  pub down_come : HasCome histories (active_in host) host.told host.state
  down_come = subst (λ l. HasCome histories (active_in host) l host.state) (sym down.told) (
    [],
    refl,
    record {
      root = none Root;
      first = (let e = none First in let few : moment (histories First) ≤ 2 = omega (arith, e) in few);
      second =
          none Second;
      spool = none Spool;
      told = down_tells;
    },
  )
