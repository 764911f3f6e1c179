-- What a host's disks keep of calls, one after the other: the changes that these make, and no others.
use Rattle.std.specs.Prelude.{◌≡◌, ℕ, List, [], ◌∷◌, ◌++◌, None}
use Rattle.nqs_state.specs.State.{Plain}
use Rattle.nqs_types.specs.declared.world.Which.{Which}
use Rattle.nqs_outside.specs.History.{History}
use Rattle.nqs_outside.specs.declared.disk.Disk as disk
use Rattle.nqs_rules.specs.Starts.{after_step}
use Rattle.nqs_rules.specs.Stepped.{Stepped}
use Rattle.nqs_store.specs.Active.{Active}
use Rattle.nqs_node.specs.Carried.{Kept, after_kept, IsSpelled, IsBrokenOff, IsOneOrOther}
use Rattle.nqs_node.specs.Nodes.{active_of, history_of}
use Rattle.nqs_node.specs.declared.node.Node.{Node}

-- From a state on, the disks kept the change of each of these calls, in order, and no other. Of
-- each change just the calls of one commit were made, behind those of a checkpoint where one is
-- due: what they write to the journal is the record that spells the change, byte by byte. Of a call
-- without a change there is no write and no sync. Before and behind it they tell the state before
-- and behind it. Then of this change a part was made.
abbrev pub AreKept : Active → (old now : Which → History) → Plain → List (Stepped (List ℕ)) → Kept → Type 0
AreKept a old now s [] failed = IsBrokenOff a old now failed × IsOneOrOther a old now failed s
AreKept a old now s (x ∷ xs) failed = (mid : Which → History) × IsSpelled a old mid x.change × IsOneOrOther a old mid x.change s
    × AreKept (after_kept x.change a) mid now (after_step x s) xs failed

-- the active journal behind the changes of these calls
abbrev pub active_after : List (Stepped (List ℕ)) → Active → Active
active_after [] a = a
active_after (x ∷ xs) a = active_after xs (after_kept x.change a)

module _ {D : Type 0} {g : disk.Ghosts D} (old now : Node D g) (s : Plain) (calls : List (Stepped (List ℕ))) where
  -- from this state on, a node's disks kept these calls, and of this change a part
  abbrev pub KeepsTill : Kept → Type 0
  KeepsTill failed = AreKept (active_of old) (history_of old) (history_of now) s calls failed

  -- they kept these calls, and its journal goes on by them
  abbrev pub Keeps : Type 0
  Keeps = KeepsTill None × (active_of now ≡ active_after calls (active_of old))

  -- the same behind these calls, of further ones
  abbrev pub KeptBehind : List (Stepped (List ℕ)) → Kept → Type 0
  KeptBehind done failed = AreKept (active_of old) (history_of old) (history_of now) s (calls ++ done) failed
