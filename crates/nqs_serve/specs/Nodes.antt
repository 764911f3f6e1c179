-- A node whose disks tell a state.
use Rattle.std.specs.Prelude.{◌≡◌, ℕ, List, IsTrue}
use Rattle.nqs_base.specs.declared.extent.Extent.{Extent}
use Rattle.nqs_state.specs.State.{Plain}
use Rattle.nqs_rules.specs.Plain.{map_state}
use Rattle.nqs_outside.specs.declared.disk.Disk as disk
use Rattle.nqs_node.specs.declared.node.Node.{Node}
use Rattle.nqs_node.specs.Nodes.{Tells, content_of}
use Rattle.nqs_serve.specs.Events.{Here}

module _ {D : Type 0} {g : disk.Ghosts D} where
  -- its disks tell, and this is its state
  abbrev pub Knows : Node D g → Plain → Type 0
  Knows node s = IsTrue g.tells × Tells node s

  -- where it is
  abbrev pub here_of : Node D g → Here
  here_of node = record { me = (content_of node).me; site = (content_of node).site }

  -- its state is this one, with some bytes for what its disks keep
  abbrev pub IsAt : Node D g → Plain → Type 0
  IsAt node s = (bytes : Extent → List ℕ) × (map_state bytes (content_of node) ≡ s)
