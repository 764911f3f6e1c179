-- What is known of a node whose disks tell a state.
use Rattle.std.proofs.Common.{◌≡◌, ℕ, subst, refl, sym, ap, ◌∙◌, Option, None, Some, is_some, option_map}
use Rattle.nqs_base.specs.declared.extent.Extent.{Extent}
use Rattle.nqs_rules.specs.Plain.{map_state}
use Rattle.nqs_rules.specs.Start.{start}
use Rattle.nqs_rules.specs.Stepped.{Stepped, map_stepped}
use Rattle.nqs_rules.proofs.StartPlain.{start-map}
use Rattle.nqs_state.specs.State.{Plain}
use Rattle.nqs_outside.specs.declared.disk.Disk as disk
use Rattle.nqs_node.specs.declared.node.Node.{Node}
use Rattle.nqs_node.specs.Nodes.{content_of, bytes_of}
use Rattle.nqs_store.specs.Sound.{IsSoundHost}
use Rattle.nqs_rules.proofs.StartIs.{IsSteady}
use Rattle.nqs_serve.specs.Nodes.{Knows, IsAt}
use Rattle.nqs_rules.proofs.StartFits.{steady_plain}

module _ {D : Type 0} {g : disk.Ghosts D} where
  pub steady_known : (node : Node D g) (s : Plain) → Knows node s → IsSoundHost (content_of node) → IsSteady s
  steady_known node s knows sound = subst IsSteady knows.1.is (steady_plain (bytes_of node) (content_of node) sound.order)

  -- a node of the same content is at its state
  pub at_known : (node now : Node D g) (s : Plain) → Knows node s → content_of now ≡ content_of node → IsAt now s
  at_known node now s knows same = (bytes_of node, ap (map_state (bytes_of node)) same ∙ knows.1.is)

  -- what a node may start, its host may
  pub start_known : (now : ℕ) (node : Node D g) (s : Plain) → Knows node s → is_some (start now s) ≡ is_some (start now (content_of node))
  start_known now node s knows = ap (λ (x : Plain). is_some (start now x)) (sym knows.1.is) ∙ ap is_some (start-map (bytes_of node) now (content_of node))
      ∙ by (start now (content_of node))
    where
      by : (o : Option (Stepped Extent)) → is_some (option_map (map_stepped (bytes_of node)) o) ≡ is_some o
      by None = refl
      by (Some x) = refl
