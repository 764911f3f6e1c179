-- What a node of the tree stands for.
use Rattle.std.specs.Prelude.{◌≡◌, List, [], ◌∷◌, ◌++◌}
use Rattle.nqs_spool.specs.Slots.{widest_of}
use Rattle.nqs_spool.specs.declared.slot.Slot.{Slot}
use Rattle.nqs_spool.specs.declared.tree.Node.{Node}
use Rattle.nqs_spool.specs.declared.tree.Node.TheVariants.{Leaf, Fork}

-- the slots in order
abbrev pub slots_of : Node → List Slot
slots_of Leaf = []
slots_of (Fork left slot widest height right) = left.value ++ slot ∷ right.value

-- the widest gap is noted
abbrev pub IsMeasured : Node → Type 0
IsMeasured Leaf = Unit {0}
IsMeasured (Fork left slot widest height right) = widest ≡ widest_of (left.value ++ slot ∷ right.value)
