use Rattle.std.proofs.Common.{◌≡◌, ◌++◌, map, take}
use Rattle.nqs_lists.proofs.show.add_names.Given as goal

abbrev pub invariant-loop-name : goal.invariant-loop-name
invariant-loop-name l = l.lines ≡ l.fn.lines ++ map (λ name. name ++ l.ending) (take l.name-index l.names)
