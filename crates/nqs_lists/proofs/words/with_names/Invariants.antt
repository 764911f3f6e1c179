use Rattle.std.proofs.Common.{◌≡◌, ◌++◌, take}
use Rattle.std.specs.Prelude.{flat_map}
use Rattle.nqs_lists.specs.Lists.{spaced}
use Rattle.nqs_lists.proofs.words.with_names.Given as goal

abbrev pub invariant-loop-name : goal.invariant-loop-name
invariant-loop-name l = l.line ≡ l.fn.line ++ flat_map spaced (take l.name-index l.names)
