-- What a fake tells of what it keeps.
use Rattle.std.specs.Prelude.{Bool, List, map, if◌then◌else◌}
use Rattle.std.specs.declared.option.Option.{Option}
use Rattle.std.specs.declared.option.Option.TheVariants.{None, Some}

-- what it keeps, as the told list has it, unless memory ran out
abbrev pub told_of : {A B : Type 0} → Bool → (A → B) → List A → Option (List B)
told_of starved tell kept = if starved then None else Some (map tell kept)
