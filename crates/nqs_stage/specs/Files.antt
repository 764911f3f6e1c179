-- What the calls on outputs say beside the rules.
use Rattle.std.specs.Prelude.{◌≡◌, ℕ, Bool, true, false, if◌then◌else◌, List, map, Some}
use Rattle.nqs_state.specs.State.{State}
use Rattle.nqs_types.specs.Ids.{peer_number_eq, stage_key}
use Rattle.nqs_rules.specs.InOrder.{are_distinct}
use Rattle.nqs_rules.specs.Stepped.{Stepped, map_part, part_bytes, no_extent, quiet}
use Rattle.nqs_rules.specs.Stage.{Part, on_written}
use Rattle.nqs_types.specs.declared.ids.RequestId.{RequestId}
use Rattle.nqs_types.specs.declared.change.Change.TheVariants.{Ended}
use Rattle.nqs_types.specs.declared.event.Plan.{Plan}

-- a plan that records the end of a job with these outputs, beside what goes out
abbrev pub ending : RequestId → List Part → Plan → Plan
ending id parts p = record {
  change = Some (Ended id (map (map_part (λ _. no_extent)) parts));
  puts = map part_bytes parts;
  outputs = p.outputs;
  reads = p.reads;
  halts = false;
}

module _ {E : Type 0} where
  -- a file was written, or was not
  abbrev pub on_file : Bool → ℕ → State E → Stepped E
  on_file written file s = if written then on_written file s else quiet

  -- no two stages have one host and one number
  abbrev pub HasDistinctStages : State E → Type 0
  HasDistinctStages s = are_distinct peer_number_eq (map stage_key s.stages) ≡ true
