use Rattle.std.proofs.Common.{◌≡◌, ◌++◌, ◌∷◌, [], length, take}
use Rattle.std.specs.Prelude.{codes}
use Rattle.std.specs.List.{flat_map}
use Rattle.std.specs.Fmt.{decimal}
use Rattle.nqs_rules.specs.Text.{words}
use Rattle.nqs_rules.specs.Transcript.{line}
use Rattle.nqs_schedule.specs.Seen.{row_line}
use Rattle.nqs_schedule.proofs.seen.put_table.Given as goal

abbrev pub invariant-loop-row : goal.invariant-loop-row
invariant-loop-row l = l.out.items ≡ l.fn.out.items ++ (line (words (codes "table" ∷ decimal (length l.rows) ∷ []))
    ++ flat_map (row_line l.site) (take l.row-index l.rows))
