-- Things that are seen in one line.
use Rattle.std.specs.Prelude.{List, [], get_or}
use Rattle.nqs_types.specs.declared.world.Seen.{Seen}
use Rattle.nqs_types.specs.declared.world.Seen.TheVariants as seen
use Rattle.nqs_rules.specs.Text.{Text}
use Rattle.nqs_types.specs.declared.table_row.TableRow.{TableRow}
use Rattle.nqs_rules.specs.Transcript.{line, seen_lines, table_line}

-- the text of what is seen in one line, without its end; nothing for a reply and a table
abbrev pub seen_line : List Text → Seen → Text
seen_line site (seen.Reply r) = []
seen_line site (seen.Table rows) = []
seen_line site x = get_or (seen_lines site x) 0 []

-- a row of the table, with its end
abbrev pub row_line : List Text → TableRow → Text
row_line site r = line (table_line site r)
