use Rattle.nqs_schedule.proofs.Tables.{table_put}
use Rattle.nqs_schedule.proofs.seen.put_table.Goals as goal

pub returns : goal.returns
returns c = table_put c.args.site.now c.args.rows.now c.loop-row.row-index c.args.out.now.items c.loop-row.out.items c.loop-row-test.false c.loop-row.invariant
