use Rattle.std.proofs.Common.{refl, sym, ◌∙◌}
use Rattle.std.specs.Fmt.{digits}
use Rattle.nqs_clients.proofs.Ending.{refused}
use Rattle.nqs_clients.proofs.asking.client.Goals as goal

pub returns-in-Err-TooLong : goal.returns-in-Err-TooLong
unfolding digits
returns-in-Err-TooLong g c =
    let taken = rw c.in-Err-TooLong.field-0-is at c.in-Err-TooLong.ensures in
    refused _ _ c.args.errand _ _ _ c.write_answer.result (sym c.tool.ensures ∙ taken.0, taken.1, (refl, (refl, refl))) c.write_answer.ensures
