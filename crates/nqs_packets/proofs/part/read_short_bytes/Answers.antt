use Rattle.std.proofs.Common.{Err, ap, ◌∙◌}
use Rattle.std.proofs.lemmas.Result.{err_from_is_err_and}
use Rattle.nqs_records.specs.declared.fault.RecordFault.{RecordFault}
use Rattle.nqs_packets.proofs.NoMemory.{tested_wants_none}
use Rattle.nqs_packets.proofs.part.read_short_bytes.Goals as goal

pub returns-in_err-length-clause-there : goal.returns-in_err-length-clause-there
returns-in_err-length-clause-there c =
    let p = err_from_is_err_and c.from_residual.result c.from_residual.ensures.1 in
    tested_wants_none _ c.args.bytes.now c.args.place _ p.0 c.from_residual.result _ (ap (λ (f : RecordFault). Err f) p.2 ∙ c.in_err-length.ensures) p.1
