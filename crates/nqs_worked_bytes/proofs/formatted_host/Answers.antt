use Rattle.std.proofs.Common.{[], true, false, refl, arith}
use Rattle.nqs_codec.specs.Fields.{u8_field, short_field}
use Rattle.nqs_journal.specs.Text.{frame}
use Rattle.nqs_records.specs.Changes.{spelling}
use Rattle.nqs_records.specs.Spelling.{list_field}
use Rattle.nqs_worked_bytes.proofs.formatted_host.Goals as goal

pub returns-clause-bytes : goal.returns-clause-bytes
unfolding frame spelling u8_field list_field short_field
returns-clause-bytes c = refl

pub returns-clause-stands : goal.returns-clause-stands
unfolding frame
returns-clause-stands c = (false, record { gate = 0; rest = []; text = refl; closed = omega arith; short = (omega arith, tt) })

pub returns-clause-old : goal.returns-clause-old
unfolding frame
returns-clause-old c = (true, record { gate = 0; rest = []; text = refl; closed = omega arith; short = (omega arith, tt) })
