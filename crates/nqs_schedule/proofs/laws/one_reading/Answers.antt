use Rattle.nqs_schedule.proofs.Total.{said_or_bad}
use Rattle.nqs_schedule.proofs.OneReading.{one_schedule, good_or_bad, one_fault}
use Rattle.nqs_schedule.proofs.laws.one_reading.Goals as goal

pub returns : goal.returns
returns c = record { schedule = one_schedule; said_or_bad = said_or_bad; good_or_bad = good_or_bad; fault = one_fault }
