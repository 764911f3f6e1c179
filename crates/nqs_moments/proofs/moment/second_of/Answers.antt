use Rattle.std.proofs.Common.{◌+◌, ◌*◌, rules, arith}
use Rattle.nqs_moments.proofs.Facts.{no_second}
use Rattle.nqs_moments.proofs.moment.second_of.Goals as goal

pub returns-then-days-lt0 : goal.returns-then-days-lt0
returns-then-days-lt0 c = λ moment is.
    no_second c.to_unix_epoch_day-days.result (c.args.hour * 3600 + c.args.minute * 60 + c.args.second) moment (search rules) (omega arith) (search rules)
