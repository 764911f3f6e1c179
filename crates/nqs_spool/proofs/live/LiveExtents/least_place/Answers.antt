use Rattle.nqs_spool.specs.Live.{slots, end_of}
use Rattle.nqs_spool.proofs.Kept.{fit_is_least, fit_to}
use Rattle.nqs_spool.proofs.live.LiveExtents.least_place.Goals as goal

pub returns-clause-least : goal.returns-clause-least
returns-clause-least c = rw (c.first_fit.ensures, c.from.ensures) (fit_is_least c.args.count (end_of c.args.self.now)
    (slots c.args.self.now) c.args.self.now.row c.requires)

pub returns-clause-within : goal.returns-clause-within
returns-clause-within c = rw c.first_fit.ensures (fit_to c.from.result 0 (end_of c.args.self.now) (slots c.args.self.now) c.args.self.now.row)
