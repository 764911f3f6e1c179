use Rattle.std.proofs.Common.{subst, ap}
use Rattle.nqs_spool.specs.Extents.{IsWith, extents_of}
use Rattle.nqs_spool.specs.Live.{kept}
use Rattle.nqs_spool.proofs.Lists.{covers_put, empty_put}
use Rattle.nqs_spool.proofs.live.LiveExtents.add.Goals as goal

pub returns-then-extent-eq0-clause-covers : goal.returns-then-extent-eq0-clause-covers
returns-then-extent-eq0-clause-covers c = λ live more at clear so_far. empty_put
    (kept c.args.self.now) live more c.args.extent.now c.if-extent-eq0.true at so_far

pub returns-clause-covers : goal.returns-clause-covers
returns-clause-covers c = λ live more at clear so_far.
    let kept_at = subst (λ l. IsWith l c.args.extent.now (kept c.insert.new.self)) (ap extents_of c.in_ok-room.ensures.same) c.insert.ensures.more in
    covers_put (kept c.args.self.now) (kept c.insert.new.self) live more c.args.extent.now kept_at at clear so_far
