use Rattle.std.proofs.Common.{◌≤◌, length, arith}
use Rattle.nqs_outside.specs.History.{content}
use Rattle.nqs_spool.specs.Extents.{past}
use Rattle.nqs_spool.specs.Live as live
use Rattle.nqs_spool.specs.Spooled.{history_of}
use Rattle.nqs_spool.proofs.Lists.{covers_cut, empty_cut, all_without, has_with}
use Rattle.nqs_spool.proofs.Kept.{kept_apart}
use Rattle.nqs_spool.proofs.spool.Spool.free.Goals as goal

pub returns-then-extent-gt0-clause-tells : goal.returns-then-extent-gt0-clause-tells
returns-then-extent-gt0-clause-tells g c = λ extents fewer tells at.
    let x = c.args.extent.now in
    let old = c.args.self.now in
    let has = (tells.live.same x c.if-extent-gt0.true).0 (has_with fewer extents x at) in
    record {
      live = covers_cut (live.kept c.remove.new.self) (live.kept old.live) fewer extents x (c.remove.ensures.less has) at c.if-extent-gt0.true
          (kept_apart old.live) tells.live;
      within = λ told. all_without (λ y. past y ≤ length (content (history_of old))) fewer extents x at (tells.within told);
      quiet = tells.quiet;
    }

pub returns-else-extent-gt0-clause-tells : goal.returns-else-extent-gt0-clause-tells
returns-else-extent-gt0-clause-tells g c = λ extents fewer tells at.
    let x = c.args.extent.now in
    let old = c.args.self.now in
    record {
      live = empty_cut (live.kept old.live) fewer extents x (omega (arith, c.if-extent-gt0.false)) at tells.live;
      within = λ told. all_without (λ y. past y ≤ length (content (history_of old))) fewer extents x at (tells.within told);
      quiet = tells.quiet;
    }
