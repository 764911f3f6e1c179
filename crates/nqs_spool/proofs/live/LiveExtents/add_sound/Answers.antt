use Rattle.std.proofs.Common.{inr}
use Rattle.std.proofs.lemmas.Bool.{leb-true}
use Rattle.std.proofs.Common.{sym, ◌∙◌}
use Rattle.nqs_spool.specs.Extents.{past}
use Rattle.nqs_spool.specs.Live.{kept}
use Rattle.nqs_spool.proofs.Lists.{clear_kept, clear_live}
use Rattle.nqs_spool.proofs.Kept.{kept_some}
use Rattle.nqs_spool.proofs.live.LiveExtents.add_sound.Goals as goal

pub returns-then-not-is_clear-clause-bad : goal.returns-then-not-is_clear-clause-bad
returns-then-not-is_clear-clause-bad c = λ _ live so_far.
    inr (λ clear. c.is_clear.ensures.meets c.if-not-is_clear.true (clear_kept (kept c.args.self.now) live c.args.extent.now
    (kept_some c.args.self.now) so_far clear))

pub returns-clause-sound : goal.returns-clause-sound
returns-clause-sound c = λ _ live more at so_far.
    let clear = clear_live (kept c.args.self.now) live c.args.extent.now so_far (c.is_clear.ensures.clear c.if-not-is_clear.false) in (
      leb-true (past c.args.extent.now) c.args.size (sym c.is_within.ensures
          ∙ c.if-not-is_within.false),
      clear,
      c.in_ok-add.ensures.covers live more at clear so_far,
    )
