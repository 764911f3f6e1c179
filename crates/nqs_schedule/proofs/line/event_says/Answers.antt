use Rattle.std.proofs.Common.{◌≡◌, sym, ap, ◌∙◌, Ok}
use Rattle.nqs_types.specs.declared.world.WorldEvent.{WorldEvent}
use Rattle.nqs_schedule.specs.declared.line.Says.{Says}
use Rattle.nqs_schedule.specs.declared.line.Says.TheVariants.{Event}
use Rattle.nqs_schedule.specs.Words.{Read}
use Rattle.nqs_schedule.proofs.Sites.{planned, unplanned}
use Rattle.nqs_schedule.proofs.line.event_says.Goals as goal

pub returns-in-Ok-event_of : goal.returns-in-Ok-event_of
returns-in-Ok-event_of c =
    let e : ◌≡◌ {A = Read Says} _ _ = ap (λ (x : WorldEvent). Ok (Event x)) (sym c.in-Ok-event_of.ensures) in
    planned c.args.site.now c.args.line.now c.args.words.now c.args.verb c.in-Ok.plan (sym c.in-Ok.ensures) ∙ e

pub returns-in-Err : goal.returns-in-Err
returns-in-Err c = unplanned c.args.site.now c.args.line.now c.args.words.now c.args.verb c.in-Err.cause (sym c.in-Err.ensures)
