use Rattle.std.proofs.Common.{refl}
use Rattle.std.specs.Fmt.{digits}
use Rattle.nqs_base.specs.Path.{has_parent}
use Rattle.nqs_worked_tables.proofs.bounds.events_have_bounds.Goals as goal

pub returns-clause-commands : goal.returns-clause-commands
unfolding digits has_parent
returns-clause-commands c = refl

pub returns-clause-no_commands : goal.returns-clause-no_commands
unfolding digits has_parent
returns-clause-no_commands c = refl

pub returns-clause-refusals : goal.returns-clause-refusals
unfolding digits has_parent
returns-clause-refusals c = refl

pub returns-clause-other_refusals : goal.returns-clause-other_refusals
unfolding digits has_parent
returns-clause-other_refusals c = refl

pub returns-clause-places : goal.returns-clause-places
unfolding digits has_parent
returns-clause-places c = refl

pub returns-clause-bodies : goal.returns-clause-bodies
unfolding digits has_parent
returns-clause-bodies c = refl

pub returns-clause-no_bodies : goal.returns-clause-no_bodies
unfolding digits has_parent
returns-clause-no_bodies c = refl

pub returns-clause-events : goal.returns-clause-events
unfolding digits has_parent
returns-clause-events c = refl

pub returns-clause-no_events : goal.returns-clause-no_events
unfolding digits has_parent
returns-clause-no_events c = refl

pub returns-clause-scripts : goal.returns-clause-scripts
unfolding digits has_parent
returns-clause-scripts c script = refl

pub returns-clause-offers : goal.returns-clause-offers
unfolding digits has_parent
returns-clause-offers c script = refl
