use Rattle.std.proofs.Common.{◌∙◌, sym}
use Rattle.nqs_moments.specs.Moment.{moment_form}
use Rattle.nqs_moments.proofs.Facts.{formed-length}
use Rattle.nqs_moments.proofs.Moments.{named_moment, moment_named}
use Rattle.nqs_moments.proofs.moment.read_moment.Goals as goal

pub named-requires : goal.named-requires
named-requires c = formed-length moment_form 0 c.args.bytes.now (sym c.misfit.ensures ∙ c.in_default.is)

pub returns-in-Some-named : goal.returns-in-Some-named
returns-in-Some-named c = named_moment c.args.bytes.now c.in-Some-named.moment (sym c.misfit.ensures ∙ c.in_default.is) c.in-Some-named.ensures

pub returns-in-None : goal.returns-in-None
returns-in-None c = (sym c.misfit.ensures ∙ c.in_default.is, λ moment is. c.in-None.ensures moment (moment_named c.args.bytes.now moment is))
