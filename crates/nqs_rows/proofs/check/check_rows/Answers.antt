use Rattle.std.proofs.Common.{◌∙◌, sym, subst, refl}
use Rattle.nqs_state.specs.State.{content}
use Rattle.nqs_rows.proofs.Named.{IsByRow}
use Rattle.nqs_rows.proofs.check.check_rows.Goals as goal

pub returns-in-HoldRequest : goal.returns-in-HoldRequest
returns-in-HoldRequest c = c.check_named.ensures ∙ subst (IsByRow (content c.args.state.now) c.in-HoldRequest.request) (sym c.in-HoldRequest.is) refl

pub returns-in-ReleaseRequest : goal.returns-in-ReleaseRequest
returns-in-ReleaseRequest c = c.check_named-in-ReleaseRequest.ensures ∙ subst (IsByRow (content c.args.state.now) c.in-ReleaseRequest.request)
    (sym c.in-ReleaseRequest.is) refl

pub returns-in-MoveRequest : goal.returns-in-MoveRequest
returns-in-MoveRequest c = c.check_named-in-MoveRequest.ensures ∙ subst (IsByRow (content c.args.state.now) c.in-MoveRequest.request)
    (sym c.in-MoveRequest.is) refl

pub returns-in-ModifyRequest : goal.returns-in-ModifyRequest
returns-in-ModifyRequest c = c.check_named-in-ModifyRequest.ensures ∙ subst (IsByRow (content c.args.state.now) c.in-ModifyRequest.request)
    (sym c.in-ModifyRequest.is) refl
