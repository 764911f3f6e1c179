use Rattle.std.proofs.Common.{◌∙◌, sym, subst, refl, arith, is_ok, IsTrue}
use Rattle.nqs_state.specs.State.{content}
use Rattle.nqs_rules.specs.Causes.{first_refusal}
use Rattle.nqs_rules.specs.Rows.{rows_causes}
use Rattle.nqs_rows.proofs.Refusals.{move_has_number}
use Rattle.nqs_rows.proofs.Named.{IsOfRow, IsMove}
use Rattle.nqs_rows.proofs.apply.apply_rows.Goals as goal

pub move_request-requires-clause-number : goal.move_request-requires-clause-number
move_request-requires-clause-number c =
    let s = content c.args.state.now in
    let check = subst (λ e. IsTrue (is_ok (first_refusal (rows_causes e s)))) c.in-MoveRequest.is c.requires.check in
    omega (arith, move_has_number s c.in-MoveRequest.request c.in-MoveRequest.queue check)

pub returns-in-HoldRequest : goal.returns-in-HoldRequest
returns-in-HoldRequest c = c.edit_request.ensures ∙ subst (IsOfRow (content c.args.state.now) c.in-HoldRequest.request) (sym c.in-HoldRequest.is) refl

pub returns-in-ReleaseRequest : goal.returns-in-ReleaseRequest
returns-in-ReleaseRequest c = c.edit_request-in-ReleaseRequest.ensures ∙ subst (IsOfRow (content c.args.state.now) c.in-ReleaseRequest.request)
    (sym c.in-ReleaseRequest.is) refl

pub returns-in-MoveRequest : goal.returns-in-MoveRequest
returns-in-MoveRequest c = c.move_request.ensures ∙ subst (IsMove (content c.args.state.now) c.in-MoveRequest.request) (sym c.in-MoveRequest.is) refl

pub returns-in-ModifyRequest : goal.returns-in-ModifyRequest
returns-in-ModifyRequest c = c.edit_request-in-ModifyRequest.ensures ∙ subst (IsOfRow (content c.args.state.now) c.in-ModifyRequest.request)
    (sym c.in-ModifyRequest.is) refl
