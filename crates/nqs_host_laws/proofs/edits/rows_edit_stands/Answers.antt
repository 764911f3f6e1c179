use Rattle.nqs_state.specs.State.{content}
use Rattle.nqs_rules.specs.Rows.{hold_causes, release_causes, move_causes, idle_causes}
use Rattle.nqs_host_laws.proofs.Stands.{named_seq}
use Rattle.nqs_host_laws.proofs.edits.rows_edit_stands.Goals as goal

pub returns-in-HoldRequest : goal.returns-in-HoldRequest
returns-in-HoldRequest c =
    let a = c.in-HoldRequest in
    rw a.is (
      named_seq (content c.args.state.now) c.requires.order a.request (hold_causes a.request)
          (rw a.is at c.requires.fits),
      c.name_stands-in-HoldRequest.ensures,
    )

pub returns-in-ReleaseRequest : goal.returns-in-ReleaseRequest
returns-in-ReleaseRequest c =
    let a = c.in-ReleaseRequest in
    rw a.is (
      named_seq (content c.args.state.now) c.requires.order a.request (release_causes a.request)
          (rw a.is at c.requires.fits),
      c.name_stands-in-ReleaseRequest.ensures,
    )

pub returns-in-MoveRequest : goal.returns-in-MoveRequest
returns-in-MoveRequest c =
    let a = c.in-MoveRequest in
    rw a.is (
      (
        named_seq (content c.args.state.now) c.requires.order a.request (move_causes a.request a.queue (content c.args.state.now))
            (rw a.is at c.requires.fits),
        c.name_stands-in-MoveRequest.ensures,
      ),
      c.name_stands-in-MoveRequest-2.ensures,
    )

pub returns-in-ModifyRequest : goal.returns-in-ModifyRequest
returns-in-ModifyRequest c =
    let a = c.in-ModifyRequest in
    rw a.is (
      (
        named_seq (content c.args.state.now) c.requires.order a.request (idle_causes a.request)
            (rw a.is at c.requires.fits),
        c.name_stands-in-ModifyRequest.ensures,
      ),
      rw a.is at c.requires.within,
    )
