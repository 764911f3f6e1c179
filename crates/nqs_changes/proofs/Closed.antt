-- A number that is closed before a promised row comes in.
use Rattle.std.proofs.Common.{◌≡◌, ◌∷◌, ◌++◌, [], Bool, true, false, if◌then◌else◌, refl}
use Rattle.nqs_state.specs.State.{State}
use Rattle.nqs_types.specs.declared.ids.HostId.{HostId}
use Rattle.nqs_types.specs.declared.request.Peer.{Peer}
use Rattle.nqs_types.specs.declared.request.Row.{Row}
use Rattle.nqs_rules.specs.Find.{has_row}
use Rattle.nqs_rules.specs.Edits.{change_peer}
use Rattle.nqs_rules.specs.Applied.{add_promised, requeued_row}

module _ {E : Type 0} where
  -- a row comes in after a peer changed as before it
  pub add_closed : (r : Row E) (host : HostId) (f : Peer → Peer) (s : State E) → add_promised r (change_peer host f s) ≡ change_peer host f (add_promised r s)
  add_closed r host f s = by (has_row r.id s)
    where
      by : (b : Bool) → (if b then change_peer host f s else record (change_peer host f s) { rows = s.rows ++ requeued_row r ∷ [] })
          ≡ change_peer host f (if b then s else record s { rows = s.rows ++ requeued_row r ∷ [] })
      by true = refl
      by false = refl
