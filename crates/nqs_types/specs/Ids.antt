-- When two keys are one, and what is named by which key.
use Rattle.std.specs.Prelude.{Bool, true, ◌&&◌, ◌==◌, ◌≡◌}
use Rattle.std.proofs.lemmas.Bool.{eqb-true, and_parts}
use Rattle.nqs_types.specs.declared.ids.RequestId.{RequestId}
use Rattle.nqs_types.specs.declared.ids.PeerNumber.{PeerNumber}
use Rattle.nqs_types.specs.declared.request.Hand.{Hand}
use Rattle.nqs_types.specs.declared.request.Promise.{Promise}
use Rattle.nqs_types.specs.declared.request.Stage.{Stage}

-- one request
abbrev pub id_eq : RequestId → RequestId → Bool
id_eq a b = a.seq == b.seq && a.host.0 == b.host.0

-- one number of one host
abbrev pub peer_number_eq : PeerNumber → PeerNumber → Bool
peer_number_eq a b = a.peer.0 == b.peer.0 && a.number == b.number

-- a hand is known by its peer and its number
abbrev pub hand_key : Hand → PeerNumber
hand_key h = record { peer = h.peer; number = h.number }

-- a promise is known by its peer and its number
abbrev pub promise_key : {E : Type 0} → Promise E → PeerNumber
promise_key p = record { peer = p.peer; number = p.number }

-- a stage is known by its peer and its number
abbrev pub stage_key : {E : Type 0} → Stage E → PeerNumber
stage_key s = record { peer = s.peer; number = s.number }

-- requests that compare alike are one
pub id_exact : (a b : RequestId) → id_eq a b ≡ true → a ≡ b
id_exact a b h =
    let p = and_parts (a.seq == b.seq) (a.host.0 == b.host.0) h in
    (λ j. record { seq = eqb-true a.seq b.seq p.0 j; host = record { 0 = eqb-true a.host.0 b.host.0 p.1 j } })

-- pairs of a peer and a number that compare alike are one
pub peer_number_exact : (a b : PeerNumber) → peer_number_eq a b ≡ true → a ≡ b
peer_number_exact a b h =
    let p = and_parts (a.peer.0 == b.peer.0) (a.number == b.number) h in
    (λ j. record { peer = record { 0 = eqb-true a.peer.0 b.peer.0 p.0 j }; number = eqb-true a.number b.number p.1 j })
