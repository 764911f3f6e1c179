-- The snapshot of a formatted host alpha, of a site of alpha alone, by hand.
use Rattle.std.specs.Prelude.{ℕ, List, [], ◌∷◌, ◌++◌}

-- a small number, in eight bytes
abbrev pub eight : ℕ → List ℕ
eight n = 0x00 ∷ 0x00 ∷ 0x00 ∷ 0x00 ∷ 0x00 ∷ 0x00 ∷ 0x00 ∷ n ∷ []

-- batch: a batch queue that is enabled and stopped, for all; priority 31, run limit 1, no other
-- limit, no destination, no device
abbrev pub batch_queue : List ℕ
batch_queue =
    (0x05 ∷ 0x62 ∷ 0x61 ∷ 0x74 ∷ 0x63 ∷ 0x68 ∷ 0x00 ∷ 0x01 ∷ 0x00 ∷ 0x00 ∷ 0x1f ∷ 0x00 ∷ 0x01 ∷ 0x00 ∷ 0x00 ∷ 0x00 ∷ 0x00 ∷ [])
    ++ eight 0 ++ eight 0

-- the next handover 1, the floor 0, none closed above it, no wait, the next stage 1, none got
abbrev pub first_peer : List ℕ
first_peer = eight 1 ++ eight 0 ++ eight 0 ++ eight 0 ++ eight 1 ++ eight 0

-- the same by the spelling of version 1: the next handover, the closed number, the wait, the stages
abbrev pub first_old_peer : List ℕ
first_old_peer = eight 1 ++ eight 0 ++ eight 0 ++ eight 1 ++ eight 0

-- Host 0; one host, alpha; one queue; no complex, device, request, handover or promise; one peer;
-- no stage or file; the manager root; no operator; the default queue batch, 64 requests at once, 60
-- and 300 seconds; nothing given yet, and the next file 1. The bytes of the peer are those given.
abbrev pub alpha_with : List ℕ → List ℕ
alpha_with peer =
    (0x00 ∷ []) ++ eight 1 ++ (0x05 ∷ 0x61 ∷ 0x6c ∷ 0x70 ∷ 0x68 ∷ 0x61 ∷ [])
    ++ eight 1 ++ batch_queue ++ eight 0 ++ eight 0 ++ eight 0 ++ eight 0 ++ eight 0
    ++ eight 1 ++ peer ++ eight 0 ++ eight 0 ++ eight 1 ++ (0x04 ∷ 0x72 ∷ 0x6f ∷ 0x6f ∷ 0x74 ∷ []) ++ eight 0
    ++ (0x01 ∷ 0x05 ∷ 0x62 ∷ 0x61 ∷ 0x74 ∷ 0x63 ∷ 0x68 ∷ 0x00 ∷ 0x40 ∷ []) ++ eight 60
    ++ (0x00 ∷ 0x00 ∷ 0x00 ∷ 0x00 ∷ 0x00 ∷ 0x00 ∷ 0x01 ∷ 0x2c ∷ 0x00 ∷ 0x00 ∷ 0x00 ∷ 0x00 ∷ []) ++ eight 0 ++ eight 1

-- the snapshot
abbrev pub alpha_snapshot : List ℕ
alpha_snapshot = alpha_with first_peer

-- the snapshot by the spelling of version 1
abbrev pub old_alpha_snapshot : List ℕ
old_alpha_snapshot = alpha_with first_old_peer
