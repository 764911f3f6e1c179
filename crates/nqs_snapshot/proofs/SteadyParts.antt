-- The values of a snapshot are read the same whatever follows.
use Rattle.std.proofs.Common.{ℕ}
use Rattle.nqs_types.specs.declared.request.Peer.{Peer}
use Rattle.nqs_records.specs.Reading.{Reading}
use Rattle.nqs_records.proofs.Steady.{IsSteady, mapped_steady, both_steady, within_steady, counted_steady}
use Rattle.nqs_records.proofs.SteadyFields.{u8_steady, u16_steady, u32_steady, u64_steady, u8_some, bool_steady, opt_steady}
use Rattle.nqs_records.proofs.SteadyNames.{name_steady, path_steady}
use Rattle.nqs_records.proofs.SteadyParts.{host_steady, id_steady, extent_steady, job_steady}
use Rattle.nqs_snapshot.specs.Readings.{many_at, number_at, kind_at, hold_at, row_state_at, phase_at, access_at, limits_at, dest_at, settings_at, queue_at}
use Rattle.nqs_snapshot.specs.Readings.{complex_at, device_at, refused_at, course_at, row_at, hand_at, promise_at, peer_at, old_peer_at, stage_at, file_at}
use Rattle.nqs_snapshot.specs.Reading.{site_at, requests_at, dealings_at, counters_at, parts_at}

many_steady : {A : Type 0} (item : Reading A) → IsSteady item → IsSteady (many_at item)
many_steady item one = counted_steady _ _ u64_steady one

few_steady : (last : ℕ) → IsSteady (number_at last)
few_steady last = within_steady _ _ u8_some u8_steady

kind_steady : IsSteady kind_at
unfolding kind_at
kind_steady = mapped_steady _ _ (few_steady 2)

hold_steady : IsSteady hold_at
unfolding hold_at
hold_steady = mapped_steady _ _ (few_steady 2)

row_state_steady : IsSteady row_state_at
unfolding row_state_at
row_state_steady = mapped_steady _ _ (few_steady 2)

phase_steady : IsSteady phase_at
unfolding phase_at
phase_steady = mapped_steady _ _ (few_steady 1)

access_steady : IsSteady access_at
unfolding access_at
access_steady = mapped_steady _ _ (opt_steady _ (many_steady _ name_steady))

limits_steady : IsSteady limits_at
unfolding limits_at
limits_steady = mapped_steady _ _ (both_steady _ _ (opt_steady _ u64_steady) λ _. opt_steady _ u64_steady)

dest_steady : IsSteady dest_at
unfolding dest_at
dest_steady = mapped_steady _ _ (both_steady _ _ name_steady λ _. host_steady)

settings_steady : IsSteady settings_at
unfolding settings_at
settings_steady =
    mapped_steady _ _
    (both_steady _ _ name_steady λ _. both_steady _ _ kind_steady λ _. both_steady _ _ bool_steady λ _. both_steady _ _ bool_steady λ _.
    both_steady _ _ bool_steady λ _. both_steady _ _ (within_steady _ _ u8_some u8_steady) λ _. both_steady _ _ u16_steady λ _.
    both_steady _ _ (opt_steady _ u16_steady) λ _. limits_steady)

queue_steady : IsSteady queue_at
unfolding queue_at
queue_steady =
    mapped_steady _ _
    (both_steady _ _ settings_steady λ _. both_steady _ _ access_steady λ _. both_steady _ _ (many_steady _ dest_steady) λ _. many_steady _ name_steady)

complex_steady : IsSteady complex_at
unfolding complex_at
complex_steady = mapped_steady _ _ (both_steady _ _ name_steady λ _. both_steady _ _ u16_steady λ _. many_steady _ name_steady)

device_steady : IsSteady device_at
unfolding device_at
device_steady = mapped_steady _ _ (both_steady _ _ name_steady λ _. both_steady _ _ name_steady λ _. bool_steady)

refused_steady : IsSteady refused_at
unfolding refused_at
refused_steady = mapped_steady _ _ (both_steady _ _ dest_steady λ _. u8_steady)

course_steady : IsSteady course_at
unfolding course_at
course_steady =
    mapped_steady _ _
    (both_steady _ _ name_steady λ _. both_steady _ _ row_state_steady λ _. both_steady _ _ hold_steady λ _. both_steady _ _ u64_steady λ _.
    both_steady _ _ bool_steady λ _. both_steady _ _ u16_steady λ _. both_steady _ _ u16_steady λ _.
    both_steady _ _ (within_steady _ _ u8_some u8_steady) λ _. opt_steady _ name_steady)

row_steady : IsSteady row_at
unfolding row_at
row_steady =
    mapped_steady _ _
    (both_steady _ _ id_steady λ _. both_steady _ _ job_steady λ _. both_steady _ _ course_steady λ _. both_steady _ _ (many_steady _ refused_steady) λ _.
    extent_steady _)

hand_steady : IsSteady hand_at
unfolding hand_at
hand_steady =
    mapped_steady _ _
    (both_steady _ _ host_steady λ _. both_steady _ _ u64_steady λ _. both_steady _ _ id_steady λ _. both_steady _ _ name_steady λ _.
    both_steady _ _ u64_steady λ _. phase_steady)

promise_steady : IsSteady promise_at
unfolding promise_at
promise_steady = mapped_steady _ _ (both_steady _ _ host_steady λ _. both_steady _ _ u64_steady λ _. row_steady)

pub peer_steady : IsSteady peer_at
unfolding peer_at
peer_steady =
    mapped_steady _ _
    (both_steady _ _ u64_steady λ _. both_steady _ _ u64_steady λ _. both_steady _ _ (many_steady _ u64_steady) λ _. both_steady _ _ u64_steady λ _.
    both_steady _ _ u64_steady λ _. u64_steady)

pub old_peer_steady : IsSteady old_peer_at
unfolding old_peer_at
old_peer_steady =
    mapped_steady _ _
    (both_steady _ _ u64_steady λ _. both_steady _ _ u64_steady λ _. both_steady _ _ u64_steady λ _. both_steady _ _ u64_steady λ _. u64_steady)

stage_steady : IsSteady stage_at
unfolding stage_at
stage_steady = mapped_steady _ _ (both_steady _ _ host_steady λ _. both_steady _ _ u64_steady λ _. both_steady _ _ path_steady λ _. extent_steady _)

file_steady : IsSteady file_at
unfolding file_at
file_steady = mapped_steady _ _ (both_steady _ _ u64_steady λ _. both_steady _ _ path_steady λ _. extent_steady _)

site_steady : IsSteady site_at
unfolding site_at
site_steady =
    mapped_steady _ _
    (both_steady _ _ host_steady λ _. both_steady _ _ (many_steady _ name_steady) λ _. both_steady _ _ (many_steady _ queue_steady) λ _.
    both_steady _ _ (many_steady _ complex_steady) λ _. many_steady _ device_steady)

requests_steady : IsSteady requests_at
unfolding requests_at
requests_steady =
    mapped_steady _ _ (both_steady _ _ (many_steady _ row_steady) λ _. both_steady _ _ (many_steady _ hand_steady) λ _. many_steady _ promise_steady)

dealings_steady : IsSteady dealings_at
unfolding dealings_at
dealings_steady =
    mapped_steady _ _
    (both_steady _ _ (many_steady _ stage_steady) λ _. both_steady _ _ (many_steady _ file_steady) λ _.
    both_steady _ _ (many_steady _ name_steady) λ _. many_steady _ name_steady)

counters_steady : IsSteady counters_at
unfolding counters_at
counters_steady =
    mapped_steady _ _
    (both_steady _ _ (opt_steady _ name_steady) λ _. both_steady _ _ u16_steady λ _. both_steady _ _ u64_steady λ _. both_steady _ _ u64_steady λ _.
    both_steady _ _ u32_steady λ _. both_steady _ _ u64_steady λ _. u64_steady)

pub parts_steady : (peer : Reading Peer) → IsSteady peer → IsSteady (parts_at peer)
unfolding parts_at
parts_steady peer one =
    mapped_steady _ _
    (both_steady _ _ site_steady λ _. both_steady _ _ requests_steady λ _. both_steady _ _ (many_steady _ one) λ _. both_steady _ _ dealings_steady λ _.
    counters_steady)
