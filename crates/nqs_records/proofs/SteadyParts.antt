-- What records are made of is read the same whatever follows.
use Rattle.std.proofs.Common.{ℕ}
use Rattle.nqs_types.specs.declared.ids.HostId.{HostId}
use Rattle.nqs_records.specs.Reading.{counted, within}
use Rattle.nqs_records.specs.Fields.{u8_at, name_at}
use Rattle.nqs_records.specs.Values.{is_site_count, is_at_most}
use Rattle.nqs_records.specs.Parts.{host_at, seq_at, id_at, extent_within, job_at, carried_at, part_at, hand_at, low_at}
use Rattle.nqs_records.proofs.Steady.{IsSteady, mapped_steady, both_steady, within_steady, counted_steady}
use Rattle.nqs_records.proofs.SteadyFields.{u8_steady, u16_steady, u32_steady, u64_steady, u8_some, u16_some, u32_some, u64_some, bool_steady, opt_steady}
use Rattle.nqs_records.proofs.SteadyNames.{name_steady, path_steady}

pub host_steady : IsSteady host_at
unfolding host_at
host_steady = mapped_steady _ _ (within_steady _ _ u8_some u8_steady)

pub seq_steady : IsSteady seq_at
unfolding seq_at
seq_steady = within_steady _ _ u32_some u32_steady

pub id_steady : IsSteady id_at
unfolding id_at
id_steady = mapped_steady _ _ (both_steady _ _ seq_steady (λ _. host_steady))

pub extent_steady : (limit : ℕ) → IsSteady (extent_within limit)
unfolding extent_within
extent_steady limit = mapped_steady _ _ (both_steady _ _ u64_steady (λ _. within_steady _ _ u32_some u32_steady))

pub job_steady : IsSteady job_at
unfolding job_at
job_steady =
    mapped_steady _ _
    (both_steady _ _ name_steady λ _. both_steady _ _ name_steady λ _. both_steady _ _ (within_steady _ _ u8_some u8_steady) λ _.
    both_steady _ _ u64_steady λ _. both_steady _ _ bool_steady λ _.
    both_steady _ _ (opt_steady _ u64_steady) λ _. both_steady _ _ (opt_steady _ u64_steady) λ _. both_steady _ _ (opt_steady _ name_steady) λ _.
    both_steady _ _ path_steady λ _. both_steady _ _ path_steady λ _. bool_steady)

pub carried_steady : IsSteady carried_at
unfolding carried_at
carried_steady =
    mapped_steady _ _
    (both_steady _ _ id_steady λ _. both_steady _ _ job_steady λ _. both_steady _ _ (within_steady _ _ u16_some u16_steady) λ starts.
    both_steady _ _ (within_steady _ _ u16_some u16_steady) λ _. within_steady _ _ u8_some u8_steady)

part_steady : IsSteady part_at
unfolding part_at
part_steady = mapped_steady _ _ (both_steady _ _ path_steady (λ _. extent_steady 32768))

hand_steady : IsSteady hand_at
unfolding hand_at
hand_steady = mapped_steady _ _ (both_steady _ _ host_steady (λ _. u64_steady))

pub low_steady : (number : ℕ) → IsSteady (low_at number)
unfolding low_at
low_steady number = within_steady _ _ u64_some u64_steady

pub site_steady : (me : HostId) → IsSteady (counted (within (is_site_count me) u8_at) name_at)
site_steady me = counted_steady _ _ (within_steady _ _ u8_some u8_steady) name_steady

pub parts_steady : IsSteady (counted (within (is_at_most 2) u8_at) part_at)
parts_steady = counted_steady _ _ (within_steady _ _ u8_some u8_steady) part_steady

pub hands_steady : IsSteady (counted u8_at hand_at)
hands_steady = counted_steady _ _ u8_steady hand_steady
