-- The laws of what records are made of.
use Rattle.std.proofs.Common.{ℕ, ◌<◌, ◌^◌, ◌==◌, IsTrue, refl, arith}
use Rattle.std.proofs.lemmas.Bool.Decides.{nat_tests}
use Rattle.nqs_base.specs.Name.{IsName}
use Rattle.nqs_base.specs.declared.extent.Extent.{Extent}
use Rattle.nqs_types.specs.Scripts.{longest_script}
use Rattle.nqs_types.specs.declared.ids.HostId.{HostId}
use Rattle.nqs_codec.specs.Fields.{u8_field, u32_field, u64_field, short_field}
use Rattle.nqs_rules.specs.Sane.{is_sane_low}
use Rattle.nqs_records.specs.Reading.{within, counted}
use Rattle.nqs_records.specs.Fields.{u8_at, name_at}
use Rattle.nqs_records.specs.Parts.{host_at, seq_at, id_at, extent_within, script_at, output_at, job_of, job_at, carried_at, part_at, hand_at, low_at}
use Rattle.nqs_records.specs.Spelling.{list_field, id_field, extent_field, job_field, carried_field, part_field, hand_field}
use Rattle.nqs_records.specs.Values.{is_host, is_seq, is_at_most, is_site_count, IsU8, IsU64, IsList, IsHost, IsId, IsScript, IsOutput, IsJob, IsCarried}
use Rattle.nqs_records.specs.Values.{IsPart, IsHand}
use Rattle.nqs_records.proofs.IsRead.{IsRead}
use Rattle.nqs_records.proofs.Numbers.{u8_read, u16_read, u32_read, u64_read}
use Rattle.nqs_records.proofs.Named.{bool_read, name_read, path_read}
use Rattle.nqs_records.proofs.Chains.{both_read, mapped_read, within_read, last_read, opt_read, counted_read}

host_fits : (n : ℕ) → IsTrue (is_host n) → n < 2 ^ 8
host_fits n is = grind (arith, nat_tests)

seq_fits : (n : ℕ) → IsTrue (is_seq n) → n < 2 ^ 32
seq_fits n is = grind (arith, nat_tests)

length_fits : (limit n : ℕ) → limit < 2 ^ 32 → IsTrue (is_at_most limit n) → n < 2 ^ 32
length_fits limit n small is = grind (arith, nat_tests)

pub priority_fits : (n : ℕ) → IsTrue (is_at_most 63 n) → n < 2 ^ 8
priority_fits n is = grind (arith, nat_tests)

pub hops_fit : (n : ℕ) → IsTrue (is_at_most 32 n) → n < 2 ^ 8
hops_fit n is = grind (arith, nat_tests)

pub two_fit : (n : ℕ) → IsTrue (is_at_most 2 n) → n < 2 ^ 8
two_fit n is = grind (arith, nat_tests)

starts_fit : (n : ℕ) → IsTrue (is_at_most 65534 n) → n < 2 ^ 16
starts_fit n is = grind (arith, nat_tests)

lost_fits : (starts lost : ℕ) → IsTrue (is_at_most 65534 starts) → IsTrue (lost == starts) → lost < 2 ^ 16
lost_fits starts lost few same = grind (arith, nat_tests)

count_fits : (me : HostId) (n : ℕ) → IsTrue (is_site_count me n) → n < 2 ^ 8
count_fits me n is = grind (arith, nat_tests)

low_fits : (number low : ℕ) → number < 2 ^ 64 → IsTrue (is_sane_low low number) → low < 2 ^ 64
low_fits number low fits is = grind (arith, nat_tests)

pub host_law : IsRead IsHost (λ h. u8_field h.0) host_at
unfolding host_at
host_law = mapped_read IsHost (λ h. u8_field h.0) (λ n. record { 0 = n }) (λ h. h.0) (λ h. refl) (λ n is. is) (λ h is. is) (λ n. refl)
    (within_read is_host host_fits u8_read)

pub seq_law : IsRead (λ n. IsTrue (is_seq n)) u32_field seq_at
unfolding seq_at
seq_law = within_read is_seq seq_fits u32_read

pub id_law : IsRead IsId id_field id_at
unfolding id_at id_field
id_law =
    mapped_read IsId id_field (λ v. record { seq = v.0; host = v.1 }) (λ id. (id.seq, id.host)) (λ id. refl) (λ v is. is) (λ id is. is) (λ v. refl)
    (both_read seq_law (λ _ _. last_read host_law))

extent_law : (limit : ℕ) → limit < 2 ^ 32
    → IsRead (λ (e : Extent). IsU64 e.place × IsTrue (is_at_most limit e.length)) extent_field (extent_within limit)
unfolding extent_within extent_field
extent_law limit small =
    mapped_read (λ (e : Extent). IsU64 e.place × IsTrue (is_at_most limit e.length)) extent_field (λ v. record { place = v.0; length = v.1 })
    (λ e. (e.place, e.length)) (λ e. refl) (λ v is. is) (λ e is. is) (λ v. refl)
    (both_read u64_read (λ _ _. last_read (within_read (is_at_most limit) (λ n is. length_fits limit n small is) u32_read)))

pub script_law : IsRead IsScript extent_field script_at
script_law = extent_law longest_script (omega arith)

pub output_law : IsRead IsOutput extent_field output_at
output_law = extent_law 32768 (omega arith)

pub job_law : IsRead IsJob job_field job_at
unfolding job_at job_field
job_law =
    mapped_read IsJob job_field job_of
    (λ j. (j.name, (j.owner, (j.priority, (j.earliest, (j.rerun, (j.limits.cpu, (j.limits.memory, (j.forms, (j.out, (j.err, j.join)))))))))))
    (λ j. refl)
    (λ v is. (
      is.0,
      is.1.0,
      is.1.1.0,
      is.1.1.1.0,
      is.1.1.1.1.0,
      is.1.1.1.1.1.0,
      is.1.1.1.1.1.1.0,
      is.1.1.1.1.1.1.1.0,
      is.1.1.1.1.1.1.1.1.0,
      is.1.1.1.1.1.1.1.1.1.0,
      is.1.1.1.1.1.1.1.1.1.1,
    ))
    (λ j is. (is.0, (is.1, (is.2, (is.3, (is.4, (is.5, (is.6, (is.7, (is.8, (is.9, is.10)))))))))))
    (λ v. refl)
    (both_read name_read λ _ _. both_read name_read λ _ _. both_read (within_read (is_at_most 63) priority_fits u8_read) λ _ _.
    both_read u64_read λ _ _. both_read bool_read λ _ _. both_read (opt_read u64_read) λ _ _. both_read (opt_read u64_read) λ _ _.
    both_read (opt_read name_read) λ _ _. both_read path_read λ _ _. both_read path_read λ _ _. last_read bool_read)

pub carried_law : IsRead IsCarried carried_field carried_at
unfolding carried_at carried_field
carried_law =
    mapped_read IsCarried carried_field (λ v. record { id = v.0; job = v.1.0; starts = v.1.1.0; lost = v.1.1.1.0; hops = v.1.1.1.1 })
    (λ c. (c.id, (c.job, (c.starts, (c.lost, c.hops)))))
    (λ c. refl)
    (λ v is. (is.0, is.1.0, is.1.1.0, is.1.1.1.0, is.1.1.1.1))
    (λ c is. (is.0, (is.1, (is.2, (is.3, is.4)))))
    (λ v. refl)
    (both_read id_law λ _ _. both_read job_law λ _ _. both_read (within_read (is_at_most 65534) starts_fit u16_read) λ starts few.
    both_read (within_read (λ lost. lost == starts) (λ lost same. lost_fits starts lost few same) u16_read) λ _ _.
    last_read (within_read (is_at_most 32) hops_fit u8_read))

pub part_law : IsRead IsPart part_field part_at
unfolding part_at part_field
part_law =
    mapped_read IsPart part_field (λ v. record { path = v.0; bytes = v.1 }) (λ p. (p.path, p.bytes)) (λ p. refl) (λ v is. is) (λ p is. is) (λ v. refl)
    (both_read path_read (λ _ _. last_read output_law))

pub hand_law : IsRead IsHand hand_field hand_at
unfolding hand_at hand_field
hand_law =
    mapped_read IsHand hand_field (λ v. record { peer = v.0; number = v.1 }) (λ h. (h.peer, h.number)) (λ h. refl) (λ v is. is) (λ h is. is) (λ v. refl)
    (both_read host_law (λ _ _. last_read u64_read))

pub low_law : (number : ℕ) → number < 2 ^ 64 → IsRead (λ low. IsTrue (is_sane_low low number)) u64_field (low_at number)
unfolding low_at
low_law number fits = within_read (λ low. is_sane_low low number) (λ low is. low_fits number low fits is) u64_read

-- ---- lists

pub site_law : (me : HostId) → IsRead (IsList (λ n. IsTrue (is_site_count me n)) IsName) (list_field short_field)
    (counted (within (is_site_count me) u8_at) name_at)
unfolding list_field
site_law me = counted_read (within_read (is_site_count me) (count_fits me) u8_read) name_read

pub parts_law : IsRead (IsList (λ n. IsTrue (is_at_most 2 n)) IsPart) (list_field part_field) (counted (within (is_at_most 2) u8_at) part_at)
unfolding list_field
parts_law = counted_read (within_read (is_at_most 2) two_fit u8_read) part_law

pub hands_law : IsRead (IsList IsU8 IsHand) (list_field hand_field) (counted u8_at hand_at)
unfolding list_field
hands_law = counted_read u8_read hand_law
