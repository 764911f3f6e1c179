-- Readings of what records are made of.
use Rattle.std.specs.Prelude.{ℕ, Bool, ◌==◌, is_some, List, Option, Ok}
use Rattle.nqs_types.specs.Scripts.{longest_script}
use Rattle.nqs_types.specs.declared.ids.HostId.{HostId}
use Rattle.nqs_types.specs.declared.ids.RequestId.{RequestId}
use Rattle.nqs_types.specs.declared.ids.PeerNumber.{PeerNumber}
use Rattle.nqs_types.specs.declared.ids.Named.{Named}
use Rattle.nqs_types.specs.declared.ids.NamedDest.{NamedDest}
use Rattle.nqs_rules.specs.Conf.{is_wait}
use Rattle.nqs_rules.specs.Sane.{is_sane_low}
use Rattle.nqs_base.specs.declared.extent.Extent.{Extent}
use Rattle.nqs_types.specs.declared.request.Job.{Job}
use Rattle.nqs_types.specs.declared.request.Carried.{Carried}
use Rattle.nqs_types.specs.declared.change.OutPart.{OutPart}
use Rattle.nqs_records.specs.Reading.{Reading, mapped, both, within}
use Rattle.nqs_records.specs.Fields.{u8_at, u16_at, u32_at, u64_at, bool_at, opt_at, name_at, path_at}
use Rattle.nqs_records.specs.Values.{is_host, is_seq, is_at_most}

-- no bytes are taken
abbrev pub nothing_at : Reading (Unit {0})
nothing_at bytes place = Ok (tt, place)

-- a number of 8 bytes, up to a limit
unfoldable pub at_most_at : ℕ → Reading ℕ
at_most_at limit = within (is_at_most limit) u64_at

-- seconds to wait, from 1 to 86,400
unfoldable pub wait_at : Reading ℕ
wait_at = within is_wait u64_at

-- a flag: whether the number 1 is there, where no other may stand
unfoldable pub flag_at : Reading Bool
flag_at = mapped (λ n. is_some n) (opt_at (within (λ n. n == 1) u64_at))

-- a host, by its place in the site, below 16
unfoldable pub host_at : Reading HostId
host_at = mapped (λ n. record { 0 = n }) (within is_host u8_at)

-- the number of a request, from 1 on
unfoldable pub seq_at : Reading ℕ
seq_at = within is_seq u32_at

-- the low behind the number of a handover, from 1 to that number
unfoldable pub low_at : ℕ → Reading ℕ
low_at number = within (λ low. is_sane_low low number) u64_at

-- a request: its number, and the host of its submission
unfoldable pub id_at : Reading RequestId
id_at = mapped (λ v. record { seq = v.0; host = v.1 }) (both seq_at (λ _. host_at))

-- a destination: the names of a queue and of a host
unfoldable pub dest_at : Reading NamedDest
dest_at = mapped (λ v. record { queue = v.0; host = v.1 }) (both name_at (λ _. name_at))

-- a request as it was typed: its number and the name of its host
unfoldable pub named_at : Reading Named
named_at = mapped (λ v. record { seq = v.0; host = v.1 }) (both seq_at (λ _. name_at))

-- an extent of the spool: its place, and its length, up to a limit
unfoldable pub extent_within : ℕ → Reading Extent
extent_within limit = mapped (λ v. record { place = v.0; length = v.1 }) (both u64_at (λ _. within (is_at_most limit) u32_at))

-- that of a script
abbrev pub script_at : Reading Extent
script_at = extent_within longest_script

-- that of an output
abbrev pub output_at : Reading Extent
output_at = extent_within 32768

-- the values of a job's fields, in order
abbrev pub JobFields : Type 0
JobFields = List ℕ × (List ℕ × (ℕ × (ℕ × (Bool × (Option ℕ × (Option ℕ × (Option (List ℕ) × (List ℕ × (List ℕ × Bool)))))))))

-- the job that these fields make
abbrev pub job_of : JobFields → Job
job_of v = record {
  name = v.0;
  owner = v.1.0;
  priority = v.1.1.0;
  earliest = v.1.1.1.0;
  rerun = v.1.1.1.1.0;
  limits = record { cpu = v.1.1.1.1.1.0; memory = v.1.1.1.1.1.1.0 };
  forms = v.1.1.1.1.1.1.1.0;
  out = v.1.1.1.1.1.1.1.1.0;
  err = v.1.1.1.1.1.1.1.1.1.0;
  join = v.1.1.1.1.1.1.1.1.1.1;
}

-- a job, by its fields in order
unfoldable pub job_at : Reading Job
job_at = mapped job_of (
    both name_at λ _. both name_at λ _. both (within (is_at_most 63) u8_at) λ _. both u64_at λ _. both bool_at λ _.
    both (opt_at u64_at) λ _. both (opt_at u64_at) λ _. both (opt_at name_at) λ _.
    both path_at λ _. both path_at λ _. bool_at
    )

-- what goes from host to host with a request, which was lost as often as it was started
unfoldable pub carried_at : Reading Carried
carried_at = mapped (λ v. record { id = v.0; job = v.1.0; starts = v.1.1.0; lost = v.1.1.1.0; hops = v.1.1.1.1 }) (
    both id_at λ _. both job_at λ _. both (within (is_at_most 65534) u16_at) λ starts.
    both (within (λ lost. lost == starts) u16_at) λ _. within (is_at_most 32) u8_at
    )

-- an output of a job: its path, and where its bytes are
unfoldable pub part_at : Reading (OutPart Extent)
part_at = mapped (λ v. record { path = v.0; bytes = v.1 }) (both path_at (λ _. output_at))

-- a handover, by its peer and its number
unfoldable pub hand_at : Reading PeerNumber
hand_at = mapped (λ v. record { peer = v.0; number = v.1 }) (both host_at (λ _. u64_at))
