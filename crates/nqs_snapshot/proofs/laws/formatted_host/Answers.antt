use Rattle.std.proofs.Common.{refl}
use Rattle.nqs_codec.specs.Fields.{u8_field, u16_field, u32_field, u64_field, short_field, bool_field}
use Rattle.nqs_records.specs.Fields.{u8_at, number_at}
use Rattle.nqs_records.specs.Parts.{host_at}
use Rattle.nqs_snapshot.specs.Spelling.{many_field, access_field, limits_field, settings_field, queue_field, peer_field, old_peer_field, site_part}
use Rattle.nqs_snapshot.specs.Spelling.{request_part, dealing_part, counter_part, state_by}
use Rattle.nqs_snapshot.specs.Reading.{site_at, parts_at, whole_of, state_read_by}
use Rattle.nqs_snapshot.proofs.laws.formatted_host.Goals as goal

pub returns-clause-bytes : goal.returns-clause-bytes
unfolding u8_field u16_field u32_field u64_field short_field bool_field many_field access_field limits_field settings_field queue_field peer_field site_part
    request_part dealing_part counter_part state_by
returns-clause-bytes c = refl

pub returns-clause-length : goal.returns-clause-length
returns-clause-length c = refl

pub returns-clause-none : goal.returns-clause-none
unfolding u8_at number_at host_at site_at parts_at whole_of state_read_by
returns-clause-none c = refl

pub returns-clause-old_bytes : goal.returns-clause-old_bytes
unfolding u8_field u16_field u32_field u64_field short_field bool_field many_field access_field limits_field settings_field queue_field old_peer_field
    site_part request_part dealing_part counter_part state_by
returns-clause-old_bytes c = refl

pub returns-clause-old_length : goal.returns-clause-old_length
returns-clause-old_length c = refl

pub returns-clause-old_none : goal.returns-clause-old_none
unfolding u8_at number_at host_at site_at parts_at whole_of state_read_by
returns-clause-old_none c = refl
