use Rattle.std.proofs.Common.{nat_le, nat_lt, ◌==◌, [], ◌∷◌}
use Rattle.nqs_rules.specs.Sane.{is_sane_id, is_sane_job}
use Rattle.nqs_rules.proofs.Chains.{each}
use Rattle.nqs_records.proofs.SaneLaws.{starts_few}
use Rattle.nqs_host_laws.proofs.values.carried_stands.Goals as goal

pub returns : goal.returns
returns c =
    let r = c.args.carried.now in
    let k = each (is_sane_id r.id) (is_sane_job r.job ∷ nat_lt r.starts 65535 ∷ (r.lost == r.starts) ∷ nat_le r.hops 32 ∷ []) c.requires.sane in
    ((k.0, c.requires.host), c.job_stands.ensures k.1.0, starts_few r.starts k.1.1.0, k.1.1.1.0, k.1.1.1.1.0)
