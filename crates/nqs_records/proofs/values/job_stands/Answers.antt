use Rattle.std.proofs.Common.{nat_le, [], ◌∷◌}
use Rattle.nqs_base.specs.Path.{is_path}
use Rattle.nqs_rules.proofs.Chains.{each}
use Rattle.nqs_rules.proofs.PathStands.{path_stands}
use Rattle.nqs_records.proofs.values.job_stands.Goals as goal

pub returns : goal.returns
returns c = λ sane.
    let j = c.args.job.now in
    let k = each (nat_le j.priority 63) (is_path j.out ∷ is_path j.err ∷ []) sane in (
      c.name_stands.ensures,
      c.name_stands-2.ensures,
      k.0,
      c.number_stands.ensures,
      tt,
      c.maybe_number_stands.ensures,
      c.maybe_number_stands-2.ensures,
      c.maybe_name_stands.ensures,
      path_stands j.out k.1.0,
      path_stands j.err k.1.1.0,
      tt,
    )
