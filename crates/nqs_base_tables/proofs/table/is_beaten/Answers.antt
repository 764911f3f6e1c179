use Rattle.std.proofs.Common.{◌≡◌, ◌∙◌, ap, sym, refl}
use Rattle.std.specs.Option.{option_map}
use Rattle.nqs_base_tables.specs.Table.{is_beaten}
use Rattle.nqs_base_tables.proofs.table.is_beaten.Goals as goal

pub returns-in-Some : goal.returns-in-Some
returns-in-Some g c b says =
    let told : c.beats.result ≡ b c.in-Some.other.now c.args.value.now = says _ _ _
    (record { first = c.in-Some.other; second = c.args.value; shows = (refl, refl); says = record { met = c.beats.ensures } }) in
    told ∙ sym (ap (λ o. is_beaten b c.args.value.now (option_map (λ x. (x.0, x.1.now)) o)) c.in-Some.is)
