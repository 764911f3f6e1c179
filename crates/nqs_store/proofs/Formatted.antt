-- The host of a record that formats one.
use Rattle.std.proofs.Common.{◌&&◌, nat_le, nat_lt, List, ℕ, length, refl}
use Rattle.std.proofs.lemmas.Bool.{and_parts, ltb-true, leb-true}
use Rattle.nqs_types.specs.declared.ids.HostId.{HostId}
use Rattle.nqs_types.specs.declared.change.Change.TheVariants.{Site}
use Rattle.nqs_rules.specs.Format.{formatted}
use Rattle.nqs_rules.proofs.Formatted.{formatted_order}
use Rattle.nqs_records.specs.Changes.{MayStand}
use Rattle.nqs_store.specs.Sound.{IsSoundHost}

pub formatted_sound : (me : HostId) (site : List (List ℕ)) → MayStand (Site me site) → IsSoundHost (formatted me site)
formatted_sound me site stands =
    let parts = and_parts (nat_le 1 (length site) && nat_le (length site) 16) (nat_lt me.0 (length site)) stands.1.0 in
    let few = and_parts (nat_le 1 (length site)) (nat_le (length site) 16) parts.0 in
    record {
      order = formatted_order me site (ltb-true me.0 (length site) parts.1) (leb-true (length site) 16 few.1);
      consistent = record { doomed = refl; held = refl; routing = refl; promises = refl; given = refl };
      short = refl;
    }
