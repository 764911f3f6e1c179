-- A host as it is formatted is in order.
use Rattle.std.proofs.Common.{◌≡◌, ℕ, ◌<◌, ◌≤◌, true, ◌==◌, nat_lt, nat_le, List, [], ◌∷◌, map, length, refl, arith}
use Rattle.std.proofs.lemmas.Bool.{lt-ltb, le-leb, eq-eqb}
use Rattle.std.proofs.lemmas.List.{length-map}
use Rattle.std.specs.List.{list_all}
use Rattle.nqs_types.specs.declared.ids.HostId.{HostId}
use Rattle.nqs_rules.specs.Format.{formatted, new_peer}
use Rattle.nqs_rules.specs.InOrder.{IsInOrder, is_peer_right}
use Rattle.nqs_rules.proofs.Chains.{chained}

new_peers : (site : List (List ℕ)) → list_all is_peer_right (map (λ _. new_peer) site) ≡ true
new_peers [] = refl
new_peers (name ∷ site) = new_peers site

pub formatted_order : {E : Type 0} (me : HostId) (site : List (List ℕ)) → me.0 < length site → length site ≤ 16 → IsInOrder (formatted {E = E} me site)
formatted_order me site among few = record {
  site = chained (nat_le 1 (length site)) (nat_le (length site) 16 ∷ nat_lt me.0 (length site) ∷ (length (map (λ _. new_peer) site) == length site) ∷ []) (
    le-leb 1 (length site) (omega arith),
    (
      le-leb (length site) 16 few,
      (lt-ltb me.0 (length site) among, (eq-eqb _ (length site) (length-map site (λ _. new_peer)), tt)),
    ),
  );
  parameters = refl;
  short = refl;
  keys = refl;
  arrivals = refl;
  queues = refl;
  complexes = refl;
  rows = refl;
  promises = refl;
  hands = refl;
  few = refl;
  offers = refl;
  peers = new_peers site;
  stages = refl;
  files = refl;
}
