-- What of a change that fits a host in order stands in a record since it is found there: hosts and
-- requests. And paths.
use Rattle.std.proofs.Common.{◌≡◌, ℕ, Bool, true, not, nat_le, IsTrue, List, [], ◌∷◌, map, find, Option}
use Rattle.std.proofs.Common.{None, Some, is_ok, true≢false, refl, sym, subst, arith}
use Rattle.std.proofs.lemmas.Bool.{and_parts, leb-true, lt-ltb}
use Rattle.std.specs.List.{list_all, AllByRecursion}
use Rattle.nqs_types.specs.Ids.{id_exact, peer_number_eq, peer_number_exact, hand_key, promise_key, stage_key}
use Rattle.nqs_state.specs.Keys.{is_row, is_promise, is_stage}
use Rattle.nqs_base_tables.specs.Table.{has_key}
use Rattle.nqs_base.specs.Path.{is_path}
use Rattle.nqs_state.specs.State.{State}
use Rattle.nqs_base.specs.declared.extent.Extent.{Extent}
use Rattle.nqs_types.specs.declared.ids.HostId.{HostId}
use Rattle.nqs_types.specs.declared.ids.Named.{Named}
use Rattle.nqs_types.specs.declared.ids.PeerNumber.{PeerNumber}
use Rattle.nqs_types.specs.declared.ids.RequestId.{RequestId}
use Rattle.nqs_types.specs.declared.change.OutPart.{OutPart}
use Rattle.nqs_types.specs.declared.request.Carried.{Carried}
use Rattle.nqs_types.specs.declared.request.Hand.{Hand}
use Rattle.nqs_types.specs.declared.request.Peer.{Peer}
use Rattle.nqs_types.specs.declared.request.Row.{Row}
use Rattle.nqs_rules.specs.Tests.{passes}
use Rattle.nqs_rules.specs.Causes.{Cause, first_refusal}
use Rattle.nqs_rules.specs.Find.{peer_number, request_of, host_named, find_row, row_of, meant_row, has_queue, has_promise, has_stage, find_peer}
use Rattle.nqs_rules.specs.Rows.{arrivals_used, named_causes}
use Rattle.nqs_rules.specs.Fits.{is_site_host, row_passes, hand_passes, is_offered_hand, are_offered, is_open_number, is_unknown, offer_full, promise_fits}
use Rattle.nqs_rules.specs.InOrder.{IsInOrder, is_row_right, is_hand_given, is_hand_right, is_promise_right, is_stage_given, is_stage_right}
use Rattle.nqs_rules.specs.Sane.{is_sane_id, has_path}
use Rattle.nqs_rules.specs.Stepped.{part_bytes}
use Rattle.nqs_rules.proofs.Chains.{each}
use Rattle.nqs_rules.proofs.KeyFacts.{found_any}
use Rattle.nqs_rules.proofs.PathStands.{path_stands}
use Rattle.nqs_rules.proofs.ListFacts.{found_passes, list_all-found}
use Rattle.nqs_rules.proofs.RowFacts.{row_is, promise_is}
use Rattle.nqs_rules.proofs.RowsOrder.{hand_is}
use Rattle.nqs_rules.proofs.StateFacts.{host_below}
use Rattle.nqs_records.specs.Values.{is_seq, IsU8, IsHost, IsId, IsPlaced, IsPart, IsHand}
use Rattle.nqs_host_laws.specs.Offers.{HasNumber}
use Rattle.nqs_host_laws.proofs.FewHands.{known_below}

-- numbers

pub counts_few : (n : ℕ) → nat_le n 255 ≡ true → IsU8 n
counts_few n h = let few = leb-true n 255 h in omega (arith, few)

-- paths

pub parts_stand : (parts : List (OutPart Extent)) → list_all has_path parts ≡ true → AllByRecursion IsPlaced (map part_bytes parts)
    → list_all (λ (part : OutPart Extent). nat_le part.bytes.length 32768) parts ≡ true → AllByRecursion IsPart parts
parts_stand [] paths extents short = tt
parts_stand (p ∷ ps) paths extents short =
    let k = and_parts (is_path p.path) (list_all has_path ps) paths in
    let few = and_parts (nat_le p.bytes.length 32768) (list_all (λ (part : OutPart Extent). nat_le part.bytes.length 32768) ps) short in
    ((path_stands p.path k.0, (extents.0, few.0)), parts_stand ps k.1 extents.1 few.1)

module _ {E : Type 0} (s : State E) (peer : HostId) (number low : ℕ) (queue : List ℕ) (c : Carried) where
  -- a promise that fits has a host of the site, and an open number of a peer
  pub record PromiseHas : Type 0 where
    pub opens : passes (is_open_number number) (find_peer peer s) ≡ true
    pub host : is_site_host c.id.host s ≡ true

  pub promise_has : promise_fits peer number low queue c s ≡ true → PromiseHas
  promise_has fit =
      let k = each (has_queue queue s) (passes (is_open_number number) (find_peer peer s) ∷ not (has_promise peer number s) ∷ is_site_host c.id.host s
      ∷ is_unknown c.id s ∷ not (offer_full peer low s) ∷ not (arrivals_used s) ∷ []) fit in
      record { opens = k.1.0; host = k.1.1.1.0 }

module _ {E : Type 0} (s : State E) (h : IsInOrder s) where
  -- hosts

  pub peer_host : (test : Peer → Bool) (peer : HostId) → passes test (find_peer peer s) ≡ true → IsHost peer
  peer_host test peer known = lt-ltb peer.0 16 (known_below s h test peer known)

  -- the host of what is found by a host's number
  keyed_host : {V : Type 0} (key : V → PeerNumber) (right : V → Bool) → ((v : V) → right v ≡ true → IsHost (key v).peer) → (vs : List V)
      → list_all right vs ≡ true → (k : PeerNumber) (test : V → Bool) → passes test (find (has_key peer_number_eq key k) vs) ≡ true → IsHost k.peer
  keyed_host key right known vs all k test found = by (find (has_key peer_number_eq key k) vs) refl found
    where
      by : (o : Option _) → find (has_key peer_number_eq key k) vs ≡ o → passes test o ≡ true → IsHost k.peer
      by None e p = absurd (true≢false (sym p))
      by (Some v) e p =
          let same = peer_number_exact k (key v) (found_passes (has_key peer_number_eq key k) vs v e) in
          subst (λ n. IsHost n.peer) (sym same) (known v (list_all-found right (has_key peer_number_eq key k) vs v all e))

  pub hand_host : (test : Hand → Bool) (peer : HostId) (number : ℕ) → hand_passes test peer number s ≡ true → IsHost peer
  hand_host test peer number = keyed_host hand_key (is_hand_right s) (λ x k. peer_host (is_hand_given x.number) x.peer (hand_is s x k).given) s.hands h.hands
      (peer_number peer number) test

  pub promise_host : (peer : HostId) (number : ℕ) → has_promise peer number s ≡ true → IsHost peer
  promise_host peer number there =
      keyed_host promise_key (is_promise_right s) (λ p k. peer_host (is_open_number p.number) p.peer (promise_is s p k).opens) s.promises h.promises
      (peer_number peer number) (λ _. true)
      (found_any (is_promise (peer_number peer number)) s.promises there)

  pub stage_host : (peer : HostId) (number : ℕ) → has_stage peer number s ≡ true → IsHost peer
  stage_host peer number there =
      keyed_host stage_key (is_stage_right s) (λ t k. peer_host (is_stage_given t.number) t.peer
      (and_parts (is_path t.path) (passes (is_stage_given t.number) (find_peer t.peer s)) k).1) s.stages h.stages (peer_number peer number) (λ _. true)
      (found_any (is_stage (peer_number peer number)) s.stages there)

  pub hands_are : (ks : List PeerNumber) → are_offered ks s ≡ true → AllByRecursion HasNumber ks → AllByRecursion IsHand ks
  hands_are [] offered numbers = tt
  hands_are (k ∷ ks) offered numbers =
      let p = and_parts (hand_passes is_offered_hand k.peer k.number s) (are_offered ks s) offered in
      ((hand_host is_offered_hand k.peer k.number p.0, numbers.0), hands_are ks p.1 numbers.1)

  -- requests

  found_id : (id : RequestId) (r : Row E) → find_row id s ≡ Some r → IsId id
  found_id id r found =
      let right = (row_is s r (list_all-found (is_row_right s) (is_row id) s.rows r h.rows found)).id in
      let p = and_parts (is_site_host r.id.host s) (is_sane_id r.id) right in
      subst IsId (sym (id_exact id r.id (found_passes (is_row id) s.rows r found))) (p.1, host_below s r.id.host h.site p.0)

  pub row_id : (test : Row E → Bool) (id : RequestId) → row_passes test id s ≡ true → IsId id
  row_id test id there = by (find_row id s) refl there
    where
      by : (o : Option (Row E)) → find_row id s ≡ o → passes test o ≡ true → IsId id
      by None e p = absurd (true≢false (sym p))
      by (Some r) e p = found_id id r e

  pub named_seq : (id : Named) (f : Row E → List Cause) → is_ok (first_refusal (named_causes id f (meant_row id s))) ≡ true → IsTrue (is_seq id.seq)
  named_seq id f fits = by (host_named id.host s) fits
    where
      at : (r : RequestId) (o : Option (Row E)) → find_row r s ≡ o → is_ok (first_refusal (named_causes id f o)) ≡ true → IsTrue (is_seq r.seq)
      at r None e p = absurd (true≢false (sym p))
      at r (Some x) e p = (found_id r x e).0

      by : (o : Option HostId) → is_ok (first_refusal (named_causes id f (row_of (request_of id.seq o) s))) ≡ true → IsTrue (is_seq id.seq)
      by None p = absurd (true≢false (sym p))
      by (Some host) p = at (record { seq = id.seq; host = host }) (find_row (record { seq = id.seq; host = host }) s) refl p
