-- Changes of outputs: a state in order stays so.
use Rattle.std.proofs.Common.{◌≡◌, ℕ, ◌+◌, Bool, true, false, ◌&&◌, nat_lt, nat_le, List, [], ◌∷◌, ◌++◌, map, slice_get, Option, None, Some, option_map}
use Rattle.std.proofs.Common.{true≢false, zero, suc, refl, sym, ap, ◌∙◌, arith, if◌then◌else◌}
use Rattle.std.proofs.lemmas.Bool.{and_parts, and_from, le-leb, ltb-true, lt-ltb, eqb-true, false_from_ne_true}
use Rattle.std.proofs.lemmas.List.{map-append}
use Rattle.std.specs.List.{list_any, list_all}
use Rattle.nqs_state.specs.State.{State}
use Rattle.nqs_base.specs.Same.{number_exact}
use Rattle.nqs_types.specs.Ids.{peer_number_eq, peer_number_exact, stage_key}
use Rattle.nqs_base_tables.specs.Table.{without_first}
use Rattle.nqs_state.specs.Keys.{is_stage, is_file}
use Rattle.nqs_base.specs.Path.{is_path}
use Rattle.nqs_types.specs.declared.ids.HostId.{HostId}
use Rattle.nqs_types.specs.declared.ids.RequestId.{RequestId}
use Rattle.nqs_types.specs.declared.ids.PeerNumber.{PeerNumber}
use Rattle.nqs_types.specs.declared.request.Peer.{Peer}
use Rattle.nqs_types.specs.declared.request.Stage.{Stage}
use Rattle.nqs_types.specs.declared.request.FileOut.{FileOut}
use Rattle.nqs_types.specs.declared.change.OutPart.{OutPart}
use Rattle.nqs_rules.specs.Tests.{passes, same_host, last_u64}
use Rattle.nqs_rules.specs.Edits.{change_at, change_peer}
use Rattle.nqs_rules.specs.Find.{find_peer, peer_number}
use Rattle.nqs_rules.specs.Sane.{has_path}
use Rattle.nqs_rules.specs.Applied.{add_file, stage_counted, add_stage_to, add_stage, add_output, add_outputs}
use Rattle.nqs_rules.specs.InOrder.{IsInOrder, is_peer_right, are_distinct, same_number, is_given, ascends_from, is_stage_given, is_stage_right, is_file_right}
use Rattle.nqs_rules.proofs.Chains.{each}
use Rattle.nqs_rules.proofs.Sublists.{without_part, map_part, part_all, part_distinct}
use Rattle.nqs_rules.proofs.ListFacts.{list_all-weaker}
use Rattle.nqs_rules.proofs.ListMaps.{list_any-map}
use Rattle.nqs_rules.proofs.KeyFacts.{all_get, all-added, none_from_all, distinct-added}
use Rattle.nqs_rules.proofs.StateFacts.{parameters_are, keys_are}
use Rattle.nqs_rules.proofs.SameBut.{with_outputs}
use Rattle.nqs_rules.proofs.RowFacts.{same_it, same_peer_number}
use Rattle.nqs_rules.proofs.PeersOrder.{given_more, peer_counted}

pub get-changed : {V : Type 0} (n : ℕ) (f : V → V) (vs : List V) → slice_get (change_at n f vs) n ≡ option_map f (slice_get vs n)
get-changed n f [] = refl
get-changed zero f (v ∷ vs) = refl
get-changed (suc n) f (v ∷ vs) = get-changed n f vs

-- what is put at a place stands there, whatever changed there before
pub put_twice : {V : Type 0} (n : ℕ) (f : V → V) (v : V) (vs : List V) → change_at n (λ _. v) (change_at n f vs) ≡ change_at n (λ _. v) vs
put_twice n f v [] = refl
put_twice zero f v (x ∷ vs) = refl
put_twice (suc n) f v (x ∷ vs) = ap (λ l. x ∷ l) (put_twice n f v vs)

-- the counter itself was given to none, and is given by the next one
pub not_given : (n : ℕ) → is_given n n ≡ false
not_given n = false_from_ne_true (is_given n n) (λ h. let k = ltb-true n n (and_parts (nat_le 1 n) (nat_lt n n) h).1 in omega arith)

pub given_next : (n : ℕ) → nat_le 1 n ≡ true → is_given n (n + 1) ≡ true
given_next n h = and_from (nat_le 1 n) (nat_lt n (n + 1)) h (lt-ltb n (n + 1) (omega arith))

module _ {E : Type 0} where
  pub files_part : (s : State E) (n : ℕ) → IsInOrder s → IsInOrder (record s { files = without_first (is_file n) s.files })
  files_part s n h =
      let keys = keys_are s h.keys in
      let p = parameters_are s h.parameters in
      let part = without_part (is_file n) s.files in
      with_outputs s s.stages (without_first (is_file n) s.files) s.file_next h p.file_some p.file keys.stages
      (part_distinct same_number (map_part (λ f. f.number) part) keys.files) h.stages (part_all (is_file_right s) part h.files)

  -- other stages
  with_stages : (s : State E) (stages : List (Stage E)) → IsInOrder s → are_distinct peer_number_eq (map stage_key stages) ≡ true
      → list_all (is_stage_right s) stages ≡ true → IsInOrder (record s { stages = stages })
  with_stages s stages h distinct right = let p = parameters_are s h.parameters in
      with_outputs s stages s.files s.file_next h p.file_some p.file distinct (keys_are s h.keys).files right h.files

  pub stages_part : (s : State E) (k : PeerNumber) → IsInOrder s → IsInOrder (record s { stages = without_first (is_stage k) s.stages })
  stages_part s k h =
      let part = without_part (is_stage k) s.stages in
      with_stages s (without_first (is_stage k) s.stages) h (part_distinct peer_number_eq (map_part stage_key part) (keys_are s h.keys).stages)
      (part_all (is_stage_right s) part h.stages)

  file_numbered : (s : State E) (part : OutPart E) → IsInOrder s → is_path part.path ≡ true → nat_lt s.file_next last_u64 ≡ true
      → IsInOrder (record s { files = s.files ++ record { number = s.file_next; path = part.path; bytes = part.bytes } ∷ []; file_next = s.file_next + 1 })
  file_numbered s part h path left =
      let keys = keys_are s h.keys in
      let some = (parameters_are s h.parameters).file_some in
      let below = ltb-true s.file_next last_u64 left in
      let f : FileOut E = record { number = s.file_next; path = part.path; bytes = part.bytes } in
      let t : State E = record s { files = s.files ++ f ∷ []; file_next = s.file_next + 1 } in
      with_outputs s s.stages (s.files ++ f ∷ []) (s.file_next + 1) h (le-leb 1 (s.file_next + 1) (omega arith))
      (le-leb (s.file_next + 1) last_u64 (omega (arith, below))) keys.stages
      (ap (are_distinct same_number) (map-append (λ x. x.number) s.files (f ∷ []))
      ∙ distinct-added same_number number_exact same_it (map (λ x. x.number) s.files) s.file_next new keys.files) h.stages
      (all-added (is_file_right t) s.files f (list_all-weaker (is_file_right s) (is_file_right t) old s.files h.files)
      (and_from (is_path part.path) (is_given s.file_next (s.file_next + 1)) path (given_next s.file_next some)))
    where
      old : (x : FileOut E) → is_file_right s x ≡ true → (is_path x.path && is_given x.number (s.file_next + 1)) ≡ true
      old x k = let q = and_parts (is_path x.path) (is_given x.number s.file_next) k in
          and_from (is_path x.path) (is_given x.number (s.file_next + 1)) q.0 (given_more x.number s.file_next (s.file_next + 1) (omega arith) q.1)

      new : list_any (same_number s.file_next) (map (λ x. x.number) s.files) ≡ false
      new = list_any-map (λ x. x.number) (same_number s.file_next) s.files
          ∙ none_from_all (is_file_right s) (λ x. same_number s.file_next x.number) (λ x k. false_from_ne_true (same_number s.file_next x.number) (λ e.
          let q = (and_parts (is_path x.path) (is_given x.number s.file_next) k).1 in
          true≢false (sym q ∙ ap (λ n. is_given n s.file_next) (sym (eqb-true s.file_next x.number e)) ∙ not_given s.file_next))) s.files h.files

  pub file_added : (s : State E) (part : OutPart E) → IsInOrder s → is_path part.path ≡ true → IsInOrder (add_file part s)
  file_added s part h path = by (nat_lt s.file_next last_u64) refl
    where
      by : (b : Bool) → nat_lt s.file_next last_u64 ≡ b → IsInOrder (if b then
          record s { files = s.files ++ record { number = s.file_next; path = part.path; bytes = part.bytes } ∷ []; file_next = s.file_next + 1 } else s)
      by true e = file_numbered s part h path e
      by false e = h

  -- one stage more
  with_stage : (s : State E) (x : Stage E) → IsInOrder s → is_stage_right s x ≡ true → list_any (peer_number_eq (stage_key x)) (map stage_key s.stages) ≡ false
      → IsInOrder (record s { stages = s.stages ++ x ∷ [] })
  with_stage s x h right new =
      with_stages s (s.stages ++ x ∷ []) h
      (ap (are_distinct peer_number_eq) (map-append stage_key s.stages (x ∷ []))
      ∙ distinct-added peer_number_eq peer_number_exact same_peer_number (map stage_key s.stages) (stage_key x) new (keys_are s h.keys).stages)
      (all-added (is_stage_right s) s.stages x h.stages right)

  stage_numbered : (s : State E) (host : HostId) (part : OutPart E) (p : Peer) → IsInOrder s → is_path part.path ≡ true → find_peer host s ≡ Some p
      → IsInOrder (record (change_peer host stage_counted s) {
        stages = s.stages
            ++ record { peer = host; number = p.stage_next; path = part.path; bytes = part.bytes } ∷ [];
      })
  stage_numbered s host part p h path found =
      let t : State E = change_peer host stage_counted s in
      let k : IsInOrder t = peer_counted s host stage_counted h (λ q e. record { next = omega arith; stage_next = omega arith }) (λ q. (refl, refl)) in
      let right : passes (is_stage_given p.stage_next) (find_peer host t) ≡ true =
      ap (passes (is_stage_given p.stage_next)) (get-changed host.0 stage_counted s.peers ∙ ap (option_map stage_counted) found)
      ∙ given_next p.stage_next counts in
      with_stage t (record { peer = host; number = p.stage_next; path = part.path; bytes = part.bytes }) k
      (and_from (is_path part.path) (passes (is_stage_given p.stage_next) (find_peer host t)) path right) new
    where
      counts : nat_le 1 p.stage_next ≡ true
      counts = (each (nat_le 1 p.next) (nat_le 1 p.stage_next ∷ ascends_from p.floor p.closed ∷ []) (all_get is_peer_right s.peers host.0 p h.peers found)).1.0

      new : list_any (peer_number_eq (peer_number host p.stage_next)) (map stage_key s.stages) ≡ false
      new = list_any-map stage_key (peer_number_eq (peer_number host p.stage_next)) s.stages
          ∙ none_from_all (is_stage_right s) (λ x. peer_number_eq (peer_number host p.stage_next) (stage_key x)) (λ x k.
          false_from_ne_true (peer_number_eq (peer_number host p.stage_next) (stage_key x)) (λ e.
          let is : peer_number host p.stage_next ≡ stage_key x = peer_number_exact (peer_number host p.stage_next) (stage_key x) e in
          let given : passes (is_stage_given x.number) (find_peer x.peer s) ≡ true =
          (and_parts (is_path x.path) (passes (is_stage_given x.number) (find_peer x.peer s)) k).1 in
          true≢false (sym given ∙ (λ j. passes (is_stage_given (sym is j).number) (find_peer (sym is j).peer s))
          ∙ ap (passes (is_stage_given p.stage_next)) found ∙ not_given p.stage_next))) s.stages h.stages

  stage_added : (s : State E) (host : HostId) (part : OutPart E) → IsInOrder s → is_path part.path ≡ true → IsInOrder (add_stage host part s)
  stage_added s host part h path = of (find_peer host s) refl
    where
      by : (p : Peer) (b : Bool) → find_peer host s ≡ Some p → IsInOrder (if b then
          record (change_peer host stage_counted s) {
            stages = s.stages ++ record { peer = host; number = p.stage_next; path = part.path; bytes = part.bytes }
                ∷ [];
          } else s)
      by p true found = stage_numbered s host part p h path found
      by p false found = h

      of : (o : Option Peer) → find_peer host s ≡ o → IsInOrder (add_stage_to host part o s)
      of None found = h
      of (Some p) found = by p (nat_lt p.stage_next last_u64) found

  output_added : (s : State E) (id : RequestId) (part : OutPart E) → IsInOrder s → is_path part.path ≡ true → IsInOrder (add_output id part s)
  output_added s id part h path = by (same_host s.me id.host)
    where
      by : (b : Bool) → IsInOrder (if b then add_file part s else add_stage id.host part s)
      by true = file_added s part h path
      by false = stage_added s id.host part h path

  pub outputs_added : (s : State E) (id : RequestId) (parts : List (OutPart E)) → IsInOrder s → list_all has_path parts ≡ true
      → IsInOrder (add_outputs id parts s)
  outputs_added s id [] h paths = h
  outputs_added s id (part ∷ parts) h paths = let p = and_parts (has_path part) (list_all has_path parts) paths in
      outputs_added (add_output id part s) id parts (output_added s id part h p.0) p.1
