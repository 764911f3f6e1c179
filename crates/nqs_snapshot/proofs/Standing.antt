-- The values of a state in order have fields, where its scripts and outputs are short.
use Rattle.std.proofs.Common.{◌≡◌, ◌≢◌, refl, ℕ, zero, suc, Bool, true, false, nat_lt, nat_le, List, [], ◌∷◌, length, sym, subst, arith}
use Rattle.std.specs.Prelude.{if◌then◌else◌}
use Rattle.std.proofs.lemmas.Bool.{and_parts}
use Rattle.std.proofs.lemmas.Bool.Decides.{nat_tests}
use Rattle.std.specs.List.{list_all, AllByRecursion}
use Rattle.nqs_base.specs.declared.extent.Extent.{Extent}
use Rattle.nqs_base.specs.Path.{is_path}
use Rattle.nqs_base.proofs.Plain.{all_pass, all_weaker}
use Rattle.nqs_types.specs.Scripts.{longest_script}
use Rattle.nqs_types.specs.declared.ids.Dest.{Dest}
use Rattle.nqs_types.specs.declared.ids.HostId.{HostId}
use Rattle.nqs_types.specs.declared.ids.RequestId.{RequestId}
use Rattle.nqs_types.specs.declared.request.Refused.{Refused}
use Rattle.nqs_types.specs.declared.request.Row.{Row}
use Rattle.nqs_types.specs.declared.request.Hand.{Hand}
use Rattle.nqs_types.specs.declared.request.Promise.{Promise}
use Rattle.nqs_types.specs.declared.request.Peer.{Peer}
use Rattle.nqs_types.specs.declared.request.Stage.{Stage}
use Rattle.nqs_types.specs.declared.request.FileOut.{FileOut}
use Rattle.nqs_types.specs.declared.queue.QueueDef.{QueueDef}
use Rattle.nqs_state.specs.State.{State}
use Rattle.nqs_rules.specs.Tests.{passes, is_routing}
use Rattle.nqs_rules.specs.Find.{find_peer}
use Rattle.nqs_rules.specs.Fits.{is_site_host, is_open_number}
use Rattle.nqs_rules.specs.Sane.{is_sane_id}
use Rattle.nqs_rules.specs.InOrder.{IsInOrder, is_given, is_hand_given, is_stage_given}
use Rattle.nqs_rules.specs.InOrder.{is_dest_right, is_refused_right, is_queue_right, is_id_right, is_row_right, is_promise_right}
use Rattle.nqs_rules.specs.InOrder.{is_hand_right, is_stage_right, is_file_right}
use Rattle.nqs_rules.proofs.Chains.{each, chained}
use Rattle.nqs_rules.proofs.RowFacts.{row_is, promise_is}
use Rattle.nqs_rules.proofs.StateFacts.{sites_are, host_below}
use Rattle.nqs_rules.proofs.QueuesOrder.{queue_is}
use Rattle.nqs_rules.proofs.RowsOrder.{hand_is}
use Rattle.nqs_rules.proofs.HandoversOrder.{found_peer, known_host}
use Rattle.nqs_records.specs.Values.{IsHost, IsId, IsU64}
use Rattle.nqs_snapshot.specs.Spelling.{closed_up_to}
use Rattle.nqs_snapshot.specs.Values.{IsMany, IsDest, IsQueue, IsRefused, IsRow, IsHand, IsPromise, IsPeer, IsOldPeer, alone_above, IsStage, IsFile}
use Rattle.nqs_snapshot.specs.Values.{MayStand, MayStandOld}
use Rattle.nqs_snapshot.specs.Typed.{IsTypedDest, IsTypedQueue, IsTypedRefused, IsTypedRow, IsTypedHand, IsTypedPromise, IsTypedStage, IsTypedFile, IsTyped}
use Rattle.nqs_snapshot.specs.Sound.{HasShortParts}
use Rattle.nqs_rules.proofs.PathStands.{path_stands}

-- what each is that passes two tests
each_both : {V : Type 0} (P R : V → Type 0) (p q : V → Bool) → ((v : V) → P v → p v ≡ true → q v ≡ true → R v) → (vs : List V) → AllByRecursion P vs
    → list_all p vs ≡ true → list_all q vs ≡ true → AllByRecursion R vs
each_both P R p q to [] typed one two = tt
each_both P R p q to (v ∷ vs) typed one two =
    let a = and_parts (p v) (list_all p vs) one in
    let b = and_parts (q v) (list_all q vs) two in
    (to v typed.0 a.0 b.0, each_both P R p q to vs typed.1 a.1 b.1)

many_both : {V : Type 0} (P R : V → Type 0) (p q : V → Bool) → ((v : V) → P v → p v ≡ true → q v ≡ true → R v) → (vs : List V) → IsMany P vs
    → list_all p vs ≡ true → list_all q vs ≡ true → IsMany R vs
many_both P R p q to vs typed one two = (typed.0, each_both P R p q to vs typed.1 one two)

many_right : {V : Type 0} (P R : V → Type 0) (p : V → Bool) → ((v : V) → P v → p v ≡ true → R v) → (vs : List V) → IsMany P vs
    → list_all p vs ≡ true → IsMany R vs
many_right P R p to vs typed one = many_both P R p p (λ v is k _. to v is k) vs typed one one

hops_few : (b : Bool) (n : ℕ) → (if b then nat_lt n 32 else nat_le n 32) ≡ true → nat_le n 32 ≡ true
hops_few true n h = grind (arith, nat_tests)
hops_few false n h = h

module _ (s : State Extent) (h : IsInOrder s) where
  peer_stands : (x : HostId) (p : Peer → Bool) → passes p (find_peer x s) ≡ true → IsHost x
  peer_stands x p is = let known = found_peer p x s is in host_below s x h.site (known_host s h x known.0 known.1)

  id_stands : (id : RequestId) → is_id_right s id ≡ true → IsId id
  id_stands id is = let k = and_parts (is_site_host id.host s) (is_sane_id id) is in (k.1, host_below s id.host h.site k.0)

  queue_stands : (q : QueueDef) → IsTypedQueue q → is_queue_right s q ≡ true → IsQueue q
  queue_stands q typed is =
      let k = queue_is s q is in (
        (typed.0.0, k.priority, typed.0.1, typed.0.2, typed.0.3),
        typed.1,
        many_right IsTypedDest IsDest (is_dest_right s) (λ d name host. (name, host_below s d.host h.site host)) q.dests typed.2 k.dests,
        typed.3,
      )

  refused_stands : (r : Refused) → IsTypedRefused r → is_refused_right s r ≡ true → IsRefused r
  refused_stands r typed is = ((typed.0, host_below s r.dest.host h.site is), typed.1)

  row_stands : (r : Row Extent) → IsTypedRow r → is_row_right s r ≡ true → nat_le r.script.length longest_script ≡ true → IsRow r
  row_stands r typed is short =
      let k = row_is s r is in (
        id_stands r.id k.id,
        typed.0 k.job,
        (typed.1.0, typed.1.1, typed.1.2, typed.1.3, hops_few (is_routing r.state) r.hops k.hop, typed.1.4),
        many_right IsTypedRefused IsRefused (is_refused_right s) refused_stands r.refused typed.2 k.refused,
        (typed.3, short),
      )

  hand_stands : (x : Hand) → IsTypedHand x → is_hand_right s x ≡ true → IsHand x
  hand_stands x typed is =
      let k = hand_is s x is in
      (peer_stands x.peer (is_hand_given x.number) k.given, typed.0, id_stands x.id k.id, typed.1, typed.2)

  promise_stands : (p : Promise Extent) → IsTypedPromise p → is_promise_right s p ≡ true → nat_le p.row.script.length longest_script ≡ true → IsPromise p
  promise_stands p typed is short =
      let k = promise_is s p is in
      (peer_stands p.peer (is_open_number p.number) k.opens, typed.0, row_stands p.row typed.1 k.row short)

  stage_stands : (t : Stage Extent) → IsTypedStage t → is_stage_right s t ≡ true → nat_le t.bytes.length 32768 ≡ true → IsStage t
  stage_stands t typed is short =
      let k = and_parts (is_path t.path) (passes (is_stage_given t.number) (find_peer t.peer s)) is in
      (peer_stands t.peer (is_stage_given t.number) k.1, typed.0, path_stands t.path k.0, (typed.1, short))

  file_stands : (f : FileOut Extent) → IsTypedFile f → is_file_right s f ≡ true → nat_le f.bytes.length 32768 ≡ true → IsFile f
  file_stands f typed is short =
      let k = and_parts (is_path f.path) (is_given f.number s.file_next) is in (typed.0, path_stands f.path k.0, (typed.1, short))

  pub in_order_stands : IsTyped s → HasShortParts s → MayStand s
  in_order_stands typed short =
      let parts = each (list_all (λ (r : Row Extent). nat_le r.script.length longest_script) s.rows) (
      list_all (λ (p : Promise Extent). nat_le p.row.script.length longest_script) s.promises
      ∷ list_all (λ (t : Stage Extent). nat_le t.bytes.length 32768) s.stages
      ∷ list_all (λ (f : FileOut Extent). nat_le f.bytes.length 32768) s.files ∷ []
      ) short in (
        (
          host_below s s.me h.site (sites_are s h.site).me,
          typed.0.0,
          many_right IsTypedQueue IsQueue (is_queue_right s) queue_stands s.queues typed.0.1 h.queues,
          typed.0.2,
          typed.0.3,
        ),
        (
          many_both IsTypedRow IsRow (is_row_right s) (λ (r : Row Extent). nat_le r.script.length longest_script) row_stands s.rows typed.1.0 h.rows parts.0,
          many_right IsTypedHand IsHand (is_hand_right s) hand_stands s.hands typed.1.1 h.hands,
          many_both IsTypedPromise IsPromise (is_promise_right s) (λ (p : Promise Extent). nat_le p.row.script.length longest_script) promise_stands s.promises
              typed.1.2 h.promises parts.1.0,
        ),
        typed.2.0,
        (
          many_both IsTypedStage IsStage (is_stage_right s) (λ (t : Stage Extent). nat_le t.bytes.length 32768) stage_stands s.stages typed.2.1 h.stages
              parts.1.1.0,
          many_both IsTypedFile IsFile (is_file_right s) (λ (f : FileOut Extent). nat_le f.bytes.length 32768) file_stands s.files typed.2.2 h.files
              parts.1.1.1.0,
          typed.2.3,
          typed.2.4,
        ),
        typed.3,
      )

-- what has a field is short

pub stands_short : (s : State Extent) → MayStand s → HasShortParts s
stands_short s h = chained (list_all (λ (r : Row Extent). nat_le r.script.length longest_script) s.rows) (
    list_all (λ (p : Promise Extent). nat_le p.row.script.length longest_script) s.promises
    ∷ list_all (λ (t : Stage Extent). nat_le t.bytes.length 32768) s.stages
    ∷ list_all (λ (f : FileOut Extent). nat_le f.bytes.length 32768) s.files ∷ []
    ) (
      all_pass IsRow (λ (r : Row Extent). nat_le r.script.length longest_script) (λ r k. k.4.1) s.rows h.1.0.1,
      (
        all_pass IsPromise (λ (p : Promise Extent). nat_le p.row.script.length longest_script) (λ p k. k.2.4.1) s.promises h.1.2.1,
        (
          all_pass IsStage (λ (t : Stage Extent). nat_le t.bytes.length 32768) (λ t k. k.3.1) s.stages h.3.0.1,
          (all_pass IsFile (λ (f : FileOut Extent). nat_le f.bytes.length 32768) (λ f k. k.2.1) s.files h.3.1.1, tt),
        ),
      ),
    )

-- ---- what stands by the spelling of version 1 stands

pub alone_some : (n : ℕ) → n ≢ 0 → alone_above n ≡ n ∷ []
alone_some zero some = absurd (some refl)
alone_some (suc n) some = refl

alone_stands : (n : ℕ) → IsU64 n → IsMany IsU64 (alone_above n)
alone_stands zero small = (omega arith, tt)
alone_stands (suc n) small = (omega arith, (small, tt))

old_peer_stands : (p : Peer) → IsOldPeer p → IsPeer p
old_peer_stands p is = (
  is.0,
  omega (arith, is.1.0, is.1.1),
  subst (IsMany IsU64) (sym is.1.2) (alone_stands (closed_up_to p.closed) is.1.0),
  is.2,
  is.3,
  is.4,
)

pub old_stands : (s : State Extent) → MayStandOld s → MayStand s
old_stands s h = (h.0, h.1, (h.2.0, all_weaker IsOldPeer IsPeer old_peer_stands s.peers h.2.1), h.3, h.4)
