-- What each change of a host makes of its part of the pairs.
use Rattle.std.proofs.Common.{◌≡◌, ℕ, ◌+◌, ◌-◌, ◌<◌, Bool, true, false, not, ◌&&◌, ◌==◌, nat_lt, nat_le, List, [], ◌∷◌, ◌++◌, map, filter, find, Option, None}
use Rattle.std.proofs.Common.{Some}
use Rattle.std.proofs.Common.{true≢false, refl, sym, ap, subst, ◌∙◌, arith, if◌then◌else◌}
use Rattle.std.proofs.lemmas.Bool.{and_parts, and_from, eqb-true, eq-eqb, ltb-true, ltb-false, lt-ltb, false_from_ne_true}
use Rattle.std.proofs.lemmas.Option.{same_Some}
use Rattle.std.specs.Option.{option_or}
use Rattle.nqs_base.proofs.Plain.{find_in_filter}
use Rattle.nqs_types.specs.Ids.{id_eq, id_exact, peer_number_eq, peer_number_exact, hand_key}
use Rattle.nqs_state.specs.State.{Plain}
use Rattle.nqs_base_tables.specs.Table.{without_first}
use Rattle.nqs_state.specs.Keys.{is_hand, is_promise}
use Rattle.nqs_types.specs.declared.ids.HostId.{HostId}
use Rattle.nqs_types.specs.declared.ids.PeerNumber.{PeerNumber}
use Rattle.nqs_types.specs.declared.request.Hand.{Hand}
use Rattle.nqs_types.specs.declared.request.Peer.{Peer}
use Rattle.nqs_types.specs.declared.request.Phase.{Phase}
use Rattle.nqs_types.specs.declared.request.Phase.TheVariants.{Offered, Committed}
use Rattle.nqs_types.specs.declared.edit.ConfEdit.{ConfEdit}
use Rattle.nqs_types.specs.declared.edit.ConfEdit.TheVariants.{PurgeQueue}
use Rattle.nqs_types.specs.declared.edit.LimitsEdit.{LimitsEdit}
use Rattle.nqs_types.specs.declared.edit.LimitsEdit.TheVariants.{SetGlobalLimit}
use Rattle.nqs_types.specs.declared.edit.AccessEdit.{AccessEdit}
use Rattle.nqs_types.specs.declared.edit.AccessEdit.TheVariants.{AddManager}
use Rattle.nqs_types.specs.declared.edit.DevicesEdit.{DevicesEdit}
use Rattle.nqs_types.specs.declared.edit.DevicesEdit.TheVariants.{DeleteDevice}
use Rattle.nqs_types.specs.declared.edit.RowsEdit.TheVariants.{AbortQueue, HoldRequest, ReleaseRequest, MoveRequest, ModifyRequest}
use Rattle.nqs_types.specs.declared.edit.Edit.{Edit}
use Rattle.nqs_types.specs.declared.edit.Edit.TheVariants.{Conf, Limits as LimitsOf, Access as AccessOf, Devices as DevicesOf, Rows as RowsOf}
use Rattle.nqs_types.specs.declared.change.OutPart.{OutPart}
use Rattle.nqs_types.specs.declared.change.Change.{Change}
use Rattle.nqs_types.specs.declared.change.Change.TheVariants.{Site, Submitted, Deleted, Doomed, Started, Ended, Unlaunched, Boot, Edited, HandOpened}
use Rattle.nqs_types.specs.declared.change.Change.TheVariants.{HandCommitted, HandRefused, HandsSilent, HandDone, OldPromised, Promised, Accepted, Dropped}
use Rattle.nqs_types.specs.declared.change.Change.TheVariants.{MovedLocal}
use Rattle.nqs_types.specs.declared.change.Change.TheVariants.{RefusedLocal, HeldFar, StageGot, StageGone, FileGone}
use Rattle.nqs_state.proofs.LeastLemmas.{found_id}
use Rattle.nqs_rules.specs.Tests.{passes, is_routing, is_offered, same_host, last_u64}
use Rattle.nqs_rules.specs.Find.{peer_number, has_row, find_row, find_hand, find_promise, find_peer, meant_request}
use Rattle.nqs_rules.specs.Edits.{change_peer, drop_row}
use Rattle.nqs_rules.specs.Conf.{conf_applied}
use Rattle.nqs_rules.specs.Limits.{limits_applied}
use Rattle.nqs_rules.specs.Devices.{devices_applied}
use Rattle.nqs_rules.specs.Rows.{change_meant, next_arrival, held_row, released_row, moved_row, with_priority}
use Rattle.nqs_rules.specs.Routing.{low, close, raise_floor, has_room_for_hand, is_within_window}
use Rattle.nqs_rules.specs.Handover.{was_given}
use Rattle.nqs_rules.specs.Applied.{applied, edit_applied, access_applied, is_offered_for, committed, routing_row, requeued_row, stage_counted, add_file}
use Rattle.nqs_rules.specs.Applied.{add_stage_to, add_output, add_outputs, hand_committed, hand_refused, hand_silent, drop_hand, drop_promise, accepted}
use Rattle.nqs_rules.specs.Fits.{fits, is_offered_hand, is_committed_hand, hand_passes, row_passes, may_hop, is_next}
use Rattle.nqs_rules.specs.InOrder.{IsInOrder, IsConsistent, are_distinct, is_hand_right, is_hand_given}
use Rattle.nqs_rules.proofs.Chains.{each}
use Rattle.nqs_rules.proofs.ListFacts.{list_all-found}
use Rattle.nqs_rules.proofs.RowsOrder.{hand_is}
use Rattle.nqs_rules.proofs.KeyFacts.{turned}
use Rattle.nqs_rules.proofs.StateFacts.{keys_are}
use Rattle.nqs_rules.proofs.RowFacts.{same_id, same_peer_number}
use Rattle.nqs_rules.proofs.RowKinds.{found_row}
use Rattle.nqs_rules.proofs.OutputsKept.{file_keeps, outputs_keep}
use Rattle.nqs_rules.specs.Picked.{PlainRow}
use Rattle.nqs_laws.specs.Loads.{Load, offered_load, sent_load}
use Rattle.nqs_laws.specs.Handovers.{is_closed_for}
use Rattle.nqs_laws.proofs.Found.{only, find-added, find-without, find-changed, find-filtered}
use Rattle.nqs_laws.proofs.After.{Request, without_at, changed_at, back_row, refused_after, committed_after, after, row_after, silent_found}
use Rattle.nqs_laws.proofs.Spares.{IsPlain, spares}
use Rattle.nqs_laws.proofs.Pair.{Offer, NoOffer, Given, NoPledge, Move, Stays, Offers, Withdraws, Commits, Finishes, Pledges, Accepts, Drops, moved, pair}
use Rattle.nqs_laws.proofs.Pair.{given}
use Rattle.nqs_laws.proofs.Views.{Pledging, phase_seen, offer_seen, offered, gave, pledge_seen, has_number_key, IsSource, Source, Target, host_exact, host_same}
use Rattle.nqs_laws.proofs.Views.{found_by_key, hand_key_is, hand_peer, hand_number, routing_of, Seen, seen, seen_given, peer_kept, peer_other, peer_here}

-- the change touches neither offers nor promises
abbrev pub IsQuiet : Change (List ℕ) → Type 0
IsQuiet (Deleted id) = ⊥
IsQuiet (HandOpened peer number id queue since) = ⊥
IsQuiet (HandCommitted peer number) = ⊥
IsQuiet (HandRefused peer number refusal) = ⊥
IsQuiet (HandsSilent until ks) = ⊥
IsQuiet (HandDone peer number) = ⊥
IsQuiet (OldPromised peer number queue c script) = ⊥
IsQuiet (Promised peer number low queue c script) = ⊥
IsQuiet (Accepted peer number) = ⊥
IsQuiet (Dropped peer number) = ⊥
IsQuiet c = Unit {0}

abbrev pub Ties : Type 0
Ties = List Hand × List Pledging

abbrev pub ties : Plain → Ties
ties s = (s.hands, s.promises)

abbrev pub known : HostId → Plain → Seen
known g s = seen (find_peer g s)

-- a quiet change leaves offers, promises, and what handovers look at of peers

conf_ties : (e : ConfEdit) (s : Plain) → (ties (conf_applied e s) ≡ ties s) × ((g : HostId) → known g (conf_applied e s) ≡ known g s)
conf_ties (PurgeQueue q) s = (refl, λ g. refl)
conf_ties e s = (refl, λ g. refl)

limits_ties : (e : LimitsEdit) (s : Plain) → (ties (limits_applied e s) ≡ ties s) × ((g : HostId) → known g (limits_applied e s) ≡ known g s)
limits_ties (SetGlobalLimit n) s = (refl, λ g. refl)
limits_ties e s = (refl, λ g. refl)

access_ties : (e : AccessEdit) (s : Plain) → (ties (access_applied e s) ≡ ties s) × ((g : HostId) → known g (access_applied e s) ≡ known g s)
access_ties (AddManager user) s = (refl, λ g. refl)
access_ties e s = (refl, λ g. refl)

devices_ties : (e : DevicesEdit) (s : Plain) → (ties (devices_applied e s) ≡ ties s) × ((g : HostId) → known g (devices_applied e s) ≡ known g s)
devices_ties (DeleteDevice d) s = (refl, λ g. refl)
devices_ties e s = (refl, λ g. refl)

meant_ties : (o : Option Request) (f : PlainRow → PlainRow) (s : Plain) → (ties (change_meant o f s) ≡ ties s)
    × ((g : HostId) → known g (change_meant o f s) ≡ known g s)
meant_ties None f s = (refl, λ g. refl)
meant_ties (Some id) f s = (refl, λ g. refl)

edit_ties : (e : Edit) (s : Plain) → (ties (edit_applied e s) ≡ ties s) × ((g : HostId) → known g (edit_applied e s) ≡ known g s)
edit_ties (Conf e) s = conf_ties e s
edit_ties (LimitsOf e) s = limits_ties e s
edit_ties (AccessOf e) s = access_ties e s
edit_ties (DevicesOf e) s = devices_ties e s
edit_ties (RowsOf (AbortQueue q)) s = (refl, λ g. refl)
edit_ties (RowsOf (HoldRequest id)) s = meant_ties (meant_request id s) held_row s
edit_ties (RowsOf (ReleaseRequest id)) s = meant_ties (meant_request id s) released_row s
edit_ties (RowsOf (MoveRequest id q)) s = meant_ties (meant_request id s) (moved_row q (s.arrivals + 1)) (next_arrival s)
edit_ties (RowsOf (ModifyRequest id n)) s = meant_ties (meant_request id s) (with_priority n) s

stage_known : (host : HostId) (part : OutPart (List ℕ)) (s : Plain) (o : Option Peer) (g : HostId) → known g (add_stage_to host part o s) ≡ known g s
stage_known host part s None g = refl
stage_known host part s (Some p) g = by (nat_lt p.stage_next last_u64)
  where
    by : (b : Bool) → known g (if b then record (change_peer host stage_counted s)
        { stages = s.stages ++ record { peer = host; number = p.stage_next; path = part.path; bytes = part.bytes } ∷ [] } else s) ≡ known g s
    by true = peer_kept seen host.0 g.0 stage_counted s.peers (λ q. refl)
    by false = refl

file_known : (part : OutPart (List ℕ)) (s : Plain) (g : HostId) → known g (add_file part s) ≡ known g s
file_known part s g = by (nat_lt s.file_next last_u64)
  where
    by : (b : Bool) → known g (if b then record s {
      files = s.files ++ record { number = s.file_next; path = part.path; bytes = part.bytes } ∷ [];
      file_next =
          s.file_next + 1;
    } else s) ≡ known g s
    by true = refl
    by false = refl

output_known : (id : Request) (part : OutPart (List ℕ)) (s : Plain) (g : HostId) → known g (add_output id part s) ≡ known g s
output_known id part s g = by (same_host s.me id.host)
  where
    by : (b : Bool) → known g (if b then add_file part s else add_stage_to id.host part (find_peer id.host s) s) ≡ known g s
    by true = file_known part s g
    by false = stage_known id.host part s (find_peer id.host s) g

outputs_known : (id : Request) (parts : List (OutPart (List ℕ))) (s : Plain) (g : HostId) → known g (add_outputs id parts s) ≡ known g s
outputs_known id [] s g = refl
outputs_known id (part ∷ parts) s g = outputs_known id parts (add_output id part s) g ∙ output_known id part s g

pub quiet_ties : (c : Change (List ℕ)) (s : Plain) → fits c s ≡ true → IsQuiet c
    → (ties (applied c s) ≡ ties s) × ((g : HostId) → known g (applied c s) ≡ known g s)
quiet_ties (Site me site) s fit quiet = absurd (true≢false (sym fit))
quiet_ties (Deleted id) s fit quiet = absurd quiet
quiet_ties (HandOpened peer number id queue since) s fit quiet = absurd quiet
quiet_ties (HandCommitted peer number) s fit quiet = absurd quiet
quiet_ties (HandRefused peer number refusal) s fit quiet = absurd quiet
quiet_ties (HandsSilent until ks) s fit quiet = absurd quiet
quiet_ties (HandDone peer number) s fit quiet = absurd quiet
quiet_ties (OldPromised peer number queue c script) s fit quiet = absurd quiet
quiet_ties (Promised peer number low queue c script) s fit quiet = absurd quiet
quiet_ties (Accepted peer number) s fit quiet = absurd quiet
quiet_ties (Dropped peer number) s fit quiet = absurd quiet
quiet_ties (Edited e) s fit quiet = edit_ties e s
quiet_ties (Ended id parts) s fit quiet = (
  outputs_keep ties (λ u fs n. refl) (λ u ts ps. refl) id parts (drop_row id s),
  outputs_known id parts
      (drop_row id s),
)
quiet_ties (StageGot peer number path bytes) s fit quiet =
    let t : Plain = change_peer peer (λ p. record p { stage_got = number }) s in
    let part : OutPart (List ℕ) = record { path = path; bytes = bytes } in (
      file_keeps ties (λ u fs n. refl) (λ u ts ps. refl) part t,
      λ g. file_known part t g ∙ peer_kept seen peer.0 g.0 (λ p. record p { stage_got = number }) s.peers (λ q. refl),
    )
quiet_ties (StageGone peer number) s fit quiet = (refl, λ g. refl)
quiet_ties c s fit quiet = (refl, λ g. refl)

-- which move each change makes under a number, to a peer and from one

abbrev pub offers_by : List ℕ → Option PlainRow → Move
offers_by queue None = Stays
offers_by queue (Some r) = Offers (offered_load queue r)

abbrev pub deleted_move : Request → Option Hand → Move
deleted_move id None = Stays
deleted_move id (Some y) = if is_offered_for id y then Withdraws else Stays

abbrev pub to_move : Change (List ℕ) → Plain → HostId → ℕ → Move
to_move (Deleted id) s b n = deleted_move id (find_hand b n s)
to_move (HandOpened peer number id queue since) s b n = if has_number_key b n (peer_number peer number) then offers_by queue (find_row id s) else Stays
to_move (HandCommitted peer number) s b n = if has_number_key b n (peer_number peer number) then Commits else Stays
to_move (HandRefused peer number refusal) s b n = if has_number_key b n (peer_number peer number) then Withdraws else Stays
to_move (HandDone peer number) s b n = if has_number_key b n (peer_number peer number) then Finishes else Stays
to_move c s b n = Stays

-- a new promise ends those of its peer below its low
abbrev pub low_move : HostId → ℕ → HostId → ℕ → Move
low_move peer low a n = if same_host a peer && nat_lt n low then Drops else Stays

abbrev pub promised_move : HostId → ℕ → ℕ → Load → HostId → ℕ → Move
promised_move peer number low load a n = if has_number_key a n (peer_number peer number) then Pledges load else low_move peer low a n

abbrev pub from_move : Change (List ℕ) → HostId → ℕ → Move
from_move (OldPromised peer number queue c script) a n = promised_move peer number number (sent_load queue c script) a n
from_move (Promised peer number low queue c script) a n = promised_move peer number low (sent_load queue c script) a n
from_move (Accepted peer number) a n = if has_number_key a n (peer_number peer number) then Accepts else Stays
from_move (Dropped peer number) a n = if has_number_key a n (peer_number peer number) then Drops else Stays
from_move c a n = Stays

pub stays_source : (s s' : Plain) (b : HostId) (n : ℕ) → offered s' b n ≡ offered s b n → gave s' b n ≡ gave s b n → Source s s' b n Stays
stays_source s s' b n o g = record { offer = o; given = g; is = tt }

pub stays_target : (t t' : Plain) (a : HostId) (n : ℕ) → t'.promises ≡ t.promises → is_closed_for a n t' ≡ is_closed_for a n t → Target t t' a n Stays
stays_target t t' a n p c = record {
  pledge = ap (λ l. pledge_seen (find (is_promise (peer_number a n)) l)) p;
  closed = c;
  is = tt;
  stays = λ e. ap (λ l. find (is_promise (peer_number a n)) l) p;
}

-- a key is that of a host and a number
pub key_here : (b : HostId) (n : ℕ) (k : PeerNumber) → has_number_key b n k ≡ true → peer_number b n ≡ k
key_here b n k e = peer_number_exact (peer_number b n) k e

pub same_key : (b : HostId) (n : ℕ) → has_number_key b n (peer_number b n) ≡ true
same_key b n = same_peer_number (peer_number b n)

-- two offers under different numbers are of different requests
module _ (s : Plain) (h : IsInOrder s) where
  hand_keys : are_distinct peer_number_eq (map hand_key s.hands) ≡ true
  hand_keys = (keys_are s h.keys).hands

  keyed : (u : Hand → Bool) (y : Hand) (b : HostId) (n : ℕ) → find u s.hands ≡ Some y
      → find (is_hand (peer_number b n)) (without_first u s.hands) ≡ (if has_number_key b n (hand_key y) then None else find_hand b n s)
  keyed u y b n found = find-without peer_number_eq hand_key peer_number_exact same_peer_number u y (peer_number b n) s.hands found hand_keys

  same_offer : (u v : Hand → Bool) (y z : Hand) → find u s.hands ≡ Some y → find v s.hands ≡ Some z → is_offered_hand y ≡ true → is_offered_hand z ≡ true
      → id_eq z.id y.id ≡ true → y ≡ z
  same_offer u v y z found there a b same =
      let L = filter is_offered_hand s.hands in
      let p = found_by_key id_eq (λ (w : Hand). w.id) id_exact same_id u L y (find_in_filter u is_offered_hand s.hands y found a) h.offers in
      let q = found_by_key id_eq (λ (w : Hand). w.id) id_exact same_id v L z (find_in_filter v is_offered_hand s.hands z there b) h.offers in
      same_Some y z (sym p ∙ (ap (λ i. find (λ (w : Hand). id_eq i w.id) L) (sym (id_exact z.id y.id same)) ∙ q))

  -- the offer under another number is of another request
  other_request : (k : PeerNumber) (y : Hand) → find (is_hand k) s.hands ≡ Some y → is_offered y.phase ≡ true → (b : HostId) (n : ℕ)
      → has_number_key b n k ≡ false
      → (z : Hand) → find_hand b n s ≡ Some z → is_offered z.phase ≡ true → id_eq z.id y.id ≡ false
  other_request k y found isopen b n other z there opens = false_from_ne_true (id_eq z.id y.id) (λ same.
      let is : y ≡ z = same_offer (is_hand k) (is_hand (peer_number b n)) y z found there isopen opens same in
      let far : peer_number b n ≡ k = hand_key_is s (peer_number b n) z there ∙ (ap hand_key (sym is) ∙ sym (hand_key_is s k y found)) in
      true≢false (sym (ap (has_number_key b n) (sym far) ∙ same_key b n) ∙ other))

module _ (s : Plain) (h : IsInOrder s) (calm : IsConsistent s) where
  -- an offer whose row is spared stands
  stands_in : (s' : Plain) (b : HostId) (n : ℕ) → find_hand b n s' ≡ find_hand b n s
      → ((y : Hand) (r : PlainRow) → find_hand b n s ≡ Some y → is_offered y.phase ≡ true → find_row y.id s ≡ Some r → is_routing r.state ≡ true
      → find_row y.id s' ≡ Some r) → offered s' b n ≡ offered s b n
  stands_in s' b n hands stay = ap (λ o. offer_seen o s') hands ∙ of (find_hand b n s) refl
    where
      by : (y : Hand) → find_hand b n s ≡ Some y → (p : Phase) → y.phase ≡ p → phase_seen p y (find_row y.id s') ≡ phase_seen p y (find_row y.id s)
      by y e Offered is = let k = routing_of s h (is_hand (peer_number b n)) y e (ap is_offered is) in
          ap (phase_seen Offered y) (stay y k.0 e (ap is_offered is) k.1 k.2 ∙ sym k.1)
      by y e Committed is = refl

      of : (o : Option Hand) → find_hand b n s ≡ o → offer_seen o s' ≡ offer_seen o s
      of None e = refl
      of (Some y) e = by y e y.phase refl

  row_spared : (c : Change (List ℕ)) → fits c s ≡ true → IsPlain c → (x : Request) (r : PlainRow) → find_row x s ≡ Some r → is_routing r.state ≡ true
      → find_row x (applied c s) ≡ Some r
  row_spared c fit plain x r found routes = row_after x c s h fit ∙ (ap (after c s x) found ∙ spares s h calm x r found routes c fit plain)

  quiet_plain : (c : Change (List ℕ)) → IsQuiet c → IsPlain c
  quiet_plain (Deleted id) quiet = absurd quiet
  quiet_plain (HandCommitted peer number) quiet = absurd quiet
  quiet_plain (HandRefused peer number refusal) quiet = absurd quiet
  quiet_plain (HandsSilent until ks) quiet = absurd quiet
  quiet_plain c quiet = tt

  quiet_source : (c : Change (List ℕ)) → fits c s ≡ true → IsQuiet c → (b : HostId) (n : ℕ) → Source s (applied c s) b n Stays
  quiet_source c fit quiet b n =
      let k = quiet_ties c s fit quiet in
      stays_source s (applied c s) b n (stands_in (applied c s) b n (ap (λ (l : Ties). find (is_hand (peer_number b n)) l.0) k.0)
      (λ y r e is found routes. row_spared c fit (quiet_plain c quiet) y.id r found routes))
      (seen_given n (find_peer b (applied c s)) (find_peer b s) (k.1 b))

  -- a hand that goes, with what that makes of rows
  module _ (k : PeerNumber) (y : Hand) (found : find (is_hand k) s.hands ≡ Some y) (s' : Plain) (hands : s'.hands ≡ without_first (is_hand k) s.hands)
      (given : (b : HostId) (n : ℕ) → gave s' b n ≡ gave s b n) where
    gone_to : (b : HostId) (n : ℕ) → find_hand b n s' ≡ (if has_number_key b n k then None else find_hand b n s)
    gone_to b n = ap (find (is_hand (peer_number b n))) hands ∙ (keyed s h (is_hand k) y b n found
        ∙ ap (λ i. if has_number_key b n i then None else find_hand b n s) (sym (hand_key_is s k y found)))

    -- under its number nothing is offered any more, and other offers stand
    gone_source : (m : Move) → IsSource m → ((o : Offer) (g : Bool) → (moved (pair o g NoPledge false) m).offer ≡ NoOffer)
        → ((o : Offer) (g : Bool) → (moved (pair o g NoPledge false) m).numbered ≡ g)
        → ((b : HostId) (n : ℕ) → has_number_key b n k ≡ false → (z : Hand) (r : PlainRow) → find_hand b n s ≡ Some z → is_offered z.phase ≡ true
        → find_row z.id s ≡ Some r → is_routing r.state ≡ true → find_row z.id s' ≡ Some r)
        → (b : HostId) (n : ℕ) → Source s s' b n (if has_number_key b n k then m else Stays)
    gone_source m is none same stay b n = by (has_number_key b n k) refl
      where
        by : (c : Bool) → has_number_key b n k ≡ c → Source s s' b n (if c then m else Stays)
        by true e = record {
          offer = ap (λ o. offer_seen o s') (gone_to b n ∙ ap (λ c. if c then None else find_hand b n s) e) ∙ sym (none (offered s b n) (gave s b n));
          given = given b n ∙ sym (same (offered s b n) (gave s b n));
          is = is;
        }
        by false e = stays_source s s' b n (stands_in s' b n (gone_to b n ∙ ap (λ c. if c then None else find_hand b n s) e) (stay b n e)) (given b n)

  -- an offer that is taken back
  module _ (k : PeerNumber) (y : Hand) (found : find (is_hand k) s.hands ≡ Some y) (opens : is_offered y.phase ≡ true) where
    back_source : (f : PlainRow → PlainRow) (s' : Plain) → ((x : Request) → find_row x s' ≡ changed_at y.id f x (find_row x s))
        → s'.hands ≡ without_first (is_hand k) s.hands → ((b : HostId) (n : ℕ) → gave s' b n ≡ gave s b n)
        → (b : HostId) (n : ℕ) → Source s s' b n (if has_number_key b n k then Withdraws else Stays)
    back_source f s' rows hands given =
        gone_source k y found s' hands given Withdraws tt (λ o g. refl) (λ o g. refl)
        (λ b n far z r there is row routes. rows z.id ∙ (ap (changed_at y.id f z.id) row
        ∙ ap (λ c. if c then Some (f r) else Some r) (other_request s h k y found opens b n far z there is)))

  pub offer_at : (peer : HostId) (number : ℕ) (test : Hand → Bool) → hand_passes test peer number s ≡ true
      → (y : Hand) × (find_hand peer number s ≡ Some y) × (test y ≡ true)
  offer_at peer number test fit = of (find_hand peer number s) refl fit
    where
      of : (o : Option Hand) → find_hand peer number s ≡ o → passes test o ≡ true → (y : Hand) × (find_hand peer number s ≡ Some y) × (test y ≡ true)
      of None e k = absurd (true≢false (sym k))
      of (Some y) e k = (y, e, k)

  -- REFUSED
  refused_source : (peer : HostId) (number refusal : ℕ) → fits {F = List ℕ} (HandRefused peer number refusal) s ≡ true → (b : HostId) (n : ℕ)
      → Source s (applied (HandRefused peer number refusal) s) b n (if has_number_key b n (peer_number peer number) then Withdraws else Stays)
  refused_source peer number refusal fit b n =
      let k = offer_at peer number is_offered_hand fit in
      let s' : Plain = applied (HandRefused peer number refusal) s in
      let made : s' ≡ hand_refused (peer_number peer number) refusal (Some k.0) s = ap (λ o. hand_refused (peer_number peer number) refusal o s) k.1 in
      let row : (x : Request) → find_row x s' ≡ changed_at k.0.id (back_row k.0 refusal s) x (find_row x s) = λ x.
      row_after x (HandRefused peer number refusal) s h fit ∙ ap (λ o. refused_after o refusal s x (find_row x s)) k.1 in
      back_source (peer_number peer number) k.0 k.1 k.2 (back_row k.0 refusal s) s' row (ap (λ (u : Plain). u.hands) made)
      (λ g i. ap (λ u. gave u g i) made) b n

  -- a silent offer
  pub silent_source : (until : ℕ) (k : PeerNumber) (y : Hand) → find (is_hand k) s.hands ≡ Some y → is_offered y.phase ≡ true → (b : HostId) (n : ℕ)
      → Source s (hand_silent until k (Some y) s) b n (if has_number_key b n k then Withdraws else Stays)
  silent_source until k y found opens b n =
      back_source k y found opens requeued_row (hand_silent until k (Some y) s) (λ x. silent_found x until k (Some y) s (keys_are s h.keys).rows) refl
      (λ g i. peer_kept (was_given i) k.peer.0 g.0 (λ p. record p { wait = until }) s.peers (λ p. refl)) b n

  -- DONE
  done_source : (peer : HostId) (number : ℕ) → fits {F = List ℕ} (HandDone peer number) s ≡ true → (b : HostId) (n : ℕ)
      → Source s (applied (HandDone peer number) s) b n (if has_number_key b n (peer_number peer number) then Finishes else Stays)
  done_source peer number fit b n =
      let k = offer_at peer number is_committed_hand fit in
      gone_source (peer_number peer number) k.0 k.1 (drop_hand (peer_number peer number) s) refl (λ g i. refl) Finishes tt (λ o g. refl) (λ o g. refl)
      (λ b n far z r there is row routes. row) b n

  -- READY
  committed_source : (peer : HostId) (number : ℕ) → fits {F = List ℕ} (HandCommitted peer number) s ≡ true → (b : HostId) (n : ℕ)
      → Source s (applied (HandCommitted peer number) s) b n (if has_number_key b n (peer_number peer number) then Commits else Stays)
  committed_source peer number fit b n = by (has_number_key b n (peer_number peer number)) refl
    where
      there : (y : Hand) × (find_hand peer number s ≡ Some y) × (is_offered_hand y ≡ true)
      there = offer_at peer number is_offered_hand fit

      made : applied (HandCommitted peer number) s ≡ hand_committed (peer_number peer number) (Some there.0) s
      made = ap (λ o. hand_committed (peer_number peer number) o s) there.1

      hands : find_hand b n (applied (HandCommitted peer number) s)
          ≡ (if has_number_key b n (peer_number peer number) then Some (committed there.0) else find_hand b n s)
      hands =
          ap (λ (u : Plain). find_hand b n u) made
          ∙ (find-changed peer_number_eq hand_key peer_number_exact same_peer_number committed (λ z. refl)
          (is_hand (peer_number peer number)) there.0 (peer_number b n) s.hands there.1 (hand_keys s h)
          ∙ ap (λ i. if has_number_key b n i then Some (committed there.0) else find_hand b n s)
          (sym (hand_key_is s (peer_number peer number) there.0 there.1)))

      open_there : has_number_key b n (peer_number peer number) ≡ true → given (offered s b n) ≡ Given there.0.id there.0.queue
      open_there e =
          let at : find_hand b n s ≡ Some there.0 = ap (λ i. find (is_hand i) s.hands) (key_here b n (peer_number peer number) e) ∙ there.1 in
          ap (λ o. given (offer_seen o s)) at ∙ phase there.0.phase refl there.2
        where
          phase : (p : Phase) → there.0.phase ≡ p → is_offered p ≡ true → given (phase_seen p there.0 (find_row there.0.id s)) ≡ Given there.0.id there.0.queue
          phase Offered e o = let r = routing_of s h (is_hand (peer_number peer number)) there.0 there.1 (ap is_offered e) in
              ap (λ q. given (phase_seen Offered there.0 q)) r.1 ∙ ap (λ i. Given i there.0.queue) (sym (found_id there.0.id s.rows r.0 r.1))
          phase Committed e o = absurd (true≢false (sym o))

      by : (c : Bool) → has_number_key b n (peer_number peer number) ≡ c → Source s (applied (HandCommitted peer number) s) b n (if c then Commits else Stays)
      by true e = record {
        offer = ap (λ o. offer_seen o (applied (HandCommitted peer number) s))
            (hands ∙ ap (λ c. if c then Some (committed there.0) else find_hand b n s) e) ∙ sym (open_there e);
        given = ap (λ u. gave u b n) made;
        is = tt;
      }
      by false e = stays_source s (applied (HandCommitted peer number) s) b n
          (stands_in (applied (HandCommitted peer number) s) b n (hands ∙ ap (λ c. if c then Some (committed there.0) else find_hand b n s) e)
          (λ z r at is row routes.
          row_after z.id (HandCommitted peer number) s h fit
          ∙ (ap (λ o. committed_after o z.id (find_row z.id s)) there.1
          ∙ (ap (without_at there.0.id z.id) row ∙ ap (λ c. if c then None else Some r)
          (other_request s h (peer_number peer number) there.0 there.1 there.2 b n e z at is)))))
          (ap (λ u. gave u b n) made)

  -- a deletion
  deleted_source : (id : Request) → fits {F = List ℕ} (Deleted id) s ≡ true → (b : HostId) (n : ℕ)
      → Source s (applied (Deleted id) s) b n (deleted_move id (find_hand b n s))
  deleted_source id fit b n = of (find_hand b n s) refl
    where
      kept : find_hand b n (applied (Deleted id) s) ≡ only (λ y. not (is_offered_for id y)) (find_hand b n s)
      kept = find-filtered peer_number_eq hand_key peer_number_exact same_peer_number (λ y. not (is_offered_for id y)) (peer_number b n) s.hands (hand_keys s h)

      by : (y : Hand) → find_hand b n s ≡ Some y → (c : Bool) → is_offered_for id y ≡ c
          → Source s (applied (Deleted id) s) b n (if c then Withdraws else Stays)
      by y e true is = record {
        offer = ap (λ o. offer_seen o (applied (Deleted id) s))
            (kept ∙ (ap (only (λ y. not (is_offered_for id y))) e ∙ ap (λ c. if not c then Some y else None) is));
        given = refl;
        is = tt;
      }
      by y e false is = stays_source s (applied (Deleted id) s) b n
          (stands_in (applied (Deleted id) s) b n
          (kept ∙ (ap (only (λ y. not (is_offered_for id y))) e ∙ (ap (λ c. if not c then Some y else None) is ∙ sym e)))
          (λ z r at opens row routes.
          let same : y ≡ z = same_Some y z (sym e ∙ at) in
          let other : id_eq id z.id ≡ false = both (is_offered z.phase) (id_eq id z.id) opens (ap (is_offered_for id) (sym same) ∙ is) in
          row_after z.id (Deleted id) s h fit ∙ (ap (without_at id z.id) row
          ∙ ap (λ c. if c then None else Some r) (turned id_eq id_exact same_id id z.id other))))
          refl
        where
          both : (a c : Bool) → a ≡ true → (a && c) ≡ false → c ≡ false
          both true c k e = e
          both false c k e = absurd (true≢false (sym k))

      of : (o : Option Hand) → find_hand b n s ≡ o → Source s (applied (Deleted id) s) b n (deleted_move id o)
      of None e = stays_source s (applied (Deleted id) s) b n (ap (λ o. offer_seen o (applied (Deleted id) s))
          (kept ∙ ap (only (λ y. not (is_offered_for id y))) e) ∙ sym (ap (λ o. offer_seen o s) e)) refl
      of (Some y) e = by y e (is_offered_for id y) refl

  -- an offer is opened
  module _ (peer : HostId) (number : ℕ) (id : Request) (queue : List ℕ) (since : ℕ)
      (fit : fits {F = List ℕ} (HandOpened peer number id queue since) s ≡ true) where
    opening : (row_passes (may_hop {E = List ℕ}) id s ≡ true) × ((passes (is_next number) (find_peer peer s) ≡ true)
        × ((has_room_for_hand peer s ≡ true) × ((passes (is_within_window peer s) (find_peer peer s) ≡ true) × Unit {0})))
    opening = each (row_passes (may_hop {E = List ℕ}) id s) (passes (is_next number) (find_peer peer s) ∷ has_room_for_hand peer s
        ∷ passes (is_within_window peer s) (find_peer peer s) ∷ []) fit

    pub opening_peer : (p : Peer) × (find_peer peer s ≡ Some p) × (p.next ≡ number)
    opening_peer = of (find_peer peer s) refl opening.1.0
      where
        of : (o : Option Peer) → find_peer peer s ≡ o → passes (is_next number) o ≡ true → (p : Peer) × (find_peer peer s ≡ Some p) × (p.next ≡ number)
        of None e k = absurd (true≢false (sym k))
        of (Some p) e k = (p, e, eqb-true p.next number (and_parts (p.next == number) (nat_lt p.next last_u64) k).0)

    pub opening_window : number < low peer number s.hands + 64
    opening_window =
        let p = opening_peer in
        let k : nat_lt p.0.next (low peer p.0.next s.hands + 64) ≡ true = sym (ap (passes (is_within_window peer s)) p.1) ∙ opening.1.1.1.0 in
        subst (λ n. n < low peer n s.hands + 64) p.2 (ltb-true p.0.next (low peer p.0.next s.hands + 64) k)

    -- its number was given to no hand
    pub opening_new : find_hand peer number s ≡ None
    opening_new = of (find_hand peer number s) refl
      where
        of : (o : Option Hand) → find_hand peer number s ≡ o → o ≡ None
        of None e = refl
        of (Some y) e =
            let right = hand_is s y (list_all-found (is_hand_right s) (is_hand (peer_number peer number)) s.hands y h.hands e) in
            let p = opening_peer in
            let known : passes (is_hand_given number) (Some p.0) ≡ true = sym (ap (passes (is_hand_given number)) p.1)
            ∙ (λ j. passes (is_hand_given (hand_number s (peer_number peer number) y e j)) (find_peer (hand_peer s (peer_number peer number) y e j) s))
            ∙ right.given in
            let below = ltb-true number p.0.next (and_parts (nat_le 1 number) (nat_lt number p.0.next) known).1 in
            let same = p.2 in
            absurd (omega (arith, below, same))

    opened_source : (b : HostId) (n : ℕ) → Source s (applied (HandOpened peer number id queue since) s) b n
        (if has_number_key b n (peer_number peer number) then offers_by queue (find_row id s) else Stays)
    opened_source b n = by (has_number_key b n (peer_number peer number)) refl
      where
        new : Hand
        new = record { peer = peer; number = number; id = id; queue = queue; since = since; phase = Offered }

        added : find (is_hand (peer_number b n))
            (s.hands ++ record { peer = peer; number = number; id = id; queue = queue; since = since; phase = Offered } ∷ [])
            ≡ option_or (find_hand b n s) (if has_number_key b n (peer_number peer number) then
            Some (record { peer = peer; number = number; id = id; queue = queue; since = since; phase = Offered }) else None)
        added = find-added (is_hand (peer_number b n)) s.hands (record { peer = peer; number = number; id = id; queue = queue; since = since; phase = Offered })

        by : (d : Bool) → has_number_key b n (peer_number peer number) ≡ d → Source s (applied (HandOpened peer number id queue since) s) b n
            (if d then offers_by queue (find_row id s) else Stays)
        by true e =
            let here : peer_number b n ≡ peer_number peer number = key_here b n (peer_number peer number) e in
            let row = found_row may_hop id s opening.0 in
            let none : find_hand b n s ≡ None = ap (λ i. find (is_hand i) s.hands) here ∙ opening_new in
            let new_row : find_row id (applied (HandOpened peer number id queue since) s) ≡ Some (routing_row row.0) =
            row_after id (HandOpened peer number id queue since) s h fit ∙ (ap (changed_at id routing_row id) row.1
            ∙ ap (λ z. if z then Some (routing_row row.0) else Some row.0) (same_id id)) in
            let at = peer_here peer.0 (λ p. record p { next = number + 1 }) s.peers opening_peer.0 opening_peer.1 in
            subst (Source s (applied (HandOpened peer number id queue since) s) b n) (sym (ap (offers_by queue) row.1)) (record {
              offer = ap (λ o. offer_seen o (applied (HandOpened peer number id queue since) s))
                  (added ∙ (ap (λ o. option_or o (if has_number_key b n (peer_number peer number) then Some new else None)) none
                  ∙ ap (λ z. if z then Some new else None) e)) ∙ ap (phase_seen Offered new) new_row;
              given = (λ j. gave (applied (HandOpened peer number id queue since) s) (here j).peer (here j).number)
                  ∙ (ap (was_given number) at ∙ lt-ltb number (number + 1) (omega arith));
              is = tt;
            })
        by false e = stays_source s (applied (HandOpened peer number id queue since) s) b n
            (stands_in (applied (HandOpened peer number id queue since) s) b n
            (added ∙ (ap (λ z. option_or (find_hand b n s) (if z then Some new else None)) e ∙ alone (find_hand b n s)))
            (λ z r at is row routes. row_spared (HandOpened peer number id queue since) fit tt z.id r row routes))
            (given (same_host b peer) refl)
          where
            alone : (o : Option Hand) → option_or o None ≡ o
            alone None = refl
            alone (Some y) = refl

            given : (c : Bool) → same_host b peer ≡ c → gave (applied (HandOpened peer number id queue since) s) b n ≡ gave s b n
            given true f =
                let here : b ≡ peer = host_exact b peer f in
                let p = opening_peer in
                let at = peer_here peer.0 (λ p. record p { next = number + 1 }) s.peers p.0 p.1 in
                let other : n ≡ number → ⊥ = λ k. true≢false (sym (and_from (b.0 == peer.0) (n == number) f (eq-eqb n number k)) ∙ e) in
                ap (λ (i : HostId). gave (applied (HandOpened peer number id queue since) s) i n) here
                ∙ (ap (was_given n) at ∙ (counted p.0.next p.2 other ∙ (ap (was_given n) (sym p.1) ∙ ap (λ (i : HostId). gave s i n) (sym here))))
              where
                counted : (next : ℕ) → next ≡ number → (n ≡ number → ⊥) → nat_lt n (number + 1) ≡ nat_lt n next
                counted next same other = of (nat_lt n next) refl
                  where
                    of : (c : Bool) → nat_lt n next ≡ c → nat_lt n (number + 1) ≡ c
                    of true f = let below = ltb-true n next f in lt-ltb n (number + 1) (omega (arith, below, same))
                    of false f = let above = ltb-false n next f in false_from_ne_true (nat_lt n (number + 1)) (λ k.
                        let below = ltb-true n (number + 1) k in other (omega (arith, above, below, same)))
            given false f = ap (was_given n) (peer_other peer.0 b.0 (λ p. record p { next = number + 1 }) s.peers
                (λ same. true≢false (sym (ap (λ i. i == peer.0) (sym same) ∙ host_same peer) ∙ f)))

  -- what each change makes of the source's part
  pub sources : (c : Change (List ℕ)) → fits c s ≡ true → ((until : ℕ) (ks : List PeerNumber) → c ≡ HandsSilent until ks → ⊥) → (b : HostId) (n : ℕ)
      → Source s (applied c s) b n (to_move c s b n)
  sources (Site me site) fit one b n = absurd (true≢false (sym fit))
  sources (Deleted id) fit one b n = deleted_source id fit b n
  sources (HandOpened peer number id queue since) fit one b n = opened_source peer number id queue since fit b n
  sources (HandCommitted peer number) fit one b n = committed_source peer number fit b n
  sources (HandRefused peer number refusal) fit one b n = refused_source peer number refusal fit b n
  sources (HandsSilent until ks) fit one b n = absurd (one until ks refl)
  sources (HandDone peer number) fit one b n = done_source peer number fit b n
  sources (OldPromised peer number queue c script) fit one b n =
      stays_source s (applied (OldPromised peer number queue c script) s) b n (stands_in (applied (OldPromised peer number queue c script) s) b n refl
      (λ y r at is row routes. row)) (peer_kept (was_given n) peer.0 b.0 (raise_floor (number - 1)) s.peers (λ p. refl))
  sources (Promised peer number low queue c script) fit one b n =
      stays_source s (applied (Promised peer number low queue c script) s) b n (stands_in (applied (Promised peer number low queue c script) s) b n refl
      (λ y r at is row routes. row)) (peer_kept (was_given n) peer.0 b.0 (raise_floor (low - 1)) s.peers (λ p. refl))
  sources (Accepted peer number) fit one b n =
      stays_source s (applied (Accepted peer number) s) b n (stands_in (applied (Accepted peer number) s) b n (hands (find_promise peer number s))
      (λ y r at is row routes. row_spared (Accepted peer number) fit tt y.id r row routes)) (next (find_promise peer number s))
    where
      hands : (o : Option Pledging) → find_hand b n (accepted (peer_number peer number) o s) ≡ find_hand b n s
      hands None = refl
      hands (Some p) = by (has_row p.row.id s)
        where
          by : (z : Bool) → find_hand b n (if z then drop_promise (peer_number peer number) s else
              record (drop_promise (peer_number peer number) s) { rows = s.rows ++ requeued_row p.row ∷ [] }) ≡ find_hand b n s
          by true = refl
          by false = refl

      next : (o : Option Pledging) → gave (accepted (peer_number peer number) o s) b n ≡ gave s b n
      next None = refl
      next (Some p) = by (has_row p.row.id s)
        where
          by : (z : Bool) → gave (change_peer peer (close number) (if z then drop_promise (peer_number peer number) s else
              record (drop_promise (peer_number peer number) s) { rows = s.rows ++ requeued_row p.row ∷ [] })) b n ≡ gave s b n
          by true = peer_kept (was_given n) peer.0 b.0 (close number) s.peers (λ p. refl)
          by false = peer_kept (was_given n) peer.0 b.0 (close number) s.peers (λ p. refl)
  sources (Dropped peer number) fit one b n =
      stays_source s (applied (Dropped peer number) s) b n (stands_in (applied (Dropped peer number) s) b n refl (λ y r at is row routes. row))
      (peer_kept (was_given n) peer.0 b.0 (close number) s.peers (λ p. refl))
  sources (Submitted queue job script) fit one b n = quiet_source (Submitted queue job script) fit tt b n
  sources (Doomed id) fit one b n = quiet_source (Doomed id) fit tt b n
  sources (Started id device) fit one b n = quiet_source (Started id device) fit tt b n
  sources (Ended id parts) fit one b n = quiet_source (Ended id parts) fit tt b n
  sources (Unlaunched id) fit one b n = quiet_source (Unlaunched id) fit tt b n
  sources Boot fit one b n = quiet_source Boot fit tt b n
  sources (Edited e) fit one b n = quiet_source (Edited e) fit tt b n
  sources (MovedLocal id queue) fit one b n = quiet_source (MovedLocal id queue) fit tt b n
  sources (RefusedLocal id queue refusal) fit one b n = quiet_source (RefusedLocal id queue refusal) fit tt b n
  sources (HeldFar id) fit one b n = quiet_source (HeldFar id) fit tt b n
  sources (StageGot peer number path bytes) fit one b n = quiet_source (StageGot peer number path bytes) fit tt b n
  sources (StageGone peer number) fit one b n = quiet_source (StageGone peer number) fit tt b n
  sources (FileGone file) fit one b n = quiet_source (FileGone file) fit tt b n
