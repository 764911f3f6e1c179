-- What a start makes of its row.
use Rattle.std.proofs.Common.{◌≡◌, ℕ, Bool, true, false, not, ◌||◌, ◌==◌, nat_lt, nat_le, List, map, slice_get, length, Option, None, Some, Result, Ok, Err}
use Rattle.std.proofs.Common.{is_ok, ◌&&◌, [], ◌∷◌, option_map, true≢false, refl, sym, ap, subst, ◌∙◌, arith, if◌then◌else◌}
use Rattle.std.proofs.lemmas.Bool.{and_parts, and_from, eqb-true, not-false, not_from_false}
use Rattle.std.proofs.lemmas.Bool.Decides.{nat_tests}
use Rattle.std.proofs.lemmas.Cmp.{nat_eq_equiv, nat_list_eq_equiv}
use Rattle.std.proofs.lemmas.Option.{same_Some, none-some}
use Rattle.std.specs.List.{list_all}
use Rattle.std.specs.Option.{IfSome, option_and_then}
use Rattle.nqs_base.specs.Same.{name_eq, name_exact}
use Rattle.nqs_types.specs.Ids.{id_eq, id_exact}
use Rattle.nqs_state.specs.Keys.{is_row, is_device}
use Rattle.nqs_state.specs.State.{Plain}
use Rattle.nqs_types.specs.declared.ids.Dest.{Dest}
use Rattle.nqs_types.specs.declared.request.Peer.{Peer}
use Rattle.nqs_types.specs.declared.queue.Kind.{Kind}
use Rattle.nqs_types.specs.declared.queue.Kind.TheVariants.{Batch, Device, Pipe}
use Rattle.nqs_types.specs.declared.queue.QueueDef.{QueueDef}
use Rattle.nqs_types.specs.declared.queue.DeviceDef.{DeviceDef}
use Rattle.nqs_types.specs.declared.rule.Choice.{Choice}
use Rattle.nqs_types.specs.declared.rule.Choice.TheVariants.{Launch, Print, TooFar, Local, Hand}
use Rattle.nqs_types.specs.declared.refusal.Refusal.{Refusal}
use Rattle.nqs_types.specs.declared.refusal.Refusal.TheVariants.{NoQueue, NumbersUsed}
use Rattle.nqs_types.specs.declared.change.Change.{Change}
use Rattle.nqs_types.specs.declared.change.Change.TheVariants.{Started, HandOpened, MovedLocal, RefusedLocal, HeldFar}
use Rattle.nqs_rules.specs.Tests.{passes, is_ready, same_host, last_u64}
use Rattle.nqs_rules.specs.Causes.{Cause, cause, first_refusal, refusal_number}
use Rattle.nqs_rules.specs.Find.{has_queue, find_queue, has_device, find_device, find_row, find_peer}
use Rattle.nqs_rules.specs.Devices.{can_serve, is_busy, is_free_device, free_device}
use Rattle.nqs_rules.specs.Rows.{arrivals_used, causes_of, move_entry_causes}
use Rattle.nqs_rules.specs.Sane.{is_sane_change}
use Rattle.nqs_rules.specs.Fits.{fits, row_passes, may_hop, is_next, device_fits}
use Rattle.nqs_rules.specs.Routing.{has_number_left, has_room_for_hand, is_within_window, was_refused, is_over_wait, is_free_peer, is_reachable, may_try}
use Rattle.nqs_rules.specs.Routing.{destination, dests_of, dests_for}
use Rattle.nqs_rules.specs.Order.{is_local, print_on, move_to, choice_for, pick}
use Rattle.nqs_rules.specs.Handover.{opened_with, open_hand}
use Rattle.nqs_rules.specs.Stepped.{Stepped}
use Rattle.nqs_rules.specs.Start.{launching, printing, local_causes, moving_by, moving, holding, with_row, device_at, dest_at, started, start_by, start}
use Rattle.nqs_rules.specs.InOrder.{are_distinct}
use Rattle.nqs_rules.specs.Picked.{PlainRow, row_place, IsPicked}
use Rattle.nqs_rules.proofs.ListFacts.{not_true, found_again, list_all-found, IsAt, position_at}
use Rattle.nqs_rules.proofs.Chains.{Each, each, chained}
use Rattle.nqs_rules.proofs.KeyFacts.{any_found}
use Rattle.nqs_rules.proofs.ConfOrder.{none_holds, causes_behind}
use Rattle.nqs_rules.proofs.RowFacts.{same_id}
use Rattle.nqs_rules.proofs.PickLaws.{eligible_parts, picked_is}

-- what of the order of a state the starts rest on: ids and names are distinct, hops and
-- destinations few
pub record IsSteady (s : Plain) : Type 0 where
  pub ids : are_distinct id_eq (map (λ r. r.id) s.rows) ≡ true
  pub names : are_distinct name_eq (map (λ q. q.name) s.queues) ≡ true
  pub hops : list_all (λ r. nat_le r.hops 32) s.rows ≡ true
  pub dests : list_all (λ q. nat_le (length q.dests) 16) s.queues ≡ true

-- a destination on this host, of the row's queue, by which the row wasn't refused yet
pub record IsUntried (s : Plain) (r : PlainRow) (queue : List ℕ) : Type 0 where
  pub place : ℕ
  pub dest : Dest
  pub at : slice_get (dests_for r s) place ≡ Some dest
  pub new : was_refused dest r.refused ≡ false
  pub is : record { queue = queue; host = s.me } ≡ dest

-- the changes that start a row
abbrev pub StartsRow : Plain → PlainRow → Change (List ℕ) → Type 0
StartsRow s r (Started id device) = id ≡ r.id
StartsRow s r (HeldFar id) = id ≡ r.id
StartsRow s r (MovedLocal id queue) = (id ≡ r.id) × (nat_lt r.hops 32 ≡ true)
StartsRow s r (RefusedLocal id queue refusal) = (id ≡ r.id) × IsUntried s r queue
StartsRow s r (HandOpened peer number id queue since) = id ≡ r.id
StartsRow s r _ = ⊥

-- a start changes a ready row
pub record IsStart (s : Plain) (x : Stepped (List ℕ)) : Type 0 where
  pub row : PlainRow
  pub found : find_row row.id s ≡ Some row
  pub ready : is_ready row ≡ true
  pub change : Change (List ℕ)
  pub makes : x.change ≡ Some change
  pub starts : StartsRow s row change
  pub may : (fits change s ≡ true) × (is_sane_change change ≡ true)

-- what is known of the destination that a choice names
abbrev Way : QueueDef → ℕ → Plain → PlainRow → Choice → Type 0
Way d now s r (Local place dest) = ((r.hops == 32) ≡ false) × (destination d now s r ≡ Some dest) × (is_local dest d s ≡ true)
Way d now s r (Hand place dest) = ((r.hops == 32) ≡ false) × (destination d now s r ≡ Some dest) × (is_local dest d s ≡ false)
Way d now s r (Print place device) = free_device d r.job.forms s ≡ Some device
Way d now s r _ = Unit {0}

way_is : (k : Kind) (d : QueueDef) (now : ℕ) (s : Plain) (place : ℕ) (r : PlainRow) → IfSome (choice_for k d now s place r) (Way d now s r)
way_is Batch d now s place r = tt
way_is Device d now s place r = of (free_device d r.job.forms s) refl
  where
    of : (o : Option ℕ) → free_device d r.job.forms s ≡ o → IfSome (print_on place o) (Way d now s r)
    of None e = tt
    of (Some n) e = e
way_is Pipe d now s place r = by (r.hops == 32) refl (destination d now s r) refl
  where
    at : (n : ℕ) (b : Bool) → (r.hops == 32) ≡ false → destination d now s r ≡ Some n → is_local n d s ≡ b
        → IfSome (if b then Some (Local place n) else Some (Hand place n)) (Way d now s r)
    at n true hop e here = (hop, e, here)
    at n false hop e here = (hop, e, here)

    by : (b : Bool) → (r.hops == 32) ≡ b → (o : Option ℕ) → destination d now s r ≡ o
        → IfSome (if b then Some (TooFar place) else move_to place d s o) (Way d now s r)
    by true hop o e = tt
    by false hop None e = tt
    by false hop (Some n) e = at n (is_local n d s) hop e refl

below_32 : (n : ℕ) → nat_le n 32 ≡ true → (n == 32) ≡ false → nat_lt n 32 ≡ true
below_32 n few other = grind (arith, nat_tests)

-- the queue of a picked row is the one that its name finds
pub queue_found : (now : ℕ) (s : Plain) → IsSteady s → (c : Choice) (p : IsPicked now s c) → find_queue p.row.queue s ≡ Some p.queue
queue_found now s steady c p =
    subst (λ n. find_queue n s ≡ Some p.queue) (name_exact p.queue.name p.row.queue (eligible_parts p.queue now s p.row p.first.eligible).0)
    (found_again name_eq (λ q. q.name) name_exact nat_list_eq_equiv.refl s.queues p.queue_place p.queue steady.names p.next.at)

module _ (now : ℕ) (s : Plain) (steady : IsSteady s) (x : Stepped (List ℕ)) (c : Choice) (p : IsPicked now s c) where
  abbrev d : QueueDef
  d = p.queue

  abbrev r : PlainRow
  r = p.row

  -- the picked row is the one that its number finds

  row_found : find_row r.id s ≡ Some r
  row_found = found_again id_eq (λ q. q.id) id_exact same_id s.rows (row_place c) r steady.ids p.first.at

  begins : (change : Change (List ℕ)) (y : Stepped (List ℕ)) → y.change ≡ Some change → y ≡ x → StartsRow s r change
      → (fits change s ≡ true) × (is_sane_change change ≡ true) → IsStart s x
  begins change y makes is starts may = record {
    row = r;
    found = row_found;
    ready = (eligible_parts d now s r p.first.eligible).1;
    change = change;
    makes =
        ap (λ z. z.change) (sym is) ∙ makes;
    starts = starts;
    may = may;
  }

  is_there : row_passes is_ready r.id s ≡ true
  is_there = ap (passes is_ready) row_found ∙ (eligible_parts d now s r p.first.eligible).1

  -- what is done with the picked row
  done : (f : PlainRow → Option (Stepped (List ℕ))) → with_row (row_place c) s f ≡ Some x → f r ≡ Some x
  done f e = ap (option_and_then f) (sym p.first.at) ∙ e

  launched : with_row (row_place c) s (λ q. Some (launching q s)) ≡ Some x → IsStart s x
  launched e = begins (Started r.id None) (launching r s) refl (same_Some (launching r s) x (done _ e)) refl
      (and_from (row_passes is_ready r.id s) true is_there refl, refl)

  held : with_row (row_place c) s (λ q. Some (holding q)) ≡ Some x → IsStart s x
  held e = begins (HeldFar r.id) (holding r) refl (same_Some (holding r) x (done _ e)) refl (is_there, refl)

  -- a device that is free
  free : (device : ℕ) (n : List ℕ) → free_device d r.job.forms s ≡ Some device → device_at device r s ≡ Some n → device_fits (Some n) s ≡ true
  free device n chosen at =
      let tried : IsAt (is_free_device r.job.forms s) d.devices device = position_at (is_free_device r.job.forms s) d.devices device chosen in
      let queued = ap (option_and_then (λ (q : QueueDef). slice_get q.devices device)) (sym (queue_found now s steady c p)) in
      let is : tried.value ≡ n = same_Some tried.value n (sym tried.at ∙ queued ∙ at) in
      let parts = and_parts (passes (can_serve r.job.forms) (find_device tried.value s)) (not (is_busy tried.value s)) tried.passes in
      ap (λ m. has_device m s && not (is_busy m s)) (sym is) ∙ and_from (has_device tried.value s) (not (is_busy tried.value s))
      (known tried.value (find_device tried.value s) refl parts.0) parts.1
    where
      known : (m : List ℕ) (o : Option DeviceDef) → find_device m s ≡ o → passes (can_serve r.job.forms) o ≡ true → has_device m s ≡ true
      known m None e serves = absurd (true≢false (sym serves))
      known m (Some y) e serves = any_found (is_device m) s.devices y e

  printed : (device : ℕ) → free_device d r.job.forms s ≡ Some device → with_row (row_place c) s (λ q. option_map (λ n. printing n q s) (device_at device q s))
      ≡ Some x → IsStart s x
  printed device chosen e = of (device_at device r s) refl (done _ e)
    where
      of : (o : Option (List ℕ)) → device_at device r s ≡ o → option_map (λ n. printing n r s) o ≡ Some x → IsStart s x
      of None at e = absurd (none-some x e)
      of (Some n) at e = begins (Started r.id (Some n)) (printing n r s) refl (same_Some (printing n r s) x e) refl
          (and_from (row_passes is_ready r.id s) (device_fits (Some n) s) is_there (free device n chosen at), refl)

  way : Way d now s r c
  way = subst (λ o. IfSome o (Way d now s r)) p.way (way_is d.kind d now s (row_place c) r)

  -- the destination that is tried
  module _ (dest : ℕ) (tried : IsAt (may_try now s r) d.dests dest) where
    may : (not (was_refused tried.value r.refused) ≡ true) × ((same_host s.me tried.value.host || is_reachable now tried.value.host s) ≡ true)
    may = and_parts (not (was_refused tried.value r.refused)) (same_host s.me tried.value.host || is_reachable now tried.value.host s) tried.passes

    local_is : is_local dest d s ≡ same_host s.me tried.value.host
    local_is = ap (passes (λ y. same_host s.me y.host)) tried.at

    gone : (f : PlainRow → Dest → Stepped (List ℕ)) → with_row (row_place c) s (λ q. option_map (f q) (dest_at dest q s)) ≡ Some x → f r tried.value ≡ x
    gone f e =
        let there : dest_at dest r s ≡ Some tried.value = ap (option_and_then (λ q. slice_get q.dests dest)) (queue_found now s steady c p) ∙ tried.at in
        same_Some (f r tried.value) x (ap (option_map (f r)) (sym there) ∙ done (λ q. option_map (f q) (dest_at dest q s)) e)

    untried : is_local dest d s ≡ true → IsUntried s r tried.value.queue
    untried here =
        let host_is : s.me.0 ≡ tried.value.host.0 = eqb-true s.me.0 tried.value.host.0 (sym local_is ∙ here) in
        record {
          place = dest;
          dest = tried.value;
          at = ap (λ o. slice_get (dests_of o) dest) (queue_found now s steady c p) ∙ tried.at;
          new = not_true (was_refused tried.value r.refused) may.0;
          is = λ j. record { queue = tried.value.queue; host = record { 0 = host_is j } };
        }

    few_hops : (r.hops == 32) ≡ false → nat_lt r.hops 32 ≡ true
    few_hops hop = below_32 r.hops (list_all-found (λ q. nat_le q.hops 32) (is_row r.id) s.rows r steady.hops row_found) hop

    may_go : (r.hops == 32) ≡ false → row_passes may_hop r.id s ≡ true
    may_go hop = ap (passes may_hop) row_found ∙ and_from (is_ready r) (nat_lt r.hops 32) (eligible_parts d now s r p.first.eligible).1 (few_hops hop)

    moved : (r.hops == 32) ≡ false → is_local dest d s ≡ true → moving tried.value s r ≡ x → IsStart s x
    moved hop here e = by (first_refusal (local_causes tried.value.queue s r)) refl e
      where
        lets : is_ok (first_refusal (local_causes tried.value.queue s r)) ≡ true → (has_queue tried.value.queue s ≡ true) × (arrivals_used s ≡ false)
        lets allows =
            let first : List Cause = cause (not (has_queue tried.value.queue s)) (NoQueue tried.value.queue)
            ∷ causes_of (move_entry_causes r) (find_queue tried.value.queue s) in
            let last : List Cause = cause (arrivals_used s) NumbersUsed ∷ [] in
            let parts = causes_behind first last allows in
            (not-false (has_queue tried.value.queue s) (none_holds first parts.0).0, (none_holds last parts.1).0)

        by : (o : Result (Unit {0}) Refusal) → first_refusal (local_causes tried.value.queue s r) ≡ o → moving_by o tried.value.queue r ≡ x → IsStart s x
        by (Ok u) f e =
            let let_in = lets (ap is_ok f) in
            begins (MovedLocal r.id tried.value.queue) (moving_by (Ok u) tried.value.queue r) refl e (refl, few_hops hop) (
              chained (row_passes may_hop r.id s) (has_queue tried.value.queue s ∷ not (arrivals_used s) ∷ [])
                  (may_go hop, (let_in.0, (not_from_false (arrivals_used s) let_in.1, tt))),
              refl,
            )
        by (Err refusal) f e = begins (RefusedLocal r.id tried.value.queue (refusal_number refusal)) (moving_by (Err refusal) tried.value.queue r) refl e
            (refl, untried here) (is_there, refl)

    handed : (r.hops == 32) ≡ false → is_local dest d s ≡ false → open_hand tried.value now s r ≡ x → IsStart s x
    handed hop here e = by (find_peer tried.value.host s) refl e
      where
        reached : is_reachable now tried.value.host s ≡ true
        reached = ap (λ b. b || is_reachable now tried.value.host s) (sym (sym local_is ∙ here)) ∙ may.1

        parts : (is_free_peer tried.value.host s ≡ true) × (passes (is_over_wait now) (find_peer tried.value.host s) ≡ true)
        parts = and_parts (is_free_peer tried.value.host s) (passes (is_over_wait now) (find_peer tried.value.host s)) reached

        open_to : Each (has_room_for_hand tried.value.host s ∷ passes has_number_left (find_peer tried.value.host s)
            ∷ passes (is_within_window tried.value.host s) (find_peer tried.value.host s) ∷ [])
        open_to = each (has_room_for_hand tried.value.host s) (passes has_number_left (find_peer tried.value.host s)
            ∷ passes (is_within_window tried.value.host s) (find_peer tried.value.host s) ∷ []) parts.0

        by : (o : Option Peer) → find_peer tried.value.host s ≡ o → opened_with o tried.value now s r ≡ x → IsStart s x
        by None known e = absurd (true≢false (sym parts.1 ∙ ap (passes (is_over_wait now)) known))
        by (Some peer) known e = begins (HandOpened tried.value.host peer.next r.id tried.value.queue now)
            (opened_with (Some peer) tried.value now s r) refl e refl (
              chained (row_passes may_hop r.id s) (passes (is_next peer.next) (find_peer tried.value.host s)
                  ∷ has_room_for_hand tried.value.host s ∷ passes (is_within_window tried.value.host s) (find_peer tried.value.host s) ∷ []) (
                    may_go hop,
                    (
                      ap (passes (is_next peer.next)) known ∙ and_from (peer.next == peer.next) (nat_lt peer.next last_u64) (nat_eq_equiv.refl peer.next)
                          (sym (ap (passes has_number_left) known) ∙ open_to.1.0),
                      (open_to.0, (open_to.1.1.0, tt)),
                    ),
                  ),
              refl,
            )

-- what starts is a start of the picked row
pub start_is : (now : ℕ) (s : Plain) (x : Stepped (List ℕ)) → IsSteady s → start now s ≡ Some x → IsStart s x
start_is now s x steady = of (pick now s) (picked_is now s)
  where
    by : (c : Choice) → IsPicked now s c → started c now s ≡ Some x → IsStart s x
    by (Launch row) p e = launched now s steady x (Launch row) p e
    by (Print row device) p e = printed now s steady x (Print row device) p device (way now s steady x (Print row device) p) e
    by (TooFar row) p e = held now s steady x (TooFar row) p e
    by (Local row dest) p e =
        let known = way now s steady x (Local row dest) p in
        let tried = position_at (may_try now s p.row) p.queue.dests dest known.1 in
        moved now s steady x (Local row dest) p dest tried known.0 known.2 (gone now s steady x (Local row dest) p dest tried (λ q y. moving y s q) e)
    by (Hand row dest) p e =
        let known = way now s steady x (Hand row dest) p in
        let tried = position_at (may_try now s p.row) p.queue.dests dest known.1 in
        handed now s steady x (Hand row dest) p dest tried known.0 known.2 (gone now s steady x (Hand row dest) p dest tried (λ q y. open_hand y now s q) e)

    of : (o : Option Choice) → IfSome o (IsPicked now s) → start_by o now s ≡ Some x → IsStart s x
    of None p e = absurd (none-some x e)
    of (Some c) p e = by c p e
