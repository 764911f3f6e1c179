-- What messages make of a state, one after the other: what is out of a peer's reach stays so,
-- settings and running requests stay.
use Rattle.std.proofs.Common.{◌≡◌, ℕ, Bool, true, false, not, ◌||◌, List, [], ◌∷◌, ◌++◌, map, filter, find, Some, true≢false, refl, sym, ap, subst, ◌∙◌, arith}
use Rattle.std.proofs.Common.{cond, if◌then◌else◌}
use Rattle.std.proofs.lemmas.Bool.{and_parts, or_parts, or_from, not-true, not-false, not_from_false, not_from_true}
use Rattle.std.proofs.lemmas.List.{append-nil, append_assoc}
use Rattle.std.specs.List.{list_any, list_all}
use Rattle.nqs_base.proofs.Plain.{any_kept}
use Rattle.nqs_state.specs.State.{State, Plain}
use Rattle.nqs_state.specs.Keys.{is_row}
use Rattle.nqs_types.specs.Ids.{id_eq, id_exact}
use Rattle.nqs_types.specs.declared.ids.HostId.{HostId}
use Rattle.nqs_types.specs.declared.ids.RequestId.{RequestId}
use Rattle.nqs_types.specs.declared.request.Row.{Row}
use Rattle.nqs_types.specs.declared.rule.Rank.TheVariants.{Manager, Operator, User}
use Rattle.nqs_types.specs.declared.event.Command.{Command}
use Rattle.nqs_state.specs.Least.{runs_now}
use Rattle.nqs_rules.specs.Tests.{is_running}
use Rattle.nqs_rules.specs.Access.{rank, may_command}
use Rattle.nqs_rules.specs.Applied.{is_offered_for}
use Rattle.nqs_rules.specs.Find.{has_row, find_row, has_name}
use Rattle.nqs_rules.specs.InOrder.{IsInOrder, are_distinct}
use Rattle.nqs_rules.proofs.KeyFacts.{none_from_all}
use Rattle.nqs_rules.proofs.ListFacts.{not_true}
use Rattle.nqs_rules.proofs.ListMaps.{list_any-map}
use Rattle.nqs_rules.proofs.PeersOrder.{same_host_exact}
use Rattle.nqs_rules.proofs.RowKinds.{running_unrouted}
use Rattle.nqs_rules.proofs.RowsOrder.{is_no_offer_of, no_offer}
use Rattle.nqs_rules.proofs.StateFacts.{keys_are}
use Rattle.nqs_rules.proofs.Sublists.{part_none, filter_part}
use Rattle.nqs_reach.specs.Deliveries.{Delivery, is_from, after_message, after_messages}
use Rattle.nqs_reach.specs.Reach.{is_in_reach, is_in_reach_or_new, is_promised_to, running_rows, KeepsSettings, IsWithin, IsWithinReachInTheEnd}
use Rattle.nqs_reach.proofs.Lists.{kept_filter, find_kept}
use Rattle.nqs_reach.proofs.Messages.{NoneOffered, Reached, reached}

module _ {E : Type 0} where
  -- settings

  same_settings : (s : State E) → KeepsSettings s s
  same_settings s = record {
    me = refl;
    site = refl;
    queues = refl;
    complexes = refl;
    devices = refl;
    managers = refl;
    operators = refl;
    default_queue = refl;
    global_limit = refl;
    patience = refl;
    retry_wait = refl;
    seq = refl;
  }

  settings_then : (s t u : State E) → KeepsSettings s t → KeepsSettings t u → KeepsSettings s u
  settings_then s t u a b = record {
    me = b.me ∙ a.me;
    site = b.site ∙ a.site;
    queues = b.queues ∙ a.queues;
    complexes = b.complexes ∙ a.complexes;
    devices = b.devices ∙ a.devices;
    managers = b.managers ∙ a.managers;
    operators = b.operators ∙ a.operators;
    default_queue = b.default_queue ∙ a.default_queue;
    global_limit = b.global_limit ∙ a.global_limit;
    patience = b.patience ∙ a.patience;
    retry_wait = b.retry_wait ∙ a.retry_wait;
    seq = b.seq ∙ a.seq;
  }

  -- one after the other, by one test

  nothing_done : (peer : HostId) (may_touch : RequestId → Bool) (s : State E) → IsWithin peer may_touch s s
  nothing_done peer may_touch s = record {
    settings = same_settings s;
    hands = refl;
    promises = refl;
    peers = λ known. refl;
    stages = refl;
    rows = refl;
    files = ([], sym (append-nil s.files));
    arrivals = omega arith;
    file_next = omega arith;
  }

  within_then : (peer : HostId) (may_touch : RequestId → Bool) (s t u : State E) → IsWithin peer may_touch s t → IsWithin peer may_touch t u
      → IsWithin peer may_touch s u
  within_then peer may_touch s t u a b = record {
    settings = settings_then s t u a.settings b.settings;
    hands = b.hands ∙ a.hands;
    promises = b.promises ∙ a.promises;
    peers = λ known. b.peers known ∙ a.peers known;
    stages = b.stages ∙ a.stages;
    rows = b.rows ∙ a.rows;
    files = (a.files.0 ++ b.files.0, b.files.1 ∙ ap (λ l. l ++ b.files.0) a.files.1 ∙ append_assoc s.files a.files.0 b.files.0);
    arrivals = (let p = a.arrivals in let q = b.arrivals in omega (arith, p, q));
    file_next = (let p = a.file_next in let q = b.file_next in omega (arith, p, q));
  }

  -- where more may be touched, it is within too
  wider : (peer : HostId) (fewer more : RequestId → Bool) → ((id : RequestId) → more id ≡ false → fewer id ≡ false) → (s t : State E)
      → IsWithin peer fewer s t → IsWithin peer more s t
  wider peer fewer more wide s t a = record {
    settings = a.settings;
    hands = a.hands;
    promises = a.promises;
    peers = a.peers;
    stages = a.stages;
    rows = sym (again t.rows) ∙ ap (filter (λ r. not (more r.id))) a.rows ∙ again s.rows;
    files = a.files;
    arrivals = a.arrivals;
    file_next = a.file_next;
  }
    where
      again : (rows : List (Row E)) → filter (λ r. not (more r.id)) (filter (λ r. not (fewer r.id)) rows) ≡ filter (λ r. not (more r.id)) rows
      again rows = kept_filter (λ r. not (more r.id)) (λ r. not (fewer r.id)) (λ r e. not_from_false (fewer r.id) (wide r.id (not-true (more r.id) e))) rows

  -- the row of a request that may not be touched stays
  module _ (peer : HostId) (may_touch : RequestId → Bool) (s t : State E) (within : IsWithin peer may_touch s t) (id : RequestId)
      (out : may_touch id ≡ false) where
    beside : (r : Row E) → is_row id r ≡ true → not (may_touch r.id) ≡ true
    beside r is = not_from_false (may_touch r.id) (ap may_touch (sym (id_exact id r.id is)) ∙ out)

    pub row_stays : find_row id t ≡ find_row id s
    row_stays = sym (find_kept (is_row id) (λ r. not (may_touch r.id)) beside t.rows) ∙ ap (find (is_row id)) within.rows
        ∙ find_kept (is_row id) (λ r. not (may_touch r.id)) beside s.rows

    pub has_stays : has_row id t ≡ has_row id s
    has_stays = sym (any_kept (is_row id) (λ r. not (may_touch r.id)) beside t.rows) ∙ ap (list_any (is_row id)) within.rows
        ∙ any_kept (is_row id) (λ r. not (may_touch r.id)) beside s.rows

  -- running requests of a host in order

  found_running : (id : RequestId) (rows : List (Row E)) → are_distinct id_eq (map (λ r. r.id) rows) ≡ true → list_any (is_row id) (filter runs_now rows) ≡ true
      → (r : Row E) × (find (is_row id) rows ≡ Some r) × (is_running r.state ≡ true)
  found_running id [] distinct h = absurd (true≢false (sym h))
  found_running id (x ∷ rows) distinct h =
      by (is_row id x) refl (runs_now x) refl (and_parts (not (list_any (id_eq x.id) (map (λ r. r.id) rows)))
      (are_distinct id_eq (map (λ r. r.id) rows)) distinct) h
      (found_running id rows)
    where
      by : (b : Bool) → is_row id x ≡ b → (c : Bool) → runs_now x ≡ c
          → (not (list_any (id_eq x.id) (map (λ r. r.id) rows)) ≡ true) × (are_distinct id_eq (map (λ r. r.id) rows) ≡ true)
          → list_any (is_row id) (cond c (x ∷ filter runs_now rows) (filter runs_now rows)) ≡ true
          → (are_distinct id_eq (map (λ r. r.id) rows) ≡ true → list_any (is_row id) (filter runs_now rows) ≡ true
          → (r : Row E) × (find (is_row id) rows ≡ Some r) × (is_running r.state ≡ true))
          → (r : Row E) × (cond b (Some x) (find (is_row id) rows) ≡ Some r) × (is_running r.state ≡ true)
      by true e true k d h rest = (x, refl, k)
      by true e false k d h rest =
          let none : list_any (is_row id) rows ≡ false = sym (list_any-map (λ r. r.id) (id_eq id) rows)
          ∙ ap (λ i. list_any (id_eq i) (map (λ r. r.id) rows)) (id_exact id x.id e) ∙ not-true _ d.0 in
          absurd (true≢false (sym h ∙ part_none (is_row id) (filter_part runs_now rows) none))
      by false e true k d h rest = rest d.1 (ap (λ b. b || list_any (is_row id) (filter runs_now rows)) (sym e) ∙ h)
      by false e false k d h rest = rest d.1 h

  pub none_offered : (s : State E) → IsInOrder s → NoneOffered s
  none_offered s order id h =
      let found = found_running id s.rows (keys_are s order.keys).rows h in
      none_from_all (is_no_offer_of id) (is_offered_for id) (λ x e. not_true (is_offered_for id x) e) s.hands
      (no_offer s id order found.0 found.1 (running_unrouted found.0 found.2))

-- by messages

pub reached_by : (a : Delivery) (s : Plain) → Reached a.1.from s (after_message a s)
reached_by a s = reached a.1.from s a.1.body

-- a request that comes was promised
pub promised_before : (a : Delivery) (s : Plain) (id : RequestId) → has_row id s ≡ false → has_row id (after_message a s) ≡ true
    → list_any (is_promised_to a.1.from id) s.promises ≡ true
promised_before a s id new has = by (list_any (is_promised_to a.1.from id) s.promises) refl
  where
    by : (b : Bool) → list_any (is_promised_to a.1.from id) s.promises ≡ b → b ≡ true
    by true e = refl
    by false e = absurd (true≢false (sym has ∙ (reached_by a s).came id e new))

pub kept_settings : (deliveries : List Delivery) (s : Plain) → KeepsSettings s (after_messages deliveries s)
kept_settings [] s = same_settings s
kept_settings (a ∷ rest) s =
    settings_then s (after_message a s) (after_messages rest (after_message a s)) (reached_by a s).within.settings (kept_settings rest (after_message a s))

pub same_rights : (user : List ℕ) (c : Command) (s t : Plain) → KeepsSettings s t → may_command (rank user t) c ≡ may_command (rank user s) c
same_rights user c s t kept = λ j. may_command (if has_name (kept.managers j) user then Manager else
    (if has_name (kept.operators j) user then Operator else User)) c

running_stay : (deliveries : List Delivery) (s : Plain) → NoneOffered s → running_rows (after_messages deliveries s) ≡ running_rows s
running_stay [] s none = refl
running_stay (a ∷ rest) s none =
    let r = reached_by a s in
    let same = r.running none in
    running_stay rest (after_message a s) (λ id h. r.offers id (none id (ap (list_any (is_row id)) (sym same) ∙ h))) ∙ same

pub jobs_stay : (deliveries : List Delivery) (s : Plain) → IsInOrder s → running_rows (after_messages deliveries s) ≡ running_rows s
jobs_stay deliveries s order = running_stay deliveries s (none_offered s order)

module _ (peer : HostId) (s : Plain) where
  -- whether a request may be touched by the messages of the peer
  abbrev touchable : RequestId → Bool
  touchable = is_in_reach_or_new peer s

  -- the host still has what may not be touched, and out of the peer's reach
  abbrev StillOut : Plain → Type 0
  StillOut t = (id : RequestId) → touchable id ≡ false → (has_row id t ≡ true) × (is_in_reach peer t id ≡ false)

  begins : StillOut s
  begins id out = let p = or_parts (is_in_reach peer s id) (not (has_row id s)) out in (not-false (has_row id s) p.1, p.0)

  goes_on : (deliveries : List Delivery) (t : Plain) → list_all (is_from peer) deliveries ≡ true → IsWithinReachInTheEnd peer s t → StillOut t
      → IsWithinReachInTheEnd peer s (after_messages deliveries t)
  goes_on [] t from within still = within
  goes_on (a ∷ rest) t from within still =
      let p = and_parts (is_from peer a) (list_all (is_from peer) rest) from in
      let u = after_message a t in
      let r : Reached peer t u = subst (λ q. Reached q t u) (sym (same_host_exact peer a.1.from p.0)) (reached_by a t) in
      let step : IsWithin peer touchable t u = wider peer (is_in_reach peer t) touchable (λ id out. (still id out).1) t u r.within in
      goes_on rest u p.1 (within_then peer touchable s t u within step)
      (λ id out. let k = still id out in (has_stays peer touchable t u step id out ∙ k.0, r.out id k.0 k.1))

  pub in_the_end : (deliveries : List Delivery) → list_all (is_from peer) deliveries ≡ true → IsWithinReachInTheEnd peer s (after_messages deliveries s)
  in_the_end deliveries from = goes_on deliveries s from (nothing_done peer touchable s) begins

  pub end_row : (deliveries : List Delivery) → list_all (is_from peer) deliveries ≡ true → (id : RequestId) → has_row id s ≡ true
      → is_in_reach peer s id ≡ false
      → find_row id (after_messages deliveries s) ≡ find_row id s
  end_row deliveries from id has out = row_stays peer touchable s (after_messages deliveries s) (in_the_end deliveries from) id
      (or_from (is_in_reach peer s id) (not (has_row id s)) out (not_from_true (has_row id s) has))
