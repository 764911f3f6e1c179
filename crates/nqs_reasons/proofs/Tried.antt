-- A destination may be tried exactly where its answer says so.
use Rattle.std.proofs.Common.{◌≡◌, ◌≢◌, ◌⊎◌, ℕ, ◌+◌, ◌<◌, ◌≤◌, ◌==◌, slice_get, get_or, inl, inr, Bool, true, false, cond, not, ◌&&◌, ◌||◌, nat_lt, nat_le}
use Rattle.std.proofs.Common.{List, [], ◌∷◌, ◌++◌, map, filter, length, find, position, Option, None, Some, is_some, suc, refl, sym, ap, ◌∙◌, true≢false, arith}
use Rattle.std.proofs.Common.{if◌then◌else◌}
use Rattle.std.proofs.lemmas.Bool.Decides.{nat_tests}
use Rattle.std.specs.List.{list_any, list_all, position_or_len}
use Rattle.std.proofs.lemmas.Option.{slice_get_cases}
use Rattle.nqs_base.specs.Same.{number_exact}
use Rattle.std.proofs.lemmas.List.Folds.{list_all-append, list_all-map}
use Rattle.std.proofs.Math.Bool.{and-false}
use Rattle.std.proofs.lemmas.Bool.{or_right}
use Rattle.nqs_state.specs.State.{Plain}
use Rattle.nqs_state.specs.Keys.{is_queue}
use Rattle.nqs_base_tables.proofs.TableLemmas.{is_some-find}
use Rattle.nqs_types.specs.declared.ids.Dest.{Dest}
use Rattle.nqs_types.specs.declared.ids.HostId.{HostId}
use Rattle.nqs_types.specs.declared.request.Refused.{Refused as Refusal}
use Rattle.nqs_types.specs.declared.request.Peer.{Peer}
use Rattle.nqs_types.specs.declared.request.RowState.{RowState}
use Rattle.nqs_types.specs.declared.request.RowState.TheVariants.{Queued, Routing, Running}
use Rattle.nqs_types.specs.declared.request.Hold.{Hold}
use Rattle.nqs_types.specs.declared.request.Hold.TheVariants.{No, User, System}
use Rattle.nqs_types.specs.declared.queue.Kind.{Kind}
use Rattle.nqs_types.specs.declared.queue.Kind.TheVariants.{Batch, Device, Pipe}
use Rattle.nqs_types.specs.declared.queue.QueueDef.{QueueDef}
use Rattle.nqs_rules.specs.Tests.{passes, is_queued, is_unheld, same_host}
use Rattle.nqs_rules.specs.Find.{find_queue, find_peer}
use Rattle.nqs_rules.specs.InOrder.{IsInOrder, is_dest_right, is_queue_right}
use Rattle.nqs_rules.specs.Order.{below, is_active_in, is_active_of, runs_in_batch, complex_allows, kind_allows}
use Rattle.nqs_rules.specs.Picked.{PlainRow}
use Rattle.nqs_rules.specs.Routing.{low, has_number_left, has_room_for_hand, is_within_window, is_over_wait, refuses, is_reachable, may_try, destination}
use Rattle.nqs_rules.proofs.ListFacts.{list_all-found}
use Rattle.nqs_rules.proofs.KeyFacts.{any_found, all_get}
use Rattle.nqs_rules.proofs.QueuesOrder.{queue_is}
use Rattle.nqs_rules.proofs.StateFacts.{sites_are}
use Rattle.nqs_types.specs.declared.reason.Reason.{Reason}
use Rattle.nqs_types.specs.declared.reason.Reason.TheVariants.{NoDestination}
use Rattle.nqs_types.specs.declared.reason.DestAnswer.{DestAnswer}
use Rattle.nqs_types.specs.declared.reason.DestAnswer.TheVariants.{NoHost, NoNumberLeft, HandingOver, NotSettled, WaitedFor, MayBeTried}
use Rattle.nqs_rules.specs.Reasons.{first_failing, state_reason, hold_reason, complex_condition, global_condition, kind_conditions, conditions, next_in}
use Rattle.nqs_rules.specs.Reasons.{reason_in, reason_of}
use Rattle.nqs_rules.specs.Answers.{refusal_conditions, peer_conditions, host_conditions, answer_of}
use Rattle.nqs_reasons.specs.Chosen.{may_be_tried}
use Rattle.nqs_reasons.proofs.Failing.{not_told, not_said}

-- something has a place exactly where something passes
pub some_place : {V : Type 0} (t : V → Bool) (vs : List V) → is_some (position t vs) ≡ list_any t vs
some_place t vs = some (position_or_len t vs) (nat_lt (position_or_len t vs) (length vs)) ∙ within vs
  where
    some : (n : ℕ) (b : Bool) → is_some (cond b (Some n) None) ≡ b
    some n true = refl
    some n false = refl

    within : (vs : List _) → nat_lt (position_or_len t vs) (length vs) ≡ list_any t vs
    within [] = refl
    within (v ∷ vs) = by (t v) (within vs)
      where
        behind : (n m : ℕ) → nat_lt (1 + n) (suc m) ≡ nat_lt n m
        behind n m = grind (arith, nat_tests)

        by : (b : Bool) → nat_lt (position_or_len t vs) (length vs) ≡ list_any t vs
            → nat_lt (cond (not b) (1 + position_or_len t vs) 0) (suc (length vs)) ≡ (b || list_any t vs)
        by true rest = grind (arith, nat_tests)
        by false rest = behind (position_or_len t vs) (length vs) ∙ rest

-- the answer of a destination, and whether it may be tried
module _ (now : ℕ) (s : Plain) (r : PlainRow) where
  peer_free : (host : HostId) (o : Option Peer) → may_be_tried (first_failing (peer_conditions o host now s) MayBeTried)
      ≡ ((has_room_for_hand host s && passes has_number_left o && passes (is_within_window host s) o) && passes (is_over_wait now) o)
  peer_free host None = sym (and-false (has_room_for_hand host s && false && false))
  peer_free host (Some p) = by (has_number_left p) (has_room_for_hand host s) (is_within_window host s p) (is_over_wait now p)
    where
      by : (n h i w : Bool) → may_be_tried (if n then (if h then (if i then (if w then MayBeTried else WaitedFor p.wait)
          else NotSettled (low host p.next s.hands)) else HandingOver) else NoNumberLeft)
          ≡ ((h && n && i) && w)
      by true true true true = refl
      by true true true false = refl
      by true true false w = refl
      by true false i w = refl
      by false true i w = refl
      by false false i w = refl

  host_free : (host : HostId) (b : Bool)
      → may_be_tried (first_failing (if b then [] else peer_conditions (find_peer host s) host now s) MayBeTried) ≡ (b || is_reachable now host s)
  host_free host true = refl
  host_free host false = peer_free host (find_peer host s)

  pub free_is : (dest : Dest) → may_be_tried (answer_of now s r dest) ≡ may_try now s r dest
  free_is dest = by (find (refuses dest) r.refused) refl
    where
      by : (o : Option Refusal) → find (refuses dest) r.refused ≡ o
          → may_be_tried (first_failing (refusal_conditions o ++ host_conditions dest.host now s) MayBeTried) ≡ may_try now s r dest
      by (Some x) is = sym (ap (λ b. not b && (same_host s.me dest.host || is_reachable now dest.host s)) (any_found (refuses dest) r.refused x is))
      by None is =
          host_free dest.host (same_host s.me dest.host)
          ∙ ap (λ b. not b && (same_host s.me dest.host || is_reachable now dest.host s)) (ap is_some (sym is) ∙ is_some-find (refuses dest) r.refused)

-- a request that no destination may take

abbrev is_no_destination : Reason → Bool
is_no_destination NoDestination = true
is_no_destination _ = false

state_not : (x : RowState) → not (is_no_destination (state_reason x)) ≡ true
state_not Running = refl
state_not Routing = refl
state_not Queued = refl

hold_not : (x : Hold) → not (is_no_destination (hold_reason x)) ≡ true
hold_not System = refl
hold_not User = refl
hold_not No = refl

any_or : {V : Type 0} (p : V → Bool) (vs : List V) → list_all (λ v. p v || true) vs ≡ true
any_or p [] = refl
any_or p (v ∷ vs) = (λ j. or_right (p v) true refl j && any_or p vs j)

module _ (d : QueueDef) (now : ℕ) (s : Plain) (r : PlainRow) where
  kind_not : (k : Kind) → kind_allows k d now s r ≡ true → list_all (λ c. c.0 || not (is_no_destination c.1)) (kind_conditions k d now s r) ≡ true
  kind_not Batch allows =
      list_all-append (λ c. c.0 || not (is_no_destination c.1)) (map (complex_condition d s) s.complexes) (global_condition s ∷ [])
      ∙ (λ j. (list_all-map (λ c. c.0 || not (is_no_destination c.1)) (complex_condition d s) s.complexes ∙ any_or (complex_allows d.name s) s.complexes) j
      && (or_right (nat_lt (length (filter (runs_in_batch s) s.rows)) s.global_limit) true refl j && true))
  kind_not Device allows = ap (λ b. (b || true) && true) allows
  kind_not Pipe allows = ap (λ b. (b || false) && true) allows

  -- where the kind of queue allows the request, its reason is another one
  allowed_not : list_all (λ c. c.0 || not (is_no_destination c.1)) (kind_conditions d.kind d now s r) ≡ true
      → is_no_destination (first_failing (conditions d now s r) (next_in d now s r)) ≡ false
  allowed_not kind =
      not_told is_no_destination (conditions d now s r) (next_in d now s r)
      (λ j. or_right (is_queued r.state) (not (is_no_destination (state_reason r.state))) (state_not r.state) j
      && (or_right (is_unheld r.hold) (not (is_no_destination (hold_reason r.hold))) (hold_not r.hold) j
      && (or_right (nat_le r.job.earliest now) true refl j
      && (or_right d.started true refl j
      && (or_right (below (length (filter (is_active_of d.name r.job.owner) s.rows)) d.user_limit) true refl j
      && (or_right (nat_lt (length (filter (is_active_in d.name) s.rows)) d.run_limit) true refl j && kind j))))))
      refl

  -- none of the destinations may be tried of a request that has this reason
  none_tried : is_no_destination (first_failing (conditions d now s r) (next_in d now s r)) ≡ true → list_any (may_try now s r) d.dests ≡ false
  none_tried told = by (kind_allows d.kind d now s r) refl
    where
      either : (a b : Bool) → (a || b) ≡ false → b ≡ false
      either true b h = absurd (true≢false h)
      either false b h = h

      of : (k : Kind) → d.kind ≡ k → kind_allows k d now s r ≡ false → list_any (may_try now s r) d.dests ≡ false
      of Batch is fails = absurd (true≢false fails)
      of Device is fails =
          absurd (true≢false (sym told
          ∙ allowed_not (ap (λ k. list_all (λ c. c.0 || not (is_no_destination c.1)) (kind_conditions k d now s r)) is
          ∙ ap (λ b. b && true) (or_right (kind_allows Device d now s r) true refl))))
      of Pipe is fails = sym (some_place (may_try now s r) d.dests) ∙ either (r.hops == 32) (is_some (destination d now s r)) fails

      by : (b : Bool) → kind_allows d.kind d now s r ≡ b → list_any (may_try now s r) d.dests ≡ false
      by true allows = absurd (true≢false (sym told ∙ allowed_not (kind_not d.kind allows)))
      by false fails = of d.kind refl fails

module _ (now : ℕ) (s : Plain) (r : PlainRow) where
  pub none_free : (d : QueueDef) → find_queue r.queue s ≡ Some d → reason_of now s r ≡ NoDestination
      → list_any (λ dest. may_be_tried (answer_of now s r dest)) d.dests ≡ false
  none_free d found told =
      ap (λ t. list_any t d.dests) (λ j dest. free_is now s r dest j)
      ∙ none_tried d now s r (ap is_no_destination (sym (ap (λ o. reason_in o now s r) found) ∙ told))

-- a destination of a host in order is on a host of the site

abbrev is_no_host : DestAnswer → Bool
is_no_host NoHost = true
is_no_host _ = false

module _ (now : ℕ) (s : Plain) (r : PlainRow) (dest : Dest) where
  host_not : (o : Option Peer) (b : Bool) → is_some o ≡ true
      → list_all (λ c. not (is_no_host c.1)) (if b then [] else peer_conditions o dest.host now s) ≡ true
  host_not o true there = refl
  host_not None false there = absurd (true≢false (sym there))
  host_not (Some p) false there = refl

  refusal_not : (o : Option Refusal) → list_all (λ c. not (is_no_host c.1)) (refusal_conditions o) ≡ true
  refusal_not None = refl
  refusal_not (Some x) = refl

  known_not : is_some (find_peer dest.host s) ≡ true → is_no_host (answer_of now s r dest) ≡ false
  known_not there =
      not_said is_no_host (refusal_conditions (find (refuses dest) r.refused) ++ host_conditions dest.host now s) MayBeTried
      (list_all-append (λ c. not (is_no_host c.1)) (refusal_conditions (find (refuses dest) r.refused)) (host_conditions dest.host now s)
      ∙ (λ j. refusal_not (find (refuses dest) r.refused) j && host_not (find_peer dest.host s) (same_host s.me dest.host) there j)) refl

  pub some_host : (d : QueueDef) (k : ℕ) → IsInOrder s → find_queue r.queue s ≡ Some d → slice_get d.dests k ≡ Some dest → answer_of now s r dest ≢ NoHost
  some_host d k order found at told = true≢false (ap is_no_host (sym told) ∙ known_not known)
    where
      right : is_dest_right s dest ≡ true
      right =
          all_get (is_dest_right s) d.dests k dest
          (queue_is s d (list_all-found (is_queue_right s) (is_queue r.queue) s.queues d order.queues found)).dests at

      beyond : (a b c : ℕ) → nat_lt a b ≡ true → c ≡ b → c ≤ a → ⊥
      beyond a b c less same past = grind (arith, nat_tests)

      known : is_some (find_peer dest.host s) ≡ true
      known = by (slice_get_cases s.peers dest.host.0).1
        where
          by : ((p : Peer) × (dest.host.0 < length s.peers) × (slice_get s.peers dest.host.0 ≡ Some p) × (get_or s.peers dest.host.0 p ≡ p))
              ⊎ ((length s.peers ≤ dest.host.0) × (slice_get s.peers dest.host.0 ≡ None))
              → is_some (slice_get s.peers dest.host.0) ≡ true
          by (inl (p, within, there, same)) = ap is_some there
          by (inr (past, none)) =
              absurd (beyond dest.host.0 (length s.site) (length s.peers) right
              (number_exact (length s.peers) (length s.site) (sites_are s order.site).peers) past)
