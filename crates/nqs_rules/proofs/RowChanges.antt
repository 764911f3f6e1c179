-- What each change makes of one row: a right row stays right.
use Rattle.std.proofs.Common.{◌≡◌, ℕ, ◌+◌, Bool, true, false, not, ◌&&◌, ◌==◌, nat_lt, nat_le, List, [], ◌∷◌, ◌++◌, Option, None, Some, true≢false, refl, sym}
use Rattle.std.proofs.Common.{ap, subst, ◌∙◌, arith, if◌then◌else◌}
use Rattle.std.proofs.lemmas.Bool.{and_parts, and_from, eqb-true, eq-eqb}
use Rattle.std.proofs.lemmas.Bool.Decides.{nat_tests}
use Rattle.std.specs.List.{list_all}
use Rattle.std.specs.Option.{IfSome}
use Rattle.nqs_state.specs.State.{State}
use Rattle.nqs_base.specs.Path.{is_path}
use Rattle.nqs_base.specs.Same.{name_eq}
use Rattle.nqs_types.specs.declared.ids.Dest.{Dest}
use Rattle.nqs_types.specs.declared.request.Carried.{Carried}
use Rattle.nqs_types.specs.declared.request.Row.{Row}
use Rattle.nqs_types.specs.declared.request.Refused.{Refused}
use Rattle.nqs_types.specs.declared.request.Hold.TheVariants.{System}
use Rattle.nqs_types.specs.declared.request.RowState.{RowState}
use Rattle.nqs_types.specs.declared.request.RowState.TheVariants.{Queued, Routing, Running}
use Rattle.nqs_rules.specs.Tests.{is_running, is_routing, is_queued, is_ready, is_unheld}
use Rattle.nqs_rules.specs.Find.{has_queue}
use Rattle.nqs_rules.specs.Fits.{is_site_host, is_id_given}
use Rattle.nqs_rules.specs.Rows.{doomed_in, released_row, with_priority}
use Rattle.nqs_rules.specs.Sane.{is_sane_job}
use Rattle.nqs_rules.specs.Routing.{is_present, with_refusal, all_refused, held_where, refusal_noted}
use Rattle.nqs_rules.specs.Applied.{new_row, started_row, may_start_again, lost_row, booted_row, routing_row, requeued_row}
use Rattle.nqs_rules.specs.InOrder.{is_id_right, is_device_there, is_refused_right, has_no_device, is_count_right, is_hop_right, is_row_right}
use Rattle.nqs_rules.proofs.Chains.{each, chained}
use Rattle.nqs_rules.proofs.Sublists.{filter_part, part_all}
use Rattle.nqs_rules.proofs.KeyFacts.{all-added}
use Rattle.nqs_rules.proofs.RowFacts.{IsRow, row_is, row_right}

-- states of rows

pub queued_is : (t : RowState) → is_queued t ≡ true → t ≡ Queued
queued_is Queued h = refl
queued_is Routing h = absurd (true≢false (sym h))
queued_is Running h = absurd (true≢false (sym h))

pub routing_is : (t : RowState) → is_routing t ≡ true → t ≡ Routing
routing_is Queued h = absurd (true≢false (sym h))
routing_is Routing h = refl
routing_is Running h = absurd (true≢false (sym h))

pub running_is : (t : RowState) → is_running t ≡ true → t ≡ Running
running_is Queued h = absurd (true≢false (sym h))
running_is Routing h = absurd (true≢false (sym h))
running_is Running h = refl

pub idle_is : (t : RowState) → is_routing t ≡ false → is_running t ≡ false → t ≡ Queued
idle_is Queued a b = refl
idle_is Routing a b = absurd (true≢false a)
idle_is Running a b = absurd (true≢false b)

module _ {E : Type 0} where
  -- counts and hops by the state

  pub waits : (r : Row E) → is_running r.state ≡ false → is_count_right r ≡ true → (r.starts == r.lost && has_no_device r) ≡ true
  waits r e h = subst (λ b. (if b then r.starts == r.lost + 1 else r.starts == r.lost && has_no_device r) ≡ true) e h

  runs_once : (r : Row E) → is_running r.state ≡ true → is_count_right r ≡ true → (r.starts == r.lost + 1) ≡ true
  runs_once r e h = subst (λ b. (if b then r.starts == r.lost + 1 else r.starts == r.lost && has_no_device r) ≡ true) e h

  pub few_hops : (r : Row E) → is_routing r.state ≡ true → is_hop_right r ≡ true → nat_lt r.hops 32 ≡ true
  few_hops r e h = subst (λ b. (if b then nat_lt r.hops 32 else nat_le r.hops 32) ≡ true) e h

  pub some_hops : (r : Row E) → is_routing r.state ≡ false → is_hop_right r ≡ true → nat_le r.hops 32 ≡ true
  some_hops r e h = subst (λ b. (if b then nat_lt r.hops 32 else nat_le r.hops 32) ≡ true) e h

  pub at_most_32 : (r : Row E) → is_hop_right r ≡ true → nat_le r.hops 32 ≡ true
  at_most_32 r h = by (is_routing r.state) h
    where
      by : (b : Bool) → (if b then nat_lt r.hops 32 else nat_le r.hops 32) ≡ true → nat_le r.hops 32 ≡ true
      by true e = grind (arith, nat_tests)
      by false e = e

  pub ready_queued : (r : Row E) → is_ready r ≡ true → r.state ≡ Queued
  ready_queued r h = queued_is r.state (and_parts (is_queued r.state) (is_unheld r.hold) h).0

  -- what a noted refusal doesn't touch
  pub noted_kept : {K : Type 0} (key : Row E → K) → ((q : Row E) (refused : List Refused) → key (record q { refused = refused }) ≡ key q)
      → ((q : Row E) → key (record q { hold = System }) ≡ key q)
      → (dests : List Dest) (dest : Dest) (refusal : ℕ) (r : Row E) → key (refusal_noted dests dest refusal r) ≡ key r
  noted_kept key refused held dests dest refusal r = by (all_refused dests (with_refusal dests dest refusal r.refused))
      ∙ refused r (with_refusal dests dest refusal r.refused)
    where
      by : (b : Bool) → key (held_where b (record r { refused = with_refusal dests dest refusal r.refused }))
          ≡ key (record r { refused = with_refusal dests dest refusal r.refused })
      by true = held (record r { refused = with_refusal dests dest refusal r.refused })
      by false = refl

  module _ (s : State E) where
    -- a row that comes in
    pub new_row_right : (c : Carried) (queue : List ℕ) (arrival : ℕ) (script : E) → is_id_right s c.id ≡ true → is_id_given s c.id ≡ true
        → is_sane_job c.job ≡ true → has_queue queue s ≡ true → nat_le arrival s.arrivals ≡ true → c.starts ≡ c.lost → nat_lt c.lost 65535 ≡ true
        → nat_le c.hops 32 ≡ true
        → is_row_right s (new_row c queue arrival script) ≡ true
    new_row_right c queue arrival script id given job there later as_often few hops = row_right s (new_row c queue arrival script) (record {
      id = id;
      given = given;
      job = job;
      queue = there;
      device = refl;
      refused = refl;
      arrival = later;
      lost = few;
      count = and_from (c.starts == c.lost) true (eq-eqb c.starts c.lost as_often) refl;
      hop = hops;
    })

    -- the row with another state, device and count
    module _ (r : Row E) (h : is_row_right s r ≡ true) where
      p : IsRow s r
      p = row_is s r h

      pub started_right : (device : Option (List ℕ)) → r.state ≡ Queued → is_device_there device s ≡ true → is_row_right s (started_row device r) ≡ true
      started_right device queued there = row_right s (started_row device r) (record {
        id = p.id;
        given = p.given;
        job = p.job;
        queue = p.queue;
        device = there;
        refused = p.refused;
        arrival = p.arrival;
        lost = p.lost;
        count = eq-eqb (r.starts + 1) (r.lost + 1) (let e : r.starts ≡ r.lost =
            eqb-true r.starts r.lost (and_parts (r.starts == r.lost) (has_no_device r) (waits r (ap is_running queued) p.count)).0 in omega arith);
        hop = some_hops r (ap is_routing queued) p.hop;
      })

      pub lost_right : is_running r.state ≡ true → nat_lt r.starts 65535 ≡ true → is_row_right s (lost_row r) ≡ true
      lost_right run few = row_right s (lost_row r) (
          let e : r.starts ≡ r.lost + 1 = eqb-true r.starts (r.lost + 1) (runs_once r run p.count) in
          record {
            id = p.id;
            given = p.given;
            job = p.job;
            queue = p.queue;
            device = refl;
            refused = p.refused;
            arrival = p.arrival;
            lost = grind (arith, nat_tests);
            count = and_from (r.starts == r.lost + 1) true (eq-eqb r.starts (r.lost + 1) e) refl;
            hop = some_hops r (ap is_routing (running_is r.state run)) p.hop;
          })

      pub routing_right : r.state ≡ Queued → nat_lt r.hops 32 ≡ true → is_row_right s (routing_row r) ≡ true
      routing_right queued few = row_right s (routing_row r) (record {
        id = p.id;
        given = p.given;
        job = p.job;
        queue = p.queue;
        device = p.device;
        refused = p.refused;
        arrival = p.arrival;
        lost = p.lost;
        count = waits r (ap is_running queued) p.count;
        hop = few;
      })

      pub requeued_right : is_running r.state ≡ false → is_row_right s (requeued_row r) ≡ true
      requeued_right idle = row_right s (requeued_row r) (record {
        id = p.id;
        given = p.given;
        job = p.job;
        queue = p.queue;
        device = p.device;
        refused = p.refused;
        arrival = p.arrival;
        lost = p.lost;
        count = waits r idle p.count;
        hop = at_most_32 r p.hop;
      })

      pub released_right : is_row_right s (released_row r) ≡ true
      released_right = row_right s (released_row r) (record {
        id = p.id;
        given = p.given;
        job = p.job;
        queue = p.queue;
        device = p.device;
        refused = refl;
        arrival = p.arrival;
        lost = p.lost;
        count = p.count;
        hop = by (is_routing r.state);
      })
        where
          by : (b : Bool) → (if b then nat_lt 0 32 else nat_le 0 32) ≡ true
          by true = refl
          by false = refl

      -- a queued row in another queue
      pub moved_right : (q : List ℕ) (arrival hops : ℕ) → r.state ≡ Queued → has_queue q s ≡ true → nat_le arrival s.arrivals ≡ true → nat_le hops 32 ≡ true
          → is_row_right s (record r { queue = q; arrival = arrival; hops = hops; refused = [] }) ≡ true
      moved_right q arrival hops queued there given few = row_right s (record r { queue = q; arrival = arrival; hops = hops; refused = [] }) (record {
        id = p.id;
        given = p.given;
        job = p.job;
        queue = there;
        device = p.device;
        refused = refl;
        arrival = given;
        lost = p.lost;
        count = p.count;
        hop = ap (λ t. if is_routing t then nat_lt hops 32 else nat_le hops 32) queued ∙ few;
      })

      pub priority_right : (n : ℕ) → nat_le n 63 ≡ true → is_row_right s (with_priority n r) ≡ true
      priority_right n few = row_right s (with_priority n r) (
          let j = each (nat_le r.job.priority 63) (is_path r.job.out ∷ is_path r.job.err ∷ []) p.job in
          record {
            id = p.id;
            given = p.given;
            job = chained (nat_le n 63) (is_path r.job.out ∷ is_path r.job.err ∷ []) (few, j.1);
            queue = p.queue;
            device = p.device;
            refused = p.refused;
            arrival = p.arrival;
            lost = p.lost;
            count = p.count;
            hop = p.hop;
          })

      refused_right : (refused : List Refused) → list_all (is_refused_right s) refused ≡ true → is_row_right s (record r { refused = refused }) ≡ true
      refused_right refused all = row_right s (record r { refused = refused })
          (record {
            id = p.id;
            given = p.given;
            job = p.job;
            queue = p.queue;
            device = p.device;
            refused = all;
            arrival = p.arrival;
            lost = p.lost;
            count =
                p.count;
            hop = p.hop;
          })

      pub noted_right : (dests : List Dest) (dest : Dest) (refusal : ℕ) → is_site_host dest.host s ≡ true
          → is_row_right s (refusal_noted dests dest refusal r) ≡ true
      noted_right dests dest refusal there = held (all_refused dests (with_refusal dests dest refusal r.refused))
          (record r { refused = with_refusal dests dest refusal r.refused })
          (refused_right (with_refusal dests dest refusal r.refused) (part_all (is_refused_right s)
          (filter_part (is_present dests) (r.refused ++ record { dest = dest; cause = refusal } ∷ []))
          (all-added (is_refused_right s) r.refused _ p.refused there)))
        where
          held : (b : Bool) (q : Row E) → is_row_right s q ≡ true → is_row_right s (held_where b q) ≡ true
          held true q k = k
          held false q k = k

      pub doomed_in_right : (q : List ℕ) → is_row_right s (doomed_in q r) ≡ true
      doomed_in_right q = by (is_running r.state && name_eq q r.queue)
        where
          by : (b : Bool) → is_row_right s (if b then record r { doomed = true } else r) ≡ true
          by true = h
          by false = h

      pub booted_right : IfSome (booted_row r) (λ q. is_row_right s q ≡ true)
      booted_right = by (is_running r.state) refl (may_start_again r) refl
        where
          by : (b : Bool) → is_running r.state ≡ b → (c : Bool) → may_start_again r ≡ c
              → IfSome (if b then (if c then Some (lost_row r) else None) else Some r) (λ q. is_row_right s q ≡ true)
          by true e true f = lost_right e (and_parts (r.job.rerun && not r.doomed) (nat_lt r.starts 65535) f).1
          by true e false f = tt
          by false e c f = h
