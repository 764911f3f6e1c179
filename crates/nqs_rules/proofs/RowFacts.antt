-- What a row in order needs of its host, and that it stays so where the host keeps that.
use Rattle.std.proofs.Common.{◌≡◌, ℕ, ◌≤◌, Bool, true, not, ◌&&◌, ◌||◌, ◌==◌, nat_lt, nat_le, List, [], ◌∷◌, length, Option, None, Some, refl, sym, subst, ◌∙◌}
use Rattle.std.proofs.Common.{arith}
use Rattle.std.proofs.lemmas.Bool.{and_from, leb-true, le-leb}
use Rattle.std.specs.List.{list_all}
use Rattle.nqs_state.specs.State.{State}
use Rattle.nqs_base.specs.Same.{name_eq}
use Rattle.nqs_types.specs.Ids.{peer_number_eq}
use Rattle.std.proofs.lemmas.Cmp.{nat_eq_equiv, nat_list_eq_equiv}
use Rattle.nqs_types.specs.declared.ids.PeerNumber.{PeerNumber}
use Rattle.nqs_types.specs.declared.request.Row.{Row}
use Rattle.nqs_types.specs.declared.request.Promise.{Promise}
pub use Rattle.nqs_index.proofs.RunLemmas.{id_itself as same_id}
use Rattle.nqs_rules.specs.Tests.{passes, is_queued, same_host}
use Rattle.nqs_rules.specs.Find.{has_queue, has_device, find_peer}
use Rattle.nqs_rules.specs.Sane.{is_sane_job, is_sane_id}
use Rattle.nqs_rules.specs.InOrder.{is_id_right, is_device_there, is_refused_right, is_count_right, is_hop_right, is_row_right, is_promise_right}
use Rattle.nqs_rules.proofs.Chains.{each, chained, imply}
use Rattle.nqs_rules.proofs.ListFacts.{list_all-weaker}
use Rattle.nqs_rules.specs.Fits.{is_open_number, is_id_given}

module _ {E : Type 0} where
  pub record IsRow (s : State E) (r : Row E) : Type 0 where
    pub id : is_id_right s r.id ≡ true
    pub given : is_id_given s r.id ≡ true
    pub job : is_sane_job r.job ≡ true
    pub queue : has_queue r.queue s ≡ true
    pub device : is_device_there r.device s ≡ true
    pub refused : list_all (is_refused_right s) r.refused ≡ true
    pub arrival : nat_le r.arrival s.arrivals ≡ true
    pub lost : nat_lt r.lost 65535 ≡ true
    pub count : is_count_right r ≡ true
    pub hop : is_hop_right r ≡ true

  abbrev tests : State E → Row E → List Bool
  tests s r = is_id_given s r.id ∷ is_sane_job r.job ∷ has_queue r.queue s ∷ is_device_there r.device s ∷ list_all (is_refused_right s) r.refused
      ∷ nat_le r.arrival s.arrivals ∷ nat_lt r.lost 65535 ∷ is_count_right r ∷ is_hop_right r ∷ []

  pub row_is : (s : State E) (r : Row E) → is_row_right s r ≡ true → IsRow s r
  row_is s r h =
      let p = each (is_id_right s r.id) (tests s r) h in
      record {
        id = p.0;
        given = p.1.0;
        job = p.1.1.0;
        queue = p.1.1.1.0;
        device = p.1.1.1.1.0;
        refused = p.1.1.1.1.1.0;
        arrival = p.1.1.1.1.1.1.0;
        lost = p.1.1.1.1.1.1.1.0;
        count = p.1.1.1.1.1.1.1.1.0;
        hop = p.1.1.1.1.1.1.1.1.1.0;
      }

  pub row_right : (s : State E) (r : Row E) → IsRow s r → is_row_right s r ≡ true
  row_right s r h = chained (is_id_right s r.id) (tests s r) (
    h.id,
    (
      h.given,
      (h.job, (h.queue, (h.device, (h.refused, (h.arrival, (h.lost, (h.count, (h.hop, tt)))))))),
    ),
  )

  pub record IsPromise (s : State E) (p : Promise E) : Type 0 where
    pub row : is_row_right s p.row ≡ true
    pub queued : is_queued p.row.state ≡ true
    pub some : nat_le 1 p.number ≡ true
    pub opens : passes (is_open_number p.number) (find_peer p.peer s) ≡ true

  pub promise_is : (s : State E) (p : Promise E) → is_promise_right s p ≡ true → IsPromise s p
  promise_is s p h =
      let q = each (is_row_right s p.row) (is_queued p.row.state ∷ nat_le 1 p.number ∷ passes (is_open_number p.number) (find_peer p.peer s) ∷ []) h in
      record { row = q.0; queued = q.1.0; some = q.1.1.0; opens = q.1.1.1.0 }

  pub promise_right : (s : State E) (p : Promise E) → IsPromise s p → is_promise_right s p ≡ true
  promise_right s p h = chained (is_row_right s p.row) (is_queued p.row.state ∷ nat_le 1 p.number ∷ passes (is_open_number p.number) (find_peer p.peer s) ∷ [])
      (h.row, (h.queued, (h.some, (h.opens, tt))))

  -- a row stays right where its queue and its device stay
  pub row_kept_by : (s t : State E) (r : Row E) → t.me ≡ s.me → t.site ≡ s.site → s.seq ≤ t.seq → s.arrivals ≤ t.arrivals → has_queue r.queue t ≡ true
      → is_device_there r.device t ≡ true → is_row_right s r ≡ true → is_row_right t r ≡ true
  row_kept_by s t r me site seq arrivals queue device h =
      let p = row_is s r h in
      row_right t r (record {
        id = (λ j. (nat_lt r.id.host.0 (length (site j)) && is_sane_id r.id)) ∙ p.id;
        given = (λ j. (not (same_host (me j) r.id.host) || nat_le r.id.seq t.seq))
            ∙ imply (same_host s.me r.id.host) (nat_le r.id.seq s.seq) (nat_le r.id.seq t.seq)
            (λ e. le-leb r.id.seq t.seq (let k = leb-true r.id.seq s.seq e in omega arith)) p.given;
        job = p.job;
        queue = queue;
        device = device;
        refused = (λ j. list_all (λ d. nat_lt d.dest.host.0 (length (site j))) r.refused) ∙ p.refused;
        arrival = le-leb r.arrival t.arrivals (let k = leb-true r.arrival s.arrivals p.arrival in omega arith);
        lost = p.lost;
        count = p.count;
        hop = p.hop;
      })

  -- more queues and devices than before
  pub device_kept : (s t : State E) → ((d : List ℕ) → has_device d s ≡ true → has_device d t ≡ true) → (o : Option (List ℕ)) → is_device_there o s ≡ true
      → is_device_there o t ≡ true
  device_kept s t devices None h = refl
  device_kept s t devices (Some d) h = devices d h

  pub record Keeps (s t : State E) : Type 0 where
    pub me : t.me ≡ s.me
    pub site : t.site ≡ s.site
    pub seq : s.seq ≤ t.seq
    pub arrivals : s.arrivals ≤ t.arrivals
    pub queues : (q : List ℕ) → has_queue q s ≡ true → has_queue q t ≡ true
    pub devices : (d : List ℕ) → has_device d s ≡ true → has_device d t ≡ true

  pub row_kept : (s t : State E) → Keeps s t → (r : Row E) → is_row_right s r ≡ true → is_row_right t r ≡ true
  row_kept s t k r h = let p = row_is s r h in row_kept_by s t r k.me k.site k.seq k.arrivals (k.queues r.queue p.queue)
      (device_kept s t k.devices r.device p.device) h

  pub promise_kept : (s t : State E) → Keeps s t → t.peers ≡ s.peers → (p : Promise E) → is_promise_right s p ≡ true → is_promise_right t p ≡ true
  promise_kept s t k peers p h =
      let q = promise_is s p h in
      promise_right t p (record {
        row = row_kept s t k p.row q.row;
        queued = q.queued;
        some = q.some;
        opens =
            subst (λ l. passes (is_open_number p.number) (find_peer p.peer (record t { peers = l })) ≡ true) (sym peers) q.opens;
      })

pub same_it : (n : ℕ) → (n == n) ≡ true
same_it n = nat_eq_equiv.refl n

pub same_name : (n : List ℕ) → name_eq n n ≡ true
same_name n = nat_list_eq_equiv.refl n

pub same_peer_number : (k : PeerNumber) → peer_number_eq k k ≡ true
same_peer_number k = and_from (k.peer.0 == k.peer.0) (k.number == k.number) (same_it k.peer.0) (same_it k.number)

module _ {E : Type 0} where
  pub rows_kept : (s t : State E) → Keeps s t → (rows : List (Row E)) → list_all (is_row_right s) rows ≡ true → list_all (is_row_right t) rows ≡ true
  rows_kept s t k rows h = list_all-weaker (is_row_right s) (is_row_right t) (row_kept s t k) rows h

  pub promises_kept : (s t : State E) → Keeps s t → t.peers ≡ s.peers → (ps : List (Promise E)) → list_all (is_promise_right s) ps ≡ true
      → list_all (is_promise_right t) ps ≡ true
  promises_kept s t k peers ps h = list_all-weaker (is_promise_right s) (is_promise_right t) (promise_kept s t k peers) ps h
