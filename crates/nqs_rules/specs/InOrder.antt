-- What a host's state in order is, and what besides holds of it at every moment.
use Rattle.std.specs.Prelude.{◌≡◌, ℕ, ◌+◌, Bool, true, not, ◌&&◌, ◌||◌, ◌==◌, nat_lt, nat_le, if◌then◌else◌, List, [], ◌∷◌, ◌++◌, map, filter, length, Option}
use Rattle.std.specs.Prelude.{None, Some}
use Rattle.std.specs.List.{list_any, list_all}
use Rattle.nqs_base.specs.Same.{name_eq}
use Rattle.nqs_types.specs.Ids.{id_eq, peer_number_eq, hand_key, promise_key, stage_key}
use Rattle.nqs_types.specs.Scripts.{longest_script}
use Rattle.nqs_state.specs.State.{State}
use Rattle.nqs_rules.specs.Tests.{passes, is_running, is_routing, is_queued, is_unheld, is_offered, same_host, last_u64, last_seq}
use Rattle.nqs_rules.specs.Find.{has_queue, has_device, find_row, find_peer, held_count}
use Rattle.nqs_rules.specs.Conf.{is_wait, at_most}
use Rattle.nqs_rules.specs.Sane.{is_sane_job, is_sane_id}
use Rattle.nqs_base.specs.Path.{is_path}
use Rattle.nqs_rules.specs.Applied.{is_offered_for}
use Rattle.nqs_rules.specs.Fits.{is_site_host, is_offered_hand, is_open_number, is_id_given}
use Rattle.nqs_types.specs.declared.ids.HostId.{HostId}
use Rattle.nqs_types.specs.declared.ids.RequestId.{RequestId}
use Rattle.nqs_types.specs.declared.ids.Dest.{Dest}
use Rattle.nqs_types.specs.declared.request.Refused.{Refused}
use Rattle.nqs_types.specs.declared.request.Row.{Row}
use Rattle.nqs_types.specs.declared.request.Hand.{Hand}
use Rattle.nqs_types.specs.declared.request.Promise.{Promise}
use Rattle.nqs_types.specs.declared.request.Peer.{Peer}
use Rattle.nqs_types.specs.declared.request.Stage.{Stage}
use Rattle.nqs_types.specs.declared.request.FileOut.{FileOut}
use Rattle.nqs_types.specs.declared.queue.Access.{Access}
use Rattle.nqs_types.specs.declared.queue.Access.TheVariants.{All, Users}
use Rattle.nqs_types.specs.declared.queue.QueueDef.{QueueDef}
use Rattle.nqs_types.specs.declared.queue.ComplexDef.{ComplexDef}

-- no two of a list are alike
abbrev pub are_distinct : {A : Type 0} → (A → A → Bool) → List A → Bool
are_distinct eq [] = true
are_distinct eq (x ∷ xs) = not (list_any (eq x) xs) && are_distinct eq xs

-- whether two numbers are one
abbrev pub same_number : ℕ → ℕ → Bool
same_number a b = a == b

-- a list of users has at most 256
abbrev pub is_user_list_short : Access → Bool
is_user_list_short All = true
is_user_list_short (Users users) = nat_le (length users) 256

-- a number is from 1 on and below a counter
abbrev pub is_given : ℕ → ℕ → Bool
is_given number next = nat_le 1 number && nat_lt number next

-- each number is greater than the one before it, the first one than this
abbrev pub ascends_from : ℕ → List ℕ → Bool
ascends_from n [] = true
ascends_from n (m ∷ ms) = nat_lt n m && ascends_from m ms

-- the numbers that a peer gets next begin at 1, and the closed ones ascend above the floor
abbrev pub is_peer_right : Peer → Bool
is_peer_right p = nat_le 1 p.next && nat_le 1 p.stage_next && ascends_from p.floor p.closed

-- a hand's number was given to its peer
abbrev pub is_hand_given : ℕ → Peer → Bool
is_hand_given number p = is_given number p.next

-- a stage's number was given to its peer
abbrev pub is_stage_given : ℕ → Peer → Bool
is_stage_given number p = is_given number p.stage_next

module _ {E : Type 0} where
  -- names are there

  -- a destination's host is of the site
  abbrev pub is_dest_right : State E → Dest → Bool
  is_dest_right s d = is_site_host d.host s

  -- a refusal's host is of the site
  abbrev pub is_refused_right : State E → Refused → Bool
  is_refused_right s r = is_site_host r.dest.host s

  -- the default queue is there
  abbrev pub is_default_there : Option (List ℕ) → State E → Bool
  is_default_there None s = true
  is_default_there (Some q) s = has_queue q s

  -- within the limits, with destinations and devices that are there, and no device listed twice
  abbrev pub is_queue_right : State E → QueueDef → Bool
  is_queue_right s d =
      nat_le d.priority 63 && nat_le d.run_limit 10000 && at_most 10000 d.user_limit && is_user_list_short d.access
      && nat_le (length d.dests) 16 && list_all (is_dest_right s) d.dests && nat_le (length d.devices) 64 && list_all (λ n. has_device n s) d.devices
      && are_distinct name_eq d.devices

  -- a complex has a limit within limits, and queues that are there
  abbrev pub is_complex_right : State E → ComplexDef → Bool
  is_complex_right s c = nat_le c.limit 10000 && list_all (λ q. has_queue q s) c.queues

  -- the request's host is of the site, and its number one that a host may give
  abbrev pub is_id_right : State E → RequestId → Bool
  is_id_right s id = is_site_host id.host s && is_sane_id id

  -- a device that is named is there
  abbrev pub is_device_there : Option (List ℕ) → State E → Bool
  is_device_there None s = true
  is_device_there (Some d) s = has_device d s

  -- a request is on no device
  abbrev pub has_no_device : Row E → Bool
  has_no_device r = not (passes (λ _. true) r.device)

  -- One start more than losses where it runs, and else as many. Only a running row names a device.
  abbrev pub is_count_right : Row E → Bool
  is_count_right r = if is_running r.state then r.starts == r.lost + 1 else r.starts == r.lost && has_no_device r

  -- a request has moved 32 times at most, and fewer while it is handed over
  abbrev pub is_hop_right : Row E → Bool
  is_hop_right r = if is_routing r.state then nat_lt r.hops 32 else nat_le r.hops 32

  -- a request's queue, device, job and numbers are right
  abbrev pub is_row_right : State E → Row E → Bool
  is_row_right s r =
      is_id_right s r.id && is_id_given s r.id && is_sane_job r.job && has_queue r.queue s && is_device_there r.device s
      && list_all (is_refused_right s) r.refused
      && nat_le r.arrival s.arrivals && nat_lt r.lost 65535 && is_count_right r && is_hop_right r

  -- a promise's row is queued, its number isn't closed
  abbrev pub is_promise_right : State E → Promise E → Bool
  is_promise_right s p = is_row_right s p.row && is_queued p.row.state && nat_le 1 p.number && passes (is_open_number p.number) (find_peer p.peer s)

  -- whether a request is being handed over
  abbrev pub is_routing_row : Row E → Bool
  is_routing_row r = is_routing r.state

  -- a hand's number was given, and an offered one has a routing row
  abbrev pub is_hand_right : State E → Hand → Bool
  is_hand_right s h = is_id_right s h.id && passes (is_hand_given h.number) (find_peer h.peer s)
      && (not (is_offered h.phase) || passes is_routing_row (find_row h.id s))

  -- a stage's path is one, and its number was given
  abbrev pub is_stage_right : State E → Stage E → Bool
  is_stage_right s t = is_path t.path && passes (is_stage_given t.number) (find_peer t.peer s)

  -- a file's path is one, and its number was given
  abbrev pub is_file_right : State E → FileOut E → Bool
  is_file_right s f = is_path f.path && is_given f.number s.file_next

  -- no two queues, requests, hands and so on have one key
  abbrev pub are_keys_distinct : State E → Bool
  are_keys_distinct s =
      are_distinct name_eq (map (λ q. q.name) s.queues) && are_distinct name_eq (map (λ c. c.name) s.complexes)
      && are_distinct name_eq (map (λ d. d.name) s.devices)
      && are_distinct id_eq (map (λ r. r.id) s.rows) && are_distinct peer_number_eq (map hand_key s.hands)
      && are_distinct peer_number_eq (map promise_key s.promises)
      && are_distinct peer_number_eq (map stage_key s.stages) && are_distinct same_number (map (λ f. f.number) s.files)

  -- one arrival number for one row or promise
  abbrev pub arrivals_of : State E → List ℕ
  arrivals_of s = map (λ r. r.arrival) s.rows ++ map (λ p. p.row.arrival) s.promises

  -- the requests that are offered
  abbrev pub offered_ids : State E → List RequestId
  offered_ids s = map (λ h. h.id) (filter is_offered_hand s.hands)

  -- the handovers to a peer
  abbrev pub hands_to : HostId → State E → List Hand
  hands_to peer s = filter (λ h. same_host peer h.peer) s.hands

  -- at most eight hands go where this one goes
  abbrev pub has_few_hands : State E → Hand → Bool
  has_few_hands s h = nat_le (length (hands_to h.peer s)) 8

  -- 1 to 16 hosts, this one among them, and what is known of each
  abbrev pub is_site_right : State E → Bool
  is_site_right s = nat_le 1 (length s.site) && nat_le (length s.site) 16 && is_site_host s.me s && length s.peers == length s.site

  -- no list is longer than it may be
  abbrev pub are_lists_short : State E → Bool
  are_lists_short s =
      nat_le (length s.queues) 256 && nat_le (length s.complexes) 64 && nat_le (length s.devices) 64 && nat_le (length s.managers) 256
      && nat_le (length s.operators) 256 && nat_le (held_count s) 10000

  -- the host's parameters are within their limits
  abbrev pub are_parameters_right : State E → Bool
  are_parameters_right s =
      nat_le s.global_limit 10000 && is_wait s.patience && is_wait s.retry_wait && nat_le s.seq last_seq && nat_le s.arrivals last_u64
      && nat_le 1 s.file_next && nat_le s.file_next last_u64 && is_default_there s.default_queue s

  -- what a state in order is, but for the lengths of its stored parts
  pub record IsInOrder (s : State E) : Type 0 where
    pub site : is_site_right s ≡ true
    pub parameters : are_parameters_right s ≡ true
    pub short : are_lists_short s ≡ true
    pub keys : are_keys_distinct s ≡ true
    pub arrivals : are_distinct same_number (arrivals_of s) ≡ true
    pub queues : list_all (is_queue_right s) s.queues ≡ true
    pub complexes : list_all (is_complex_right s) s.complexes ≡ true
    pub rows : list_all (is_row_right s) s.rows ≡ true
    pub promises : list_all (is_promise_right s) s.promises ≡ true
    pub hands : list_all (is_hand_right s) s.hands ≡ true
    pub few : list_all (has_few_hands s) s.hands ≡ true
    pub offers : are_distinct id_eq (offered_ids s) ≡ true
    pub peers : list_all is_peer_right s.peers ≡ true
    pub stages : list_all (is_stage_right s) s.stages ≡ true
    pub files : list_all (is_file_right s) s.files ≡ true

module _ {E : Type 0} (size : E → ℕ) where
  -- a stored script has at most 1,048,576 bytes, a stored output at most 32,768
  abbrev pub are_parts_short : State E → Bool
  are_parts_short s =
      list_all (λ r. nat_le (size r.script) longest_script) s.rows && list_all (λ p. nat_le (size p.row.script) longest_script) s.promises
      && list_all (λ t. nat_le (size t.bytes) 32768) s.stages && list_all (λ f. nat_le (size f.bytes) 32768) s.files

  -- what a state in order is, where size gives the length of a stored part
  pub record IsWholeInOrder (s : State E) : Type 0 where
    pub order : IsInOrder s
    pub parts : are_parts_short s ≡ true

-- what besides holds of a host at every moment, and what the network's law stands on

module _ {E : Type 0} where
  -- only a running row is doomed
  abbrev pub is_doom_right : Row E → Bool
  is_doom_right r = is_running r.state || not r.doomed

  -- only a queued row is held
  abbrev pub is_hold_right : Row E → Bool
  is_hold_right r = is_queued r.state || is_unheld r.hold

  -- a routing row has an offered hand
  abbrev pub has_hand : State E → Row E → Bool
  has_hand s r = not (is_routing r.state) || list_any (is_offered_for r.id) s.hands

  -- what is promised is neither held nor doomed
  abbrev pub is_promise_free : Promise E → Bool
  is_promise_free p = is_unheld p.row.hold && not p.row.doomed

  -- a handover is of a request that has a number
  abbrev pub is_hand_of_given : State E → Hand → Bool
  is_hand_of_given s h = is_id_given s h.id

  -- what holds at every moment beside the order
  pub record IsConsistent (s : State E) : Type 0 where
    pub doomed : list_all is_doom_right s.rows ≡ true
    pub held : list_all is_hold_right s.rows ≡ true
    pub routing : list_all (has_hand s) s.rows ≡ true
    pub promises : list_all is_promise_free s.promises ≡ true
    pub given : list_all (is_hand_of_given s) s.hands ≡ true
