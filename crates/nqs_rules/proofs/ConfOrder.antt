-- The edits of queues, limits and complexes: a state in order stays so.
use Rattle.std.proofs.Common.{◌≡◌, ℕ, ◌+◌, Bool, true, false, not, nat_lt, nat_le, List, [], ◌∷◌, ◌++◌, filter, length, position, unwrap_or, Option, None, Some}
use Rattle.std.proofs.Common.{option_map, is_ok, Err, true≢false, refl, sym, ap, ◌∙◌, arith, if◌then◌else◌}
use Rattle.std.proofs.lemmas.Bool.{and_parts, and_from, leb-true, leb-false, le-leb, lt-ltb, not-false}
use Rattle.std.proofs.lemmas.List.{length-append}
use Rattle.std.specs.List.{list_all}
use Rattle.nqs_state.specs.State.{State}
use Rattle.nqs_base.specs.Same.{name_eq}
use Rattle.nqs_base_tables.specs.Table.{without_first}
use Rattle.nqs_types.specs.declared.ids.Dest.{Dest}
use Rattle.nqs_types.specs.declared.ids.NamedDest.{NamedDest}
use Rattle.nqs_types.specs.declared.queue.Kind.{Kind}
use Rattle.nqs_types.specs.declared.queue.Kind.TheVariants.{Batch, Device, Pipe}
use Rattle.nqs_types.specs.declared.edit.ConfEdit.{ConfEdit}
use Rattle.nqs_types.specs.declared.edit.ConfEdit.TheVariants.{CreateBatchQueue, CreateDeviceQueue, CreatePipeQueue, DeleteQueue, EnableQueue, DisableQueue}
use Rattle.nqs_types.specs.declared.edit.ConfEdit.TheVariants.{StartQueue, StopQueue, PurgeQueue, SetPriority, SetRunLimit, AddDestination, RemoveDestination}
use Rattle.nqs_types.specs.declared.edit.ConfEdit.TheVariants.{FirstDestination}
use Rattle.nqs_types.specs.declared.edit.ConfEdit.TheVariants.{SetDefaultQueue, SetNoDefaultQueue, SetPatience, SetRetryWait}
use Rattle.nqs_types.specs.declared.edit.LimitsEdit.{LimitsEdit}
use Rattle.nqs_types.specs.declared.edit.LimitsEdit.TheVariants.{SetUserLimit, SetCpuLimit, SetMemoryLimit, CreateComplex, DeleteComplex, AddQueue, RemoveQueue}
use Rattle.nqs_types.specs.declared.edit.LimitsEdit.TheVariants.{SetComplexLimit, SetGlobalLimit}
use Rattle.nqs_rules.specs.Tests.{passes, same_dest}
use Rattle.nqs_rules.specs.Causes.{Cause, first_refusal}
use Rattle.nqs_rules.specs.Edits.{change_queue}
use Rattle.nqs_rules.specs.Find.{host_at, dest_of, has_queue, find_queue, meant_dest}
use Rattle.nqs_rules.specs.Format.{new_queue}
use Rattle.nqs_rules.specs.Access.{without_name}
use Rattle.nqs_rules.specs.Conf.{no_host_cause, at_most, is_conf_within, create_causes, conf_causes, dest_list, with_dest, without_dest}
use Rattle.nqs_rules.specs.Conf.{with_dest_first, created_dests, add_queue, conf_applied, conf_edited, has_full_dests, lists_dest}
use Rattle.nqs_rules.specs.Limits.{is_limits_within, limits_causes, limits_applied, limits_edited, complex_edited, new_complex}
use Rattle.nqs_rules.specs.InOrder.{IsInOrder, is_dest_right}
use Rattle.nqs_rules.proofs.Sublists.{filter_part, without_part, part_length, part_all}
use Rattle.nqs_rules.proofs.ListFacts.{position_at}
use Rattle.nqs_rules.proofs.KeyFacts.{all-added, place_below, length_without}
use Rattle.nqs_rules.proofs.StateFacts.{IsParameters, parameters_are}
use Rattle.nqs_rules.proofs.RowKinds.{rows_purged}
use Rattle.nqs_rules.proofs.QueuesOrder.{queue_is, queue_right, queue_changed, queue_added, queue_deleted}
use Rattle.nqs_rules.proofs.DevicesOrder.{complex_changed, complex_added, complex_deleted, with_parameters}

-- what isn't refused

abbrev pub Allows : List Cause → Type 0
Allows cs = is_ok (first_refusal cs) ≡ true

abbrev pub NoneHolds : List Cause → Type 0
NoneHolds [] = Unit {0}
NoneHolds (c ∷ cs) = (c.holds ≡ false) × NoneHolds cs

pub none_holds : (cs : List Cause) → Allows cs → NoneHolds cs
none_holds [] h = tt
none_holds (c ∷ cs) h = by c.holds h (none_holds cs)
  where
    by : (b : Bool) → is_ok (if b then Err c.refusal else first_refusal cs) ≡ true → (Allows cs → NoneHolds cs) → (b ≡ false) × NoneHolds cs
    by true h rest = absurd (true≢false (sym h))
    by false h rest = (refl, rest h)

pub causes_behind : (cs ds : List Cause) → Allows (cs ++ ds) → Allows cs × Allows ds
causes_behind [] ds h = (refl, h)
causes_behind (c ∷ cs) ds h = by c.holds h (causes_behind cs ds)
  where
    by : (b : Bool) → is_ok (if b then Err c.refusal else first_refusal (cs ++ ds)) ≡ true → (Allows (cs ++ ds) → Allows cs × Allows ds)
        → (is_ok (if b then Err c.refusal else first_refusal cs) ≡ true) × Allows ds
    by true h rest = absurd (true≢false (sym h))
    by false h rest = rest h

-- a value that is stated within the limit, or the one that stands for it
stated : (limit n : ℕ) (o : Option ℕ) → nat_le n limit ≡ true → at_most limit o ≡ true → nat_le (unwrap_or o n) limit ≡ true
stated limit n None default within = default
stated limit n (Some m) default within = within

module _ {E : Type 0} (s : State E) where
  -- the destination that is typed so is of the site

  meant_right : (d : NamedDest) → list_all (is_dest_right s) (dest_list (meant_dest d s)) ≡ true
  meant_right d = by (position (name_eq d.host) s.site) refl
    where
      by : (o : Option ℕ) → position (name_eq d.host) s.site ≡ o → list_all (is_dest_right s) (dest_list (dest_of d.queue (option_map host_at o))) ≡ true
      by None e = refl
      by (Some n) e = let p = position_at (name_eq d.host) s.site n e in and_from (nat_lt n (length s.site)) true
          (lt-ltb n (length s.site) (place_below s.site n p.value p.at)) refl

  created_right : (o : Option NamedDest) → (list_all (is_dest_right s) (created_dests o s) ≡ true) × (nat_le (length (created_dests o s)) 16 ≡ true)
  created_right None = (refl, refl)
  created_right (Some d) = (meant_right d, one (meant_dest d s))
    where
      one : (o : Option Dest) → nat_le (length (dest_list o)) 16 ≡ true
      one None = refl
      one (Some x) = refl

  module _ (h : IsInOrder s) where
    created : (q : List ℕ) (kind : Kind) (priority run_limit : Option ℕ) (pipe_only : Bool) (dests : List Dest) → at_most 63 priority ≡ true
        → at_most 10000 run_limit ≡ true → list_all (is_dest_right s) dests ≡ true → nat_le (length dests) 16 ≡ true → Allows (create_causes q s)
        → IsInOrder (add_queue (new_queue q kind priority run_limit pipe_only dests) s)
    created q kind priority run_limit pipe_only dests low few there short fit =
        let causes = none_holds (create_causes q s) fit in
        let full : nat_le 256 (length s.queues) ≡ false = causes.1.0 in
        let below = leb-false 256 (length s.queues) full in
        queue_added s (new_queue q kind priority run_limit pipe_only dests) h
        (queue_right s (new_queue q kind priority run_limit pipe_only dests)
        (record {
          priority = stated 63 31 priority refl low;
          run_limit = stated 10000 1 run_limit refl few;
          user_limit = refl;
          access = refl;
          few_dests =
              short;
          dests = there;
          few_devices = refl;
          devices = refl;
          once = refl;
        }))
        causes.0 (lt-ltb (length s.queues) 256 (omega (arith, below)))

    params : IsParameters s
    params = parameters_are s h.parameters

    pub conf_order : (e : ConfEdit) → is_conf_within e ≡ true → Allows (conf_causes e s) → IsInOrder (conf_applied e s)
    conf_order (CreateBatchQueue q priority run_limit pipe_only) sane fit = let p = and_parts (at_most 63 priority) (at_most 10000 run_limit) sane in
        created q Batch priority run_limit pipe_only [] p.0 p.1 refl refl fit
    conf_order (CreateDeviceQueue q priority run_limit pipe_only) sane fit = let p = and_parts (at_most 63 priority) (at_most 10000 run_limit) sane in
        created q Device priority run_limit pipe_only [] p.0 p.1 refl refl fit
    conf_order (CreatePipeQueue q priority run_limit pipe_only None) sane fit = let p = and_parts (at_most 63 priority) (at_most 10000 run_limit) sane in
        created q Pipe priority run_limit pipe_only [] p.0 p.1 refl refl fit
    conf_order (CreatePipeQueue q priority run_limit pipe_only (Some d)) sane fit =
        let p = and_parts (at_most 63 priority) (at_most 10000 run_limit) sane in
        let there = created_right (Some d) in
        created q Pipe priority run_limit pipe_only (created_dests (Some d) s) p.0 p.1 there.0 there.1
        (causes_behind (no_host_cause d.host s ∷ []) (create_causes q s) fit).1
    conf_order (DeleteQueue q) sane fit = queue_deleted s q h (none_holds (conf_causes (DeleteQueue q) s) fit).1.0
    conf_order (EnableQueue q) sane fit = queue_changed s q (conf_edited (EnableQueue q)) h (λ d. refl) (λ d found k. k)
    conf_order (DisableQueue q) sane fit = queue_changed s q (conf_edited (DisableQueue q)) h (λ d. refl) (λ d found k. k)
    conf_order (StartQueue q) sane fit = queue_changed s q (conf_edited (StartQueue q)) h (λ d. refl) (λ d found k. k)
    conf_order (StopQueue q) sane fit = queue_changed s q (conf_edited (StopQueue q)) h (λ d. refl) (λ d found k. k)
    conf_order (PurgeQueue q) sane fit = rows_purged s q h
    conf_order (SetPriority n q) sane fit = queue_changed s q (conf_edited (SetPriority n q)) h (λ d. refl) (λ d found k. let p = queue_is s d k in
        queue_right s (conf_edited (SetPriority n q) d) (record {
          priority = sane;
          run_limit = p.run_limit;
          user_limit = p.user_limit;
          access =
              p.access;
          few_dests = p.few_dests;
          dests = p.dests;
          few_devices = p.few_devices;
          devices = p.devices;
          once = p.once;
        }))
    conf_order (SetRunLimit n q) sane fit = queue_changed s q (conf_edited (SetRunLimit n q)) h (λ d. refl) (λ d found k. let p = queue_is s d k in
        queue_right s (conf_edited (SetRunLimit n q) d) (record {
          priority = p.priority;
          run_limit = sane;
          user_limit = p.user_limit;
          access =
              p.access;
          few_dests = p.few_dests;
          dests = p.dests;
          few_devices = p.few_devices;
          devices = p.devices;
          once = p.once;
        }))
    conf_order (AddDestination d q) sane fit =
        let full : passes has_full_dests (find_queue q s) ≡ false = (none_holds (conf_causes (AddDestination d q) s) fit).1.1.1.1.0 in
        added (meant_dest d s) (meant_right d) full
      where
        added : (o : Option Dest) → list_all (is_dest_right s) (dest_list o) ≡ true → passes has_full_dests (find_queue q s) ≡ false
            → IsInOrder (change_queue q (with_dest o) s)
        added None there full = queue_changed s q (with_dest None) h (λ d. refl) (λ d found k. k)
        added (Some x) there full = queue_changed s q (with_dest (Some x)) h (λ d. refl) (λ d found k.
            let p = queue_is s d k in
            let room : nat_le 16 (length d.dests) ≡ false = ap (passes has_full_dests) (sym found) ∙ full in
            let below = leb-false 16 (length d.dests) room in
            let grown : length (d.dests ++ x ∷ []) ≡ length d.dests + length (x ∷ []) = length-append d.dests (x ∷ []) in
            let one : length (x ∷ []) ≡ 1 = refl in
            queue_right s (with_dest (Some x) d) (record {
              priority = p.priority;
              run_limit = p.run_limit;
              user_limit = p.user_limit;
              access = p.access;
              few_dests = le-leb (length (d.dests ++ x ∷ [])) 16 (omega (arith, grown, one, below));
              dests = all-added (is_dest_right s) d.dests x p.dests (and_parts (is_dest_right s x) true there).0;
              few_devices = p.few_devices;
              devices = p.devices;
              once = p.once;
            }))
    conf_order (RemoveDestination d q) sane fit = removed (meant_dest d s)
      where
        removed : (o : Option Dest) → IsInOrder (change_queue q (without_dest o) s)
        removed None = queue_changed s q (without_dest None) h (λ d. refl) (λ d found k. k)
        removed (Some x) = queue_changed s q (without_dest (Some x)) h (λ d. refl) (λ d found k.
            let p = queue_is s d k in
            let part = filter_part (λ other. not (same_dest x other)) d.dests in
            let fewer = part_length part in
            let few = leb-true (length d.dests) 16 p.few_dests in
            queue_right s (without_dest (Some x) d) (record {
              priority = p.priority;
              run_limit = p.run_limit;
              user_limit = p.user_limit;
              access = p.access;
              few_dests = le-leb (length (filter (λ other. not (same_dest x other)) d.dests)) 16 (omega (arith, fewer, few));
              dests = part_all (is_dest_right s) part p.dests;
              few_devices = p.few_devices;
              devices = p.devices;
              once = p.once;
            }))
    conf_order (FirstDestination d q) sane fit =
        put_first (meant_dest d s) (meant_right d) (not-false (passes (lists_dest (meant_dest d s)) (find_queue q s))
        (none_holds (conf_causes (FirstDestination d q) s) fit).1.1.0)
      where
        put_first : (o : Option Dest) → list_all (is_dest_right s) (dest_list o) ≡ true → passes (lists_dest o) (find_queue q s) ≡ true
            → IsInOrder (change_queue q (with_dest_first o) s)
        put_first None there listed = queue_changed s q (with_dest_first None) h (λ d. refl) (λ d found k. k)
        put_first (Some x) there listed = queue_changed s q (with_dest_first (Some x)) h (λ d. refl) (λ d found k.
            let p = queue_is s d k in
            let as_many = length_without (same_dest x) d.dests (ap (passes (lists_dest (Some x))) (sym found) ∙ listed) in
            let few = leb-true (length d.dests) 16 p.few_dests in
            queue_right s (with_dest_first (Some x) d) (record {
              priority = p.priority;
              run_limit = p.run_limit;
              user_limit = p.user_limit;
              access = p.access;
              few_dests = le-leb (length (x ∷ without_first (same_dest x) d.dests)) 16 (omega (arith, as_many, few));
              dests = and_from (is_dest_right s x) (list_all (is_dest_right s) (without_first (same_dest x) d.dests))
                  (and_parts (is_dest_right s x) true there).0
                  (part_all (is_dest_right s) (without_part (same_dest x) d.dests) p.dests);
              few_devices = p.few_devices;
              devices = p.devices;
              once = p.once;
            }))
    conf_order (SetDefaultQueue q) sane fit = with_parameters s (Some q) s.global_limit s.patience s.retry_wait h
        (not-false (has_queue q s) (none_holds (conf_causes (SetDefaultQueue q) s) fit).0) params.limit params.patience params.wait
    conf_order SetNoDefaultQueue sane fit = with_parameters s None s.global_limit s.patience s.retry_wait h refl params.limit params.patience params.wait
    conf_order (SetPatience n) sane fit = with_parameters s s.default_queue s.global_limit n s.retry_wait h params.queue params.limit sane params.wait
    conf_order (SetRetryWait n) sane fit = with_parameters s s.default_queue s.global_limit s.patience n h params.queue params.limit params.patience sane

    pub limits_order : (e : LimitsEdit) → is_limits_within e ≡ true → Allows (limits_causes e s) → IsInOrder (limits_applied e s)
    limits_order (SetUserLimit n q) sane fit = queue_changed s q (limits_edited (SetUserLimit n q)) h (λ d. refl) (λ d found k. let p = queue_is s d k in
        queue_right s (limits_edited (SetUserLimit n q) d) (record {
          priority = p.priority;
          run_limit = p.run_limit;
          user_limit = sane;
          access =
              p.access;
          few_dests = p.few_dests;
          dests = p.dests;
          few_devices = p.few_devices;
          devices = p.devices;
          once = p.once;
        }))
    limits_order (SetCpuLimit n q) sane fit = queue_changed s q (limits_edited (SetCpuLimit n q)) h (λ d. refl) (λ d found k. k)
    limits_order (SetMemoryLimit n q) sane fit = queue_changed s q (limits_edited (SetMemoryLimit n q)) h (λ d. refl) (λ d found k. k)
    limits_order (CreateComplex c) sane fit =
        let causes = none_holds (limits_causes (CreateComplex c) s) fit in
        let room : nat_le 64 (length s.complexes) ≡ false = causes.1.0 in
        let below = leb-false 64 (length s.complexes) room in
        complex_added s (new_complex c) h refl causes.0 (lt-ltb (length s.complexes) 64 (omega (arith, below)))
    limits_order (DeleteComplex c) sane fit = complex_deleted s c h
    limits_order (AddQueue q c) sane fit =
        let there : has_queue q s ≡ true = not-false (has_queue q s) (none_holds (limits_causes (AddQueue q c) s) fit).1.0 in
        complex_changed s c (complex_edited (AddQueue q c)) h (λ d. refl) (λ d k.
        let p = and_parts (nat_le d.limit 10000) (list_all (λ n. has_queue n s) d.queues) k in
        and_from (nat_le d.limit 10000) (list_all (λ n. has_queue n s) (d.queues ++ q ∷ [])) p.0 (all-added (λ n. has_queue n s) d.queues q p.1 there))
    limits_order (RemoveQueue q c) sane fit = complex_changed s c (complex_edited (RemoveQueue q c)) h (λ d. refl) (λ d k.
        let p = and_parts (nat_le d.limit 10000) (list_all (λ n. has_queue n s) d.queues) k in
        and_from (nat_le d.limit 10000) (list_all (λ n. has_queue n s) (without_name q d.queues)) p.0
        (part_all (λ n. has_queue n s) (filter_part (λ n. not (name_eq q n)) d.queues) p.1))
    limits_order (SetComplexLimit n c) sane fit = complex_changed s c (complex_edited (SetComplexLimit n c)) h (λ d. refl) (λ d k.
        let p = and_parts (nat_le d.limit 10000) (list_all (λ q. has_queue q s) d.queues) k in
        and_from (nat_le n 10000) (list_all (λ q. has_queue q s) d.queues) sane p.1)
    limits_order (SetGlobalLimit n) sane fit = with_parameters s s.default_queue n s.patience s.retry_wait h params.queue sane params.patience params.wait
