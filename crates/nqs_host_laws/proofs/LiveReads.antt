-- What goes out reads live extents: a step hands stored parts on and makes none, so it does the
-- same where each part carries the proof that it lives.
use Rattle.std.proofs.Common.{◌≡◌, inl, inr, ℕ, List, [], ◌∷◌, ◌++◌, map, Option, None, Some, option_map, refl, sym, ap, subst, ◌∙◌}
use Rattle.std.specs.Option.{IfSome}
use Rattle.nqs_state.specs.State.{State}
use Rattle.nqs_base.specs.declared.extent.Extent.{Extent}
use Rattle.nqs_types.specs.declared.event.Event.{Event}
use Rattle.nqs_types.specs.declared.request.Row.{Row}
use Rattle.nqs_types.specs.declared.request.Promise.{Promise}
use Rattle.nqs_types.specs.declared.request.Stage.{Stage}
use Rattle.nqs_types.specs.declared.request.FileOut.{FileOut}
use Rattle.nqs_rules.specs.Plain.{map_row, map_promise, map_stage, map_file, map_state}
use Rattle.nqs_rules.specs.Start.{start}
use Rattle.nqs_rules.specs.Step.{step}
use Rattle.nqs_rules.specs.Stepped.{Stepped, Pending, map_pending, map_stepped}
use Rattle.nqs_rules.proofs.StepPlain.{step-map}
use Rattle.nqs_rules.proofs.StartPlain.{start-map}
use Rattle.nqs_spool.specs.Extents.{Has}
use Rattle.nqs_spool.proofs.Lists.{has_left, has_right}
use Rattle.nqs_store.specs.Told.{Host}
use Rattle.nqs_store.specs.Live.{row_part, promise_part, stage_part, file_part, output_parts, live}
use Rattle.nqs_host_laws.specs.Reads.{IsLive, AreLive}

module _ (host : Host) where
  -- a live extent of the host
  record Living : Type 0 where
    pub extent : Extent
    pub lives : Has (live host) extent

  abbrev extent_of : Living → Extent
  extent_of l = l.extent

  module _ {A B : Type 0} (part : A → Extent) (lift : (a : A) → Has (live host) (part a) → B) (back : B → A)
      (same : (a : A) (h : Has (live host) (part a)) → back (lift a h) ≡ a) where
    -- each part that lives carries that
    abbrev lifted : (parts : List A) → ((x : Extent) → Has (map part parts) x → Has (live host) x) → List B
    lifted [] inside = []
    lifted (a ∷ parts) inside = lift a (inside (part a) (inl refl)) ∷ lifted parts (λ x h. inside x (inr h))

    lifted_back : (parts : List A) (inside : (x : Extent) → Has (map part parts) x → Has (live host) x) → map back (lifted parts inside) ≡ parts
    lifted_back [] inside = refl
    lifted_back (a ∷ parts) inside = (λ j. same a (inside (part a) (inl refl)) j ∷ lifted_back parts (λ x h. inside x (inr h)) j)

  in_rows : (x : Extent) → Has (map row_part host.rows) x → Has (live host) x
  in_rows x h = has_left (map row_part host.rows) (map promise_part host.promises ++ output_parts host) x h

  in_promises : (x : Extent) → Has (map promise_part host.promises) x → Has (live host) x
  in_promises x h = has_right (map row_part host.rows) (map promise_part host.promises ++ output_parts host) x
      (has_left (map promise_part host.promises) (output_parts host) x h)

  in_outputs : (x : Extent) → Has (output_parts host) x → Has (live host) x
  in_outputs x h = has_right (map row_part host.rows) (map promise_part host.promises ++ output_parts host) x
      (has_right (map promise_part host.promises) (output_parts host) x h)

  in_stages : (x : Extent) → Has (map stage_part host.stages) x → Has (live host) x
  in_stages x h = in_outputs x (has_left (map stage_part host.stages) (map file_part host.files) x h)

  in_files : (x : Extent) → Has (map file_part host.files) x → Has (live host) x
  in_files x h = in_outputs x (has_right (map stage_part host.stages) (map file_part host.files) x h)

  abbrev as_living : (x : Extent) → Has (live host) x → Extent → Living
  as_living x h _ = record { extent = x; lives = h }

  abbrev living_row : (r : Row Extent) → Has (live host) (row_part r) → Row Living
  living_row r h = map_row (as_living (row_part r) h) r

  abbrev living_promise : (p : Promise Extent) → Has (live host) (promise_part p) → Promise Living
  living_promise p h = map_promise (as_living (promise_part p) h) p

  abbrev living_stage : (t : Stage Extent) → Has (live host) (stage_part t) → Stage Living
  living_stage t h = map_stage (as_living (stage_part t) h) t

  abbrev living_file : (f : FileOut Extent) → Has (live host) (file_part f) → FileOut Living
  living_file f h = map_file (as_living (file_part f) h) f

  -- the host, where each stored part carries that it lives
  abbrev living : State Living
  living = record {
    me = host.me;
    site = host.site;
    queues = host.queues;
    complexes = host.complexes;
    devices = host.devices;
    rows = lifted row_part living_row (map_row extent_of) (λ r h. refl) host.rows in_rows;
    hands = host.hands;
    promises = lifted promise_part living_promise (map_promise extent_of) (λ p h. refl) host.promises in_promises;
    peers = host.peers;
    stages = lifted stage_part living_stage (map_stage extent_of) (λ t h. refl) host.stages in_stages;
    files = lifted file_part living_file (map_file extent_of) (λ f h. refl) host.files in_files;
    managers = host.managers;
    operators = host.operators;
    default_queue = host.default_queue;
    global_limit = host.global_limit;
    patience = host.patience;
    retry_wait = host.retry_wait;
    seq = host.seq;
    arrivals = host.arrivals;
    file_next = host.file_next;
  }

  living_is : map_state extent_of living ≡ host
  living_is = (λ j. record host {
    rows = lifted_back row_part living_row (map_row extent_of) (λ r h. refl) host.rows in_rows j;
    promises = lifted_back promise_part living_promise (map_promise extent_of) (λ p h. refl) host.promises in_promises j;
    stages = lifted_back stage_part living_stage (map_stage extent_of) (λ t h. refl) host.stages in_stages j;
    files = lifted_back file_part living_file (map_file extent_of) (λ f h. refl) host.files in_files j;
  })

  read_live : (outputs : List (Pending Living)) → AreLive host (map (map_pending extent_of) outputs)
  read_live [] = tt
  read_live (p ∷ ps) = (at p.1, read_live ps)
    where
      at : (o : Option Living) → IsLive host (option_map extent_of o)
      at None = tt
      at (Some l) = l.lives

  -- a step's outputs
  pub step_reads : (e : Event) → AreLive host (step e host).outputs
  step_reads e = subst (λ d. AreLive host d.outputs) (sym (step-map extent_of e living) ∙ ap (step e) living_is) (read_live (step e living).outputs)

  -- a start's outputs
  pub start_reads : (now : ℕ) → IfSome (start now host) (λ x. AreLive host x.outputs)
  start_reads now = subst (λ o. IfSome o (λ x. AreLive host x.outputs)) (sym (start-map extent_of now living) ∙ ap (start now) living_is)
      (by (start now living))
    where
      by : (o : Option (Stepped Living)) → IfSome (option_map (map_stepped extent_of) o) (λ x. AreLive host x.outputs)
      by None = tt
      by (Some x) = read_live x.outputs
