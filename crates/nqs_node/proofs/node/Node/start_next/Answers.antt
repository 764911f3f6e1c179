use Rattle.std.proofs.Common.{◌++◌, IsTrue, length, IfSome, List, [], ℕ, is_some, map, refl, sym, ap, subst, ◌∙◌, le_refl}
use Rattle.std.proofs.lemmas.List.{append-nil}
use Rattle.nqs_rules.specs.Fits.{fits}
use Rattle.nqs_rules.specs.Sane.{is_sane_change, is_short_change}
use Rattle.nqs_rules.specs.Starts.{after_step}
use Rattle.nqs_rules.specs.Stepped.{Stepped, map_stepped, shown}
use Rattle.nqs_host_laws.specs.Offers.{takes_back_few}
use Rattle.nqs_host_laws.specs.Reads.{AreLive}
use Rattle.nqs_node.specs.Carried.{started, after_kept, IsMade, IsSpelled}
use Rattle.nqs_node.specs.Nodes.{history_of, fails_of, active_of, content_of, bytes_of, Tells, AsksAtMost}
use Rattle.nqs_node.specs.Reading.{zeros, AreShort, reads_for}
use Rattle.nqs_back.proofs.Plans.{bare_step, alike_step, fewer_left, one_back}
use Rattle.nqs_node.proofs.Bare.{picked_bare, started_bare, started_filled, bare_none, alike_none}
use Rattle.nqs_store.specs.declared.fault.StoreFault.TheVariants as fault
use Rattle.nqs_node.proofs.Places.{no_error, node_memory, node_stopped}
use Rattle.nqs_node.proofs.Still.{no_refusal, takes_still, refuses_still, wants_still, carries_true, leaves_true}
use Rattle.nqs_node.proofs.Planning.{next_is, at_next, none_next, may_be_done, does}
use Rattle.nqs_node.proofs.Resting.{none_found}
use Rattle.nqs_node.proofs.Telling.{tells_still, one_still, does_next, quiet_next}
use Rattle.nqs_types.specs.declared.event.Plan.{Plan}
use Rattle.nqs_store.specs.Reads.{of_spool}
use Rattle.nqs_store.proofs.Asking.{asks_same}
use Rattle.nqs_node.proofs.Asking.{plan_reads}
use Rattle.nqs_node.proofs.node.Node.start_next.Goals as goal

pub carry_out-requires-clause-may : goal.carry_out-requires-clause-may
carry_out-requires-clause-may g c =
    let now = c.args.now in
    let host = content_of c.args.self.now in
    let order = c.requires.sound.order in
    let plan = c.in-Ok-Some.plan in
    let next = next_is now host plan (sym c.in-Ok-Some.field-0-is ∙ c.in-Ok-Some.ensures) in
    may_be_done next.done plan next.is host
    (at_next (λ x. IfSome x.change (λ c. IsTrue (fits c host) × IsTrue (is_sane_change c))) now host plan next (c.start_fits.ensures now host order))
    (at_next (λ x. IfSome x.change (λ c. IsTrue (takes_back_few c))) now host plan next (c.few_offers_are_taken_back.ensures.start now host order))
    (at_next (λ x. IfSome x.change (λ c. IsTrue (is_short_change length c))) now host plan next (c.stored_bytes_are_short.ensures.start now host order))
    (at_next (λ x. AreLive host x.outputs) now host plan next (c.outputs_read_live_extents.ensures.start now host order))

pub returns-then-self-clause-leaves : goal.returns-then-self-clause-leaves
returns-then-self-clause-leaves g c = refuses_still c.args.self.now c.requires.sound c.args.out.now c.if-self.true

pub returns-then-self-clause-takes : goal.returns-then-self-clause-takes
returns-then-self-clause-takes g c = takes_still c.args.self.now fault.Stopped node_stopped _ _ (started c.args.now)

pub returns-in-Err-clause-leaves : goal.returns-in-Err-clause-leaves
returns-in-Err-clause-leaves g c = wants_still c.args.self.now c.requires.sound c.args.out.now c.if-self.false c.in-Err.memory

pub returns-in-Err-clause-takes : goal.returns-in-Err-clause-takes
returns-in-Err-clause-takes g c = takes_still c.args.self.now _ (node_memory c.in-Err.memory) _ _ (started c.args.now)

pub returns-in-Ok-None-clause-leaves : goal.returns-in-Ok-None-clause-leaves
returns-in-Ok-None-clause-leaves g c = record {
  sound = c.requires.sound;
  site = refl;
  stopped = no_refusal c.args.self.now c.if-self.false (no_error _ _);
  refused = λ is. absurd (no_error _ _ is);
  stops = record {
    running = c.if-self.false;
    broken = λ which is. absurd (no_error _ _ is);
    later = λ which. le_refl _;
    fuse = λ yes which i. refl;
  };
  unsaid = tt;
  memory = λ yes is. absurd (no_error _ _ is);
  unmade = tt;
}

pub returns-in-Ok-None-clause-takes : goal.returns-in-Ok-None-clause-takes
returns-in-Ok-None-clause-takes g c =
    let old = c.args.self.now in
    let host = content_of old in
    let none = none_next c.args.now host (sym c.in-Ok-None.field-0-is ∙ c.in-Ok-None.ensures) in
    let same = c.start_looks_at_no_bytes.ensures.start (λ _. []) c.args.now host in
    record {
      bare = bare_none c.args.now host same none;
      alike = alike_none c.args.now host same none c.args.out.now.items;
      short = λ was went. was;
      carries = λ s told.
          let still = quiet_next old s told c.args.now (c.start_looks_at_no_bytes.ensures.start (bytes_of old) c.args.now host) none in
          record {
            told = λ yes t tells. tells_still old (after_step (started c.args.now s) t) (subst (λ (x : Stepped (List ℕ)). Tells old (after_step x t))
                (sym still) tells) _ refl (λ which. refl) (λ host keeps. keeps) tells.running;
            outputs = λ yes t tells.
                sym (append-nil c.args.out.now.items) ∙ ap (λ (x : Stepped (List ℕ)). c.args.out.now.items ++ map shown x.outputs) (sym still);
            made = λ yes. subst (λ (x : Stepped (List ℕ)). IsMade (active_of old) (fails_of old) (history_of old) (history_of old) x.change) (sym still)
                (λ which. refl);
            active = ap (λ (x : Stepped (List ℕ)). after_kept x.change (active_of old)) (sym still);
            broken_off = λ yes. tt;
            cut = λ yes t tells which is. absurd (no_error _ _ is);
            any_moment = λ yes t tells. one_still old t tells yes (started c.args.now s).change;
          };
    }

pub returns-in-Err-carry_out-clause-leaves : goal.returns-in-Err-carry_out-clause-leaves
returns-in-Err-carry_out-clause-leaves g c = c.in-Err-carry_out.ensures.leaves

pub returns-in-Err-carry_out-clause-takes : goal.returns-in-Err-carry_out-clause-takes
returns-in-Err-carry_out-clause-takes g c =
    let old = c.args.self.now in
    let host = content_of old in
    let next = next_is c.args.now host c.in-Ok-Some.plan (sym c.in-Ok-Some.field-0-is ∙ c.in-Ok-Some.ensures) in
    record {
      bare = tt;
      alike = tt;
      short = λ was went. tt;
      carries = λ s told.
          c.in-Err-carry_out.ensures.carries.carries (started c.args.now s) (does_next old s told c.args.now
          (c.start_looks_at_no_bytes.ensures.start (bytes_of old) c.args.now host) c.in-Ok-Some.plan next);
    }

pub returns-in-Ok-clause-leaves : goal.returns-in-Ok-clause-leaves
returns-in-Ok-clause-leaves g c = leaves_true c.args.self.now _ _ _ c.in-Ok.ensures.leaves

pub returns-in-Ok-clause-takes : goal.returns-in-Ok-clause-takes
returns-in-Ok-clause-takes g c =
    let old = c.args.self.now in
    let host = content_of old in
    let now = c.args.now in
    let plan = c.in-Ok-Some.plan in
    let next = next_is now host plan (sym c.in-Ok-Some.field-0-is ∙ c.in-Ok-Some.ensures) in
    let same = started_bare now host (c.start_looks_at_no_bytes.ensures.start (λ _. []) now host) next.done next.picked in
    let carried = c.in-Ok.ensures.carries in
    record {
      bare = bare_step host (content_of c.carry_out.new.self) (started now) next.done plan next.is same carried.bare;
      alike = alike_step host (started now) next.done plan next.is same c.args.out.now.items c.carry_out.new.out.items carried.alike;
      short = λ was went.
          carried.short (map_stepped zeros next.done) (does next.done plan next.is zeros) was
          (subst (λ (x : Stepped (List ℕ)). AreShort (map shown x.outputs))
          (started_filled now host zeros (c.start_looks_at_no_bytes.ensures.start zeros now host) next.done next.picked) went);
      carries = λ s told.
          carries_true old _ _ _ (started now s) (carried.carries (started now s) (does_next old s told now
          (c.start_looks_at_no_bytes.ensures.start (bytes_of old) now host) plan next));
    }

pub returns-in-Ok-None-clause-spelled : goal.returns-in-Ok-None-clause-spelled
returns-in-Ok-None-clause-spelled g c = λ yes s told.
    let old = c.args.self.now in
    let host = content_of old in
    let none = none_next c.args.now host (sym c.in-Ok-None.field-0-is ∙ c.in-Ok-None.ensures) in
    let still = quiet_next old s told c.args.now (c.start_looks_at_no_bytes.ensures.start (bytes_of old) c.args.now host) none in
    subst (λ (x : Stepped (List ℕ)). IsSpelled (active_of old) (history_of old) (history_of old) x.change) (sym still) (λ which. refl)

pub returns-in-Ok-clause-spelled : goal.returns-in-Ok-clause-spelled
returns-in-Ok-clause-spelled g c = λ yes s told.
    let old = c.args.self.now in
    let host = content_of old in
    let plan = c.in-Ok-Some.plan in
    let next = next_is c.args.now host plan (sym c.in-Ok-Some.field-0-is ∙ c.in-Ok-Some.ensures) in
    let did = does_next old s told c.args.now (c.start_looks_at_no_bytes.ensures.start (bytes_of old) c.args.now host) plan next in
    c.in-Ok.ensures.spelled yes s told (started c.args.now s).change did.kept

pub invariant_of-self : goal.invariant_of-self
invariant_of-self g c =
    record {
      running = c.args.self.now.running;
      rests = none_found c.args.now (content_of c.args.self.now)
          (none_next c.args.now (content_of c.args.self.now) (sym c.in-Ok-None.field-0-is ∙ c.in-Ok-None.ensures));
    }

pub returns-in-Ok-None-clause-more : goal.returns-in-Ok-None-clause-more
returns-in-Ok-None-clause-more g c = sym (ap is_some (none_next c.args.now (content_of c.args.self.now) (sym c.in-Ok-None.field-0-is ∙ c.in-Ok-None.ensures)))

pub returns-in-Ok-clause-more : goal.returns-in-Ok-clause-more
returns-in-Ok-clause-more g c = sym (ap is_some (next_is c.args.now (content_of c.args.self.now) c.in-Ok-Some.plan
    (sym c.in-Ok-Some.field-0-is ∙ c.in-Ok-Some.ensures)).picked)

pub returns-in-Ok-clause-fewer : goal.returns-in-Ok-clause-fewer
returns-in-Ok-clause-fewer g c = λ more.
    let next = next_is c.args.now (content_of c.args.self.now) c.in-Ok-Some.plan (sym c.in-Ok-Some.field-0-is ∙ c.in-Ok-Some.ensures) in
    fewer_left (content_of c.args.self.now) (content_of c.carry_out.new.self) c.args.now (map_stepped (λ _. []) next.done) c.requires.sound.order
    (picked_bare c.args.now (content_of c.args.self.now) (c.start_looks_at_no_bytes.ensures.start (λ _. []) c.args.now
    (content_of c.args.self.now)) next.done next.picked)
    (bare_step (content_of c.args.self.now) (content_of c.carry_out.new.self)
    (λ _. map_stepped (λ _. []) next.done) next.done c.in-Ok-Some.plan next.is refl c.in-Ok.ensures.carries.bare)

pub returns-in-Ok-clause-one_back : goal.returns-in-Ok-clause-one_back
returns-in-Ok-clause-one_back g c =
    let next = next_is c.args.now (content_of c.args.self.now) c.in-Ok-Some.plan (sym c.in-Ok-Some.field-0-is ∙ c.in-Ok-Some.ensures) in
    one_back (content_of c.args.self.now) (content_of c.carry_out.new.self) c.args.now (map_stepped (λ _. []) next.done)
    (picked_bare c.args.now (content_of c.args.self.now) (c.start_looks_at_no_bytes.ensures.start (λ _. []) c.args.now
    (content_of c.args.self.now)) next.done next.picked) c.args.out.now.items c.carry_out.new.out.items
    (alike_step (content_of c.args.self.now) (λ _. map_stepped (λ _. []) next.done) next.done c.in-Ok-Some.plan next.is refl c.args.out.now.items
    c.carry_out.new.out.items c.in-Ok.ensures.carries.alike)

pub returns-in-Err-carry_out-clause-due : goal.returns-in-Err-carry_out-clause-due
returns-in-Err-carry_out-clause-due g c = λ which is.
    ap is_some (next_is c.args.now (content_of c.args.self.now) c.in-Ok-Some.plan (sym c.in-Ok-Some.field-0-is ∙ c.in-Ok-Some.ensures)).picked

pub returns-then-self-clause-asks : goal.returns-then-self-clause-asks
returns-then-self-clause-asks g c = asks_same c.args.self.now.store _

pub returns-in-Err-clause-asks : goal.returns-in-Err-clause-asks
returns-in-Err-clause-asks g c = asks_same c.args.self.now.store _

pub returns-in-Ok-None-clause-asks : goal.returns-in-Ok-None-clause-asks
returns-in-Ok-None-clause-asks g c = asks_same c.args.self.now.store _

pub returns-in-Err-carry_out-clause-asks : goal.returns-in-Err-carry_out-clause-asks
returns-in-Err-carry_out-clause-asks g c =
    let now = c.args.now in
    let host = content_of c.args.self.now in
    let next = next_is now host c.in-Ok-Some.plan (sym c.in-Ok-Some.field-0-is ∙ c.in-Ok-Some.ensures) in
    let same = started_bare now host (c.start_looks_at_no_bytes.ensures.start (λ _. []) now host) next.done next.picked in
    subst (λ (n : ℕ). AsksAtMost c.args.self.now c.carry_out.new.self (of_spool n))
    (ap (λ (p : Plan). length p.reads) next.is ∙ plan_reads (λ _. []) next.done ∙ ap (λ (x : Stepped (List ℕ)). reads_for x.outputs) (sym same))
    c.carry_out.ensures.asks

pub returns-in-Ok-clause-asks : goal.returns-in-Ok-clause-asks
returns-in-Ok-clause-asks g c =
    let now = c.args.now in
    let host = content_of c.args.self.now in
    let next = next_is now host c.in-Ok-Some.plan (sym c.in-Ok-Some.field-0-is ∙ c.in-Ok-Some.ensures) in
    let same = started_bare now host (c.start_looks_at_no_bytes.ensures.start (λ _. []) now host) next.done next.picked in
    subst (λ (n : ℕ). AsksAtMost c.args.self.now c.carry_out.new.self (of_spool n))
    (ap (λ (p : Plan). length p.reads) next.is ∙ plan_reads (λ _. []) next.done ∙ ap (λ (x : Stepped (List ℕ)). reads_for x.outputs) (sym same))
    c.carry_out.ensures.asks
