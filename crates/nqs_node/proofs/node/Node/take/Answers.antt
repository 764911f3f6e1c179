use Rattle.std.proofs.Common.{◌≡◌, ℕ, List, [], map, length, sym, ap, subst, ◌∙◌}
use Rattle.std.proofs.lemmas.Result.{on_ok_weaker, IfOk-weaker}
use Rattle.nqs_rules.specs.Step.{step}
use Rattle.nqs_rules.specs.Stepped.{Stepped, map_stepped, shown}
use Rattle.nqs_types.specs.declared.event.Plan.{Plan}
use Rattle.nqs_node.specs.Nodes.{content_of, bytes_of, bare, AsksAtMost}
use Rattle.nqs_node.specs.Reading.{zeros, AreShort, reads_for}
use Rattle.nqs_back.proofs.Plans.{bare_step, alike_step, no_more_left, none_back}
use Rattle.nqs_store.specs.declared.fault.StoreFault.TheVariants as fault
use Rattle.nqs_node.proofs.Places.{node_memory, node_stopped}
use Rattle.nqs_node.proofs.Still.{takes_still, refuses_still, wants_still}
use Rattle.nqs_node.proofs.Planning.{may_be_done, does}
use Rattle.nqs_node.proofs.Telling.{done_here}
use Rattle.nqs_store.specs.Reads.{of_spool}
use Rattle.nqs_store.proofs.Asking.{asks_same}
use Rattle.nqs_node.proofs.Asking.{plan_reads}
use Rattle.nqs_node.proofs.node.Node.take.Goals as goal

pub carry_out-requires-clause-may : goal.carry_out-requires-clause-may
carry_out-requires-clause-may g c =
    let e = c.args.event.now in
    let host = content_of c.args.self.now in
    let order = c.requires.sound.order in
    let sane = c.requires.sane in
    may_be_done (step e host) c.in-Ok.plan c.in-Ok.ensures host (c.step_fits.ensures e host order sane)
    (c.few_offers_are_taken_back.ensures.step e host order sane) (c.stored_bytes_are_short.ensures.step e host order sane)
    (c.outputs_read_live_extents.ensures.step e host order)

pub returns-then-self-clause-leaves : goal.returns-then-self-clause-leaves
returns-then-self-clause-leaves g c = refuses_still c.args.self.now c.requires.sound c.args.out.now c.if-self.true

pub returns-then-self-clause-takes : goal.returns-then-self-clause-takes
returns-then-self-clause-takes g c = takes_still c.args.self.now fault.Stopped node_stopped _ _ (step c.args.event.now)

pub returns-in-Err-clause-leaves : goal.returns-in-Err-clause-leaves
returns-in-Err-clause-leaves g c = wants_still c.args.self.now c.requires.sound c.args.out.now c.if-self.false c.in-Err.memory

pub returns-in-Err-clause-takes : goal.returns-in-Err-clause-takes
returns-in-Err-clause-takes g c = takes_still c.args.self.now _ (node_memory c.in-Err.memory) _ _ (step c.args.event.now)

pub returns-in-Ok-clause-leaves : goal.returns-in-Ok-clause-leaves
returns-in-Ok-clause-leaves g c = c.carry_out.ensures.leaves

pub returns-in-Ok-clause-takes : goal.returns-in-Ok-clause-takes
returns-in-Ok-clause-takes g c =
    let old = c.args.self.now in
    let host = content_of old in
    let same = c.step_looks_at_no_bytes.ensures (λ _. []) c.args.event.now host in
    let carried = c.carry_out.ensures.carries in
    record {
      bare = on_ok_weaker c.carry_out.result (bare_step host (content_of c.carry_out.new.self) (step c.args.event.now) (step c.args.event.now host)
          c.in-Ok.plan c.in-Ok.ensures same) carried.bare;
      alike = on_ok_weaker c.carry_out.result (alike_step host (step c.args.event.now) (step c.args.event.now host) c.in-Ok.plan c.in-Ok.ensures same
          c.args.out.now.items c.carry_out.new.out.items) carried.alike;
      short = λ was went.
          carried.short (map_stepped zeros (step c.args.event.now host)) (does (step c.args.event.now host) c.in-Ok.plan c.in-Ok.ensures zeros) was
          (subst (λ (x : Stepped (List ℕ)). AreShort (map shown x.outputs)) (c.step_looks_at_no_bytes.ensures zeros c.args.event.now host) went);
      carries = λ s told.
          carried.carries (step c.args.event.now s) (done_here old s told (step c.args.event.now) (step c.args.event.now host) c.in-Ok.plan c.in-Ok.ensures
          (c.step_looks_at_no_bytes.ensures (bytes_of old) c.args.event.now host));
    }

pub returns-in-Ok-clause-spelled : goal.returns-in-Ok-clause-spelled
returns-in-Ok-clause-spelled g c = λ yes s told.
    let old = c.args.self.now in
    let e = c.args.event.now in
    let did = done_here old s told (step e) (step e (content_of old)) c.in-Ok.plan c.in-Ok.ensures
    (c.step_looks_at_no_bytes.ensures (bytes_of old) e (content_of old)) in
    c.carry_out.ensures.spelled yes s told (step e s).change did.kept

pub returns-in-Ok-clause-halts : goal.returns-in-Ok-clause-halts
returns-in-Ok-clause-halts g c =
    IfOk-weaker c.carry_out.result (λ halts. halts ≡ c.in-Ok.plan.halts) (λ halts. halts ≡ (step c.args.event.now (bare c.args.self.now)).halts)
    (λ halts is. is ∙ ap (λ (p : Plan). p.halts) c.in-Ok.ensures
    ∙ sym (ap (λ (x : Stepped (List ℕ)). x.halts) (c.step_looks_at_no_bytes.ensures (λ _. []) c.args.event.now (content_of c.args.self.now))))
    c.carry_out.ensures.halts

pub returns-in-Ok-clause-no_more : goal.returns-in-Ok-clause-no_more
returns-in-Ok-clause-no_more g c = λ back.
    on_ok_weaker c.carry_out.result (λ made. no_more_left (content_of c.args.self.now) (content_of c.carry_out.new.self) c.args.event.now back
    (bare_step (content_of c.args.self.now) (content_of c.carry_out.new.self) (step c.args.event.now)
    (step c.args.event.now (content_of c.args.self.now)) c.in-Ok.plan c.in-Ok.ensures
    (c.step_looks_at_no_bytes.ensures (λ _. []) c.args.event.now (content_of c.args.self.now)) made)) c.carry_out.ensures.carries.bare

pub returns-in-Ok-clause-none_back : goal.returns-in-Ok-clause-none_back
returns-in-Ok-clause-none_back g c = λ back.
    on_ok_weaker c.carry_out.result (λ said. none_back (content_of c.args.self.now)
    (content_of c.carry_out.new.self) c.args.event.now back c.args.out.now.items c.carry_out.new.out.items
    (alike_step (content_of c.args.self.now) (step c.args.event.now) (step c.args.event.now (content_of c.args.self.now)) c.in-Ok.plan c.in-Ok.ensures
    (c.step_looks_at_no_bytes.ensures (λ _. []) c.args.event.now (content_of c.args.self.now)) c.args.out.now.items c.carry_out.new.out.items said))
    c.carry_out.ensures.carries.alike

pub returns-then-self-clause-asks : goal.returns-then-self-clause-asks
returns-then-self-clause-asks g c = asks_same c.args.self.now.store _

pub returns-in-Err-clause-asks : goal.returns-in-Err-clause-asks
returns-in-Err-clause-asks g c = asks_same c.args.self.now.store _

pub returns-in-Ok-clause-asks : goal.returns-in-Ok-clause-asks
returns-in-Ok-clause-asks g c =
    let e = c.args.event.now in
    let host = content_of c.args.self.now in
    subst (λ (n : ℕ). AsksAtMost c.args.self.now c.carry_out.new.self (of_spool n))
    (ap (λ (p : Plan). length p.reads) c.in-Ok.ensures ∙ plan_reads (λ _. []) (step e host)
    ∙ ap (λ (x : Stepped (List ℕ)). reads_for x.outputs) (sym (c.step_looks_at_no_bytes.ensures (λ _. []) e host))) c.carry_out.ensures.asks
