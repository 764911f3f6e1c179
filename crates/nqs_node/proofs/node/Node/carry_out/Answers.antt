use Rattle.std.proofs.Common.{◌≡◌, ◌⊎◌, ◌++◌, ℕ, IsTrue, Err, length, List, [], Option, option_map, map, refl, sym, ap, subst, ◌∙◌}
use Rattle.std.specs.List.{list_all}
use Rattle.std.proofs.lemmas.List.{map-append}
use Rattle.nqs_state.specs.State.{Plain}
use Rattle.nqs_base.specs.declared.extent.Extent.{Extent}
use Rattle.nqs_types.specs.declared.change.Change.{Change}
use Rattle.nqs_rules.specs.Starts.{after_change}
use Rattle.nqs_store.specs.Stores as store
use Rattle.nqs_store.specs.declared.fault.StoreFault.TheVariants as fault
use Rattle.nqs_back.specs.Bare.{emptied, blank, without_bytes}
use Rattle.nqs_node.specs.Carried.{IsOneOrOther, IsBlown, IsCutBy}
use Rattle.nqs_node.specs.Nodes.{history_of, fails_of, active_of, content_of, bytes_of}
use Rattle.nqs_node.specs.Reading.{read_into, zeros, AreLiveReads, sends_short}
use Rattle.nqs_node.proofs.Carrying.{short_together}
use Rattle.nqs_node.proofs.Places.{no_error, node_memory, node_disk}
use Rattle.nqs_node.proofs.Still.{memory_no_refusal, disk_no_refusal, disk_no_memory, no_refusal, stays_still, stops_still, carries_still}
use Rattle.nqs_node.proofs.Telling.{kept_from, tells_still}
use Rattle.nqs_store.specs.Reads.{of_spool}
use Rattle.nqs_store.proofs.Asking.{asks_same}
use Rattle.nqs_node.proofs.node.Node.carry_out.Goals as goal

pub unreachable-requires : goal.unreachable-requires
unreachable-requires g c = c.in-Err-Stopped.ensures.performs.stopped (ap Err c.in-Err-Stopped.field-0-is)

-- no room for what goes out

pub returns-in-Err-clause-leaves : goal.returns-in-Err-clause-leaves
returns-in-Err-clause-leaves g c = record {
  sound = c.requires.sound;
  site = refl;
  stopped = no_refusal c.args.self.now c.requires.running (memory_no_refusal _);
  refused = λ is. absurd (memory_no_refusal _ is);
  stops = stops_still c.args.self.now _ (node_memory _);
  unsaid = c.in-Err.ensures.items;
  memory = λ yes is. stays_still c.args.self.now;
  unmade = refl;
}

pub returns-in-Err-clause-carries : goal.returns-in-Err-clause-carries
returns-in-Err-clause-carries g c = record {
  bare = tt;
  alike = tt;
  short = λ done does was went. tt;
  carries = λ done does. carries_still c.args.self.now _ (node_memory _) _ _ done;
}

-- memory was wanting

pub returns-in-Err-Memory-clause-leaves : goal.returns-in-Err-Memory-clause-leaves
returns-in-Err-Memory-clause-leaves g c =
    let performs = c.in-Err-Memory.ensures.performs in
    let is = ap Err c.in-Err-Memory.field-0-is in
    record {
      sound = performs.sound;
      site = performs.site;
      stopped = no_refusal c.args.self.now c.requires.running (memory_no_refusal _);
      refused = λ is. absurd (memory_no_refusal _ is);
      stops = record { running = tt; broken = λ which is. absurd (node_memory _ which is); later = performs.later; fuse = performs.fuse };
      unsaid = c.in-Ok.ensures.items;
      memory = λ yes memory.
          let u = performs.unchanged yes is in
          record {
            state = performs.err;
            running = sym c.requires.running;
            active = (performs.memory is).1;
            same = u.0;
            tells = λ s told. tells_still c.args.self.now s told _ performs.err u.0 u.1 refl;
          };
      unmade = performs.err;
    }

pub returns-in-Err-Memory-clause-carries : goal.returns-in-Err-Memory-clause-carries
returns-in-Err-Memory-clause-carries g c = record {
  bare = tt;
  alike = tt;
  short = λ done does was went. tt;
  carries = λ done does.
      let calls = c.in-Err-Memory.ensures.performs.calls done.change (kept_from _ _ _ _ done.change
      (ap (λ parts. parts.0) c.into_parts-change.ensures) (c.as_slice.ensures ∙ ap (λ parts. parts.1) c.into_parts-change.ensures) does.kept) in
      record {
        told = λ yes s told. tt;
        outputs = λ yes s told. tt;
        made = λ yes. tt;
        active = tt;
        broken_off = calls.broken_off;
        cut = λ yes s told which is. absurd (node_memory _ which is);
        any_moment = λ yes s told.
            subst (λ (p : Plain). IsOneOrOther (active_of c.args.self.now) (history_of c.args.self.now)
            (store.history_of c.perform.new.store) done.change p) told.is
            (calls.any_moment yes told.told);
      };
}

-- a call of a disk failed

pub returns-in-Err-Disk-clause-leaves : goal.returns-in-Err-Disk-clause-leaves
returns-in-Err-Disk-clause-leaves g c =
    let performs = c.in-Err-Disk.ensures.performs in
    record {
      sound = performs.sound;
      site = performs.site;
      stopped = no_refusal c.args.self.now c.requires.running (disk_no_refusal _);
      refused = λ is. absurd (disk_no_refusal _ is);
      stops = record {
        running = tt;
        broken = λ which is. (
          refl,
          performs.broken which (ap Err (c.in-Err-Disk.field-0-is ∙ ap fault.Disk (node_disk c.in-Err-Disk.which which is))),
        );
        later = performs.later;
        fuse = performs.fuse;
      };
      unsaid = c.in-Ok.ensures.items;
      memory = λ yes is. absurd (disk_no_memory _ is);
      unmade = performs.err;
    }

pub returns-in-Err-Disk-clause-carries : goal.returns-in-Err-Disk-clause-carries
returns-in-Err-Disk-clause-carries g c = record {
  bare = tt;
  alike = tt;
  short = λ done does was went. tt;
  carries = λ done does.
      let calls = c.in-Err-Disk.ensures.performs.calls done.change (kept_from _ _ _ _ done.change
      (ap (λ parts. parts.0) c.into_parts-change.ensures) (c.as_slice.ensures ∙ ap (λ parts. parts.1) c.into_parts-change.ensures) does.kept) in
      record {
        told = λ yes s told. tt;
        outputs = λ yes s told. tt;
        made = λ yes. tt;
        active = tt;
        broken_off = calls.broken_off;
        cut = λ yes s told which failed.
            subst (λ (p : Plain). IsTrue (store.is_starved c.perform.new.store which)
            ⊎ (IsBlown (fails_of c.args.self.now which) (history_of c.args.self.now which)
            ⊎ IsCutBy (active_of c.args.self.now) (fails_of c.args.self.now) (history_of c.args.self.now) (store.history_of c.perform.new.store) done.change p
            which)) told.is
            (calls.cut yes told.told which (ap Err (c.in-Err-Disk.field-0-is ∙ ap fault.Disk (node_disk c.in-Err-Disk.which which failed))));
        any_moment = λ yes s told.
            subst (λ (p : Plain). IsOneOrOther (active_of c.args.self.now) (history_of c.args.self.now)
            (store.history_of c.perform.new.store) done.change p) told.is
            (calls.any_moment yes told.told);
      };
}

-- it was carried out

pub returns-clause-leaves : goal.returns-clause-leaves
returns-clause-leaves g c =
    let performs = c.in-Ok-perform.ensures.performs in
    record {
      sound = performs.sound;
      site = performs.site;
      stopped = no_refusal c.args.self.now c.requires.running (no_error _ _);
      refused = λ is. absurd (no_error _ _ is);
      stops = record { running = refl; broken = λ which is. absurd (no_error _ _ is); later = performs.later; fuse = performs.fuse };
      unsaid = tt;
      memory = λ yes is. absurd (no_error _ _ is);
      unmade = tt;
    }

pub returns-clause-carries : goal.returns-clause-carries
returns-clause-carries g c =
    let parts = c.into_parts-change.ensures in
    let reads = c.as_slice-in-Ok.ensures ∙ ap (λ p. p.3) parts in
    let outputs = c.into_vec-outputs.ensures ∙ ap (λ p. p.2) parts in
    let performs = c.in-Ok-perform.ensures.performs in
    let fills = c.in-Ok-perform.ensures.fills in
    let host = content_of c.args.self.now in
    let live = subst (AreLiveReads host) (sym reads) c.requires.may.live in
    let items : c.append.new.self.items ≡ c.args.out.now.items ++ c.perform.new.outputs.items =
    (rw c.unwrap.ensures at c.append.ensures.items) ∙ ap (λ l. l ++ c.perform.new.outputs.items) c.in-Ok.ensures.items in
    let same : (f : Extent → List ℕ) → read_into f c.as_slice-in-Ok.result.now c.into_vec-outputs.result.items
    ≡ read_into f c.args.plan.reads c.args.plan.outputs = λ f j. read_into f (reads j) (outputs j) in
    record {
      bare = performs.bare ∙ ap (λ (o : Option (Change Extent)). after_change (option_map blank o) (emptied host)) (ap (λ p. p.0) parts);
      alike = ap (map without_bytes) items ∙ map-append without_bytes c.args.out.now.items c.perform.new.outputs.items
          ∙ ap (λ l. map without_bytes c.args.out.now.items ++ l) (fills.alike ∙ ap (map without_bytes) outputs);
      short = λ done does was went.
          let said = fills.short (ap (list_all sends_short) (same zeros ∙ does.said) ∙ went) in
          ap (list_all sends_short) items ∙ short_together c.args.out.now.items c.perform.new.outputs.items was said;
      carries = λ done does.
          let calls = performs.calls done.change (kept_from _ _ _ _ done.change
          (ap (λ p. p.0) parts) (c.as_slice.ensures ∙ ap (λ p. p.1) parts) does.kept) in
          record {
            told = λ yes s told. record {
              is = calls.plain yes told.told ∙ ap (after_change done.change) told.is;
              told = performs.told yes told.told;
              running = refl;
            };
            outputs = λ yes s told.
                items ∙ ap (λ l. c.args.out.now.items ++ l) (fills.filled yes host told.told live ∙ same (bytes_of c.args.self.now) ∙ does.said);
            made = calls.made;
            active = calls.active;
            broken_off = λ yes. tt;
            cut = λ yes s told which is. absurd (no_error _ _ is);
            any_moment = λ yes s told.
                subst (λ (p : Plain). IsOneOrOther (active_of c.args.self.now) (history_of c.args.self.now)
                (store.history_of c.perform.new.store) done.change p) told.is
                (calls.any_moment yes told.told);
          };
    }

pub returns-clause-spelled : goal.returns-clause-spelled
returns-clause-spelled g c = λ yes s told kept with.
    let parts = c.into_parts-change.ensures in
    c.in-Ok-perform.ensures.spelled yes told.told kept
    (kept_from _ _ _ _ kept (ap (λ p. p.0) parts) (c.as_slice.ensures ∙ ap (λ p. p.1) parts) with)

-- how often the spool is asked

pub returns-in-Err-clause-asks : goal.returns-in-Err-clause-asks
returns-in-Err-clause-asks g c = asks_same c.args.self.now.store (of_spool (length c.args.plan.reads))

pub returns-in-Err-Memory-clause-asks : goal.returns-in-Err-Memory-clause-asks
returns-in-Err-Memory-clause-asks g c = subst (λ l. store.AsksAtMost c.args.self.now.store c.perform.new.store (of_spool (length l)))
    (c.as_slice-in-Ok.ensures ∙ ap (λ parts. parts.3) c.into_parts-change.ensures) c.perform.ensures.asks

pub returns-in-Err-Disk-clause-asks : goal.returns-in-Err-Disk-clause-asks
returns-in-Err-Disk-clause-asks g c = subst (λ l. store.AsksAtMost c.args.self.now.store c.perform.new.store (of_spool (length l)))
    (c.as_slice-in-Ok.ensures ∙ ap (λ parts. parts.3) c.into_parts-change.ensures) c.perform.ensures.asks

pub returns-clause-asks : goal.returns-clause-asks
returns-clause-asks g c = subst (λ l. store.AsksAtMost c.args.self.now.store c.perform.new.store (of_spool (length l)))
    (c.as_slice-in-Ok.ensures ∙ ap (λ parts. parts.3) c.into_parts-change.ensures) c.perform.ensures.asks
