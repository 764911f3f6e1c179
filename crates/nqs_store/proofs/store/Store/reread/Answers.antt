use Rattle.std.proofs.Common.{◌≡◌, inl, inr, true, false, refl, sym, ◌∙◌}
use Rattle.nqs_types.specs.declared.world.Which.TheVariants.{Root}
use Rattle.nqs_store.specs.Disks.{contents}
use Rattle.nqs_store.specs.Stores.{history_of}
use Rattle.nqs_store.proofs.EachDisk.{each_disk}
use Rattle.nqs_store.proofs.Asking.{asks_root, asks_each, asks_named}
use Rattle.nqs_store.proofs.Opening.{one_same, each_reads, tells_read}
use Rattle.nqs_store.proofs.ReadEnds.{told_end, fault_end, host_end, never_end}
use Rattle.nqs_store.proofs.Rereading.{either_one, first_runs, second_runs, active_again, tells_again}
use Rattle.nqs_store.proofs.store.Store.reread.Goals as goal

pub invariant_of-self : goal.invariant_of-self
invariant_of-self g c = record { running = c.args.self.now.running }

pub invariant_of-self-then-second : goal.invariant_of-self-then-second
invariant_of-self-then-second g c =
    let store = c.args.self.now in
    record {
      running = second_runs store.on_second store.stopped store.first store.second c.reread_host.new.journal c.reread_host.ensures.stays.0 store.running;
    }

pub invariant_of-self-else-second : goal.invariant_of-self-else-second
invariant_of-self-else-second g c =
    let store = c.args.self.now in
    let read = c.reread_host-else-second in
    record { running = first_runs store.on_second store.stopped store.first store.second read.new.journal read.ensures.stays.0 store.running }

pub returns-in_default : goal.returns-in_default
returns-in_default g c = record {
  found = λ told. tt;
  fault = λ told. inl (inl refl);
  told = λ told host is. tt;
  sound = tt;
  extents = tt;
  never = λ told host tells which place is. let no : ⊥ = cc in no;
  failed =
      λ which is.
      let at : which ≡ Root = cc in
      rw (at) c.in_default.ensures.failed;
  reads =
      each_reads _ _ _
      (each_disk _ c.in_default.ensures.reads (one_same _ _ _ refl) (one_same _ _ _ refl) (one_same _ _ _ refl));
  asks = asks_root g.D.Disk _ _ _ c.in_default.ensures.once refl refl refl;
  stays = (refl, refl);
  tells =
      λ told.
      let store = c.args.self.now in
      tells_again store c.names_second.new.root store.first store.second store.spool _ (each_disk _ (c.in_default.ensures.reads.same told) refl refl refl)
      (λ b front payloads is. is) (λ b. refl) (λ b. refl) (λ live is. is);
}

pub returns-then-second : goal.returns-then-second
returns-then-second g c = record {
  found =
      λ told.
      told_end (contents (history_of c.args.self.now)) true (sym c.if-second.true ∙ c.in-Ok.ensures.names told)
      c.reread_host.result (c.reread_host.ensures.host.found told);
  fault =
      λ told.
      fault_end (contents (history_of c.args.self.now)) true (sym c.if-second.true ∙ c.in-Ok.ensures.names told)
      c.reread_host.result (c.reread_host.ensures.host.fault told);
  told =
      λ told host tells.
      host_end (contents (history_of c.args.self.now)) true (sym c.if-second.true ∙ c.in-Ok.ensures.names told)
      c.reread_host.result (c.reread_host.ensures.host.found told) host (tells_read c.args.self.now host told tells);
  sound = c.reread_host.ensures.host.sound;
  extents = c.reread_host.ensures.host.extents;
  never =
      λ told host tells which place is.
      never_end (contents (history_of c.args.self.now)) true (sym c.if-second.true ∙ c.in-Ok.ensures.names told)
      c.reread_host.result (c.reread_host.ensures.host.fault told) host (tells_read c.args.self.now host told tells) which place is;
  failed =
      λ which is. elim (c.reread_host.ensures.host.failed which is) [
        | inl at ↦ rw (at.0) at.1
        | inr at ↦ rw (at.0) at.1
      ];
  reads =
      each_reads _ _ _
      (each_disk _ c.in-Ok.ensures.reads (one_same _ _ _ refl) c.reread_host.ensures.host.active c.reread_host.ensures.host.spool);
  asks =
      asks_named g.D.Disk _ _ true _ (λ told. sym c.if-second.true ∙ c.in-Ok.ensures.names told)
      (asks_each g.D.Disk _ _ true c.in-Ok.ensures.once c.reread_host.ensures.host.twice refl c.reread_host.ensures.host.once);
  stays = (
    refl,
    active_again c.args.self.now c.args.self.now.first c.reread_host.new.journal (either_one _ refl c.reread_host.ensures.stays.1)
        (either_one _ refl c.reread_host.ensures.stays.2),
  );
  tells =
      λ told.
      tells_again c.args.self.now c.names_second.new.root c.args.self.now.first c.reread_host.new.journal c.reread_host.new.spool _
      (each_disk _ (c.in-Ok.ensures.reads.same told) refl (c.reread_host.ensures.host.active.same told) (c.reread_host.ensures.host.spool.same told))
      (either_one _ (λ front payloads is. is) (c.reread_host.ensures.tells told)) (either_one _ refl c.reread_host.ensures.stays.1)
      (either_one _ refl c.reread_host.ensures.stays.2) c.reread_host.ensures.kept;
}

pub returns-else-second : goal.returns-else-second
returns-else-second g c = record {
  found =
      λ told.
      told_end (contents (history_of c.args.self.now)) false (sym c.if-second.false ∙ c.in-Ok.ensures.names told)
      c.reread_host-else-second.result (c.reread_host-else-second.ensures.host.found told);
  fault =
      λ told.
      fault_end (contents (history_of c.args.self.now)) false (sym c.if-second.false ∙ c.in-Ok.ensures.names told)
      c.reread_host-else-second.result (c.reread_host-else-second.ensures.host.fault told);
  told =
      λ told host tells.
      host_end (contents (history_of c.args.self.now)) false (sym c.if-second.false ∙ c.in-Ok.ensures.names told)
      c.reread_host-else-second.result (c.reread_host-else-second.ensures.host.found told) host (tells_read c.args.self.now host told tells);
  sound = c.reread_host-else-second.ensures.host.sound;
  extents = c.reread_host-else-second.ensures.host.extents;
  never =
      λ told host tells which place is.
      never_end (contents (history_of c.args.self.now)) false (sym c.if-second.false ∙ c.in-Ok.ensures.names told)
      c.reread_host-else-second.result (c.reread_host-else-second.ensures.host.fault told) host (tells_read c.args.self.now host told tells) which place is;
  failed =
      λ which is. elim (c.reread_host-else-second.ensures.host.failed which is) [
        | inl at ↦ rw (at.0) at.1
        | inr at ↦ rw (at.0) at.1
      ];
  reads =
      each_reads _ _ _
      (each_disk _ c.in-Ok.ensures.reads c.reread_host-else-second.ensures.host.active (one_same _ _ _ refl)
      c.reread_host-else-second.ensures.host.spool);
  asks =
      asks_named g.D.Disk _ _ false _ (λ told. sym c.if-second.false ∙ c.in-Ok.ensures.names told)
      (asks_each g.D.Disk _ _ false c.in-Ok.ensures.once c.reread_host-else-second.ensures.host.twice refl c.reread_host-else-second.ensures.host.once);
  stays = (
    refl,
    active_again c.args.self.now c.reread_host-else-second.new.journal c.args.self.now.second (either_one _ c.reread_host-else-second.ensures.stays.1 refl)
        (either_one _ c.reread_host-else-second.ensures.stays.2 refl),
  );
  tells =
      λ told.
      tells_again c.args.self.now c.names_second.new.root c.reread_host-else-second.new.journal c.args.self.now.second c.reread_host-else-second.new.spool _
      (each_disk _ (c.in-Ok.ensures.reads.same told) (c.reread_host-else-second.ensures.host.active.same told) refl
      (c.reread_host-else-second.ensures.host.spool.same told))
      (either_one _ (c.reread_host-else-second.ensures.tells told) (λ front payloads is. is)) (either_one _ c.reread_host-else-second.ensures.stays.1 refl)
      (either_one _ c.reread_host-else-second.ensures.stays.2 refl) c.reread_host-else-second.ensures.kept;
}
