use Rattle.std.proofs.Common.{◌≤◌, ◌⊎◌, inl, inr, ◌++◌, IsTrue, Err, [], Some, refl, sym, ap, subst, ◌∙◌}
use Rattle.std.proofs.Math.Nat.{le_trans}
use Rattle.std.specs.List.{filter_map}
use Rattle.nqs_state.specs.State.{Plain, content}
use Rattle.nqs_types.specs.declared.change.Change.TheVariants.{Boot}
use Rattle.nqs_types.specs.declared.world.Which.{Which}
use Rattle.nqs_types.specs.declared.world.Which.TheVariants.{Spool}
use Rattle.nqs_outside.specs.Causes.{Rose}
use Rattle.nqs_outside.specs.History.{History, content as bytes_now}
use Rattle.nqs_rules.specs.Applied.{applied}
use Rattle.nqs_rules.specs.World.{boot_output}
use Rattle.nqs_store.specs.Active.{ready, recorded}
use Rattle.nqs_store.specs.Disks.{disk_at, histories_of, failing_of}
use Rattle.nqs_store.specs.Stores.{history_of, fails_of, active_of, bytes_of, plain_of}
use Rattle.nqs_node.specs.Carried.{IsBrokenOff, IsCutBy, IsOneOrOther}
use Rattle.nqs_outside.proofs.Roses.{rose_since}
use Rattle.nqs_node.proofs.Performing.{made_since, spelled_since, broken_since, cut_since, moments_since}
use Rattle.nqs_node.proofs.Booting.{boot_kept, told_when_loaded, loaded_is}
use Rattle.nqs_node.proofs.node.Node.boot_loaded.Goals as goal

either : {A B C X Y : Type 0} → (A → X) → (B → Y) → A ⊎ B → X ⊎ (C ⊎ Y)
either f h (inl a) = inl (f a)
either f h (inr b) = inr (inr (h b))

pub returns-in-Err-clause-unbooted : goal.returns-in-Err-clause-unbooted
returns-in-Err-clause-unbooted g c = λ disks loaded. record {
  failed = λ which is.
      subst (λ d. Rose (g.D.Disk.faults (disk_at which disks)) (g.D.Disk.faults d)) (sym (c.close.ensures which))
      (rose_since _ _ _ (loaded.reads.later which) (c.in-Err.ensures.makes.stops.broken which (ap Err is)).1);
  fault = λ yes which place is. absurd (c.in-Err.ensures.only which place (ap Err is));
  never = λ yes s told which place is. c.in-Err.ensures.only which place (ap Err is);
  memory = λ yes is which.
      ap g.D.Disk.history (c.close.ensures which) ∙ ap g.D.Disk.history ((c.in-Err.ensures.makes.memory (ap Err is)).same which)
      ∙ loaded.reads.same yes which;
  broken_off = λ yes a active.
      subst (λ (h : Which → History). IsBrokenOff a (histories_of g.D.Disk.history disks) h (Some Boot))
      (λ j which. g.D.Disk.history (sym (c.close.ensures which) j))
      (broken_since a (active_of c.args.store) (sym (c.one_journal_is_active.ensures _ a (active_of c.args.store) active (loaded.active yes)))
      (failing_of g.D.Disk.fails disks) (fails_of c.args.store) (histories_of g.D.Disk.history disks) (history_of c.args.store)
      (history_of c.begin.new.store)
      (loaded.reads.fuse yes) (loaded.reads.same yes) Boot [] (Some Boot) boot_kept (c.in-Err.ensures.makes.calls.broken_off yes));
  untouched = λ yes none. absurd (none (active_of c.args.store) (loaded.active yes));
  cut = λ yes s is a active which failed.
      either (subst (λ d. IsTrue (g.D.Disk.starved d)) (sym (c.close.ensures which)))
      (λ k. subst (λ (h : Which → History). IsCutBy a (failing_of g.D.Disk.fails disks) (histories_of g.D.Disk.history disks) h
      (Some Boot) s which)
      (λ j which. g.D.Disk.history (sym (c.close.ensures which) j))
      (cut_since a (active_of c.args.store) (sym (c.one_journal_is_active.ensures _ a (active_of c.args.store) active (loaded.active yes)))
      (failing_of g.D.Disk.fails disks) (fails_of c.args.store) (histories_of g.D.Disk.history disks) (history_of c.args.store)
      (history_of c.begin.new.store)
      (loaded.reads.fuse yes) (loaded.reads.same yes) Boot [] (Some Boot) boot_kept
      (plain_of c.args.store (content c.args.state)) s (loaded_is c.args.store (content c.args.state) is.host
      (bytes_now (g.D.Disk.history (disk_at Spool disks))) s (ap bytes_now (loaded.reads.same yes Spool))
      (loaded.told yes is.host is.is) is.bytes) which k))
      (c.in-Err.ensures.makes.calls.cut yes (loaded.tells yes) which (ap Err failed));
  later = λ which.
      subst (λ d. g.D.Disk.faults (disk_at which disks) ≤ g.D.Disk.faults d) (sym (c.close.ensures which))
      (le_trans (loaded.reads.later which) (c.begin.ensures.makes.stops.later which));
  any_moment = λ yes s is a active.
      subst (λ (h : Which → History). IsOneOrOther a (histories_of g.D.Disk.history disks) h (Some Boot) s)
      (λ j which. g.D.Disk.history (sym (c.close.ensures which) j))
      (moments_since a (active_of c.args.store) (sym (c.one_journal_is_active.ensures _ a (active_of c.args.store) active (loaded.active yes)))
      (failing_of g.D.Disk.fails disks) (fails_of c.args.store) (histories_of g.D.Disk.history disks) (history_of c.args.store)
      (history_of c.begin.new.store)
      (loaded.reads.fuse yes) (loaded.reads.same yes) Boot [] (Some Boot) boot_kept
      (plain_of c.args.store (content c.args.state)) s (loaded_is c.args.store (content c.args.state) is.host
      (bytes_now (g.D.Disk.history (disk_at Spool disks))) s (ap bytes_now (loaded.reads.same yes Spool))
      (loaded.told yes is.host is.is) is.bytes)
      (c.begin.ensures.makes.calls.any_moment yes (loaded.tells yes)));
}

pub returns-in-Ok-clause-booted : goal.returns-in-Ok-clause-booted
returns-in-Ok-clause-booted g c = λ disks loaded. record {
  sound = c.in-Ok.ensures.makes.sound;
  running = refl;
  one = λ yes. (
    plain_of c.args.store (content c.args.state),
    told_when_loaded disks c.args.store c.args.state yes loaded,
    record {
      is = c.in-Ok.ensures.makes.plain yes (loaded.tells yes);
      told = c.in-Ok.ensures.makes.told yes (loaded.tells yes);
      running = refl;
    },
  );
  told = λ yes s is. record {
    is = c.in-Ok.ensures.makes.plain yes (loaded.tells yes) ∙ ap (applied Boot)
        (loaded_is c.args.store (content c.args.state) is.host (bytes_now (g.D.Disk.history (disk_at Spool disks))) s
        (ap bytes_now (loaded.reads.same yes Spool)) (loaded.told yes is.host is.is) is.bytes);
    told = c.in-Ok.ensures.makes.told yes (loaded.tells yes);
    running = refl;
  };
  made = λ yes a active.
      made_since a (active_of c.args.store) (sym (c.one_journal_is_active.ensures _ a (active_of c.args.store) active (loaded.active yes)))
      (failing_of g.D.Disk.fails disks) (fails_of c.args.store) (histories_of g.D.Disk.history disks) (history_of c.args.store)
      (history_of c.begin.new.store)
      (loaded.reads.fuse yes) (loaded.reads.same yes) Boot [] (Some Boot) boot_kept (c.in-Ok.ensures.makes.calls.made yes);
  spelled = λ yes a active.
      spelled_since a (active_of c.args.store) (sym (c.one_journal_is_active.ensures _ a (active_of c.args.store) active (loaded.active yes)))
      (failing_of g.D.Disk.fails disks) (fails_of c.args.store) (histories_of g.D.Disk.history disks) (history_of c.args.store)
      (history_of c.begin.new.store)
      (loaded.reads.fuse yes) (loaded.reads.same yes) Boot [] (Some Boot) boot_kept (c.in-Ok.ensures.spelled yes (loaded.tells yes));
  active = λ yes a active.
      c.in-Ok.ensures.makes.active ∙ ap (λ x. recorded (ready x))
      (sym (c.one_journal_is_active.ensures _ a (active_of c.args.store) active (loaded.active yes)));
  fuse = λ yes which i. c.begin.ensures.makes.stops.fuse yes which i ∙ loaded.reads.fuse yes which i;
  later = λ which. le_trans (loaded.reads.later which) (c.begin.ensures.makes.stops.later which);
  any_moment = λ yes s is a active.
      moments_since a (active_of c.args.store) (sym (c.one_journal_is_active.ensures _ a (active_of c.args.store) active (loaded.active yes)))
      (failing_of g.D.Disk.fails disks) (fails_of c.args.store) (histories_of g.D.Disk.history disks) (history_of c.args.store)
      (history_of c.begin.new.store)
      (loaded.reads.fuse yes) (loaded.reads.same yes) Boot [] (Some Boot) boot_kept
      (plain_of c.args.store (content c.args.state)) s (loaded_is c.args.store (content c.args.state) is.host
      (bytes_now (g.D.Disk.history (disk_at Spool disks))) s (ap bytes_now (loaded.reads.same yes Spool))
      (loaded.told yes is.host is.is) is.bytes)
      (c.begin.ensures.makes.calls.any_moment yes (loaded.tells yes));
}

pub returns-in-Ok-clause-outputs : goal.returns-in-Ok-clause-outputs
returns-in-Ok-clause-outputs g c = λ yes disks loaded s is.
    c.in-Ok.ensures.outputs (bytes_of c.args.store) ∙ ap (λ (p : Plain). c.args.out.now.items ++ filter_map boot_output p.rows)
    (loaded_is c.args.store (content c.args.state) is.host (bytes_now (g.D.Disk.history (disk_at Spool disks))) s
    (ap bytes_now (loaded.reads.same yes Spool)) (loaded.told yes is.host is.is) is.bytes)

pub returns-in-Err-clause-unread : goal.returns-in-Err-clause-unread
returns-in-Err-clause-unread g c = λ yes which. ap g.D.Disk.reads (c.close.ensures which) ∙ c.begin.ensures.unread yes which

pub returns-in-Ok-clause-unread : goal.returns-in-Ok-clause-unread
returns-in-Ok-clause-unread g c = c.begin.ensures.unread
