use Rattle.std.proofs.Common.{inl, inr, Some, sym, subst}
use Rattle.nqs_types.specs.declared.change.Change.TheVariants.{Boot}
use Rattle.nqs_types.specs.declared.world.Which.{Which}
use Rattle.nqs_outside.specs.History.{History}
use Rattle.nqs_store.specs.Disks.{histories_of}
use Rattle.nqs_node.specs.Carried.{IsOneOrOther}
use Rattle.nqs_node.proofs.Performing.{still_broken_off}
use Rattle.nqs_node.proofs.Booting.{quiet_one}
use Rattle.nqs_node.proofs.Asking.{asks_booted}
use Rattle.nqs_node.proofs.node.Node.boot.Goals as goal

pub returns-in-Err-clause-unbooted : goal.returns-in-Err-clause-unbooted
returns-in-Err-clause-unbooted g c = record {
  failed = λ which is. (c.in-Err.ensures.failed which is).rose;
  fault = λ yes which place is. c.in-Err.ensures.fault yes;
  never = c.in-Err.ensures.never;
  memory = λ yes is which. c.in-Err.ensures.reads.same yes which;
  broken_off = λ yes a is. still_broken_off a (histories_of g.D.Disk.history c.args.disks)
      (histories_of g.D.Disk.history c.in-Err.disks)
      (c.in-Err.ensures.reads.same yes) (Some Boot);
  untouched = λ yes none which. c.in-Err.ensures.reads.same yes which;
  cut = λ yes s told a is which failed. inr (inl ((c.in-Err.ensures.failed which failed).blown yes));
  later = λ which. c.in-Err.ensures.reads.later which;
  any_moment = λ yes s told a is.
      let old = histories_of g.D.Disk.history c.args.disks in
      subst (λ (h : Which → History). IsOneOrOther a old h (Some Boot) s) (λ j which. sym (c.in-Err.ensures.reads.same yes which) j)
      (quiet_one a old (c.requires.quiet yes) s told (Some Boot));
}

pub boot_loaded-requires : goal.boot_loaded-requires
boot_loaded-requires g c = record { sound = c.in-Ok.ensures.sound; running = c.in-Ok.ensures.running }

pub returns-in-Ok-clause-outputs : goal.returns-in-Ok-clause-outputs
returns-in-Ok-clause-outputs g c = λ yes. c.boot_loaded.ensures.outputs yes c.args.disks c.in-Ok.ensures

pub returns-in-Ok-clause-booted : goal.returns-in-Ok-clause-booted
returns-in-Ok-clause-booted g c = c.boot_loaded.ensures.booted c.args.disks c.in-Ok.ensures

pub returns-in-Ok-clause-unbooted : goal.returns-in-Ok-clause-unbooted
returns-in-Ok-clause-unbooted g c = c.boot_loaded.ensures.unbooted c.args.disks c.in-Ok.ensures

pub returns-in-Err-clause-asks : goal.returns-in-Err-clause-asks
returns-in-Err-clause-asks g c = c.in-Err.ensures.asks

pub returns-in-Ok-clause-asks : goal.returns-in-Ok-clause-asks
returns-in-Ok-clause-asks g c = asks_booted c.args.disks c.in-Ok.store _ c.boot_loaded.result c.in-Ok.ensures.asks c.boot_loaded.ensures.unread
