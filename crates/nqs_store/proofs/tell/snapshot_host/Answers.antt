use Rattle.std.proofs.Common.{sym, refl}
use Rattle.nqs_store.proofs.tell.snapshot_host.Goals as goal

pub returns-in-Ok : goal.returns-in-Ok
returns-in-Ok c = record {
  ok = (
    sym (c.in-Ok.ensures.answer refl),
    record { order = c.in-Ok.ensures.order; consistent = c.in-Ok.ensures.consistent; short = c.in-Ok.ensures.short },
  );
  err = tt;
}
