use Rattle.std.proofs.Common.{refl}
use Rattle.nqs_store.proofs.store.Store.open_first.Goals as goal

pub open_with-requires : goal.open_with-requires
open_with-requires g c = c.requires

pub invariant_of-store : goal.invariant_of-store
invariant_of-store g c = record { running = λ is. c.in-Ok.ensures.running }

pub returns-in-Err : goal.returns-in-Err
returns-in-Err g c = record {
  opened = λ told. tt;
  named = tt;
  running = tt;
  sound = tt;
  extents = tt;
  fault = c.in-Err.ensures.fault;
  failed = c.in-Err.ensures.failed;
  root = refl;
  active = c.in-Err.ensures.active;
  resting = c.in-Err.ensures.resting;
  spool = c.in-Err.ensures.spool;
  twice = c.in-Err.ensures.twice;
  once = c.in-Err.ensures.once;
}

pub returns-in-Ok : goal.returns-in-Ok
returns-in-Ok g c = record {
  opened = c.in-Ok.ensures.opened;
  named = refl;
  running = refl;
  sound = c.in-Ok.ensures.sound;
  extents = c.in-Ok.ensures.extents;
  fault = λ told. tt;
  failed = tt;
  root = refl;
  active = c.in-Ok.ensures.active;
  resting = c.in-Ok.ensures.resting;
  spool = c.in-Ok.ensures.spool;
  twice = c.in-Ok.ensures.twice;
  once = c.in-Ok.ensures.once;
}
