use Rattle.std.proofs.Common.{◌≤◌, length, refl}
use Rattle.nqs_outside.specs.History.{content as bytes_now}
use Rattle.nqs_types.specs.declared.world.Which.TheVariants.{Spool}
use Rattle.nqs_spool.specs.Extents.{past}
use Rattle.nqs_spool.proofs.Lists.{all_has}
use Rattle.nqs_store.specs.Live.{live}
use Rattle.nqs_store.specs.Stores.{history_of, bytes_of}
use Rattle.nqs_store.proofs.Asking.{asks_spool, asks_same}
use Rattle.nqs_store.proofs.store.Store.script.Goals as goal

pub returns-in-Ok-clause-bytes : goal.returns-in-Ok-clause-bytes
returns-in-Ok-clause-bytes g c = λ yes host tells has.
    let store = c.args.self.now in
    let extent = c.args.extent.now in
    c.in-Ok.ensures.bytes yes (bytes_of store extent) (record {
      within = all_has (λ x. past x ≤ length (bytes_now (history_of store Spool))) (live host) extent (tells.spool.within yes) has;
      same = refl;
    })

pub returns-then-self-clause-once : goal.returns-then-self-clause-once
returns-then-self-clause-once g c = asks_same c.args.self.now _

pub returns-in-Ok-clause-once : goal.returns-in-Ok-clause-once
returns-in-Ok-clause-once g c = asks_spool c.args.self.now _ 1 refl refl refl c.get.ensures.once

pub returns-in-Err-Memory-clause-once : goal.returns-in-Err-Memory-clause-once
returns-in-Err-Memory-clause-once g c = asks_spool c.args.self.now _ 1 refl refl refl c.get.ensures.once

pub returns-in-Err-clause-once : goal.returns-in-Err-clause-once
returns-in-Err-clause-once g c = asks_spool c.args.self.now _ 1 refl refl refl c.get.ensures.once
