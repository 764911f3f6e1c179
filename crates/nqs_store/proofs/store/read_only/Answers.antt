use Rattle.std.proofs.Common.{◌≡◌, inl, inr, true, false, refl, sym, ◌∙◌}
use Rattle.nqs_types.specs.declared.world.Which.TheVariants.{Root}
use Rattle.nqs_store.specs.Disks.{histories_of, contents}
use Rattle.nqs_store.proofs.EachDisk.{each_disk}
use Rattle.nqs_store.proofs.Asking.{asks_root, asks_each, asks_named}
use Rattle.nqs_store.proofs.Opening.{one_same, each_reads}
use Rattle.nqs_store.proofs.ReadEnds.{told_end, fault_end, host_end, never_end}
use Rattle.nqs_store.proofs.store.read_only.Goals as goal

pub returns-in_default-clause-fault : goal.returns-in_default-clause-fault
returns-in_default-clause-fault g c = λ told. inl (inl refl)

pub returns-in_default-clause-failed : goal.returns-in_default-clause-failed
returns-in_default-clause-failed g c = λ which is.
    let at : which ≡ Root = cc in
    rw (at) c.in_default.ensures.failed

pub returns-in_default-clause-never : goal.returns-in_default-clause-never
returns-in_default-clause-never g c = λ told plain tells which place is. let no : ⊥ = cc in no

pub returns-in_default-clause-reads : goal.returns-in_default-clause-reads
returns-in_default-clause-reads g c = each_reads _ _ _
    (each_disk _ c.in_default.ensures.reads (one_same _ _ _ refl) (one_same _ _ _ refl) (one_same _ _ _ refl))

pub returns-then-second-clause-told : goal.returns-then-second-clause-told
returns-then-second-clause-told g c = λ told.
    told_end (contents (histories_of g.D.Disk.history c.args.disks.now)) true (sym c.if-second.true ∙ c.in-Ok.ensures.names told)
    c.read_host.result (c.read_host.ensures.found told)

pub returns-then-second-clause-sound : goal.returns-then-second-clause-sound
returns-then-second-clause-sound g c = c.read_host.ensures.sound

pub returns-then-second-clause-extents : goal.returns-then-second-clause-extents
returns-then-second-clause-extents g c = c.read_host.ensures.extents

pub returns-then-second-clause-fault : goal.returns-then-second-clause-fault
returns-then-second-clause-fault g c = λ told.
    fault_end (contents (histories_of g.D.Disk.history c.args.disks.now)) true (sym c.if-second.true ∙ c.in-Ok.ensures.names told)
    c.read_host.result (c.read_host.ensures.fault told)

pub returns-then-second-clause-failed : goal.returns-then-second-clause-failed
returns-then-second-clause-failed g c = λ which is. elim (c.read_host.ensures.failed which is) [
  | inl at ↦ rw (at.0) at.1
  | inr at ↦ rw (at.0) at.1
]

pub returns-then-second-clause-host : goal.returns-then-second-clause-host
returns-then-second-clause-host g c = λ told host is.
    host_end (contents (histories_of g.D.Disk.history c.args.disks.now)) true (sym c.if-second.true ∙ c.in-Ok.ensures.names told)
    c.read_host.result (c.read_host.ensures.found told) host is

pub returns-then-second-clause-never : goal.returns-then-second-clause-never
returns-then-second-clause-never g c = λ told plain tells which place is.
    never_end (contents (histories_of g.D.Disk.history c.args.disks.now)) true (sym c.if-second.true ∙ c.in-Ok.ensures.names told)
    c.read_host.result (c.read_host.ensures.fault told) tells.host tells.is which place is

pub returns-then-second-clause-reads : goal.returns-then-second-clause-reads
returns-then-second-clause-reads g c =
    each_reads _ _ _ (each_disk _ c.in-Ok.ensures.reads (one_same _ _ _ refl) c.read_host.ensures.active c.read_host.ensures.spool)

pub returns-else-second-clause-told : goal.returns-else-second-clause-told
returns-else-second-clause-told g c = λ told.
    told_end (contents (histories_of g.D.Disk.history c.args.disks.now)) false (sym c.if-second.false ∙ c.in-Ok.ensures.names told)
    c.read_host-else-second.result (c.read_host-else-second.ensures.found told)

pub returns-else-second-clause-sound : goal.returns-else-second-clause-sound
returns-else-second-clause-sound g c = c.read_host-else-second.ensures.sound

pub returns-else-second-clause-extents : goal.returns-else-second-clause-extents
returns-else-second-clause-extents g c = c.read_host-else-second.ensures.extents

pub returns-else-second-clause-fault : goal.returns-else-second-clause-fault
returns-else-second-clause-fault g c = λ told.
    fault_end (contents (histories_of g.D.Disk.history c.args.disks.now)) false (sym c.if-second.false ∙ c.in-Ok.ensures.names told)
    c.read_host-else-second.result (c.read_host-else-second.ensures.fault told)

pub returns-else-second-clause-failed : goal.returns-else-second-clause-failed
returns-else-second-clause-failed g c = λ which is. elim (c.read_host-else-second.ensures.failed which is) [
  | inl at ↦ rw (at.0) at.1
  | inr at ↦ rw (at.0) at.1
]

pub returns-else-second-clause-host : goal.returns-else-second-clause-host
returns-else-second-clause-host g c = λ told host is.
    host_end (contents (histories_of g.D.Disk.history c.args.disks.now)) false (sym c.if-second.false ∙ c.in-Ok.ensures.names told)
    c.read_host-else-second.result (c.read_host-else-second.ensures.found told) host is

pub returns-else-second-clause-never : goal.returns-else-second-clause-never
returns-else-second-clause-never g c = λ told plain tells which place is.
    never_end (contents (histories_of g.D.Disk.history c.args.disks.now)) false (sym c.if-second.false ∙ c.in-Ok.ensures.names told)
    c.read_host-else-second.result (c.read_host-else-second.ensures.fault told) tells.host tells.is which place is

pub returns-else-second-clause-reads : goal.returns-else-second-clause-reads
returns-else-second-clause-reads g c =
    each_reads _ _ _
    (each_disk _ c.in-Ok.ensures.reads c.read_host-else-second.ensures.active (one_same _ _ _ refl) c.read_host-else-second.ensures.spool)

pub returns-in_default-clause-asks : goal.returns-in_default-clause-asks
returns-in_default-clause-asks g c = asks_root g.D.Disk _ _ _ c.in_default.ensures.once refl refl refl

pub returns-then-second-clause-asks : goal.returns-then-second-clause-asks
returns-then-second-clause-asks g c =
    asks_named g.D.Disk _ _ true _ (λ told. sym c.if-second.true ∙ c.in-Ok.ensures.names told)
    (asks_each g.D.Disk _ _ true c.in-Ok.ensures.once c.read_host.ensures.twice refl c.read_host.ensures.once)

pub returns-else-second-clause-asks : goal.returns-else-second-clause-asks
returns-else-second-clause-asks g c =
    asks_named g.D.Disk _ _ false _ (λ told. sym c.if-second.false ∙ c.in-Ok.ensures.names told)
    (asks_each g.D.Disk _ _ false c.in-Ok.ensures.once c.read_host-else-second.ensures.twice refl c.read_host-else-second.ensures.once)
