use Rattle.std.proofs.Common.{◌≡◌, ◌∙◌, inl, true, false, refl, sym}
use Rattle.nqs_types.specs.declared.world.Which.TheVariants.{Root, First, Second, Spool}
use Rattle.nqs_store.proofs.EachDisk.{each_disk}
use Rattle.nqs_store.proofs.Opening.{one_same, each_reads}
use Rattle.nqs_store.proofs.Asking.{asks_root}
use Rattle.nqs_store.proofs.LoadEnds.{loads_end}
use Rattle.nqs_store.proofs.store.Store.load.Goals as goal

pub open_second-requires : goal.open_second-requires
open_second-requires g c = λ told. (c.requires told Second, c.requires told Spool)

pub open_first-requires : goal.open_first-requires
open_first-requires g c = λ told. (c.requires told First, c.requires told Spool)

pub returns-in_default : goal.returns-in_default
returns-in_default g c = record {
  tells = λ told. tt;
  active = λ told. tt;
  sound = tt;
  extents = tt;
  running = tt;
  fault = λ told. inl (inl refl);
  failed =
      λ which is.
      let at : which ≡ Root = cc in
      rw (at) c.in_default.ensures.failed;
  told = λ told host is. tt;
  never = λ told plain is which place no. let never : ⊥ = cc in never;
  reads =
      each_reads _ _ _
      (each_disk _ c.in_default.ensures.reads (one_same _ _ _ refl) (one_same _ _ _ refl) (one_same _ _ _ refl));
  asks = asks_root g.D.Disk _ _ _ c.in_default.ensures.once refl refl refl;
}

pub returns-then-on_second : goal.returns-then-on_second
returns-then-on_second g c =
    loads_end g.D.Disk c.args.disks _ c.in-Ok.ensures.reads true c.open_second.result (λ told. sym c.if-on_second.true ∙ c.in-Ok.ensures.names told)
    c.in-Ok.ensures.once c.requires c.open_second.ensures

pub returns-else-on_second : goal.returns-else-on_second
returns-else-on_second g c =
    loads_end g.D.Disk c.args.disks _ c.in-Ok.ensures.reads false c.open_first.result (λ told. sym c.if-on_second.false ∙ c.in-Ok.ensures.names told)
    c.in-Ok.ensures.once c.requires c.open_first.ensures
