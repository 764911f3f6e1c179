use Rattle.std.proofs.Common.{◌∙◌, Err, refl, sym, ap, subst}
use Rattle.nqs_types.specs.declared.world.Which.TheVariants.{Root, First}
use Rattle.nqs_disk.specs.MemDisk as mem
use Rattle.nqs_rules.specs.Format.{formatted}
use Rattle.nqs_rules.specs.World.{new_host}
use Rattle.nqs_store.specs.Disks.{disk_at, histories_of}
use Rattle.nqs_net.specs.Worlds.{IsUp}
use Rattle.nqs_net.proofs.Founding.{format_starved, formatted_active, formatted_told, formatted_is_active, formatted_quiet, boot_starved, booted}
use Rattle.nqs_net.proofs.new.new_node.Goals as goal

pub unformatted-requires-clause-starved : goal.unformatted-requires-clause-starved
unformatted-requires-clause-starved c = λ which e. (
  First,
  format_starved c.in-Err.fault (mem.fails_of c.empty_disks-disks.result.first) (mem.is_starved c.format.new.disks.first) which
      (c.empty_disks-disks.ensures.fuses First) c.in-Err.ensures.only (λ first. c.in-Err.ensures.cause refl (ap Err first)) e,
)

pub boot-requires : goal.boot-requires
boot-requires c = record {
  quiet = λ yes which. formatted_quiet c.args.me c.args.site.now c.empty_disks-disks.result c.format.new.disks c.empty_disks-disks.ensures.histories
      c.empty_disks-disks.ensures.fuses c.format.ensures.root c.format.ensures.second c.format.ensures.spool
      _ (c.in-Ok.ensures.made refl) (c.format.ensures.fuse refl) (c.in-Ok.ensures.told refl) which;
}

pub unbooted-requires-clause-starved : goal.unbooted-requires-clause-starved
unbooted-requires-clause-starved c = λ which e.
    let me = c.args.me in
    let site = c.args.site.now in
    let disks = c.format.new.disks in
    let empty = ap mem.history_of c.format.ensures.root ∙ c.empty_disks-disks.ensures.histories Root in
    let is = c.in-Ok.ensures.told refl in
    let told = formatted_told me site disks empty is in
    let active = formatted_is_active me site disks empty is in
    let left = c.in-Err-boot.disks in (
      which,
      boot_starved me site c.empty_disks-disks.result disks c.empty_disks-disks.ensures.histories c.empty_disks-disks.ensures.fuses c.format.ensures.root
          c.format.ensures.second c.format.ensures.spool
          _ (c.in-Ok.ensures.made refl) (c.format.ensures.fuse refl) which (histories_of mem.history_of left) (mem.is_starved (disk_at which left))
          (c.in-Err-boot.ensures.unbooted.cut refl (formatted me site) told formatted_active active which e),
    )

pub unbooted-requires-clause-told : goal.unbooted-requires-clause-told
unbooted-requires-clause-told c = λ which place e.
    let me = c.args.me in
    let site = c.args.site.now in
    let empty = ap mem.history_of c.format.ensures.root ∙ c.empty_disks-disks.ensures.histories Root in
    c.in-Err-boot.ensures.unbooted.never refl (formatted me site) (formatted_told me site c.format.new.disks empty (c.in-Ok.ensures.told refl)) which place e

pub returns-clause-up : goal.returns-clause-up
returns-clause-up c =
    let me = c.args.me in
    let site = c.args.site.now in
    let disks = c.format.new.disks in
    let is = c.in-Ok.ensures.told refl in
    let empty = ap mem.history_of c.format.ensures.root ∙ c.empty_disks-disks.ensures.histories Root in
    let told = formatted_told me site disks empty is in
    let active = formatted_is_active me site disks empty is in
    subst (λ n. IsUp n (new_host site me.0)) (sym c.in_ok-new-in-Ok-boot.ensures.ok)
    (booted me site c.empty_disks-disks.result disks c.empty_disks-disks.ensures.histories c.empty_disks-disks.ensures.fuses c.format.ensures.root
    c.format.ensures.second c.format.ensures.spool
    _ (c.in-Ok.ensures.made refl) (c.format.ensures.fuse refl) is c.in-Ok-boot.node (c.in-Ok-boot.ensures.booted.told refl (formatted me site) told)
    c.in-Ok-boot.ensures.booted.sound (c.in-Ok-boot.ensures.booted.active refl formatted_active active)
    (c.in-Ok-boot.ensures.booted.made refl formatted_active active)
    (c.in-Ok-boot.ensures.booted.any_moment refl (formatted me site) told formatted_active active) (c.in-Ok-boot.ensures.booted.fuse refl))
