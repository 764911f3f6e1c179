use Rattle.std.proofs.Common.{◌∙◌, Err, inl, inr, sym, ap, subst}
use Rattle.nqs_types.specs.declared.world.Which.TheVariants.{Root, First, Second, Spool}
use Rattle.nqs_store.specs.Faults.{IsDisk}
use Rattle.nqs_outside.proofs.Roses.{rose_since}
use Rattle.nqs_cli.specs.Formats.{Formats}
use Rattle.nqs_cli.specs.Parts.{disks_told}
use Rattle.nqs_cli.proofs.format.format_empty.Goals as goal

pub returns-in-Err : goal.returns-in-Err
returns-in-Err g c =
    let told = disks_told g.D.Disk in
    subst (Formats g.D.Disk.tells c.args.station.now.me c.args.station.now.names.now (told c.args.disks.now) (told c.have_bytes.new.disks))
    (sym c.in-Err.ensures.only)
    (c.in-Err.ensures.failed, λ yes. let same = c.in-Err.ensures.same yes in (same Root, same Second, same Spool))

pub returns-in-Ok : goal.returns-in-Ok
returns-in-Ok g c = λ yes.
    let same = c.in-Ok-false.ensures.same yes in (
      c.in-Ok-false.ensures.empty yes c.in-Ok-false.field-0-test,
      c.in-Ok.ensures.told yes,
      (
        ap g.D.Disk.history c.in-Ok.ensures.root ∙ same Root,
        ap g.D.Disk.history c.in-Ok.ensures.second
            ∙ same Second,
        ap g.D.Disk.history c.in-Ok.ensures.spool ∙ same Spool,
      ),
    )

pub returns-in-Err-Disk : goal.returns-in-Err-Disk
returns-in-Err-Disk g c =
    let same = c.in-Ok-false.ensures.same in (
      elim c.in-Err-Disk.ensures.only [
        | inl first ↦ (First, rose_since _ _ _ (c.have_bytes.ensures.later First) (c.in-Err-Disk.ensures.failed (ap Err first)))
        | inr memory ↦ absurd (subst IsDisk (sym c.in-Err-Disk.field-0-is ∙ memory) (record {}))
      ],
      λ yes. (
        ap g.D.Disk.history c.format.ensures.root ∙ same yes Root,
        ap g.D.Disk.history c.format.ensures.second
            ∙ same yes Second,
        ap g.D.Disk.history c.format.ensures.spool ∙ same yes Spool,
      ),
    )
