-- Disks of which only the first was written to, and then synced, have nothing pending.
use Rattle.std.proofs.Common.{◌≡◌, [], refl, sym, subst}
use Rattle.nqs_types.specs.declared.world.Which.{Which}
use Rattle.nqs_types.specs.declared.world.Which.TheVariants.{Root, First, Second, Spool}
use Rattle.nqs_outside.specs.History.{History, IsQuiet}
use Rattle.nqs_store.specs.Disks.{disk_at}
use Rattle.nqs_store.specs.declared.disks.Disks.{Disks}

-- an empty disk before any call
abbrev pub unused : History
unused = record { start = []; calls = [] }

module _ {D : Type 0} (history : D → History) where
  -- a disk that was left alone
  left : (old new : D) → history old ≡ unused → new ≡ old → IsQuiet (history new)
  left old new is same = subst (λ d. IsQuiet (history d)) (sym same) (subst IsQuiet (sym is) refl)

  -- the first one was synced, and the others were left alone
  pub all_quiet : (old new : Disks D) → ((which : Which) → history (disk_at which old) ≡ unused) → IsQuiet (history new.first)
      → new.root ≡ old.root → new.second ≡ old.second → new.spool ≡ old.spool → (which : Which) → IsQuiet (history (disk_at which new))
  all_quiet old new is first root second spool Root = left old.root new.root (is Root) root
  all_quiet old new is first root second spool First = first
  all_quiet old new is first root second spool Second = left old.second new.second (is Second) second
  all_quiet old new is first root second spool Spool = left old.spool new.spool (is Spool) spool
