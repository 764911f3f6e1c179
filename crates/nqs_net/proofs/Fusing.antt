-- A disk is given a fuse.
use Rattle.std.proofs.Common.{◌≡◌, ◌≢◌, ℕ, zero, suc, ◌+◌, ◌-◌, ◌<◌, ◌≤◌, nat_le, max, Bool, false, List, [], ◌∷◌, length, get_or, slice_set, Option, None}
use Rattle.std.proofs.Common.{Some, refl, sym, ap, subst, ◌∙◌, arith}
use Rattle.std.proofs.lemmas.Bool.Decides.{nat_tests}
use Rattle.nqs_base.specs.declared.tear.Tear.{Tear}
use Rattle.nqs_types.specs.declared.world.Which.{Which}
use Rattle.nqs_types.specs.declared.world.Which.TheVariants.{Root, First, Second, Spool}
use Rattle.nqs_outside.specs.History.{History, moment}
use Rattle.nqs_rules.specs.Edits.{change_at}
use Rattle.nqs_rules.specs.World.{Host, fused_host, of_disk}
use Rattle.nqs_net.specs.Worlds.{IsFuse, AreInTurn, IsDisk, AreDisks, IsSlot, AreSlots}
use Rattle.nqs_net.specs.declared.slot.Slot.{Slot}

-- no call that was made was to fail
none_blown : (fuse : Option ℕ) (made : ℕ) (fails : ℕ → Bool) → IsFuse fuse made fails → (i : ℕ) → i < made → fails i ≡ false
none_blown None made fails is i below = is i
none_blown (Some left) made fails is i below = is.1 i ∙ (let e : nat_le (made + (left - 1)) i ≡ false = grind (arith, nat_tests) in e)

pub none_failed : (host : Host) (h : Which → History) (fails : Which → ℕ → Bool) → AreDisks host h fails → (which : Which) (i : ℕ) → i < moment (h which)
    → fails which i ≡ false
none_failed host h fails are which = none_blown (of_disk which host.fuses) (moment (h which)) (fails which) (are which).fuse

module _ (left : Option ℕ) (made : ℕ) (h k : History) (fails now : ℕ → Bool) (is : IsDisk left made h fails) (same : k ≡ h) where
  set_disk : (calls : ℕ) → ((i : ℕ) → now i ≡ nat_le (moment h + (max calls 1 - 1)) i) → IsDisk (Some (max calls 1)) made k now
  set_disk calls sets = record {
    fuse = (omega arith, λ i. sets i ∙ ap (λ n. nat_le (n + (max calls 1 - 1)) i) (ap moment (sym same)));
    count = ap moment same ∙ is.count;
    turn = subst (λ (x : History). AreInTurn x.calls) (sym same) is.turn;
  }

  keep_disk : ((i : ℕ) → now i ≡ fails i) → IsDisk left made k now
  keep_disk keeps = record {
    fuse = by left is.fuse;
    count = ap moment same ∙ is.count;
    turn = subst (λ (x : History). AreInTurn x.calls) (sym same) is.turn;
  }
    where
      by : (o : Option ℕ) → IsFuse o (moment h) fails → IsFuse o (moment k) now
      by None f = λ i. keeps i ∙ f i
      by (Some n) f = (f.0, λ i. keeps i ∙ f.1 i ∙ ap (λ m. nat_le (m + (n - 1)) i) (ap moment (sym same)))

module _ (host : Host) (calls : ℕ) (tear : Tear) (h k : Which → History) (fails now : Which → ℕ → Bool) (are : AreDisks host h fails)
    (same : (d : Which) → k d ≡ h d) where
  kept : (d which : Which) → d ≢ which → ((d : Which) → d ≢ which → (i : ℕ) → now d i ≡ fails d i)
      → IsDisk (of_disk d host.fuses) (of_disk d host.calls) (k d) (now d)
  kept d which other keeps = keep_disk (of_disk d host.fuses) (of_disk d host.calls) (h d) (k d) (fails d) (now d) (are d) (same d) (keeps d other)

  put : (d : Which) → ((i : ℕ) → now d i ≡ nat_le (moment (h d) + (max calls 1 - 1)) i) → IsDisk (Some (max calls 1)) (of_disk d host.calls) (k d) (now d)
  put d sets = set_disk (of_disk d host.fuses) (of_disk d host.calls) (h d) (k d) (fails d) (now d) (are d) (same d) calls sets

  pub fused_disks : (which : Which) → ((i : ℕ) → now which i ≡ nat_le (moment (h which) + (max calls 1 - 1)) i)
      → ((d : Which) → d ≢ which → (i : ℕ) → now d i ≡ fails d i) → AreDisks (fused_host which calls tear host) k now
  fused_disks Root sets keeps Root = put Root sets
  fused_disks Root sets keeps First = kept First Root (λ e. cc) keeps
  fused_disks Root sets keeps Second = kept Second Root (λ e. cc) keeps
  fused_disks Root sets keeps Spool = kept Spool Root (λ e. cc) keeps
  fused_disks First sets keeps Root = kept Root First (λ e. cc) keeps
  fused_disks First sets keeps First = put First sets
  fused_disks First sets keeps Second = kept Second First (λ e. cc) keeps
  fused_disks First sets keeps Spool = kept Spool First (λ e. cc) keeps
  fused_disks Second sets keeps Root = kept Root Second (λ e. cc) keeps
  fused_disks Second sets keeps First = kept First Second (λ e. cc) keeps
  fused_disks Second sets keeps Second = put Second sets
  fused_disks Second sets keeps Spool = kept Spool Second (λ e. cc) keeps
  fused_disks Spool sets keeps Root = kept Root Spool (λ e. cc) keeps
  fused_disks Spool sets keeps First = kept First Spool (λ e. cc) keeps
  fused_disks Spool sets keeps Second = kept Second Spool (λ e. cc) keeps
  fused_disks Spool sets keeps Spool = put Spool sets

-- a slot and its tear are changed, as the host is
pub set_slot : (slots : List Slot) (tears : List Tear) (hosts : List Host) (n : ℕ) (o s : Slot) (tear : Tear) (f : Host → Host) → AreSlots slots tears hosts
    → n < length slots
    → o ≡ get_or slots n o → ((host : Host) → IsSlot o host → IsSlot s (f host)) → ((host : Host) → tear ≡ (f host).tear)
    → AreSlots (slice_set slots n s) (slice_set tears n tear) (change_at n f hosts)
set_slot [] tears hosts n o s tear f are within here each same = absurd (omega (arith, within))
set_slot (x ∷ slots) [] hosts n o s tear f are within here each same = absurd are
set_slot (x ∷ slots) (t ∷ tears) [] n o s tear f are within here each same = absurd are
set_slot (x ∷ slots) (t ∷ tears) (host ∷ hosts) zero o s tear f are within here each same =
    (each host (subst (λ y. IsSlot y host) (sym here) are.0), same host, are.2)
set_slot (x ∷ slots) (t ∷ tears) (host ∷ hosts) (suc n) o s tear f are within here each same =
    (are.0, are.1, set_slot slots tears hosts n o s tear f are.2 (omega (arith, within)) here each same)

pub set_past : (slots : List Slot) (tears : List Tear) (hosts : List Host) (n : ℕ) (f : Host → Host) → AreSlots slots tears hosts → length slots ≤ n
    → change_at n f hosts ≡ hosts
set_past [] [] [] n f are past = refl
set_past [] [] (host ∷ hosts) n f are past = absurd are
set_past [] (t ∷ tears) hosts n f are past = absurd are
set_past (x ∷ slots) [] hosts n f are past = absurd are
set_past (x ∷ slots) (t ∷ tears) [] n f are past = absurd are
set_past (x ∷ slots) (t ∷ tears) (host ∷ hosts) zero f are past = absurd (omega (arith, past))
set_past (x ∷ slots) (t ∷ tears) (host ∷ hosts) (suc n) f are past = ap (λ l. host ∷ l) (set_past slots tears hosts n f are.2 (omega (arith, past)))
