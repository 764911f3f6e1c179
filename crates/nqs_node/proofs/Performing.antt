-- What is kept, seen from before the reads that come first.
use Rattle.std.proofs.Common.{◌≡◌, ℕ, Bool, IsTrue, List, Option, option_map, None, Some, sym, ap, subst, ◌∙◌}
use Rattle.nqs_base.specs.Extents.{extent_bytes}
use Rattle.nqs_state.specs.State.{Plain}
use Rattle.nqs_base.specs.declared.extent.Extent.{Extent}
use Rattle.nqs_types.specs.declared.change.Change.{Change}
use Rattle.nqs_types.specs.declared.world.Which.{Which}
use Rattle.nqs_types.specs.declared.world.Which.TheVariants.{Root, First, Second, Spool}
use Rattle.nqs_outside.specs.History.{History, content}
use Rattle.nqs_outside.specs.declared.disk.Disk as disk
use Rattle.nqs_rules.specs.Applied.{applied}
use Rattle.nqs_rules.specs.Filled.{filled}
use Rattle.nqs_rules.specs.Plain.{map_state}
use Rattle.nqs_rules.specs.Starts.{after_change}
use Rattle.nqs_rules.specs.Stepped.{puts_of, stored_parts}
use Rattle.nqs_store.specs.Active.{Active}
use Rattle.nqs_store.specs.Commits.{IsKept, IsCutAt, Keeping}
use Rattle.nqs_store.specs.Faults.{IsScriptFault}
use Rattle.nqs_store.specs.Hosts.{StopsShort}
use Rattle.nqs_store.specs.Plan.{CommitsBy}
use Rattle.nqs_store.specs.Spells.{Spells}
use Rattle.nqs_store.specs.Stores.{history_of, active_of, plain_of, Tells}
use Rattle.nqs_store.specs.Told.{Host}
use Rattle.nqs_store.specs.declared.store.Store.{Store}
use Rattle.nqs_store.specs.declared.fault.StoreFault.{StoreFault}
use Rattle.nqs_store.specs.declared.fault.StoreFault.TheVariants.{Disk}
use Rattle.nqs_store.proofs.Composed.{idle_by}
use Rattle.nqs_node.proofs.Nothing.{none_one, all_quiet, told_images}
use Rattle.nqs_node.specs.Carried.{Kept, IsMade, IsSpelled, IsCutBy, IsBrokenOff, IsOneOrOther}
use Rattle.nqs_node.specs.Planned.{IsKeptWith}

-- only the spool is read
pub read_failed : (P : Which → Type 0) (fault : StoreFault) (which : Which) → IsScriptFault fault → fault ≡ Disk which → (fault ≡ Disk Spool → P Spool)
    → P which
read_failed P fault Root only e then = absurd (subst IsScriptFault e only)
read_failed P fault First only e then = absurd (subst IsScriptFault e only)
read_failed P fault Second only e then = absurd (subst IsScriptFault e only)
read_failed P fault Spool only e then = then e

-- no call was made
pub still_broken_off : (a : Active) (old now : Which → History) → ((which : Which) → now which ≡ old which) → (kept : Kept) → IsBrokenOff a old now kept
still_broken_off a old now same None = same
still_broken_off a old now same (Some c) = idle_by a old now (stored_parts c) same

module _ {D : Type 0} {g : disk.Ghosts D} (old mid : Store D g) (same : (which : Which) → history_of mid which ≡ history_of old which) where
  pub still_one : (host : Host) → IsTrue g.tells → Tells old host → (kept : Kept)
      → IsOneOrOther (active_of old) (history_of old) (history_of mid) kept (plain_of old host)
  still_one host telling told kept =
      none_one (active_of old) (history_of old) (history_of mid) same (all_quiet old host telling told) (plain_of old host)
      (told_images old host telling told) kept

  pub same_plain : (host : Host) → plain_of mid host ≡ plain_of old host
  same_plain host = ap (λ (h : History). map_state (extent_bytes (content h)) host) (same Spool)

module _ (a later : Active) (stays : later ≡ a) (fails since : Which → ℕ → Bool) (old mid now : Which → History)
    (fuse : (which : Which) (i : ℕ) → since which i ≡ fails which i) (same : (which : Which) → mid which ≡ old which)
    (c : Change Extent) (bytes : List (List ℕ)) (kept : Kept) (with : IsKeptWith (Some c) bytes kept) where
  stored : bytes ≡ stored_parts (filled c bytes)
  stored = with.stored ∙ sym (ap puts_of with.is)

  pub made_since : IsKept later since bytes mid now → IsMade a fails old now kept
  made_since k =
      let parts = stored_parts (filled c bytes) in
      let d = subst (λ (ps : List (List ℕ)). IsKept later since ps mid now) stored k in
      let e = subst (λ (h : Which → History). IsKept later since parts h now) (λ j which. same which j) d in
      let f = subst (λ (f : Which → ℕ → Bool). IsKept later f parts old now) (λ j which i. fuse which i j) e in
      let h = subst (λ (x : Active). IsKept x fails parts old now) stays f in
      subst (λ (k : Kept). IsMade a fails old now k) with.is h

  pub spelled_since : Spells later (filled c bytes) mid now → IsSpelled a old now kept
  spelled_since s =
      let d = subst (λ (h : Which → History). Spells later (filled c bytes) h now) (λ j which. same which j) s in
      let e = subst (λ (x : Active). Spells x (filled c bytes) old now) stays d in
      subst (λ (k : Kept). IsSpelled a old now k) with.is e

  pub broken_since : CommitsBy StopsShort later bytes mid now → IsBrokenOff a old now kept
  broken_since k =
      let parts = stored_parts (filled c bytes) in
      let d = subst (λ (ps : List (List ℕ)). CommitsBy StopsShort later ps mid now) stored k in
      let e = subst (λ (h : Which → History). CommitsBy StopsShort later parts h now) (λ j which. same which j) d in
      let f = subst (λ (x : Active). CommitsBy StopsShort x parts old now) stays e in
      subst (λ (k : Kept). IsBrokenOff a old now k) with.is f

  module _ (was before : Plain) (plain : was ≡ before) where
    pub cut_since : (which : Which) → IsCutAt later since bytes mid now was (applied (filled c bytes) was) which → IsCutBy a fails old now kept before which
    cut_since which k =
        let parts = stored_parts (filled c bytes) in
        let d = subst (λ (ps : List (List ℕ)). IsCutAt later since ps mid now was (applied (filled c bytes) was) which) stored k in
        let e = subst (λ (h : Which → History). IsCutAt later since parts h now was (applied (filled c bytes) was) which) (λ j which. same which j) d in
        let f = subst (λ (f : Which → ℕ → Bool). IsCutAt later f parts old now was (applied (filled c bytes) was) which) (λ j which i. fuse which i j) e in
        let h = subst (λ (x : Active). IsCutAt x fails parts old now was (applied (filled c bytes) was) which) stays f in
        let i = subst (λ (s : Plain). IsCutAt a fails parts old now s (applied (filled c bytes) s) which) plain h in
        subst (λ (k : Kept). IsCutBy a fails old now k before which) with.is i

    pub moments_since : Keeping later bytes mid now was (applied (filled c bytes) was) → IsOneOrOther a old now kept before
    moments_since k =
        let parts = stored_parts (filled c bytes) in
        let d = subst (λ (ps : List (List ℕ)). Keeping later ps mid now was (applied (filled c bytes) was)) stored k in
        let e = subst (λ (h : Which → History). Keeping later parts h now was (applied (filled c bytes) was)) (λ j which. same which j) d in
        let f = subst (λ (x : Active). Keeping x parts old now was (applied (filled c bytes) was)) stays e in
        let h = subst (λ (s : Plain). Keeping a parts old now s (applied (filled c bytes) s)) plain f in
        subst (λ (k : Kept). IsOneOrOther a old now k before) with.is h

    pub plain_since : (after : Plain) → after ≡ applied (filled c bytes) was → after ≡ after_change kept before
    plain_since after e = e ∙ ap (applied (filled c bytes)) plain ∙ ap (λ (k : Kept). after_change k before) with.is

pub none_kept : (change : Option (Change Extent)) (bytes : List (List ℕ)) (kept : Kept) → change ≡ None → IsKeptWith change bytes kept → None ≡ kept
none_kept change bytes kept none with = (let f : Option (Change Extent) → Kept = option_map (λ c. filled c bytes) in ap f (sym none)) ∙ with.is

pub some_kept : (change : Option (Change Extent)) (c : Change Extent) (bytes : List (List ℕ)) (kept : Kept) → change ≡ Some c → IsKeptWith change bytes kept
    → IsKeptWith (Some c) bytes kept
some_kept change c bytes kept some with = subst (λ (o : Option (Change Extent)). IsKeptWith o bytes kept) some with
