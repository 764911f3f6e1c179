-- Facts of a spool for which room was made, told of the spool from before.
use Rattle.std.proofs.Common.{◌≡◌, ◌⊎◌, ℕ, ◌≤◌, Bool, IsTrue, List, [], map, length, sym, ap, subst, ◌∙◌, arith, length-append}
use Rattle.std.proofs.lemmas.List.{length-map}
use Rattle.nqs_base.specs.declared.extent.Extent.{Extent}
use Rattle.nqs_types.specs.declared.change.Change.{Change}
use Rattle.nqs_types.specs.declared.world.Which.{Which}
use Rattle.nqs_types.specs.declared.world.Which.TheVariants as which
use Rattle.nqs_outside.specs.History.{Call, History, content, extended, moment, EachSince}
use Rattle.nqs_outside.specs.declared.disk.Disk as disk
use Rattle.nqs_spool.specs.Extents.{Has, Holds}
use Rattle.nqs_spool.specs.Spooled.{disk_of, history_of, Tells}
use Rattle.nqs_spool.specs.declared.spool.Spool.{Spool}
use Rattle.nqs_store.specs.Commits.{AreClear, FailsFirst}
use Rattle.nqs_store.specs.Puts.{place_of}
use Rattle.nqs_store.specs.Putting.{ArePartlyPut, ArePut, ArePutFor}
use Rattle.nqs_store.proofs.EachDisk.{each_disk}

pub same_histories : (old now : Which → History) → now which.Root ≡ old which.Root → now which.First ≡ old which.First → now which.Second ≡ old which.Second
    → now which.Spool ≡ old which.Spool → (w : Which) → now w ≡ old w
same_histories old now = each_disk (λ w. now w ≡ old w)

pub grown : (h k : History) (calls : List Call) → k ≡ extended h calls → moment h ≤ moment k
grown h k calls is = omega (arith, ap moment is, length-append h.calls calls)

module _ {D : Type 0} {g : disk.Ghosts D} (was now mid : Spool D g) (same : disk_of now ≡ disk_of was)
    (room : (live : List Extent) → Tells was live → Tells now live) where
  pub broken_from : (puts : List (List ℕ)) → ArePartlyPut puts (history_of now) (history_of mid) → ArePartlyPut puts (history_of was) (history_of mid)
  broken_from puts put = subst (λ d. ArePartlyPut puts (g.history d) (history_of mid)) same put

  pub clear_from : (n : ℕ) → AreClear (g.fails (disk_of now)) (moment (history_of now)) n → AreClear (g.fails (disk_of was)) (moment (history_of was)) n
  clear_from n clear = subst (λ d. AreClear (g.fails d) (moment (g.history d)) n) same clear

  pub failing_from : (starved : Bool) (n : ℕ) → IsTrue starved ⊎ (i : ℕ) × FailsFirst (g.fails (disk_of now)) (moment (history_of now)) n i
      → IsTrue starved ⊎ (i : ℕ) × FailsFirst (g.fails (disk_of was)) (moment (history_of was)) n i
  failing_from starved n fails = subst (λ d. IsTrue starved ⊎ (i : ℕ) × FailsFirst (g.fails d) (moment (g.history d)) n i) same fails

  module _ (live : List Extent) (tells : Tells was live) where
    pub kept_from : ((others : List Extent) → Tells now others → (x : Extent) (script : List ℕ) → Has others x → Holds (content (history_of now)) x script
        → EachSince (moment (history_of now)) (history_of mid) (λ image. Holds image x script))
        → EachSince (moment (history_of was)) (history_of mid) (λ image. (x : Extent) (script : List ℕ) → Has live x → Holds (content (history_of was)) x script
        → Holds image x script)
    kept_from kept =
        subst (λ d. EachSince (moment (g.history d)) (history_of mid) (λ image. (x : Extent) (script : List ℕ) → Has live x
        → Holds (content (g.history d)) x script → Holds image x script)) same
        (λ t image from to leaves x script has holds. kept live (room live tells) x script has holds t image from to leaves)

    pub still_from : ((others : List Extent) → Tells now others → (x : Extent) (script : List ℕ) → Has others x → Holds (content (history_of now)) x script
        → Holds (content (history_of mid)) x script)
        → (x : Extent) (script : List ℕ) → Has live x → Holds (content (history_of was)) x script → Holds (content (history_of mid)) x script
    still_from still = subst (λ d. (x : Extent) (script : List ℕ) → Has live x → Holds (content (g.history d)) x script
        → Holds (content (history_of mid)) x script) same (still live (room live tells))

  module _ (before after : Change Extent) (puts : List (List ℕ)) (text text' : List ℕ) (as_text : text' ≡ text) where
    pub put_from : ArePutFor before after puts text now mid → ArePutFor before after puts text' was mid
    put_from done =
        let put = done.are_put in
        subst (λ l. ArePutFor before after puts l was mid) (sym as_text) (record {
          extents = done.extents;
          are_put = record {
            added = put.added;
            is = put.is;
            many = put.many;
            small = put.small;
            lengths = put.lengths;
            made = λ told. subst (λ d. history_of mid ≡ extended (g.history d) (Rattle.nqs_store.specs.Plan.puts_calls (map place_of put.added) puts)) same
                (put.made told);
            tells = λ live more tells adds. put.tells live more (room live tells) adds;
            held = λ told live tells. put.held told live (room live tells);
          };
          change = done.change;
          stands = done.stands;
          read = done.read;
          spelled = done.spelled;
        })

  pub places_many : (puts : List (List ℕ)) (extents : List Extent) (put : ArePut puts was mid [] extents) → length (map place_of put.added) ≡ length puts
  places_many puts extents put = length-map put.added place_of ∙ put.many
