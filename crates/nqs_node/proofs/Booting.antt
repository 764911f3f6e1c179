-- What a boot says, and what disks tell before it.
use Rattle.std.proofs.Common.{◌≡◌, ℕ, ◌+◌, ◌++◌, IsTrue, List, [], ◌∷◌, length, map, take, slice_get, Option, Some, None, refl, sym, ap, subst, ◌∙◌, arith}
use Rattle.std.specs.List.{filter_map, cons_option}
use Rattle.std.specs.Option.{option_to_list}
use Rattle.std.proofs.lemmas.List.{map-append}
use Rattle.std.proofs.lemmas.List.Elements.{filter_map-append}
use Rattle.nqs_base.specs.Extents.{extent_bytes}
use Rattle.nqs_state.specs.State.{Plain, content as host_of}
use Rattle.nqs_state.specs.declared.state.HostState.{HostState}
use Rattle.nqs_base.specs.declared.extent.Extent.{Extent}
use Rattle.nqs_types.specs.declared.request.Row.{Row}
use Rattle.nqs_types.specs.declared.event.Output.{Output}
use Rattle.nqs_types.specs.declared.change.Change.TheVariants.{Boot}
use Rattle.nqs_types.specs.declared.world.Which.{Which}
use Rattle.nqs_types.specs.declared.world.Which.TheVariants.{Root, Spool}
use Rattle.std.proofs.Common.{Ok, Err, IsErrOf}
use Rattle.nqs_base.specs.Want.{want}
use Rattle.nqs_types.specs.declared.change.Change.{Change}
use Rattle.nqs_store.specs.Calls.{MayStop, Commits}
use Rattle.nqs_store.specs.declared.disks.Disks.{Disks}
use Rattle.nqs_store.specs.declared.fault.LoadFault.{LoadFault}
use Rattle.nqs_store.specs.declared.fault.LoadFault.TheVariants as load
use Rattle.nqs_store.specs.declared.fault.StoreFault.{StoreFault}
use Rattle.nqs_store.specs.declared.fault.StoreFault.TheVariants as store
use Rattle.nqs_node.specs.Makes.{Makes}
use Rattle.nqs_outside.specs.History.{State, History, state, content, IsImage, IsQuiet}
use Rattle.nqs_outside.specs.declared.disk.Disk as disk
use Rattle.nqs_rules.specs.Plain.{map_row, map_state}
use Rattle.nqs_rules.specs.Journals.{is_second}
use Rattle.nqs_rules.specs.World.{boot_output}
use Rattle.nqs_store.specs.Active.{Active, IsActive}
use Rattle.nqs_store.specs.Disks.{histories_of, contents}
use Rattle.nqs_store.specs.Images.{IsTold}
use Rattle.nqs_store.specs.Stores.{history_of, plain_of, Tells}
use Rattle.nqs_store.specs.Told.{Host}
use Rattle.nqs_store.specs.declared.store.Store.{Store}
use Rattle.nqs_store.proofs.Lists.{take-at}
use Rattle.nqs_node.specs.Boots.{IsLoaded}
use Rattle.nqs_node.specs.Carried.{Kept, IsOneOrOther}
use Rattle.nqs_store.proofs.TellsNow.{only_image}
use Rattle.nqs_node.proofs.Nothing.{none_one, all_quiet, told_images}
use Rattle.nqs_node.specs.Planned.{IsKeptWith}

one_said : (o : Option Output) → cons_option o [] ≡ option_to_list o
one_said None = refl
one_said (Some output) = refl

-- one row more
pub said_more : (f : Extent → List ℕ) (i : ℕ) (rows : List (Row Extent)) (row : Row Extent) → slice_get rows i ≡ Some row
    → filter_map boot_output (map (map_row f) (take (i + 1) rows)) ≡ filter_map boot_output (map (map_row f) (take i rows))
    ++ option_to_list (boot_output (map_row f row))
said_more f i rows row at =
    let before = map (map_row f) (take i rows) in
    ap (λ l. filter_map boot_output (map (map_row f) l)) (take-at rows i row at)
    ∙ ap (filter_map boot_output) (map-append (map_row f) (take i rows) (row ∷ []))
    ∙ filter_map-append boot_output before (map_row f row ∷ [])
    ∙ ap (λ l. filter_map boot_output before ++ l) (one_said (boot_output (map_row f row)))

-- a boot is kept with no bytes
pub boot_kept : IsKeptWith (Some Boot) [] (Some Boot)
boot_kept = record { is = refl; stored = refl }

-- where nothing is pending and no call is made, the images tell what a read tells
pub quiet_one : (a : Active) (old : Which → History) → ((which : Which) → IsQuiet (old which)) → (s : Plain) → IsTold (contents old) s → (kept : Kept)
    → IsOneOrOther a old old kept s
quiet_one a old quiet s told = none_one a old old (λ which. refl) quiet s (λ images leaves.
    subst (λ (bytes : Which → List ℕ). IsTold bytes s) (λ j which. only_image (old which) (images which) (quiet which) (leaves which) j) told)

-- what a read gives is what a stop may leave, where nothing is pending
own_image : (h : History) → IsQuiet h → IsImage (state h) (content h)
own_image h quiet = subst (λ (s : State). IsImage s (content h)) (sym quiet)
    (record { no_shorter = omega arith; no_longer = omega arith; same = λ i lt uncovered. refl })

-- a read of the disks tells the host
pub told_by_reads : {D : Type 0} {g : disk.Ghosts D} (store : Store D g) (host : Host) → IsTrue g.tells → Tells store host
    → IsTold (contents (history_of store)) (plain_of store host)
told_by_reads store host telling tells =
    told_images store host telling tells (contents (history_of store))
    (λ which. own_image (history_of store which) (all_quiet store host telling tells which))

-- the disks tell the host that was loaded from them
pub told_when_loaded : {D : Type 0} {g : disk.Ghosts D} (disks : Disks D) (store : Store D g) (state : HostState) → IsTrue g.tells
    → IsLoaded disks store state → IsTold (contents (histories_of g.history disks)) (plain_of store (host_of state))
told_when_loaded {g = g} disks store state telling loaded =
    subst (λ (h : Which → History). IsTold (contents h) (plain_of store (host_of state))) (λ j which. loaded.reads.same telling which j)
    (told_by_reads store (host_of state) telling (loaded.tells telling))

-- the host that was opened is the one that the disks tell
pub loaded_is : {D : Type 0} {g : disk.Ghosts D} (store : Store D g) (host told : Host) (bytes : List ℕ) (s : Plain) → content (history_of store Spool) ≡ bytes
    → host ≡ told → map_state (extent_bytes bytes) told ≡ s → plain_of store host ≡ s
loaded_is store host told bytes s same is e = (λ j. map_state (extent_bytes (same j)) (is j)) ∙ e

-- disks that tell a state name their active journal
pub active_told : (images : Which → List ℕ) (s : Plain) → IsTold images s → (a : Active) × IsActive images a
active_told images s told = (
  record { second = is_second (images Root); records = length told.is.payloads; is_old = _ },
  record {
    named = refl;
    form = told.is.form;
    snapshot = told.is.snapshot;
    payloads = told.is.payloads;
    stands = told.is.stands;
    many = refl;
    old = refl;
  },
)

-- what a call leaves whose fault is told as one of a boot

pub loads_memory : (fault : LoadFault) → fault ≡ load.Memory want → (which : Which) → IsErrOf {T = Unit {0}} (Err fault) (load.Disk which) → ⊥
loads_memory fault is which failed = let no : ⊥ = cc in no

pub disk_memory : (w : Which) → IsErrOf {T = Unit {0}} (Err (load.Disk w)) (load.Memory want) → ⊥
disk_memory w failed = let no : ⊥ = cc in no

pub at_disk : (fault : StoreFault) (w : Which) → fault ≡ store.Disk w → (which : Which) → IsErrOf {T = Unit {0}} (Err (load.Disk w)) (load.Disk which)
    → IsErrOf {T = Unit {0}} (Err fault) (store.Disk which)
at_disk fault w is which failed = let same : w ≡ which = cc in ap Err (is ∙ ap store.Disk same)

module _ {D : Type 0} {g : disk.Ghosts D} (old now : Store D g) where
  module _ (fault : StoreFault) (told : LoadFault)
      (to : (which : Which) → IsErrOf {T = Unit {0}} (Err told) (load.Disk which) → IsErrOf {T = Unit {0}} (Err fault) (store.Disk which)) where
    load_stops : MayStop {T = Unit {0}} old now store.Disk (Err fault) → MayStop {T = Unit {0}} old now load.Disk (Err told)
    load_stops m = record { running = tt; broken = λ which is. m.broken which (to which is); later = m.later; fuse = m.fuse }

    load_commits : (change : Change Extent) (puts : List (List ℕ)) (host : Host)
        → Commits {T = Unit {0}} old now change puts host store.Disk (Err fault) → Commits {T = Unit {0}} old now change puts host load.Disk (Err told)
    load_commits change puts host m = record {
      made = λ yes. tt;
      broken_off = m.broken_off;
      cut = λ yes tells which is. m.cut yes tells which (to which is);
      any_moment = m.any_moment;
    }

    pub load_makes : (before after : Host) (change : Change Extent) (puts : List (List ℕ))
        → (IsErrOf {T = Unit {0}} (Err told) (load.Memory want) → IsErrOf {T = Unit {0}} (Err fault) (store.Memory want))
        → Makes {T = Unit {0}} old now before after change puts store.Disk (store.Memory want) (Err fault)
        → Makes {T = Unit {0}} old now before after change puts load.Disk (load.Memory want) (Err told)
    load_makes before after change puts short m = record {
      sound = m.sound;
      site = m.site;
      err = m.err;
      bare = tt;
      active = tt;
      told = λ yes tells. tt;
      plain = λ yes tells. tt;
      memory = λ is. m.memory (short is);
      stops = load_stops m.stops;
      calls = load_commits change puts before m.calls;
    }

  booted_stops : MayStop {T = Unit {0}} old now store.Disk (Ok tt) → MayStop {T = Unit {0}} old now load.Disk (Ok tt)
  booted_stops m = record { running = m.running; broken = λ which is. absurd (let no : ⊥ = cc in no); later = m.later; fuse = m.fuse }

  booted_commits : (change : Change Extent) (puts : List (List ℕ)) (host : Host)
      → Commits {T = Unit {0}} old now change puts host store.Disk (Ok tt) → Commits {T = Unit {0}} old now change puts host load.Disk (Ok tt)
  booted_commits change puts host m = record {
    made = m.made;
    broken_off = λ yes. tt;
    cut = λ yes tells which is. absurd (let no : ⊥ = cc in no);
    any_moment = m.any_moment;
  }

  pub booted_makes : (before after : Host) (change : Change Extent) (puts : List (List ℕ))
      → Makes {T = Unit {0}} old now before after change puts store.Disk (store.Memory want) (Ok tt)
      → Makes {T = Unit {0}} old now before after change puts load.Disk (load.Memory want) (Ok tt)
  booted_makes before after change puts m = record {
    sound = m.sound;
    site = m.site;
    err = tt;
    bare = m.bare;
    active = m.active;
    told = m.told;
    plain = m.plain;
    memory = λ is. absurd (let no : ⊥ = cc in no);
    stops = booted_stops m.stops;
    calls = booted_commits change puts before m.calls;
  }
