-- What a store tells is what its disks hold.
use Rattle.std.proofs.Common.{◌≡◌, ◌∙◌, IsTrue, List, ℕ, length, sym, ap, subst}
use Rattle.nqs_base.specs.Extents.{extent_bytes}
use Rattle.nqs_types.specs.declared.world.Which.{Which}
use Rattle.nqs_types.specs.declared.world.Which.TheVariants.{Root, Spool}
use Rattle.nqs_outside.specs.History.{State, History, state, content, IsImage, IsQuiet}
use Rattle.nqs_outside.specs.declared.disk.Disk as disk
use Rattle.nqs_outside.proofs.Images.{fresh_image}
use Rattle.nqs_journal.specs.Open as journal
use Rattle.nqs_journal.specs.Either.{is_old_form, StandsBy}
use Rattle.nqs_journal.proofs.Eithers.{one_reading}
use Rattle.nqs_rules.specs.Plain.{map_state}
use Rattle.nqs_rules.specs.Journals.{journal_on, is_second}
use Rattle.nqs_store.specs.Told.{Host}
use Rattle.nqs_store.specs.Active.{Active, IsActive, journal_of}
use Rattle.nqs_store.specs.Stores.{history_of, plain_of, active_of, journal_in, Tells}
use Rattle.nqs_store.specs.Images.{IsToldHost}
use Rattle.nqs_store.specs.Commits.{LeavesHost}
use Rattle.nqs_store.specs.declared.store.Store.{Store}
use Rattle.nqs_store.proofs.EachDisk.{stands_on}

pub only_image : (h : History) (image : List ℕ) → IsQuiet h → IsImage (state h) image → content h ≡ image
only_image h image quiet is = sym (fresh_image (content h) image (subst (λ (s : State). IsImage s image) quiet is))

module _ {D : Type 0} {g : disk.Ghosts D} (store : Store D g) (host : Host) (tells : Tells store host) where
  -- what its active journal's disk did
  pub active_history : g.history (journal.disk_of (journal_in store.on_second store)) ≡ history_of store (journal_on store.on_second)
  active_history = ap g.history (sym (stands_on store.on_second store))

  pub active_quiet : IsQuiet (history_of store (journal_on store.on_second))
  active_quiet = subst IsQuiet active_history tells.journal.quiet

  -- its bytes stand by one of the forms
  pub active_stands : StandsBy (content (history_of store (journal_on store.on_second))) tells.form tells.snapshot tells.payloads
  active_stands = (
    tells.is,
    subst (λ h. Rattle.nqs_journal.specs.Text.StandsAfter (Rattle.nqs_journal.specs.Either.front_of tells.form tells.snapshot)
        (content h) tells.payloads) active_history tells.journal.stands,
  )

  module _ (images : Which → List ℕ) (named : is_second (images Root) ≡ store.on_second)
      (stands : StandsBy (images (journal_on store.on_second)) tells.form tells.snapshot tells.payloads) where
    -- images whose root names the active journal, and in which it stands for the same, tell it
    -- where the spool's does
    pub told_host : Rattle.nqs_spool.specs.Extents.AreSound (length (images Spool)) (Rattle.nqs_store.specs.Live.live host) → IsToldHost images host
    told_host sound = record {
      form = tells.form;
      snapshot = tells.snapshot;
      payloads = tells.payloads;
      stands = subst (λ b. StandsBy (images (journal_on b)) tells.form tells.snapshot tells.payloads) (sym named) stands;
      tells = tells.records;
      sound = sound;
    }

    pub active_image : IsActive images (active_of store)
    active_image = record {
      named = named;
      form = tells.form;
      snapshot = tells.snapshot;
      payloads = tells.payloads;
      stands = stands;
      many = tells.many;
      old = tells.old;
    }

  module _ (yes : IsTrue g.tells) where
    -- whatever images the disks may leave now tell it
    pub told_now : LeavesHost (history_of store) (plain_of store host) (active_of store)
    told_now images leaves =
        let root = only_image (history_of store Root) (images Root) tells.root (leaves Root) in
        let first = only_image (history_of store (journal_on store.on_second)) (images (journal_on store.on_second)) active_quiet
        (leaves (journal_on store.on_second)) in
        let spool = only_image (history_of store Spool) (images Spool) (tells.spool.quiet yes) (leaves Spool) in
        let named = ap is_second (sym root) ∙ tells.named in
        let stands = subst (λ b. StandsBy b tells.form tells.snapshot tells.payloads) first active_stands in (
          record {
            host = host;
            is = told_host images named stands (subst (λ b. Rattle.nqs_spool.specs.Extents.AreSound (length b) (Rattle.nqs_store.specs.Live.live host)) spool
                (record { apart = tells.spool.live.apart; within = tells.spool.within yes }));
            bytes = ap (λ b. map_state (extent_bytes b) host) (sym spool);
          },
          active_image images named stands,
        )

-- bytes name one journal, which has one number of records, and is old or isn't
pub one_active : (bytes : Which → List ℕ) (a b : Active) → IsActive bytes a → IsActive bytes b → a ≡ b
one_active bytes a b is is' =
    let same = sym is.named ∙ is'.named in
    let read = one_reading (bytes (journal_of b)) is.form is'.form is.snapshot is'.snapshot is.payloads is'.payloads
    (subst (λ s. StandsBy (bytes (journal_on s)) is.form is.snapshot is.payloads) same is.stands) is'.stands in
    let many = sym is.many ∙ ap length read.2 ∙ is'.many in
    let old = is.old ∙ ap is_old_form read.0 ∙ sym is'.old in
    λ j. record { second = same j; records = many j; is_old = old j }
