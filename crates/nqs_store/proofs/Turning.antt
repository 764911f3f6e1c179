-- What images tell while a checkpoint is made.
use Rattle.std.proofs.Common.{◌≡◌, ◌≢◌, ◌⊎◌, inl, inr, ℕ, ◌<◌, ◌≤◌, ◌^◌, Bool, true, false, not, IsTrue, if◌then◌else◌, List, [], ◌∷◌, length, Ok, refl, sym}
use Rattle.std.proofs.Common.{ap}
use Rattle.std.proofs.Common.{subst, ◌∙◌, arith}
use Rattle.nqs_base.specs.Extents.{extent_bytes}
use Rattle.nqs_types.specs.declared.world.Which.{Which}
use Rattle.nqs_types.specs.declared.world.Which.TheVariants.{Root, Spool}
use Rattle.nqs_outside.specs.History.{Call, sync, State, History, fresh, content, state, after, written, extended, IsImage, IsQuiet, StopsShort}
use Rattle.nqs_outside.specs.declared.disk.Disk as disk
use Rattle.nqs_outside.proofs.Histories.{state-extended}
use Rattle.nqs_spool.specs.Extents.{AreSound}
use Rattle.nqs_journal.specs.Opened.{IsOpen}
use Rattle.nqs_journal.specs.Text.{snapshot_front}
use Rattle.nqs_journal.specs.Plan.{begin_calls}
use Rattle.nqs_journal.specs.Either.{StandsBy}
use Rattle.nqs_rules.specs.Plain.{map_state}
use Rattle.nqs_rules.specs.Journals.{is_second, journal_on, byte_of, behind_byte}
use Rattle.nqs_snapshot.specs.Reading.{snapshot_of}
use Rattle.nqs_store.specs.Told.{Host, told_behind}
use Rattle.nqs_store.specs.Live.{live}
use Rattle.nqs_store.specs.Active.{Active, IsActive, turned_to, named_in}
use Rattle.nqs_store.specs.Hosts.{on}
use Rattle.nqs_store.specs.Images.{IsTold}
use Rattle.nqs_store.specs.Moments.{Moments}
use Rattle.nqs_store.specs.Stores.{history_of, plain_of, active_of, Tells}
use Rattle.nqs_store.specs.declared.store.Store.{Store}
use Rattle.nqs_store.proofs.HostRuns.{moments_on, no_pending}
use Rattle.nqs_store.proofs.EachDisk.{with_disk, at_disk, but_disk, rest_of, root_apart, spool_apart, journals_apart, root_is_no_journal}
use Rattle.nqs_store.proofs.TellsNow.{only_image, told_host, active_image}
use Rattle.nqs_store.proofs.Committed.{named_image, stands_image, quiet}

named_or : (r b : Bool) → (r ≡ b) ⊎ (r ≡ not b)
named_or true true = inl refl
named_or true false = inr refl
named_or false true = inr refl
named_or false false = inl refl

same_named : (root : List ℕ) (a : Active) → is_second root ≡ a.second → named_in root a ≡ a
same_named root a is = ap (λ (r : Bool). if (if a.second then r else not r) then a else turned_to a) is ∙ by a.second
  where
    by : (b : Bool) → (if (if b then b else not b) then a else turned_to a) ≡ a
    by true = refl
    by false = refl

other_named : (root : List ℕ) (a : Active) → is_second root ≡ not a.second → named_in root a ≡ turned_to a
other_named root a is = ap (λ (r : Bool). if (if a.second then r else not r) then a else turned_to a) is ∙ by a.second
  where
    by : (b : Bool) → (if (if b then not b else not (not b)) then a else turned_to a) ≡ turned_to a
    by true = refl
    by false = refl

-- a byte is written in place of the first
written_byte : (bytes : List ℕ) (byte : ℕ) → written bytes 0 (byte ∷ []) ≡ byte ∷ behind_byte bytes
written_byte [] byte = refl
written_byte (b ∷ bytes) byte = refl

named_byte : (b : Bool) (bytes : List ℕ) → is_second (byte_of b ∷ bytes) ≡ b
named_byte true bytes = refl
named_byte false bytes = refl

-- what the root is once its byte is written, and synced
pub root_state : (h k : History) (b : Bool) → k ≡ extended h (begin_calls (byte_of b ∷ [])) → state k ≡ fresh (byte_of b ∷ behind_byte (content h))
root_state h k b made = ap state made ∙ state-extended h (begin_calls (byte_of b ∷ [])) ∙ ap fresh (written_byte (content h) (byte_of b))

pub root_quiet : (h k : History) (b : Bool) → k ≡ extended h (begin_calls (byte_of b ∷ [])) → IsQuiet k
root_quiet h k b made = let is = root_state h k b made in is ∙ ap fresh (sym (ap (λ (s : State). s.content) is))

pub root_names : (h k : History) (b : Bool) → k ≡ extended h (begin_calls (byte_of b ∷ [])) → is_second (content k) ≡ b
root_names h k b made = ap (λ (s : State). is_second s.content) (root_state h k b made) ∙ named_byte b (behind_byte (content h))

-- where one of the two calls failed, the byte is pending
pub root_pending : (h k : History) (b : Bool) (calls : List Call) → IsQuiet h → k ≡ extended h calls
    → StopsShort (begin_calls (byte_of b ∷ [])) calls → 1 ≤ length calls
    → state k ≡ record { synced = content h; content = byte_of b ∷ behind_byte (content h); ranges = (0, 1) ∷ [] }
root_pending h k b calls quiet made short some =
    ap state made ∙ state-extended h calls ∙ ap (λ s. after s calls) quiet ∙ by calls short some
    ∙ ap (λ l. let s : State = record { synced = content h; content = l; ranges = (0, 1) ∷ [] } in s) (written_byte (content h) (byte_of b))
  where
    by : (calls : List Call) → StopsShort (begin_calls (byte_of b ∷ [])) calls → 1 ≤ length calls
        → after (fresh (content h)) calls ≡ record { synced = content h; content = written (content h) 0 (byte_of b ∷ []); ranges = (0, 1) ∷ [] }
    by [] short some = absurd (omega (arith, some))
    by (call ∷ []) (inl is) some = ap (λ c. after (fresh (content h)) (c ∷ [])) is
    by (call ∷ []) (inr is) some = ap (λ c. after (fresh (content h)) (c ∷ [])) is.0
    by (call ∷ next ∷ []) short some = last short.1
      where
        last : StopsShort (sync true ∷ []) (next ∷ [])
            → after (fresh (content h)) (call ∷ next ∷ []) ≡ record {
              synced = content h;
              content = written (content h) 0 (byte_of b ∷ []);
              ranges =
                  (0, 1) ∷ [];
            }
        last (inl is) = λ j. after (fresh (content h)) (short.0 j ∷ is j ∷ [])
        last (inr is) = absurd is.1
    by (call ∷ next ∷ more ∷ calls) short some = absurd short.1.1

module _ {D : Type 0} {g : disk.Ghosts D} (yes : IsTrue g.tells) (old : Store D g) (host : Host) (is_told : Tells old host) where
  abbrev s : History
  s = history_of old Spool

  sound_image : (image : List ℕ) → IsImage (state s) image → AreSound (length image) (live host)
  sound_image image leaves = subst (λ b. AreSound (length b) (live host)) (only_image s image (is_told.spool.quiet yes) leaves)
      (record { apart = is_told.spool.live.apart; within = is_told.spool.within yes })

  bytes_image : (image : List ℕ) → IsImage (state s) image → map_state (extent_bytes image) host ≡ plain_of old host
  bytes_image image leaves = ap (λ b. map_state (extent_bytes b) host) (sym (only_image s image (is_told.spool.quiet yes) leaves))

  -- where the root names the active journal, what it tells stays
  pub active_told : (images : Which → List ℕ) → is_second (images Root) ≡ old.on_second
      → IsImage (state (history_of old (journal_on old.on_second))) (images (journal_on old.on_second)) → IsImage (state s) (images Spool)
      → IsTold images (plain_of old host) × IsActive images (active_of old)
  active_told images named active spool =
      let stands = stands_image yes old host is_told (images (journal_on old.on_second)) active in (
        record {
          host = host;
          is = told_host old host is_told images named stands (sound_image (images Spool) spool);
          bytes = bytes_image (images Spool) spool;
        },
        active_image old host is_told images named stands,
      )

  -- so do images of the root, the active journal and the spool, whatever the other journal's is
  pub quiet_told : (images : Which → List ℕ) → IsImage (state (history_of old Root)) (images Root)
      → IsImage (state (history_of old (journal_on old.on_second))) (images (journal_on old.on_second)) → IsImage (state s) (images Spool)
      → IsTold images (plain_of old host) × IsActive images (active_of old)
  quiet_told images root = active_told images (named_image yes old host is_told (images Root) root)

  module _ (snapshot : List ℕ) (small : length snapshot < 2 ^ 64) (reads : snapshot_of snapshot ≡ Ok host) where
    -- where the root names the other journal, which begins with the snapshot, the same is told
    pub other_told : (images : Which → List ℕ) → is_second (images Root) ≡ not old.on_second
        → StandsBy (images (journal_on (not old.on_second))) 2 snapshot [] → IsImage (state s) (images Spool)
        → IsTold images (plain_of old host) × IsActive images (turned_to (active_of old))
    other_told images named stands spool = (
      record {
        host = host;
        is = record {
          form = 2;
          snapshot = snapshot;
          payloads = [];
          stands = subst (λ b. StandsBy (images (journal_on b)) 2 snapshot []) (sym named) stands;
          tells = ap (λ r. told_behind r []) reads;
          sound = sound_image (images Spool) spool;
        };
        bytes = bytes_image (images Spool) spool;
      },
      record { named = named; form = 2; snapshot = snapshot; payloads = []; stands = stands; many = refl; old = refl },
    )

    -- so whatever the root's image is, the state is told
    pub either_told : (images : Which → List ℕ)
        → IsImage (state (history_of old (journal_on old.on_second))) (images (journal_on old.on_second)) → IsImage (state s) (images Spool)
        → StandsBy (images (journal_on (not old.on_second))) 2 snapshot []
        → IsTold images (plain_of old host) × IsActive images (named_in (images Root) (active_of old))
    either_told images active spool stands = elim (named_or (is_second (images Root)) old.on_second) [
      | inl is ↦ (let told = active_told images is active spool in
          (told.0, subst (IsActive images) (sym (same_named (images Root) (active_of old) is)) told.1))
      | inr is ↦ (let told = other_told images is stands spool in
          (told.0, subst (IsActive images) (sym (other_named (images Root) (active_of old) is)) told.1))
    ]

    module _ (next : History) (gate : ℕ) (opened : IsOpen next (snapshot_front snapshot) gate []) where
      abbrev mid : Which → History
      mid = with_disk (journal_on (not old.on_second)) next (history_of old)

      pub snapshot_stands : (image : List ℕ) → IsImage (state next) image → StandsBy image 2 snapshot []
      snapshot_stands image leaves = subst (λ b. StandsBy b 2 snapshot []) (only_image next image opened.quiet leaves) (small, opened.stands)

      -- moments of the root's calls
      pub root_moments : (k : History) (calls : List Call) → k ≡ extended (mid Root) calls
          → Moments mid (on Root calls) (λ images. IsTold images (plain_of old host))
      root_moments k calls did = moments_on mid k Root calls _ did
          (λ w other. rest_of (journal_on (not old.on_second)) next (history_of old) (λ h. (state h).ranges ≡ [])
          (λ u. no_pending (state (history_of old u)) (content (history_of old u)) (quiet yes old host is_told u))
          (no_pending (state next) (content next) opened.quiet) w)
          (λ t images from to leaves others. (either_told images
          (but (journal_on old.on_second) (journals_apart old.on_second) images (others (journal_on old.on_second) (root_is_no_journal old.on_second)))
          (but Spool (spool_apart (not old.on_second)) images (others Spool (λ is. let no : ⊥ = cc in no)))
          (snapshot_stands (images (journal_on (not old.on_second))) (subst (λ h. IsImage (state h) (images (journal_on (not old.on_second))))
          (at_disk (journal_on (not old.on_second)) next (history_of old))
          (others (journal_on (not old.on_second)) (root_is_no_journal (not old.on_second)))))).0)
        where
          but : (v : Which) → v ≢ journal_on (not old.on_second) → (images : Which → List ℕ) → IsImage (state (mid v)) (images v)
              → IsImage (state (history_of old v)) (images v)
          but v other images leaves = subst (λ h. IsImage (state h) (images v)) (but_disk (journal_on (not old.on_second)) next (history_of old) v other) leaves

  -- moments of the other journal's calls
  pub other_moments : (k : History) (calls : List Call) → k ≡ extended (history_of old (journal_on (not old.on_second))) calls
      → Moments (history_of old) (on (journal_on (not old.on_second)) calls) (λ images. IsTold images (plain_of old host))
  other_moments k calls did = moments_on (history_of old) k (journal_on (not old.on_second)) calls _ did
      (λ w other. no_pending (state (history_of old w)) (content (history_of old w)) (quiet yes old host is_told w))
      (λ t images from to leaves others. (quiet_told images (others Root (root_apart (not old.on_second)))
      (others (journal_on old.on_second) (journals_apart old.on_second)) (others Spool (spool_apart (not old.on_second)))).0)
