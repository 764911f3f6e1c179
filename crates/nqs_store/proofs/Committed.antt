-- What images tell while a change is kept.
use Rattle.std.proofs.Common.{◌≡◌, ◌≢◌, inl, inr, ℕ, ◌≤◌, Bool, true, false, IsTrue, if◌then◌else◌, List, [], ◌∷◌, ◌++◌, map, length, Some, None, refl, sym, ap}
use Rattle.std.proofs.Common.{subst, ◌∙◌}
use Rattle.std.specs.List.{AllByRecursion}
use Rattle.nqs_base.specs.Extents.{extent_bytes}
use Rattle.nqs_base.specs.declared.extent.Extent.{Extent}
use Rattle.nqs_types.specs.declared.change.Change.{Change}
use Rattle.nqs_types.specs.declared.change.Change.TheVariants.{Site, Submitted, Deleted, Doomed, Started, Ended, Unlaunched, Boot, Edited, HandOpened}
use Rattle.nqs_types.specs.declared.change.Change.TheVariants.{HandCommitted, HandRefused, HandsSilent, HandDone, OldPromised, Promised, Accepted, Dropped}
use Rattle.nqs_types.specs.declared.change.Change.TheVariants.{MovedLocal}
use Rattle.nqs_types.specs.declared.change.Change.TheVariants.{RefusedLocal, HeldFar, StageGot, StageGone, FileGone}
use Rattle.nqs_outside.specs.History.{History, content, moment, EachSince}
use Rattle.nqs_outside.specs.declared.disk.Disk as disk
use Rattle.nqs_spool.specs.Extents.{Has, Holds, past, AreApart, AreSound, IsWithin}
use Rattle.nqs_spool.specs.Spooled as spool
use Rattle.nqs_spool.specs.declared.spool.Spool.{Spool as SpoolOf}
use Rattle.nqs_spool.proofs.Lists.{has_all, all_has}
use Rattle.nqs_types.specs.declared.world.Which.{Which}
use Rattle.nqs_types.specs.declared.world.Which.TheVariants.{Root, Spool}
use Rattle.nqs_outside.specs.History.{IsImage, IsQuiet, state, extended, Call}
use Rattle.nqs_journal.specs.Either.{StandsBy, front_of, version_of}
use Rattle.nqs_journal.specs.Open.{BeforeOrAfter}
use Rattle.nqs_rules.specs.Journals.{is_second, journal_on}
use Rattle.nqs_rules.specs.Fits.{fits}
use Rattle.nqs_rules.specs.Applied.{applied}
use Rattle.nqs_rules.specs.Filled.{filled}
use Rattle.nqs_rules.specs.Stepped.{map_change, stored_parts, no_extent}
use Rattle.nqs_rules.specs.Plain.{map_state}
use Rattle.nqs_rules.proofs.PlainLemmas.{applied-map}
use Rattle.nqs_rules.proofs.FilledLemmas.{read-planned}
use Rattle.nqs_store.specs.Told.{Host, told_by, taken, read_taken}
use Rattle.nqs_store.specs.Live.{live}
use Rattle.nqs_store.specs.Accounts.{Adds}
use Rattle.nqs_store.specs.Frees.{gone}
use Rattle.nqs_store.specs.Puts.{HoldEach}
use Rattle.nqs_store.specs.Putting.{ArePut, ArePutFor}
use Rattle.nqs_store.specs.Images.{IsTold, TellsOneOf}
use Rattle.nqs_store.specs.Stores.{Tells, plain_of, history_of}
use Rattle.nqs_store.specs.Hosts.{on}
use Rattle.nqs_store.specs.Moments.{Moments}
use Rattle.nqs_store.specs.declared.store.Store.{Store}
use Rattle.nqs_store.proofs.Telling.{told_by_more}
use Rattle.nqs_store.proofs.TellsNow.{only_image, told_host, active_quiet, active_stands}
use Rattle.nqs_store.proofs.Accounts.{accounted, AreAccounted}
use Rattle.nqs_store.proofs.Extents.{takes_all, takes_apart}
use Rattle.nqs_store.proofs.Filled.{shape_kept, fits_kept, stored, filled_shape_kept, filled_bytes}
use Rattle.nqs_store.proofs.PlainSame.{plain_same}
use Rattle.nqs_store.proofs.HostRuns.{moments_on, no_pending}
use Rattle.nqs_store.proofs.EachDisk.{each_of, with_disk, at_disk, but_disk, rest_of, root_apart, spool_apart, journal_apart}

-- each of the host's extents holds in the image what it held
abbrev pub Keeps : Host → List ℕ → List ℕ → Type 0
Keeps host bytes image = (x : Extent) (script : List ℕ) → Has (live host) x → Holds bytes x script → Holds image x script

read_all : (bytes : List ℕ) (xs : List Extent) (puts : List (List ℕ)) → HoldEach bytes xs puts → map (extent_bytes bytes) xs ≡ puts
read_all bytes [] [] holds = refl
read_all bytes [] (put ∷ puts) holds = absurd holds
read_all bytes (x ∷ xs) [] holds = absurd holds
read_all bytes (x ∷ xs) (put ∷ puts) holds = λ j. holds.0.same j ∷ read_all bytes xs puts holds.1 j

by : (next : Host) (b : Bool) → IsTrue b → (if b then Some next else None) ≡ Some next
by next true fine = refl
by next false fine = absurd (let no : ⊥ = cc in no)

taken_some : (change : Change Extent) (host : Host) → IsTrue (fits change host) → taken change (Some host) ≡ Some (applied change host)
taken_some (Site me site) host fine = absurd (let no : ⊥ = cc in no)
taken_some (Submitted queue job script) host fine = by (applied (Submitted queue job script) host) (fits {F = Extent} (Submitted queue job script) host) fine
taken_some (Deleted id) host fine = by (applied (Deleted id) host) (fits {F = Extent} (Deleted id) host) fine
taken_some (Doomed id) host fine = by (applied (Doomed id) host) (fits {F = Extent} (Doomed id) host) fine
taken_some (Started id device) host fine = by (applied (Started id device) host) (fits {F = Extent} (Started id device) host) fine
taken_some (Ended id parts) host fine = by (applied (Ended id parts) host) (fits {F = Extent} (Ended id parts) host) fine
taken_some (Unlaunched id) host fine = by (applied (Unlaunched id) host) (fits {F = Extent} (Unlaunched id) host) fine
taken_some Boot host fine = by (applied Boot host) (fits {F = Extent} Boot host) fine
taken_some (Edited e) host fine = by (applied (Edited e) host) (fits {F = Extent} (Edited e) host) fine
taken_some (HandOpened peer number id queue since) host fine = by (applied (HandOpened peer number id queue since) host)
    (fits {F = Extent} (HandOpened peer number id queue since) host) fine
taken_some (HandCommitted peer number) host fine = by (applied (HandCommitted peer number) host) (fits {F = Extent} (HandCommitted peer number) host) fine
taken_some (HandRefused peer number refusal) host fine = by (applied (HandRefused peer number refusal) host)
    (fits {F = Extent} (HandRefused peer number refusal) host) fine
taken_some (HandsSilent until hands) host fine = by (applied (HandsSilent until hands) host) (fits {F = Extent} (HandsSilent until hands) host) fine
taken_some (HandDone peer number) host fine = by (applied (HandDone peer number) host) (fits {F = Extent} (HandDone peer number) host) fine
taken_some (OldPromised peer number queue c script) host fine = by (applied (OldPromised peer number queue c script) host)
    (fits {F = Extent} (OldPromised peer number queue c script) host) fine
taken_some (Promised peer number low queue c script) host fine = by (applied (Promised peer number low queue c script) host)
    (fits {F = Extent} (Promised peer number low queue c script) host) fine
taken_some (Accepted peer number) host fine = by (applied (Accepted peer number) host) (fits {F = Extent} (Accepted peer number) host) fine
taken_some (Dropped peer number) host fine = by (applied (Dropped peer number) host) (fits {F = Extent} (Dropped peer number) host) fine
taken_some (MovedLocal id queue) host fine = by (applied (MovedLocal id queue) host) (fits {F = Extent} (MovedLocal id queue) host) fine
taken_some (RefusedLocal id queue refusal) host fine = by (applied (RefusedLocal id queue refusal) host)
    (fits {F = Extent} (RefusedLocal id queue refusal) host) fine
taken_some (HeldFar id) host fine = by (applied (HeldFar id) host) (fits {F = Extent} (HeldFar id) host) fine
taken_some (StageGot peer number path bytes) host fine = by (applied (StageGot peer number path bytes) host)
    (fits {F = Extent} (StageGot peer number path bytes) host) fine
taken_some (StageGone peer number) host fine = by (applied (StageGone peer number) host) (fits {F = Extent} (StageGone peer number) host) fine
taken_some (FileGone file) host fine = by (applied (FileGone file) host) (fits {F = Extent} (FileGone file) host) fine

-- The bytes of a change that fits the host were put, and what the spool held stays.
pub record IsPut {D : Type 0} {g : disk.Ghosts D} (old : Store D g) (host : Host) (change now : Change Extent) (puts : List (List ℕ)) (text : List ℕ)
    (mid : SpoolOf D g) : Type 0 where
  pub fine : IsTrue (fits change host)
  pub many : length puts ≡ length (stored_parts change)
  pub done : ArePutFor change now puts text old.spool mid
  pub still : Keeps host (content (spool.history_of old.spool)) (content (spool.history_of mid))
  pub kept : EachSince (moment (spool.history_of old.spool)) (spool.history_of mid) (λ image. Keeps host (content (spool.history_of old.spool)) image)

module _ {D : Type 0} {g : disk.Ghosts D} (tells_all : IsTrue g.tells) (old : Store D g) (host : Host) (is_told : Tells old host) where
  abbrev was : List ℕ
  was = content (spool.history_of old.spool)

  held : (x : Extent) → Has (live host) x → Holds was x (extent_bytes was x)
  held x has = record { within = all_has (λ y. past y ≤ length was) (live host) x (is_told.spool.within tells_all) has; same = refl }

  pub plain_kept : (image : List ℕ) → Keeps host was image → map_state (extent_bytes image) host ≡ plain_of old host
  plain_kept image keeps = plain_same (extent_bytes image) (extent_bytes was) host (λ x has. (keeps x (extent_bytes was x) has (held x has)).same)

  pub told_before : (images : Which → List ℕ) → is_second (images Root) ≡ old.on_second
      → StandsBy (images (journal_on old.on_second)) is_told.form is_told.snapshot is_told.payloads → Keeps host was (images Spool)
      → IsTold images (plain_of old host)
  told_before images named stands keeps = record {
    host = host;
    is = told_host old host is_told images named stands (record {
      apart = is_told.spool.live.apart;
      within = has_all (IsWithin (length (images Spool))) (live host)
          (λ x has. (keeps x (extent_bytes was x) has (held x has)).within);
    });
    bytes = plain_kept (images Spool) keeps;
  }

  -- the root's image names the journal
  pub named_image : (image : List ℕ) → IsImage (state (history_of old Root)) image → is_second image ≡ old.on_second
  named_image image leaves = ap is_second (sym (only_image (history_of old Root) image is_told.root leaves)) ∙ is_told.named

  pub stands_image : (image : List ℕ) → IsImage (state (history_of old (journal_on old.on_second))) image
      → StandsBy image is_told.form is_told.snapshot is_told.payloads
  stands_image image leaves = subst (λ b. StandsBy b is_told.form is_told.snapshot is_told.payloads)
      (only_image (history_of old (journal_on old.on_second)) image (active_quiet old host is_told) leaves) (active_stands old host is_told)

  -- nothing is pending on any disk
  pub quiet : (w : Which) → IsQuiet (history_of old w)
  quiet = each_of old.on_second (λ w. IsQuiet (history_of old w)) is_told.root (active_quiet old host is_told) is_told.rest (is_told.spool.quiet tells_all)

  module _ {change now : Change Extent} {puts : List (List ℕ)} {text : List ℕ} {mid : SpoolOf D g} (p : IsPut old host change now puts text mid) where
    abbrev bytes : List ℕ
    bytes = content (spool.history_of mid)

    abbrev put : ArePut puts old.spool mid [] p.done.extents
    put = p.done.are_put

    fine_now : IsTrue (fits now host)
    fine_now = subst (λ c. IsTrue (fits c host)) (sym p.done.change) (subst IsTrue (sym (fits_kept change p.done.extents host)) p.fine)

    stored_now : stored_parts now ≡ put.added
    stored_now = ap stored_parts p.done.change ∙ stored change p.done.extents (ap length put.is ∙ put.many ∙ p.many) ∙ put.is

    pub account : AreAccounted (live host) (live (applied now host)) (stored_parts now) (gone now host)
    account = accounted now host fine_now

    pub put_tells : spool.Tells mid account.more
    put_tells = put.tells (live host) account.more is_told.spool (subst (λ xs. Adds (live host) xs account.more) stored_now account.adds)

    pub filled_now : map_change (extent_bytes bytes) now ≡ filled change puts
    filled_now =
        read-planned now (filled change puts) (ap (map_change (λ _. no_extent)) p.done.change ∙ shape_kept change p.done.extents
        ∙ sym (filled_shape_kept change puts p.many)) (extent_bytes bytes)
        (ap (map (extent_bytes bytes)) stored_now ∙ read_all bytes put.added puts (put.held tells_all (live host) is_told.spool)
        ∙ sym (filled_bytes change puts p.many))

    pub plain_now : map_state (extent_bytes bytes) (applied now host) ≡ applied (filled change puts) (plain_of old host)
    plain_now = applied-map (extent_bytes bytes) now host ∙ (λ j. applied (filled_now j) (plain_kept bytes p.still j))

    pub records_now : told_by (version_of is_told.form) is_told.snapshot (is_told.payloads ++ text ∷ []) ≡ Some (applied now host)
    records_now = told_by_more (version_of is_told.form) is_told.snapshot is_told.payloads host text is_told.records
        ∙ ap (λ r. read_taken r (Some host)) p.done.read
        ∙ taken_some now host fine_now

    within_now : AllByRecursion (λ x. past x ≤ length bytes) (live (applied now host))
    within_now =
        let fewer = takes_all (λ x. past x ≤ length bytes) account.more (gone now host) account.fewer account.takes (put_tells.within tells_all) in
        has_all (λ x. past x ≤ length bytes) (live (applied now host)) (λ x has. all_has (λ y. past y ≤ length bytes) account.fewer x fewer
        ((account.order.same x).0 has))

    apart_now : AreApart (live (applied now host))
    apart_now = account.order.apart (takes_apart account.more (gone now host) account.fewer account.takes put_tells.live.apart)

    pub told_after : (images : Which → List ℕ) → is_second (images Root) ≡ old.on_second
        → StandsBy (images (journal_on old.on_second)) is_told.form is_told.snapshot (is_told.payloads ++ text ∷ []) → images Spool ≡ bytes
        → IsTold images (applied (filled change puts) (plain_of old host))
    told_after images named stands spool = record {
      host = applied now host;
      is = record {
        form = is_told.form;
        snapshot = is_told.snapshot;
        payloads = is_told.payloads ++ text ∷ [];
        stands = subst (λ b. StandsBy (images (journal_on b)) is_told.form is_told.snapshot (is_told.payloads ++ text ∷ [])) (sym named) stands;
        tells = records_now;
        sound = subst (λ b. AreSound (length b) (live (applied now host))) (sym spool) (record { apart = apart_now; within = within_now });
      };
      bytes = ap (λ b. map_state (extent_bytes b) (applied now host)) spool ∙ plain_now;
    }

    -- once the extents that go are free
    pub spool_tells : (last : SpoolOf D g) → spool.Tells last account.fewer → spool.Tells last (live (applied now host))
    spool_tells last tells = record {
      live = record {
        same = λ x some. (
          (λ has. (tells.live.same x some).0 ((account.order.same x).0 has)),
          (λ has. (account.order.same x).1 ((tells.live.same x some).1 has)),
        );
        apart = account.order.apart tells.live.apart;
      };
      within = λ all. has_all (λ x. past x ≤ length (content (spool.history_of last))) (live (applied now host))
          (λ x has. all_has (λ y. past y ≤ length (content (spool.history_of last))) account.fewer x (tells.within all) ((account.order.same x).0 has));
      quiet = tells.quiet;
    }

    -- the spool's images are what a read gives
    pub spool_image : (image : List ℕ) → IsImage (state (spool.history_of mid)) image → image ≡ bytes
    spool_image image leaves = sym (only_image (spool.history_of mid) image (put_tells.quiet tells_all) leaves)

    -- what images of the journal tell, where the spool has the bytes
    pub one_of : (images : Which → List ℕ) → IsImage (state (history_of old Root)) (images Root) → IsImage (state (spool.history_of mid)) (images Spool)
        → BeforeOrAfter (front_of is_told.form is_told.snapshot) is_told.payloads text (images (journal_on old.on_second))
        → TellsOneOf (plain_of old host) (applied (filled change puts) (plain_of old host)) images
    one_of images root spool (inl before) = inl (told_before images (named_image (images Root) root) (is_told.is, before)
        (subst (Keeps host was) (sym (spool_image (images Spool) spool)) p.still))
    one_of images root spool (inr after) = inr (told_after images (named_image (images Root) root) (is_told.is, after) (spool_image (images Spool) spool))

    -- moments of the append
    pub append_moments : (f' : History) (calls : List Call)
        → f' ≡ extended (with_disk Spool (spool.history_of mid) (history_of old) (journal_on old.on_second)) calls
        → EachSince (moment (history_of old (journal_on old.on_second))) f' (BeforeOrAfter (front_of is_told.form is_told.snapshot) is_told.payloads text)
        → Moments (with_disk Spool (spool.history_of mid) (history_of old)) (on (journal_on old.on_second) calls)
        (TellsOneOf (plain_of old host) (applied (filled change puts) (plain_of old host)))
    append_moments f' calls did any =
        let w = with_disk Spool (spool.history_of mid) (history_of old) in
        let same = but_disk Spool (spool.history_of mid) (history_of old) (journal_on old.on_second) (journal_apart old.on_second) in
        moments_on w f' (journal_on old.on_second) calls _ did
        (λ v other. rest_of Spool (spool.history_of mid) (history_of old) (λ h. (state h).ranges ≡ [])
        (λ u. no_pending (state (history_of old u)) (content (history_of old u)) (quiet u))
        (no_pending (state (spool.history_of mid)) bytes (put_tells.quiet tells_all)) v)
        (λ t images from to leaves others. one_of images (but Root (λ is. let no : ⊥ = cc in no) images (others Root (root_apart old.on_second)))
        (subst (λ h. IsImage (state h) (images Spool)) (at_disk Spool (spool.history_of mid) (history_of old)) (others Spool (spool_apart old.on_second)))
        (any t (images (journal_on old.on_second)) (subst (λ h. moment h ≤ t) same from) to leaves))
      where
        but : (v : Which) → v ≢ Spool → (images : Which → List ℕ)
            → IsImage (state (with_disk Spool (spool.history_of mid) (history_of old) v)) (images v) → IsImage (state (history_of old v)) (images v)
        but v other images leaves = subst (λ h. IsImage (state h) (images v)) (but_disk Spool (spool.history_of mid) (history_of old) v other) leaves

  -- moments of the puts
  pub put_moments : (s' : History) (calls : List Call) → s' ≡ extended (history_of old Spool) calls
      → EachSince (moment (history_of old Spool)) s' (λ image. Keeps host was image)
      → Moments (history_of old) (on Spool calls) (λ images. IsTold images (plain_of old host))
  put_moments s' calls did kept =
      moments_on (history_of old) s' Spool calls _ did (λ w other. no_pending (state (history_of old w)) (content (history_of old w)) (quiet w))
      (λ t images from to leaves others. told_before images (named_image (images Root) (others Root (λ is. let no : ⊥ = cc in no)))
      (stands_image (images (journal_on old.on_second)) (others (journal_on old.on_second) (journal_apart old.on_second)))
      (kept t (images Spool) from to leaves))
