-- Extents freed, one after another.
use Rattle.std.proofs.Common.{◌≡◌, ℕ, zero, suc, ◌+◌, ◌<◌, ◌≤◌, min, get_or, Bool, true, false, cond, List, [], ◌∷◌, ◌++◌, map, filter, take, drop, length}
use Rattle.std.proofs.Common.{slice_get, slice_set, Some, refl, sym, ap, subst, ◌∙◌, arith}
use Rattle.std.proofs.lemmas.Option.{same_Some, none-some}
use Rattle.nqs_base.specs.declared.extent.Extent.{Extent}
use Rattle.nqs_types.specs.declared.change.OutPart.{OutPart}
use Rattle.nqs_base_tables.proofs.TableLemmas.{drop-at}
use Rattle.nqs_types.specs.declared.ids.HostId.{HostId}
use Rattle.nqs_types.specs.declared.ids.RequestId.{RequestId}
use Rattle.nqs_types.specs.declared.request.Carried.{Carried}
use Rattle.nqs_types.specs.declared.edit.Edit.{Edit}
use Rattle.nqs_types.specs.declared.change.Change.{Change}
use Rattle.nqs_types.specs.declared.change.Change.TheVariants.{Site, Submitted, Deleted, Doomed, Started, Ended, Unlaunched, Boot, Edited, HandOpened}
use Rattle.nqs_types.specs.declared.change.Change.TheVariants.{HandCommitted, HandRefused, HandsSilent, HandDone, OldPromised, Promised, Accepted, Dropped}
use Rattle.nqs_types.specs.declared.change.Change.TheVariants.{MovedLocal}
use Rattle.nqs_types.specs.declared.change.Change.TheVariants.{RefusedLocal, HeldFar, StageGot, StageGone, FileGone}
use Rattle.nqs_store.specs.Told.{Host}
use Rattle.nqs_store.specs.Frees.{gone}
use Rattle.nqs_outside.specs.declared.disk.Disk as disk
use Rattle.nqs_spool.specs.Extents.{IsWith}
use Rattle.nqs_spool.specs.Spooled.{Tells}
use Rattle.nqs_spool.specs.declared.spool.Spool.{Spool}
use Rattle.std.proofs.lemmas.Bool.Decides.{nat_tests}
use Rattle.std.proofs.Common.{nat_lt}
use Rattle.nqs_rules.specs.Tests.{last_u64}
use Rattle.nqs_records.specs.Extents.{first_or, parts_with}
use Rattle.nqs_store.specs.Accounts.{Takes}

module _ {D : Type 0} {g : disk.Ghosts D} (old new : Spool D g) (x : Extent)
    (frees : (live fewer : List Extent) → Tells old live → IsWith fewer x live → Tells new fewer) where
  pub one_free : (live fewer : List Extent) → Tells old live → Takes live (x ∷ []) fewer → Tells new fewer
  one_free live fewer tells takes = frees live fewer tells (subst (λ l. IsWith l x live) takes.2 takes.1)

  -- and others later
  pub first_free : (xs : List Extent) (live fewer : List Extent) → Tells old live → Takes live (x ∷ xs) fewer
      → (mid : List Extent) × Tells new mid × Takes mid xs fewer
  first_free xs live fewer tells takes = (takes.0, frees live takes.0 tells takes.1, takes.2)

module _ {V : Type 0} (part : V → Extent) (p : V → Bool) (vs : List V) (i : ℕ) (v : V) (at : slice_get vs i ≡ Some v) where
  pub taken_on : p v ≡ true → map part (filter p (drop i vs)) ≡ part v ∷ map part (filter p (drop (i + 1) vs))
  taken_on goes = ap (λ l. map part (filter p l)) (drop-at vs i v at) ∙ ap
      (λ b. map part (cond b (v ∷ filter p (drop (i + 1) vs)) (filter p (drop (i + 1) vs)))) goes

  pub left_on : p v ≡ false → map part (filter p (drop i vs)) ≡ map part (filter p (drop (i + 1) vs))
  left_on stays = ap (λ l. map part (filter p l)) (drop-at vs i v at) ∙ ap
      (λ b. map part (cond b (v ∷ filter p (drop (i + 1) vs)) (filter p (drop (i + 1) vs)))) stays

  pub next_on : map part (drop i vs) ≡ part v ∷ map part (drop (i + 1) vs)
  next_on = ap (map part) (drop-at vs i v at)

pub drop-map : {V W : Type 0} (f : V → W) (vs : List V) (n : ℕ) → drop n (map f vs) ≡ map f (drop n vs)
drop-map f vs zero = refl
drop-map f [] (suc n) = refl
drop-map f (v ∷ vs) (suc n) = drop-map f vs n

-- a number past the end drops all
pub drop_most : {V W : Type 0} (f : V → W) (vs : List V) (n kept : ℕ) → kept ≡ min n (length vs) → drop n (map f vs) ≡ map f (drop kept vs)
drop_most f vs zero kept is = ap (λ k. map f (drop k vs)) (let e : 0 ≡ kept = omega (arith, is) in e)
drop_most f [] (suc n) kept is = ap (λ k. map f (drop k [])) (let e : 0 ≡ kept = omega (arith, is) in e)
drop_most f (v ∷ vs) (suc n) zero is = absurd (omega (arith, is))
drop_most f (v ∷ vs) (suc n) (suc kept) is = drop_most f vs n kept (omega (arith, is))

-- the extent of one part more is set

drop_one : (xs : List Extent) (i : ℕ) → drop (suc i) xs ≡ drop i (drop 1 xs)
drop_one [] zero = refl
drop_one [] (suc i) = refl
drop_one (x ∷ xs) i = refl

pub set_next : (ps : List (OutPart Extent)) (xs : List Extent) (i n : ℕ) (p : OutPart Extent) → slice_get ps i ≡ Some p → n ≡ suc i
    → slice_set (parts_with (take i ps) xs ++ drop i ps) i (record { path = p.path; bytes = first_or p.bytes (drop i xs) })
    ≡ parts_with (take n ps) xs ++ drop n ps
set_next [] xs i n p at next = absurd (none-some p at)
set_next (q ∷ ps) xs zero n p at next = ap (λ r. record { path = r.path; bytes = first_or r.bytes xs } ∷ ps) (sym (same_Some q p at))
    ∙ sym (ap (λ m. parts_with (take m (q ∷ ps)) xs ++ drop m (q ∷ ps)) next)
set_next (q ∷ ps) xs (suc i) n p at next =
    ap (λ ys. record { path = q.path; bytes = first_or q.bytes xs } ∷ slice_set (parts_with (take i ps) (drop 1 xs) ++ drop i ps) i
    (record { path = p.path; bytes = first_or p.bytes ys })) (drop_one xs i)
    ∙ ap (λ l. record { path = q.path; bytes = first_or q.bytes xs } ∷ l) (set_next ps (drop 1 xs) i (suc i) p at refl)
    ∙ sym (ap (λ m. parts_with (take m (q ∷ ps)) xs ++ drop m (q ∷ ps)) next)

pub get_next : (ps : List (OutPart Extent)) (xs : List Extent) (i : ℕ) (d : OutPart Extent) → i < length ps
    → get_or (parts_with (take i ps) xs ++ drop i ps) i d ≡ get_or ps i d
get_next [] xs i d lt = absurd (omega (arith, lt))
get_next (q ∷ ps) xs zero d lt = refl
get_next (q ∷ ps) xs (suc i) d lt = get_next ps (drop 1 xs) i d (omega (arith, lt))

pub takes_split : (live xs ys fewer : List Extent) → Takes live (xs ++ ys) fewer → (mid : List Extent) × Takes live xs mid × Takes mid ys fewer
takes_split live [] ys fewer takes = (live, refl, takes)
takes_split live (x ∷ xs) ys fewer takes = let rest = takes_split takes.0 xs ys fewer takes.2 in (rest.0, (takes.0, takes.1, rest.1), rest.2)

pub past_last : (n : ℕ) → last_u64 ≤ n → nat_lt n last_u64 ≡ false
past_last n le = grind (arith, nat_tests)

-- a change of no other kind takes nothing away
module _ (host : Host) where
  pub nothing_gone : (change : Change Extent)
      → ((id : RequestId) → change ≡ Deleted id → ⊥)
      → ((id : RequestId) (parts : List (OutPart Extent)) → change ≡ Ended id parts → ⊥)
      → ((id : RequestId) → change ≡ Unlaunched id → ⊥)
      → (change ≡ Boot → ⊥)
      → ((e : Edit) → change ≡ Edited e → ⊥)
      → ((peer : HostId) (number : ℕ) → change ≡ HandCommitted peer number → ⊥)
      → ((peer : HostId) (number : ℕ) (queue : List ℕ) (carried : Carried) (script : Extent) → change ≡ OldPromised peer number queue carried script → ⊥)
      → ((peer : HostId) (number low : ℕ) (queue : List ℕ) (carried : Carried) (script : Extent)
      → change ≡ Promised peer number low queue carried script → ⊥)
      → ((peer : HostId) (number : ℕ) → change ≡ Accepted peer number → ⊥)
      → ((peer : HostId) (number : ℕ) → change ≡ Dropped peer number → ⊥)
      → ((peer : HostId) (number : ℕ) (path : List ℕ) (bytes : Extent) → change ≡ StageGot peer number path bytes → ⊥)
      → ((peer : HostId) (number : ℕ) → change ≡ StageGone peer number → ⊥)
      → ((file : ℕ) → change ≡ FileGone file → ⊥)
      → gone change host ≡ []
  nothing_gone (Deleted id) n0 n1 n2 n3 n4 n5 n6 n7 n8 n9 n10 n11 n12 = absurd (n0 id refl)
  nothing_gone (Ended id parts) n0 n1 n2 n3 n4 n5 n6 n7 n8 n9 n10 n11 n12 = absurd (n1 id parts refl)
  nothing_gone (Unlaunched id) n0 n1 n2 n3 n4 n5 n6 n7 n8 n9 n10 n11 n12 = absurd (n2 id refl)
  nothing_gone Boot n0 n1 n2 n3 n4 n5 n6 n7 n8 n9 n10 n11 n12 = absurd (n3 refl)
  nothing_gone (Edited e) n0 n1 n2 n3 n4 n5 n6 n7 n8 n9 n10 n11 n12 = absurd (n4 e refl)
  nothing_gone (HandCommitted peer number) n0 n1 n2 n3 n4 n5 n6 n7 n8 n9 n10 n11 n12 = absurd (n5 peer number refl)
  nothing_gone (OldPromised peer number queue carried script) n0 n1 n2 n3 n4 n5 n6 n7 n8 n9 n10 n11 n12 = absurd (n6 peer number queue carried script refl)
  nothing_gone (Promised peer number low queue carried script) n0 n1 n2 n3 n4 n5 n6 n7 n8 n9 n10 n11 n12 =
      absurd (n7 peer number low queue carried script refl)
  nothing_gone (Accepted peer number) n0 n1 n2 n3 n4 n5 n6 n7 n8 n9 n10 n11 n12 = absurd (n8 peer number refl)
  nothing_gone (Dropped peer number) n0 n1 n2 n3 n4 n5 n6 n7 n8 n9 n10 n11 n12 = absurd (n9 peer number refl)
  nothing_gone (StageGot peer number path bytes) n0 n1 n2 n3 n4 n5 n6 n7 n8 n9 n10 n11 n12 = absurd (n10 peer number path bytes refl)
  nothing_gone (StageGone peer number) n0 n1 n2 n3 n4 n5 n6 n7 n8 n9 n10 n11 n12 = absurd (n11 peer number refl)
  nothing_gone (FileGone file) n0 n1 n2 n3 n4 n5 n6 n7 n8 n9 n10 n11 n12 = absurd (n12 file refl)
  nothing_gone (Site me site) n0 n1 n2 n3 n4 n5 n6 n7 n8 n9 n10 n11 n12 = refl
  nothing_gone (Submitted queue job script) n0 n1 n2 n3 n4 n5 n6 n7 n8 n9 n10 n11 n12 = refl
  nothing_gone (Doomed id) n0 n1 n2 n3 n4 n5 n6 n7 n8 n9 n10 n11 n12 = refl
  nothing_gone (Started id device) n0 n1 n2 n3 n4 n5 n6 n7 n8 n9 n10 n11 n12 = refl
  nothing_gone (HandOpened peer number id queue since) n0 n1 n2 n3 n4 n5 n6 n7 n8 n9 n10 n11 n12 = refl
  nothing_gone (HandRefused peer number refusal) n0 n1 n2 n3 n4 n5 n6 n7 n8 n9 n10 n11 n12 = refl
  nothing_gone (HandsSilent until hands) n0 n1 n2 n3 n4 n5 n6 n7 n8 n9 n10 n11 n12 = refl
  nothing_gone (HandDone peer number) n0 n1 n2 n3 n4 n5 n6 n7 n8 n9 n10 n11 n12 = refl
  nothing_gone (MovedLocal id queue) n0 n1 n2 n3 n4 n5 n6 n7 n8 n9 n10 n11 n12 = refl
  nothing_gone (RefusedLocal id queue refusal) n0 n1 n2 n3 n4 n5 n6 n7 n8 n9 n10 n11 n12 = refl
  nothing_gone (HeldFar id) n0 n1 n2 n3 n4 n5 n6 n7 n8 n9 n10 n11 n12 = refl
