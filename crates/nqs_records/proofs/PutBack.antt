-- A piece of a list in place of another.
use Rattle.std.proofs.Common.{◌≡◌, ℕ, suc, ◌+◌, List, [], ◌∷◌, ◌++◌, flat_map, length, length-append, drop, refl, sym, ap, ◌∙◌, append_assoc, arith}
use Rattle.std.proofs.lemmas.List.{append-nil, take_at, drop_at}
use borrow.Rule.Slice.PartMut.{put_mid}
use Rattle.nqs_codec.specs.Fields.{u8_field, u32_field, u64_field, short_field}
use Rattle.nqs_base.specs.declared.extent.Extent.{Extent}
use Rattle.nqs_types.specs.declared.ids.HostId.{HostId}
use Rattle.nqs_types.specs.declared.ids.RequestId.{RequestId}
use Rattle.nqs_types.specs.declared.request.Job.{Job}
use Rattle.nqs_types.specs.declared.request.Carried.{Carried}
use Rattle.nqs_types.specs.declared.change.OutPart.{OutPart}
use Rattle.nqs_types.specs.declared.change.Change.TheVariants.{Submitted, Ended, OldPromised, Promised, StageGot}
use Rattle.nqs_records.specs.Spelling.{fields, extent_field, id_field, job_field, carried_field, part_field, list_field}
use Rattle.nqs_records.specs.Changes.{spelling}
use Rattle.nqs_records.specs.Extents.{parts_with}

pub length-extent : (e : Extent) → length (extent_field e) ≡ 12
unfolding extent_field u32_field u64_field
length-extent e = omega arith

pub put_back : (front mid back new : List ℕ) (a k : ℕ) → length front ≡ a → length mid ≡ k → put_mid a k (front ++ mid ++ back) new ≡ front ++ new ++ back
put_back front mid back new a k at size =
    let whole : front ++ mid ++ back ≡ front ++ (mid ++ back) = append_assoc front mid back in
    ap (λ (l : List ℕ). put_mid a k l new) whole
    ∙ (λ j. take_at front (mid ++ back) a at j ++ (new ++ drop k (drop_at front (mid ++ back) a at j)))
    ∙ ap (λ (l : List ℕ). front ++ (new ++ l)) (drop_at mid back k size)
    ∙ sym (append_assoc front new back)

-- the last of some fields
ends : (fs : List (List ℕ)) (f : List ℕ) → fields (fs ++ f ∷ []) ≡ fields fs ++ f ++ []
ends [] f = refl
ends (g ∷ fs) f =
    ap (λ (l : List ℕ). g ++ l) (ends fs f)
    ∙ sym (append_assoc g (fields fs ++ f) [])
    ∙ ap (λ (l : List ℕ). l ++ []) (sym (append_assoc g (fields fs) f))

module _ (queue : List ℕ) (job : Job) where
  abbrev pub submitted_front : List ℕ
  submitted_front = fields (u8_field 2 ∷ short_field queue ∷ job_field job ∷ [])

  pub submitted_ends : (x : Extent) → spelling (Submitted queue job x) ≡ submitted_front ++ extent_field x ++ []
  unfolding spelling
  submitted_ends x = ends (u8_field 2 ∷ short_field queue ∷ job_field job ∷ []) (extent_field x)

module _ (peer : HostId) (number : ℕ) (queue : List ℕ) (carried : Carried) where
  abbrev pub old_promised_front : List ℕ
  old_promised_front = fields (u8_field 15 ∷ u8_field peer.0 ∷ u64_field number ∷ short_field queue ∷ carried_field carried ∷ [])

  pub old_promised_ends : (x : Extent) → spelling (OldPromised peer number queue carried x) ≡ old_promised_front ++ extent_field x ++ []
  unfolding spelling
  old_promised_ends x = ends (u8_field 15 ∷ u8_field peer.0 ∷ u64_field number ∷ short_field queue ∷ carried_field carried ∷ []) (extent_field x)

module _ (peer : HostId) (number low : ℕ) (queue : List ℕ) (carried : Carried) where
  abbrev pub promised_front : List ℕ
  promised_front = fields (u8_field 24 ∷ u8_field peer.0 ∷ (u64_field number ++ u64_field low) ∷ short_field queue ∷ carried_field carried ∷ [])

  pub promised_ends : (x : Extent) → spelling (Promised peer number low queue carried x) ≡ promised_front ++ extent_field x ++ []
  unfolding spelling
  promised_ends x =
      ends (u8_field 24 ∷ u8_field peer.0 ∷ (u64_field number ++ u64_field low) ∷ short_field queue ∷ carried_field carried ∷ []) (extent_field x)

module _ (peer : HostId) (number : ℕ) (path : List ℕ) where
  abbrev pub got_front : List ℕ
  got_front = fields (u8_field 21 ∷ u8_field peer.0 ∷ u64_field number ∷ short_field path ∷ [])

  pub got_ends : (x : Extent) → spelling (StageGot peer number path x) ≡ got_front ++ extent_field x ++ []
  unfolding spelling
  got_ends x = ends (u8_field 21 ∷ u8_field peer.0 ∷ u64_field number ∷ short_field path ∷ []) (extent_field x)

-- parts of a job's output stand at the end
abbrev pub ended_front : RequestId → ℕ → List ℕ
ended_front id count = fields (u8_field 6 ∷ id_field id ∷ []) ++ u8_field count

pub ended_ends : (id : RequestId) (parts : List (OutPart Extent)) → spelling (Ended id parts) ≡ ended_front id (length parts) ++ flat_map part_field parts
unfolding spelling list_field
ended_ends id parts =
    ends (u8_field 6 ∷ id_field id ∷ []) (list_field part_field parts)
    ∙ append-nil (fields (u8_field 6 ∷ id_field id ∷ []) ++ (u8_field (length parts) ++ flat_map part_field parts))
    ∙ sym (append_assoc (fields (u8_field 6 ∷ id_field id ∷ [])) (u8_field (length parts)) (flat_map part_field parts))

pub length-parts_with : (parts : List (OutPart Extent)) (xs : List Extent) → length (parts_with parts xs) ≡ length parts
length-parts_with [] xs = refl
length-parts_with (part ∷ parts) xs = ap suc (length-parts_with parts (drop 1 xs))

-- a part, its extent last
pub part_ends : (path : List ℕ) (x : Extent) (later : List ℕ) → part_field (record { path = path; bytes = x }) ++ later
    ≡ short_field path ++ extent_field x ++ later
unfolding part_field
part_ends path x later = ap (λ (l : List ℕ). (short_field path ++ l) ++ later) (append-nil (extent_field x))

pub length-part : (part : OutPart Extent) → length (part_field part) ≡ 13 + length part.path
unfolding part_field short_field
length-part part = omega (
  arith,
  length-append (length part.path ∷ part.path) (extent_field part.bytes ++ []),
  ap length
      (append-nil (extent_field part.bytes)),
  length-extent part.bytes,
)
