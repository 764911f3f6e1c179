-- How long values are spelled, within their limits.
use Rattle.std.proofs.Common.{◌≡◌, ℕ, ◌+◌, ◌*◌, ◌≤◌, Bool, true, false, List, [], ◌∷◌, flat_map, length, length-append, Option, None, Some, refl, arith}
use Rattle.std.proofs.Math.Nat.{mul-le-mul_left}
use Rattle.std.specs.List.{AllByRecursion}
use Rattle.nqs_base.specs.Name.{IsName}
use Rattle.nqs_base.specs.Path.{IsPath}
use Rattle.nqs_base.specs.declared.extent.Extent.{Extent}
use Rattle.nqs_types.specs.declared.ids.RequestId.{RequestId}
use Rattle.nqs_types.specs.declared.ids.PeerNumber.{PeerNumber}
use Rattle.nqs_types.specs.declared.ids.Named.{Named}
use Rattle.nqs_types.specs.declared.ids.NamedDest.{NamedDest}
use Rattle.nqs_types.specs.declared.request.Job.{Job}
use Rattle.nqs_types.specs.declared.request.Carried.{Carried}
use Rattle.nqs_types.specs.declared.change.OutPart.{OutPart}
use Rattle.nqs_codec.specs.Fields.{u8_field, u16_field, u32_field, u64_field, short_field, bool_field}
use Rattle.nqs_records.specs.Spelling.{opt_field, list_field, id_field, job_field, carried_field, part_field, hand_field, flag_field, dest_field, named_field}
use Rattle.nqs_records.specs.Values.{IsU64, IsOpt, IsJob, IsCarried, IsPart, IsHand, IsDest, IsNamed}
use Rattle.nqs_records.proofs.PutBack.{length-extent}

-- ---- numbers, names and paths

pub length-u8 : (n : ℕ) → length (u8_field n) ≡ 1
unfolding u8_field
length-u8 n = refl

pub length-u16 : (n : ℕ) → length (u16_field n) ≡ 2
unfolding u16_field
length-u16 n = omega arith

pub length-u32 : (n : ℕ) → length (u32_field n) ≡ 4
unfolding u32_field
length-u32 n = omega arith

pub length-u64 : (n : ℕ) → length (u64_field n) ≡ 8
unfolding u64_field
length-u64 n = omega arith

length-short : (bytes : List ℕ) → length (short_field bytes) ≡ length bytes + 1
unfolding short_field
length-short bytes = omega arith

pub length-bool : (b : Bool) → length (bool_field b) ≡ 1
unfolding bool_field
length-bool true = refl
length-bool false = refl

number_short : (n : ℕ) → IsU64 n → length (u64_field n) ≤ 8
number_short n is = omega (arith, length-u64 n)

pub name_short : (bytes : List ℕ) → IsName bytes → length (short_field bytes) ≤ 16
name_short bytes is = omega (arith, length-short bytes, is.few)

pub path_short : (bytes : List ℕ) → IsPath bytes → length (short_field bytes) ≤ 256
path_short bytes is = omega (arith, length-short bytes, is.few)

-- ---- what may be left out, and lists

module _ {A : Type 0} (Is : A → Type 0) (field : A → List ℕ) (most : ℕ) (each : (a : A) → Is a → length (field a) ≤ most) where
  pub opt_short : (o : Option A) → IsOpt Is o → length (opt_field field o) ≤ 1 + most
  opt_short None is = omega (arith, length-bool false)
  opt_short (Some a) is = omega (arith, length-append (bool_field true) (field a), length-bool true, each a is)

  all_short : (xs : List A) → AllByRecursion Is xs → length (flat_map field xs) ≤ most * length xs
  all_short [] all = omega arith
  all_short (x ∷ xs) all = omega (arith, length-append (field x) (flat_map field xs), each x all.0, all_short xs all.1)

  pub list_short : (xs : List A) (count : ℕ) → AllByRecursion Is xs → length xs ≤ count → length (list_field field xs) ≤ most * count + 1
  unfolding list_field
  list_short xs count all few =
      omega (arith, length-append (u8_field (length xs)) (flat_map field xs), length-u8 (length xs), all_short xs all, mul-le-mul_left most few)

-- ---- values of several fields

pub flag_short : (b : Bool) → length (flag_field b) ≤ 9
unfolding flag_field
flag_short true = omega (arith, length-append (bool_field true) (u64_field 1), length-bool true, length-u64 1)
flag_short false = omega (arith, length-bool false)

pub length-id : (id : RequestId) → length (id_field id) ≡ 5
unfolding id_field
length-id id = simp length-append (omega (arith, length-u32 id.seq, length-u8 id.host.0))

pub hand_short : (h : PeerNumber) → IsHand h → length (hand_field h) ≤ 9
unfolding hand_field
hand_short h is = simp length-append (omega (arith, length-u8 h.peer.0, length-u64 h.number))

pub job_short : (j : Job) → IsJob j → length (job_field j) ≤ 590
unfolding job_field
job_short j h = simp length-append (omega (
  arith,
  name_short j.name h.0,
  name_short j.owner h.1,
  length-u8 j.priority,
  length-u64 j.earliest,
  length-bool j.rerun,
  opt_short IsU64 u64_field 8 number_short j.limits.cpu h.5,
  opt_short IsU64 u64_field 8 number_short j.limits.memory h.6,
  opt_short IsName short_field 16 name_short j.forms h.7,
  path_short j.out h.8,
  path_short j.err h.9,
  length-bool j.join,
))

pub carried_short : (c : Carried) → IsCarried c → length (carried_field c) ≤ 600
unfolding carried_field
carried_short c h = simp length-append (omega (arith, length-id c.id, job_short c.job h.1, length-u16 c.starts, length-u16 c.lost, length-u8 c.hops))

pub part_short : (p : OutPart Extent) → IsPart p → length (part_field p) ≤ 268
unfolding part_field
part_short p h = simp length-append (omega (arith, path_short p.path h.0, length-extent p.bytes))

pub dest_short : (d : NamedDest) → IsDest d → length (dest_field d) ≤ 32
unfolding dest_field
dest_short d h = simp length-append (omega (arith, name_short d.queue h.0, name_short d.host h.1))

pub named_short : (n : Named) → IsNamed n → length (named_field n) ≤ 20
unfolding named_field
named_short n h = simp length-append (omega (arith, length-u32 n.seq, name_short n.host h.1))
