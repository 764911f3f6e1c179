-- Which bytes have which first fault.
use Rattle.std.proofs.Common.{◌≡◌, ℕ, Bool, true, false, List, [], ◌∷◌, ◌++◌, refl, sym, ap, ◌∙◌, subst, Err, Ok}
use Rattle.nqs_codec.specs.Fields.{u8_field}
use Rattle.nqs_base.specs.Want.{want}
use Rattle.nqs_base.proofs.Readings.{bind, fail}
use Rattle.nqs_records.specs.declared.fault.RecordFault.TheVariants.{Short, Kind, BadField, Trailing, Memory}
use Rattle.nqs_records.specs.Reading.{Read, alone}
use Rattle.nqs_records.specs.Fields.{u8_at, number_at}
use Rattle.nqs_records.specs.Tables.{by_code}
use Rattle.nqs_records.specs.KindFields.{value_at}
use Rattle.nqs_records.specs.KindTable.{HostChange, kinds}
use Rattle.nqs_records.specs.Kinds.{no_kind, change_at, record_of}
use Rattle.nqs_records.specs.Changes.{AreBytes, MayStand, spelling}
use Rattle.nqs_records.specs.Faults.{is_kind, HasOtherKind, FirstFaults}
use Rattle.nqs_records.proofs.Numbers.{u8_read}
use Rattle.nqs_records.proofs.KindLaws.{change_law}
use Rattle.nqs_records.proofs.Steady.{Stays}
use Rattle.nqs_records.proofs.SteadyFields.{u8_steady}
use Rattle.nqs_records.proofs.SteadyKinds.{kind_steady, kind_none}
use Rattle.nqs_records.proofs.Whole.{Tells, whole_tells, told_by, trailing_is, still, none_with, cut_is}

-- ---- the first byte

pub u8_first : (b : ℕ) (rest : List ℕ) → AreBytes (b ∷ rest) → u8_at (b ∷ rest) 0 ≡ Ok (b, 1)
unfolding u8_field
u8_first b rest fits = u8_read.taken (b ∷ rest) rest 0 b fits (fits 0) refl

u8_still : (b : ℕ) (rest more : List ℕ) → AreBytes (b ∷ rest) → u8_at (b ∷ (rest ++ more)) 0 ≡ Ok (b, 1)
u8_still b rest more fits = subst (λ (r : Read (ℕ × ℕ)). Stays (b ∷ rest) r (u8_at (b ∷ (rest ++ more)) 0)) (u8_first b rest fits) (u8_steady (b ∷ rest) more 0)

no_bytes : alone change_at [] 0 ≡ Err (Short 0)
unfolding change_at u8_at number_at
no_bytes = refl

by_kind : (k : ℕ) (bytes : List ℕ) → u8_at bytes 0 ≡ Ok (k, 1) → change_at bytes 0 ≡ by_code value_at kinds k no_kind bytes 1
unfolding change_at
by_kind k bytes e = bind (u8_at bytes 0) (λ kind. by_code value_at kinds kind.0 no_kind bytes kind.1) (k, 1) _ e refl

other_kind : (k : ℕ) (bytes : List ℕ) → u8_at bytes 0 ≡ Ok (k, 1) → is_kind k ≡ false → alone change_at bytes 0 ≡ Err (Kind 0)
other_kind k bytes e is =
    fail (change_at bytes 0) _ (Kind 0) (by_kind k bytes e ∙ ap (λ (r : List ℕ → ℕ → Read (HostChange × ℕ)). r bytes 1) (kind_none k is))

-- ---- what an answer tells

-- the kind is told of a first byte that is no kind
abbrev IsToldKind : List ℕ → ℕ → Type 0
IsToldKind bytes place = (place ≡ 0) × HasOtherKind bytes

abbrev TellsChange : List ℕ → List ℕ → Type 0
TellsChange bytes longer = Tells MayStand spelling (IsToldKind bytes) bytes (alone change_at bytes 0) (alone change_at longer 0)

kind_tells : (k : ℕ) (rest more : List ℕ) → AreBytes (k ∷ rest) → (t : Bool) → is_kind k ≡ t → TellsChange (k ∷ rest) (k ∷ (rest ++ more))
kind_tells k rest more fits false is =
    subst (λ (x : Read HostChange). Tells MayStand spelling (IsToldKind (k ∷ rest)) (k ∷ rest) x (alone change_at (k ∷ (rest ++ more)) 0))
    (sym (other_kind k (k ∷ rest) (u8_first k rest fits) is))
    ((refl, is), other_kind k (k ∷ (rest ++ more)) (u8_still k rest more fits) is)
kind_tells k rest more fits true is =
    let here = by_kind k (k ∷ rest) (u8_first k rest fits) in
    let there = by_kind k (k ∷ (rest ++ more)) (u8_still k rest more fits) in
    let stays = kind_steady k is (k ∷ rest) more 1 in
    whole_tells change_law (IsToldKind (k ∷ rest)) (k ∷ rest) more fits
    (subst (λ (x : Read (HostChange × ℕ)). Stays (k ∷ rest) x (change_at (k ∷ (rest ++ more)) 0)) (sym here)
    (subst (λ (x : Read (HostChange × ℕ)). Stays (k ∷ rest) (by_code value_at kinds k no_kind (k ∷ rest) 1) x) (sym there) stays))

tells : (bytes more : List ℕ) → AreBytes bytes → TellsChange bytes (bytes ++ more)
tells [] more fits =
    subst (λ (x : Read HostChange). Tells MayStand spelling (IsToldKind []) [] x (alone change_at more 0)) (sym no_bytes) refl
tells (k ∷ rest) more fits = kind_tells k rest more fits (is_kind k) refl

-- ---- the other way

kind_is : (bytes : List ℕ) → AreBytes bytes → HasOtherKind bytes → alone change_at bytes 0 ≡ Err (Kind 0)
kind_is [] fits has = absurd has
kind_is (k ∷ rest) fits has = other_kind k (k ∷ rest) (u8_first k rest fits) has

pub first_faults : FirstFaults
unfolding record_of
first_faults bytes fits =
    let told = told_by change_law IsToldKind tells bytes [] in
    record {
      kind = λ place. (λ e. (told (Kind place) fits e).0, λ has. kind_is bytes fits has.1 ∙ ap (λ (n : ℕ). Err (Kind n)) (sym has.0));
      trailing = λ place. (λ e. (told (Trailing place) fits e).0, λ has. trailing_is change_law bytes place fits has);
      short = λ end e. told (Short end) fits e;
      cut = λ cut. cut_is change_law IsToldKind tells bytes fits cut;
      field = λ place e. ((told (BadField place) fits e).0, none_with change_law IsToldKind tells bytes fits (BadField place) tt e);
      final = λ fault is e. none_with change_law IsToldKind tells bytes fits fault is e;
      still = λ fault is e more. still change_law IsToldKind tells bytes fits fault is e more;
      memory = λ e. told (Memory want) fits e;
    }
