-- A piece that is read is in form, and one in form may be sent.
use Rattle.std.proofs.Common.{◌≡◌, ℕ, ◌+◌, ◌<◌, ◌≤◌, ◌^◌, Bool, true, false, ◌&&◌, ◌||◌, ◌==◌, nat_le, nat_lt, IsTrue, length, refl, subst, arith}
use Rattle.std.specs.Prelude.{if◌then◌else◌}
use Rattle.std.proofs.lemmas.Bool.{and_parts, and_from, leb-true, le-leb, ltb-true, lt-ltb, eqb-true, eq-eqb}
use Rattle.nqs_pieces.specs.Pieces.{IsPiece}
use Rattle.nqs_pieces.specs.declared.piece.Piece.{Piece}
use Rattle.nqs_packets.specs.Parts.{is_piece_kind, is_piece_count, is_piece_length}
use Rattle.nqs_packets.specs.Values.{IsBody}
use Rattle.nqs_packets.specs.Messages.{in_datagram, WhatIsReadIsInForm, WhatIsInFormMaySend}
use Rattle.nqs_packets.proofs.Spelled.{is_spelled}

-- how long a piece is

full : (index count n : ℕ) → IsTrue (is_piece_length index count n) → index + 1 < count → n ≡ 48000
full index count n is more =
    eqb-true n 48000 (subst (λ (b : Bool). (if b then n == 48000 else nat_le 1 n && nat_le n 48000) ≡ true) (lt-ltb (index + 1) count more) is)

pub within : (index count n : ℕ) → IsTrue (is_piece_length index count n) → (0 < n) × (n ≤ 48000)
within index count n is = by (nat_lt (index + 1) count) is
  where
    by : (b : Bool) → (if b then n == 48000 else nat_le 1 n && nat_le n 48000) ≡ true → (0 < n) × (n ≤ 48000)
    by true k = let e = eqb-true n 48000 k in (omega (arith, e), omega (arith, e))
    by false k = let p = and_parts (nat_le 1 n) (nat_le n 48000) k in let some = leb-true 1 n p.0 in (omega (arith, some), leb-true n 48000 p.1)

formed : (p : Piece) → IsBody (in_datagram p).body → IsPiece p
formed p ok =
    let inner = and_parts (nat_le 2 p.count && nat_le p.count 22) (nat_lt p.index p.count) ok.4.0 in
    let outer = and_parts (nat_le 2 p.count) (nat_le p.count 22) inner.0 in
    let long = within p.index p.count (length p.bytes) ok.5.0 in
    record {
      several = leb-true 2 p.count outer.0;
      few = leb-true p.count 22 outer.1;
      inside = ltb-true p.index p.count inner.1;
      full = full p.index p.count (length p.bytes) ok.5.0;
      some = long.0;
      short = long.1;
    }

pub in_form : WhatIsReadIsInForm
in_form bytes p fits is = formed p (is_spelled bytes (in_datagram p) fits is).1.2

-- the other way

kind_small : (kind : ℕ) → IsTrue (is_piece_kind kind) → kind < 2 ^ 8
kind_small kind is = by (kind == 1) refl is
  where
    by : (b : Bool) → (kind == 1) ≡ b → (b || kind == 10) ≡ true → kind < 2 ^ 8
    by true e k = let one = eqb-true kind 1 e in omega (arith, one)
    by false e k = let ten = eqb-true kind 10 k in omega (arith, ten)

count_is : (p : Piece) → IsPiece p → IsTrue (is_piece_count p.index p.count)
count_is p form =
    and_from (nat_le 2 p.count && nat_le p.count 22) (nat_lt p.index p.count)
    (and_from (nat_le 2 p.count) (nat_le p.count 22) (le-leb 2 p.count form.several) (le-leb p.count 22 form.few)) (lt-ltb p.index p.count form.inside)

length_is : (p : Piece) → IsPiece p → IsTrue (is_piece_length p.index p.count (length p.bytes))
length_is p form = by (nat_lt (p.index + 1) p.count) refl
  where
    by : (b : Bool) → nat_lt (p.index + 1) p.count ≡ b
        → (if b then length p.bytes == 48000 else nat_le 1 (length p.bytes) && nat_le (length p.bytes) 48000) ≡ true
    by true e = eq-eqb (length p.bytes) 48000 (form.full (ltb-true (p.index + 1) p.count e))
    by false e = and_from (nat_le 1 (length p.bytes)) (nat_le (length p.bytes) 48000)
        (le-leb 1 (length p.bytes) (let some = form.some in omega (arith, some))) (le-leb (length p.bytes) 48000 form.short)

pub in_form_may : WhatIsInFormMaySend
in_form_may p port of form =
    let few = form.few in
    let inside = form.inside in
    let short = form.short in (
      of.from,
      of.to,
      (
        (of.kind, kind_small p.kind of.kind),
        (of.port, port),
        of.number,
        omega (arith, few, inside),
        (count_is p form, omega (arith, few)),
        (length_is p form, omega (arith, short)),
      ),
    )
