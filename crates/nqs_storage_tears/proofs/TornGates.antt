-- A tear leaves 1 at the gate just where it keeps the gate, and so the meaning that goes with it.
use Rattle.std.proofs.Common.{◌≡◌, ◌≢◌, ℕ, zero, suc, ◌+◌, ◌<◌, ◌%◌, ◌==◌, nat_le, nat_lt, Bool, true, false, ◌&&◌, ◌||◌, List, [], ◌∷◌, length, get_or, refl}
use Rattle.std.proofs.Common.{sym, ap, subst, ◌∙◌, arith}
use Rattle.std.specs.Prelude.{if◌then◌else◌, MatchBool}
use Rattle.std.proofs.lemmas.List.{get_or-take}
use Rattle.std.proofs.lemmas.Bool.Decides.{nat_tests}
use Rattle.nqs_base.specs.Tears.{torn_byte}
use Rattle.nqs_outside.specs.History.{State, covers, IsImage}
use Rattle.nqs_journal.specs.Gate.{IsAtGate}
use Rattle.nqs_base.specs.declared.tear.Tear.{Tear}
use Rattle.nqs_base.specs.declared.tear.Tear.TheVariants.{Old, New, Mixed}
use Rattle.nqs_rules.specs.World.{keeps_gate}
use Rattle.nqs_disk.specs.Torn.{bits, is_free, mixed_from, mixed, torn}
use Rattle.nqs_storage_tears.specs.Gates.{Anything}

-- the first free byte
module _ (free : ℕ → Bool) (n : ℕ) (synced : List ℕ) where
  first_free : (content : List ℕ) (place i k : ℕ) → k < length content → ((j : ℕ) → j < k → free (place + j) ≡ false) → free (place + k) ≡ true
      → get_or (mixed_from free n synced place i content) k 0 ≡ torn_byte (bits n i) (get_or synced (place + k) 0) (get_or content k 0)
  first_free [] place i k within before open_here = absurd (omega arith)
  first_free (new ∷ content) place i zero within before open_here =
      let here : place + 0 ≡ place = omega arith in
      ap (λ b. if b then torn_byte (bits n i) (get_or synced place 0) new else get_or synced place 0) (sym (ap free here) ∙ open_here)
      ∙ ap (λ p. torn_byte (bits n i) (get_or synced p 0) new) (sym here)
  first_free (new ∷ content) place i (suc k) within before open_here =
      let start : place + 0 ≡ place = omega arith in
      let shut : free place ≡ false = sym (ap free start) ∙ before 0 (omega arith) in
      let next : (j : ℕ) → place + suc j ≡ (place + 1) + j = λ j. omega arith in
      ap (λ b. get_or (mixed_from free n synced (place + 1) (if b then i + 1 else i) content) k 0) shut
      ∙ first_free content (place + 1) i k (omega arith) (λ j below. sym (ap free (next j)) ∙ before (suc j) (omega arith)) (sym (ap free (next k)) ∙ open_here)
      ∙ ap (λ p. torn_byte (bits n i) (get_or synced p 0) (get_or content k 0)) (sym (next k))

-- its test says that the byte is 1
abbrev IsTold : Bool → ℕ → Type 0
IsTold told byte = MatchBool told (byte ≡ 1) (byte ≢ 1)

-- a gate that isn't 1 becomes 1, by the number of its byte
picked : (m old : ℕ) → old ≢ 1 → IsTold (m == 1) (torn_byte m old 1)
picked zero old shut = shut
picked (suc zero) old shut = refl
picked (suc (suc zero)) old shut = λ e. omega arith
picked (suc (suc (suc more))) old shut = let no : (suc (suc (suc more)) == 1) ≡ false = grind (arith, nat_tests) in
    subst (λ b. IsTold b 255) (sym no) (λ e. omega arith)

pub no_bits : (n : ℕ) → bits n 0 ≡ n % 4
no_bits n = omega arith

below_either : {gate short long : ℕ} (b : Bool) → gate < long → gate < short → gate < (if b then long else short)
below_either true long short = long
below_either false long short = short

module _ (s : State) (gate : ℕ) where
  before_gate : s.ranges ≡ (gate, 1) ∷ [] → gate < length s.synced → (j : ℕ) → j < gate → is_free s (0 + j) ≡ false
  before_gate pending within j below = ap (λ r. covers r (0 + j) || nat_le (length s.synced) (0 + j)) pending
      ∙ (let no : ((nat_le gate (0 + j) && nat_lt (0 + j) (gate + 1)) || false || nat_le (length s.synced) (0 + j)) ≡ false = grind (arith, nat_tests) in no)

  at_gate : s.ranges ≡ (gate, 1) ∷ [] → is_free s (0 + gate) ≡ true
  at_gate pending = ap (λ r. covers r (0 + gate) || nat_le (length s.synced) (0 + gate)) pending
      ∙ (let yes : ((nat_le gate (0 + gate) && nat_lt (0 + gate) (gate + 1)) || false || nat_le (length s.synced) (0 + gate)) ≡ true =
      grind (arith, nat_tests) in yes)

  mixed_gate : (n : ℕ) → IsAtGate s gate Anything Anything → IsTold (n % 4 == 1) (get_or (mixed n s) gate 0)
  mixed_gate n g =
      let kept = if n % 2 == 1 then length s.content else length s.synced in
      let whole = mixed_from (is_free s) n s.synced 0 0 s.content in
      let byte : get_or (mixed n s) gate 0 ≡ torn_byte (n % 4) (get_or s.synced gate 0) 1 =
      get_or-take kept whole gate 0 (below_either (n % 2 == 1) (omega (arith, g.within, g.same_length)) g.within)
      ∙ first_free (is_free s) n s.synced s.content 0 0 gate (omega (arith, g.within, g.same_length)) (before_gate g.pending g.within) (at_gate g.pending)
      ∙ ap (λ m. torn_byte m (get_or s.synced (0 + gate) 0) (get_or s.content gate 0)) (no_bits n)
      ∙ ap (λ place. torn_byte (n % 4) (get_or s.synced place 0) (get_or s.content gate 0)) (let e : 0 + gate ≡ gate = omega arith in e)
      ∙ ap (torn_byte (n % 4) (get_or s.synced gate 0)) g.wide in
      subst (IsTold (n % 4 == 1)) (sym byte) (picked (n % 4) (get_or s.synced gate 0) g.shut)

pub torn_gate : (s : State) (gate : ℕ) (tear : Tear) → IsAtGate s gate Anything Anything → IsTold (keeps_gate tear) (get_or (torn tear s) gate 0)
torn_gate s gate Old g = g.shut
torn_gate s gate New g = g.wide
torn_gate s gate (Mixed n) g = mixed_gate s gate n g

-- what the torn bytes mean
module _ (s : State) (gate : ℕ) (Shut Wide : List ℕ → Type 0) (g : IsAtGate s gate Shut Wide) where
  any_meaning : IsAtGate s gate Anything Anything
  any_meaning = record {
    pending = g.pending;
    within = g.within;
    same_length = g.same_length;
    shut = g.shut;
    wide = g.wide;
    if_shut =
        λ image is byte. tt;
    if_wide = λ image is byte. tt;
  }

  pub torn_means : (tear : Tear) → IsImage s (torn tear s) → MatchBool (keeps_gate tear) (Wide (torn tear s)) (Shut (torn tear s))
  torn_means tear image = by (keeps_gate tear) (torn_gate s gate tear any_meaning)
    where
      by : (b : Bool) → IsTold b (get_or (torn tear s) gate 0) → MatchBool b (Wide (torn tear s)) (Shut (torn tear s))
      by true byte = g.if_wide (torn tear s) image byte
      by false byte = g.if_shut (torn tear s) image byte
