-- How many payloads a journal has.
use Rattle.std.proofs.Common.{◌≡◌, ℕ, ◌+◌, ◌-◌, ◌^◌, ◌<◌, ◌≤◌, Bool, false, List, [], ◌∷◌, ◌++◌, length, refl, ap, sym, ◌∙◌, subst, arith, length-append}
use Rattle.std.proofs.Math.Logic.{∥∥₁_elim, ∥∥₁_map}
use Rattle.std.specs.Coded.{Coded-set, coded_ℕ}
use Rattle.std.proofs.Math.Bool.{Bool-set}
use Rattle.nqs_outside.specs.History.{History, extended, content, IsQuiet}
use Rattle.nqs_journal.specs.Text.{frame, records, snapshot_front, StandsAfter}
use Rattle.nqs_journal.specs.Either.{front_of, is_old_form, IsSnapshot, StandsBy}
use Rattle.nqs_journal.specs.Opened.{IsOpen, IsCounted}
use Rattle.nqs_journal.specs.Plan.{append_calls}
use Rattle.nqs_journal.proofs.Appends.{acknowledged}
use Rattle.nqs_journal.proofs.Eithers.{one_reading}

few_records : (payloads : List (List ℕ)) → length payloads ≤ length (records payloads)
few_records [] = omega arith
few_records (payload ∷ payloads) = omega (arith, few_records payloads, length-append (frame payload) (records payloads))

-- each record takes more than one byte
pub few : (front : List ℕ) (payloads : List (List ℕ)) → length payloads ≤ length (front ++ records payloads)
few front payloads = omega (arith, few_records payloads, length-append front (records payloads))

pub counted_same : (h k : History) (gate count : ℕ) (is_old : Bool) → k ≡ h → ∥ IsCounted h gate count is_old ∥₁ → ∥ IsCounted k gate count is_old ∥₁
counted_same h k gate count is_old same counted = subst (λ l. ∥ IsCounted l gate count is_old ∥₁) (sym same) counted

-- the closed gate lies within
pub within : (front bytes : List ℕ) (payloads : List (List ℕ)) → StandsAfter front bytes payloads → length (front ++ records payloads) < length bytes
within front bytes payloads stands =
    omega (arith, ap length stands.text, length-append (front ++ records payloads) (stands.gate ∷ stands.rest))

-- a quiet disk that was read, and did nothing since
pub counted_by : (h k : History) (gate count : ℕ) (is_old : Bool) (form : ℕ) (snapshot : List ℕ) (payloads : List (List ℕ)) → k ≡ h → IsQuiet h
    → StandsBy (content h) form snapshot payloads → gate ≡ length (front_of form snapshot ++ records payloads) → count ≡ length payloads
    → is_old ≡ is_old_form form → ∥ IsCounted k gate count is_old ∥₁
counted_by h k gate count is_old form snapshot payloads same quiet stands gate_is count_is old_is = counted_same h k gate count is_old same
    ∣ record {
      form = form;
      snapshot = snapshot;
      payloads = payloads;
      is = stands.0;
      opened = record { stands = stands.1; gate_place = gate_is; quiet = quiet };
      count_is = count_is;
      old_is = old_is;
    } ∣₁

pub counted_more : (h k : History) (gate count : ℕ) (is_old : Bool) (payload : List ℕ) → length payload ≤ 65536
    → k ≡ extended h (append_calls gate payload)
    → ∥ IsCounted h gate count is_old ∥₁ → ∥ IsCounted k (gate + (5 + length payload)) (count + 1) is_old ∥₁
counted_more h k gate count is_old payload short made counted = ∥∥₁_map counted (λ c. record {
  form = c.form;
  snapshot = c.snapshot;
  payloads = c.payloads ++ payload ∷ [];
  is = c.is;
  opened = acknowledged h (front_of c.form c.snapshot) gate c.payloads payload c.opened short k made;
  count_is = omega (arith, c.count_is, length-append c.payloads (payload ∷ []));
  old_is = c.old_is;
})

-- the text of a snapshot's journal ends with a closed gate
pub text_size : (snapshot text : List ℕ) → text ≡ snapshot_front snapshot ++ 0 ∷ [] → length text ≡ length (snapshot_front snapshot) + 1
text_size snapshot text is = omega (arith, ap length is, length-append (snapshot_front snapshot) (0 ∷ []))

-- where such a text was written, no payload is told
pub counted_none : (k : History) (snapshot text : List ℕ) → length snapshot < 2 ^ 64 → text ≡ snapshot_front snapshot ++ 0 ∷ []
    → IsOpen k (snapshot_front snapshot) (length (snapshot_front snapshot)) [] → ∥ IsCounted k (length text - 1) 0 false ∥₁
counted_none k snapshot text small is opened = ∣ record {
  form = 2;
  snapshot = snapshot;
  payloads = [];
  is = small;
  opened = record {
    stands = opened.stands;
    gate_place = let gate : length text - 1 ≡ length (snapshot_front snapshot) = omega (arith, text_size snapshot text is) in gate ∙ opened.gate_place;
    quiet = opened.quiet;
  };
  count_is = refl;
  old_is = refl;
} ∣₁

-- the count is that of the payloads that are told by one of the forms
pub counted_is : (h : History) (gate count : ℕ) (is_old : Bool) (form : ℕ) (snapshot : List ℕ) (payloads : List (List ℕ)) → ∥ IsCounted h gate count is_old ∥₁
    → IsSnapshot form snapshot → IsOpen h (front_of form snapshot) gate payloads → count ≡ length payloads
counted_is h gate count is_old form snapshot payloads counted is opened = ∥∥₁_elim counted (Coded-set coded_ℕ _ _) (λ c.
    let same = one_reading (content h) c.form form c.snapshot snapshot c.payloads payloads (c.is, c.opened.stands) (is, opened.stands) in
    c.count_is ∙ ap length same.2)

-- and whether the text is old is told by the form
pub old_is : (h : History) (gate count : ℕ) (is_old : Bool) (form : ℕ) (snapshot : List ℕ) (payloads : List (List ℕ)) → ∥ IsCounted h gate count is_old ∥₁
    → IsSnapshot form snapshot → IsOpen h (front_of form snapshot) gate payloads → is_old ≡ is_old_form form
old_is h gate count is_old form snapshot payloads counted is opened = ∥∥₁_elim counted (Bool-set _ _) (λ c.
    let same = one_reading (content h) c.form form c.snapshot snapshot c.payloads payloads (c.is, c.opened.stands) (is, opened.stands) in
    c.old_is ∙ ap is_old_form same.0)
