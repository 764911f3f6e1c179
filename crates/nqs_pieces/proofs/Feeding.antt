-- What the calls of a gathering come to, by the definition.
use Rattle.std.proofs.Common.{◌≡◌, ℕ, zero, suc, ◌-◌, ◌<◌, ◌≤◌, ◌==◌, Bool, true, false, not, if◌then◌else◌, List, [], ◌∷◌, ◌++◌, length, get_or, set, take}
use Rattle.std.proofs.Common.{drop, filter, replicate, Option, Some, None, Result, Ok, Err, refl, sym, ap, ◌∙◌, subst, inl, inr, arith}
use Rattle.std.proofs.lemmas.Bool.{cases_Bool, cond-true, cond-false}
use Rattle.std.proofs.lemmas.List.{set-get_or, set_split, length-set, length-append, get_or_default, get_or-set_same}
use Rattle.nqs_base.specs.declared.memory.Memory.{Memory}
use Rattle.nqs_pieces.specs.declared.piece.Piece.{Piece}
use Rattle.nqs_pieces.specs.declared.gather.Gathered.{Gathered}
use Rattle.nqs_pieces.specs.declared.gather.Fed.{Fed}
use Rattle.nqs_pieces.specs.declared.gather.Fed.TheVariants.{Whole, NotYet}
use Rattle.nqs_pieces.specs.Pieces.{IsPiece}
use Rattle.nqs_pieces.specs.Gathering.{key_of, same_key, with_bytes, is_whole, message_of, begun, with_piece, is_of, grown, placed, forgotten, last_eight, Step}
use Rattle.nqs_pieces.specs.Gathering.{Answers}
use Rattle.nqs_pieces.specs.Standing.{joined, StandsAt}
use Rattle.nqs_pieces.specs.Feeds.{is_awaited}
use Rattle.nqs_pieces.proofs.KeyLaws.{same_key-true}
use Rattle.nqs_pieces.proofs.Places.{grown_at, placed_at, grown_new, placed_new, forgotten-is, forgotten-not}
use Rattle.nqs_pieces.proofs.Steps.{fed-whole, fed-not}

-- ---- a message that begins

either : (b : Bool) (m : Gathered) → (if b then m else m) ≡ m
either true m = refl
either false m = refl

-- with its first piece
pub begun_with : (q : Piece) → with_piece q (begun q) ≡ record { key = key_of q; slots = with_bytes q.index q.bytes (replicate q.count None) }
begun_with q =
    ap (λ (m : Gathered). let whole : Gathered = record { key = key_of q; slots = with_bytes q.index q.bytes m.slots } in whole)
    (either (length (begun q).slots == q.count) (begun q))

one_lacks : (count i : ℕ) (bytes : List ℕ) → 2 ≤ count → is_whole (with_bytes i bytes (replicate count None)) ≡ false
unfolding with_bytes
one_lacks zero i bytes two = absurd (omega arith)
one_lacks (suc zero) i bytes two = absurd (omega arith)
one_lacks (suc (suc n)) zero bytes two = refl
one_lacks (suc (suc n)) (suc i) bytes two = refl

-- others lack
pub begun_lacks : (q : Piece) → IsPiece q → is_whole (with_piece q (begun q)).slots ≡ false
begun_lacks q form = ap (λ (m : Gathered). is_whole m.slots) (begun_with q) ∙ one_lacks q.count q.index q.bytes form.several

not_yet : (q : Piece) (ms after : List Gathered) (buffer : List ℕ) → is_whole (grown q ms).slots ≡ false → last_eight (placed q ms) ≡ after
    → Answers q ms after buffer buffer (Ok NotYet)
unfolding Answers
not_yet q ms after buffer lack same =
    (fed-not q ms lack ∙ ap (λ (a : List Gathered). let step : Step = record { after = a; whole = None } in step) same, refl)

pub begins : (q : Piece) (ms after : List Gathered) (buffer : List ℕ) → IsPiece q → is_awaited (key_of q) ms ≡ false
    → last_eight (ms ++ with_piece q (begun q) ∷ []) ≡ after → Answers q ms after buffer buffer (Ok NotYet)
begins q ms after buffer form new same =
    not_yet q ms after buffer
    (ap (λ (m : Gathered). is_whole m.slots) (grown_new q ms new) ∙ begun_lacks q form)
    (ap last_eight (placed_new q ms new) ∙ same)

-- ---- a message that stands at a place

around : (ms : List Gathered) (place : ℕ) (m : Gathered) → place < length ms → m ≡ get_or ms place m → ms ≡ take place ms ++ m ∷ drop (suc place) ms
around ms place m inside is = sym (set-get_or ms place m) ∙ ap (set ms place) (sym is) ∙ set_split ms place m inside

few_stay : (ms : List Gathered) (place : ℕ) (m : Gathered) → length ms ≤ 8 → last_eight (set ms place m) ≡ set ms place m
few_stay ms place m few =
    let none : length (set ms place m) - 8 ≡ 0 = omega (arith, length-set ms place m) in
    ap (λ n. drop n (set ms place m)) none

forgotten_at : (q : Piece) (front : List Gathered) (x : Gathered) (behind : List Gathered) → is_of q x ≡ true
    → forgotten q (front ++ x ∷ behind) ≡ forgotten q (front ++ behind)
forgotten_at q [] x behind e = forgotten-is q x behind e
forgotten_at q (y ∷ front) x behind e =
    elim (cases_Bool (is_of q y)) [
      | inl so ↦ forgotten-is q y (front ++ x ∷ behind) so ∙ forgotten_at q front x behind e ∙ sym (forgotten-is q y (front ++ behind) so)
      | inr isnt ↦
          forgotten-not q y (front ++ x ∷ behind) isnt ∙ ap (λ rest. y ∷ rest) (forgotten_at q front x behind e)
          ∙ sym (forgotten-not q y (front ++ behind) isnt)
    ]

module _ (q : Piece) (ms : List Gathered) (place : ℕ) (m : Gathered) (stands : StandsAt (key_of q) ms place) (is : m ≡ get_or ms place m) where
  it_is : is_of q m ≡ true
  it_is = ap (λ (x : Gathered). same_key x.key (key_of q)) is ∙ stands.there m

  grown_there : grown q ms ≡ with_piece q m
  grown_there =
      ap (grown q) (around ms place m stands.inside is) ∙ grown_at q (take place ms) m (drop (suc place) ms) stands.before it_is

  placed_there : placed q ms ≡ set ms place (with_piece q m)
  placed_there =
      ap (placed q) (around ms place m stands.inside is)
      ∙ placed_at q (take place ms) m (drop (suc place) ms) stands.before it_is
      ∙ sym (set_split ms place (with_piece q m) stands.inside)

  -- it goes on where it is counted alike
  goes_with : (length m.slots == q.count) ≡ true → with_piece q m ≡ joined q.index q.bytes m
  goes_with alike =
      let key = sym (same_key-true m.key (key_of q) it_is) in
      let slots = ap (λ (x : Gathered). with_bytes q.index q.bytes x.slots) (cond-true (length m.slots == q.count) m (begun q) alike) in
      λ j. record { key = key j; slots = slots j }

  -- else it begins anew
  anew_with : (length m.slots == q.count) ≡ false → with_piece q m ≡ with_piece q (begun q)
  anew_with other =
      ap (λ (x : Gathered). let whole : Gathered = record { key = key_of q; slots = with_bytes q.index q.bytes x.slots } in whole)
      (cond-false (length m.slots == q.count) m (begun q) other ∙ sym (either (length (begun q).slots == q.count) (begun q)))

  pub begins_anew : (buffer : List ℕ) → IsPiece q → length ms ≤ 8 → (length m.slots == q.count) ≡ false
      → Answers q ms (set ms place (with_piece q (begun q))) buffer buffer (Ok NotYet)
  begins_anew buffer form few other =
      not_yet q ms (set ms place (with_piece q (begun q))) buffer
      (ap (λ (x : Gathered). is_whole x.slots) (grown_there ∙ anew_with other) ∙ begun_lacks q form)
      (ap last_eight (placed_there ∙ ap (set ms place) (anew_with other)) ∙ few_stay ms place (with_piece q (begun q)) few)

  pub goes_on : (buffer : List ℕ) → length ms ≤ 8 → (length m.slots == q.count) ≡ true → is_whole (with_bytes q.index q.bytes m.slots) ≡ false
      → Answers q ms (set ms place (joined q.index q.bytes m)) buffer buffer (Ok NotYet)
  goes_on buffer few alike lack =
      not_yet q ms (set ms place (joined q.index q.bytes m)) buffer
      (ap (λ (x : Gathered). is_whole x.slots) (grown_there ∙ goes_with alike) ∙ lack)
      (ap last_eight (placed_there ∙ ap (set ms place) (goes_with alike)) ∙ few_stay ms place (joined q.index q.bytes m) few)

  pub completes : (buffer : List ℕ) → (length m.slots == q.count) ≡ true → is_whole (with_bytes q.index q.bytes m.slots) ≡ true
      → Answers q ms (forgotten q ms) buffer (buffer ++ message_of (with_bytes q.index q.bytes m.slots)) (Ok Whole)
  unfolding Answers
  completes buffer alike all =
      let same = ap (λ (x : Gathered). x.slots) (grown_there ∙ goes_with alike) in (
        message_of (with_bytes q.index q.bytes m.slots),
        fed-whole q ms (ap is_whole same ∙ all)
            ∙ ap (λ (slots : List (Option (List ℕ))). let step : Step = record { after = forgotten q ms; whole = Some (message_of slots) } in step) same,
        refl,
      )

  -- with or without a further piece, it is forgotten
  pub forgotten_there : (index : ℕ) (bytes : List ℕ) → forgotten q (set ms place (joined index bytes m)) ≡ forgotten q ms
  forgotten_there index bytes =
      ap (forgotten q) (set_split ms place (joined index bytes m) stands.inside)
      ∙ forgotten_at q (take place ms) (joined index bytes m) (drop (suc place) ms) it_is
      ∙ sym (forgotten_at q (take place ms) m (drop (suc place) ms) it_is)
      ∙ ap (forgotten q) (sym (around ms place m stands.inside is))

-- what `forget` leaves
pub forgotten_by : (q : Piece) (ms : List Gathered) → filter (λ (m : Gathered). not (same_key m.key (key_of q))) ms ≡ forgotten q ms
unfolding forgotten
forgotten_by q ms = refl

-- after want of memory
pub refused : (q : Piece) (ms after : List Gathered) (buffer written : List ℕ) (result : Result Fed Memory) (memory : Memory) → result ≡ Err memory
    → after ≡ ms → written ≡ buffer → Answers q ms after buffer written result
unfolding Answers
refused q ms after buffer written result memory is same alike = subst (Answers q ms after buffer written) (sym is) (same, alike)

-- what is answered of the same
pub answers_same : (q : Piece) (ms after next : List Gathered) (buffer written made : List ℕ) (result : Result Fed Memory) → after ≡ next → written ≡ made
    → Answers q ms next buffer made result → Answers q ms after buffer written result
answers_same q ms after next buffer written made result same alike says =
    subst (λ (a : List Gathered). Answers q ms a buffer written result) (sym same)
    (subst (λ (w : List ℕ). Answers q ms next buffer w result) (sym alike) says)

-- an element that stands at a place
pub element : (ms : List Gathered) (place : ℕ) (d : Gathered) → place < length ms → get_or ms place d ≡ get_or ms place (get_or ms place d)
element ms place d inside = get_or_default ms place d (get_or ms place d) inside

-- a message that is one too many
pub too_many : (ms : List Gathered) (m : Gathered) → length ms ≡ 8 → drop 1 (ms ++ m ∷ []) ≡ last_eight (ms ++ m ∷ [])
too_many ms m eight =
    let one : 1 ≡ length (ms ++ m ∷ []) - 8 = omega (arith, length-append ms (m ∷ [])) in
    ap (λ n. drop n (ms ++ m ∷ [])) one

pub few_enough : (ms : List Gathered) (m : Gathered) → length ms < 8 → last_eight (ms ++ m ∷ []) ≡ ms ++ m ∷ []
few_enough ms m few =
    let none : length (ms ++ m ∷ []) - 8 ≡ 0 = omega (arith, length-append ms (m ∷ [])) in
    ap (λ n. drop n (ms ++ m ∷ [])) none

-- what is read at a place after a message was put there
pub put_there : (ms : List Gathered) (place : ℕ) (m : Gathered) (now : List Gathered) (x : Gathered) → place < length ms
    → now ≡ set ms place m → x ≡ get_or now place x → x ≡ m
put_there ms place m now x inside is read =
    read ∙ ap (λ (l : List Gathered). get_or l place x) is ∙ get_or-set_same ms place m x inside
