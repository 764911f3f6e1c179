-- What has come of a message, by the indices that feeds brought.
use Rattle.std.proofs.Common.{◌≡◌, ℕ, zero, suc, ◌+◌, ◌≤◌, Bool, true, false, ◌&&◌, ◌||◌, ◌==◌, if◌then◌else◌, List, [], ◌∷◌, ◌++◌, length, map, replicate}
use Rattle.std.proofs.Common.{Option, Some, None, is_some, refl, sym, ap, ◌∙◌, subst, arith}
use Rattle.std.specs.List.{flat_map, list_all, range_with_len}
use Rattle.std.proofs.lemmas.Bool.{and_parts, and_from, and_left, and_right, or_left, or_right, eq-eqb, ne_eqb, cond-true}
use Rattle.std.proofs.lemmas.List.Folds.{list_any-append}
use Rattle.std.proofs.lemmas.List.FromFn.{length-map-range_with_len}
use Rattle.nqs_pieces.specs.declared.piece.Piece.{Piece}
use Rattle.nqs_pieces.specs.declared.piece.MessageKey.{MessageKey}
use Rattle.nqs_pieces.specs.declared.gather.Gathered.{Gathered}
use Rattle.nqs_pieces.specs.Pieces.{piece_count, piece_of, bytes_of}
use Rattle.nqs_pieces.specs.Gathering.{key_of, same_key, first_come, with_bytes, is_whole, bytes_at, message_of, begun, counted, with_piece}
use Rattle.nqs_pieces.specs.Feeds.{has_come, all_came}
use Rattle.nqs_pieces.proofs.KeyLaws.{same_key-refl}
use Rattle.nqs_pieces.proofs.CutLaws.{pieces_join}

-- what an index has: its bytes, once it has come
abbrev pub mark : MessageKey → List ℕ → List Piece → ℕ → Option (List ℕ)
mark key message feeds index = if has_come key feeds index then Some (bytes_of message index) else None

-- what all indices have
abbrev pub marked : List ℕ → Piece → List Piece → List (Option (List ℕ))
marked message head feeds = map (mark (key_of head) message feeds) (range_with_len 0 (piece_count message))

-- the message of which these indices have come
abbrev pub entry : Piece → List (Option (List ℕ)) → Gathered
entry head slots = record { key = key_of head; slots = slots }

-- ---- lists made of a function of the index

range_same : (f g : ℕ → Option (List ℕ)) (a n : ℕ) → ((i : ℕ) → a ≤ i → f i ≡ g i) → map f (range_with_len a n) ≡ map g (range_with_len a n)
range_same f g a zero same = refl
range_same f g a (suc n) same =
    let first = same a (omega arith) in
    let rest = range_same f g (a + 1) n (λ i le. same i (omega arith)) in
    λ j. first j ∷ rest j

with_range : (f g : ℕ → Option (List ℕ)) (bytes : List ℕ) (a n j k : ℕ) → a + j ≡ k → g k ≡ first_come bytes (f k)
    → ((i : ℕ) → (i ≡ k → ⊥) → g i ≡ f i) → with_bytes j bytes (map f (range_with_len a n)) ≡ map g (range_with_len a n)
unfolding with_bytes
with_range f g bytes a zero j k at here others = refl
with_range f g bytes a (suc n) zero k at here others =
    let is : k ≡ a = omega arith in
    let P : ℕ → Type 0 = λ x. g x ≡ first_come bytes (f x) in
    let first : first_come bytes (f a) ≡ g a = sym (subst P is here) in
    let rest = range_same f g (a + 1) n (λ i le. sym (others i (λ e. omega arith))) in
    λ j. first j ∷ rest j
with_range f g bytes a (suc n) (suc j) k at here others =
    let first : f a ≡ g a = sym (others a (λ e. omega arith)) in
    let rest = with_range f g bytes (a + 1) n j k (omega arith) here others in
    λ i. first i ∷ rest i

none_range : (f : ℕ → Option (List ℕ)) (a n : ℕ) → ((i : ℕ) → f i ≡ None) → replicate n None ≡ map f (range_with_len a n)
none_range f a zero none = refl
none_range f a (suc n) none =
    let first : None ≡ f a = sym (none a) in
    let rest = none_range f (a + 1) n none in
    λ j. first j ∷ rest j

whole_range : (f : ℕ → Option (List ℕ)) (p : ℕ → Bool) → ((i : ℕ) → is_some (f i) ≡ p i) → (xs : List ℕ) → list_all is_some (map f xs) ≡ list_all p xs
whole_range f p same [] = refl
whole_range f p same (x ∷ xs) =
    let first = same x in
    let rest = whole_range f p same xs in
    λ j. first j && rest j

-- ---- which indices have come

or_false : (b : Bool) → (b || false) ≡ b
or_false true = refl
or_false false = refl

come_more : (key : MessageKey) (feeds : List Piece) (feed : Piece) (i : ℕ)
    → has_come key (feeds ++ feed ∷ []) i ≡ (has_come key feeds i || (same_key (key_of feed) key && feed.index == i))
come_more key feeds feed i =
    list_any-append (λ (f : Piece). same_key (key_of f) key && f.index == i) feeds (feed ∷ [])
    ∙ ap (λ b. has_come key feeds i || b) (or_false (same_key (key_of feed) key && feed.index == i))

come_stays : (key : MessageKey) (feeds more : List Piece) (i : ℕ) → has_come key feeds i ≡ true → has_come key (feeds ++ more) i ≡ true
come_stays key feeds more i came =
    list_any-append (λ (f : Piece). same_key (key_of f) key && f.index == i) feeds more ∙ or_left (has_come key feeds i) (has_come key more i) came

-- a piece of another key brings no index
pub come_other : (key : MessageKey) (feeds : List Piece) (feed : Piece) (i : ℕ) → same_key (key_of feed) key ≡ false
    → has_come key (feeds ++ feed ∷ []) i ≡ has_come key feeds i
come_other key feeds feed i other =
    come_more key feeds feed i
    ∙ ap (λ b. has_come key feeds i || b) (and_left (same_key (key_of feed) key) (feed.index == i) other)
    ∙ or_false (has_come key feeds i)

all_more : (p q : ℕ → Bool) → ((i : ℕ) → p i ≡ true → q i ≡ true) → (xs : List ℕ) → list_all p xs ≡ true → list_all q xs ≡ true
all_more p q more [] all = refl
all_more p q more (x ∷ xs) all =
    let two = and_parts (p x) (list_all p xs) all in
    and_from (q x) (list_all q xs) (more x two.0) (all_more p q more xs two.1)

-- what has come stays so
pub all_stays : (message : List ℕ) (head : Piece) (feeds more : List Piece) → all_came message head feeds ≡ true → all_came message head (feeds ++ more) ≡ true
all_stays message head feeds more =
    all_more (has_come (key_of head) feeds) (has_come (key_of head) (feeds ++ more)) (come_stays (key_of head) feeds more)
    (range_with_len 0 (piece_count message))

stays : (b : Bool) (bytes : List ℕ) → first_come bytes (if b then Some bytes else None) ≡ Some bytes
stays true bytes = refl
stays false bytes = refl

some_if : (b : Bool) (bytes : List ℕ) → is_some (if b then Some bytes else None) ≡ b
some_if true bytes = refl
some_if false bytes = refl

module _ (message : List ℕ) (head : Piece) (feeds : List Piece) where
  -- the index of a piece that comes has its bytes
  mark_here : (j : ℕ) → mark (key_of head) message (feeds ++ piece_of message head j ∷ []) j
      ≡ first_come (bytes_of message j) (mark (key_of head) message feeds j)
  mark_here j =
      let here = and_from (same_key (key_of head) (key_of head)) (j == j) (same_key-refl (key_of head)) (eq-eqb j j refl) in
      let came : has_come (key_of head) (feeds ++ piece_of message head j ∷ []) j ≡ true =
      come_more (key_of head) feeds (piece_of message head j) j ∙ or_right (has_come (key_of head) feeds j)
      (same_key (key_of head) (key_of head) && j == j) here in
      cond-true (has_come (key_of head) (feeds ++ piece_of message head j ∷ []) j) (Some (bytes_of message j)) None came
      ∙ sym (stays (has_come (key_of head) feeds j) (bytes_of message j))

  -- the others have what they had
  mark_there : (j i : ℕ) → (i ≡ j → ⊥) → mark (key_of head) message (feeds ++ piece_of message head j ∷ []) i ≡ mark (key_of head) message feeds i
  mark_there j i differs =
      ap (λ b. if b then Some (bytes_of message i) else None)
      (come_more (key_of head) feeds (piece_of message head j) i
      ∙ ap (λ b. has_come (key_of head) feeds i || b) (and_right (same_key (key_of head) (key_of head)) (j == i) (ne_eqb j i (λ e. differs (sym e))))
      ∙ or_false (has_come (key_of head) feeds i))

  pub marked_own : (j : ℕ) → with_bytes j (bytes_of message j) (marked message head feeds) ≡ marked message head (feeds ++ piece_of message head j ∷ [])
  marked_own j =
      with_range (mark (key_of head) message feeds) (mark (key_of head) message (feeds ++ piece_of message head j ∷ [])) (bytes_of message j)
      0 (piece_count message) j j (omega arith) (mark_here j) (mark_there j)

  -- a piece of another key changes nothing of it
  pub marked_other : (q : Piece) → same_key (key_of q) (key_of head) ≡ false → marked message head (feeds ++ q ∷ []) ≡ marked message head feeds
  marked_other q other =
      range_same (mark (key_of head) message (feeds ++ q ∷ [])) (mark (key_of head) message feeds) 0 (piece_count message)
      (λ i le. ap (λ b. if b then Some (bytes_of message i) else None) (come_other (key_of head) feeds q i other))

  -- all places have their bytes where all indices have come
  pub whole_marked : is_whole (marked message head feeds) ≡ all_came message head feeds
  whole_marked =
      whole_range (mark (key_of head) message feeds) (has_come (key_of head) feeds) (λ i. some_if (has_come (key_of head) feeds i) (bytes_of message i))
      (range_with_len 0 (piece_count message))

  joined : (xs : List ℕ) → list_all (has_come (key_of head) feeds) xs ≡ true
      → flat_map bytes_at (map (mark (key_of head) message feeds) xs) ≡ flat_map (bytes_of message) xs
  joined [] all = refl
  joined (x ∷ xs) all =
      let two = and_parts (has_come (key_of head) feeds x) (list_all (has_come (key_of head) feeds) xs) all in
      let first = ap bytes_at (cond-true (has_come (key_of head) feeds x) (Some (bytes_of message x)) None two.0) in
      let rest = joined xs two.1 in
      λ j. first j ++ rest j

  -- and then they are the message
  pub message_marked : all_came message head feeds ≡ true → message_of (marked message head feeds) ≡ message
  message_marked all = joined (range_with_len 0 (piece_count message)) all ∙ pieces_join message

  -- a piece that is counted as the message is goes on with what has come
  pub counted_there : (j : ℕ) → (counted (piece_of message head j) (entry head (marked message head feeds))).slots ≡ marked message head feeds
  counted_there j =
      ap (λ (m : Gathered). m.slots)
      (cond-true (length (marked message head feeds) == piece_count message) (entry head (marked message head feeds)) (begun (piece_of message head j))
      (eq-eqb (length (marked message head feeds)) (piece_count message)
      (length-map-range_with_len (mark (key_of head) message feeds) 0 (piece_count message))))

  either : (b : Bool) (m : Gathered) → (if b then m else m) ≡ m
  either true m = refl
  either false m = refl

  -- before the first nothing has come
  pub counted_begun : (j : ℕ) → ((i : ℕ) → has_come (key_of head) feeds i ≡ false)
      → (counted (piece_of message head j) (begun (piece_of message head j))).slots ≡ marked message head feeds
  counted_begun j none =
      ap (λ (m : Gathered). m.slots)
      (either (length (begun (piece_of message head j)).slots == piece_count message) (begun (piece_of message head j)))
      ∙ none_range (mark (key_of head) message feeds) 0 (piece_count message)
      (λ i. ap (λ b. if b then Some (bytes_of message i) else None) (none i))

  -- with the piece its index has come
  pub with_own : (j : ℕ) (m : Gathered) → (counted (piece_of message head j) m).slots ≡ marked message head feeds
      → with_piece (piece_of message head j) m ≡ entry head (marked message head (feeds ++ piece_of message head j ∷ []))
  with_own j m is = ap (entry head) (ap (with_bytes j (bytes_of message j)) is ∙ marked_own j)
