-- The law of gathering, feed by feed.
use Rattle.std.proofs.Common.{◌≡◌, ℕ, ◌-◌, ◌<◌, ◌≤◌, true, false, ◌⊎◌, inl, inr, if◌then◌else◌, List, [], ◌∷◌, ◌++◌, length, drop, Some, None, refl, sym, ap}
use Rattle.std.proofs.Common.{◌∙◌, subst, arith, append_assoc}
use Rattle.std.proofs.lemmas.Bool.{cases_Bool, cond-true, cond-false, both_ways}
use Rattle.std.proofs.lemmas.List.{length-append, drop-append-le, append-nil}
use Rattle.nqs_pieces.specs.declared.piece.Piece.{Piece}
use Rattle.nqs_pieces.specs.declared.piece.MessageKey.{MessageKey}
use Rattle.nqs_pieces.specs.declared.gather.Gathered.{Gathered}
use Rattle.nqs_pieces.specs.Pieces.{piece_of}
use Rattle.nqs_pieces.specs.Gathering.{key_of, same_key, is_whole, message_of, begun, is_of, grown, placed, forgotten, last_eight, Step, fed}
use Rattle.nqs_pieces.specs.Feeds.{after_feeds, is_awaited, is_among, has_come, all_came, IsPieceOf, AreFeeds, MakesTheMessage}
use Rattle.nqs_pieces.proofs.KeyLaws.{same_key-true, same_key-refl, same_key-other}
use Rattle.nqs_pieces.proofs.Places.{grown_at, placed_at, grown_new, placed_new, placed_front, placed_behind, forgotten_around, apart_placed, apart_forgotten}
use Rattle.nqs_pieces.proofs.Places.{apart_drop}
use Rattle.nqs_pieces.proofs.Few.{Few, few_length, few_placed, few_forgotten}
use Rattle.nqs_pieces.proofs.Marks.{marked, entry, come_other, all_stays, marked_other, whole_marked, message_marked, counted_there, counted_begun, with_own}
use Rattle.nqs_pieces.proofs.Steps.{fed-whole, fed-not}

-- a key that is among them isn't one that isn't
among_differs : (a b : MessageKey) (keys : List MessageKey) → is_among a keys ≡ true → is_among b keys ≡ false → same_key a b ≡ false
among_differs a b keys there apart =
    elim (cases_Bool (same_key a b)) [
      | inl so ↦ absurd (both_ways (is_among b keys) apart (ap (λ k. is_among k keys) (sym (same_key-true a b so)) ∙ there))
      | inr isnt ↦ isnt
    ]

-- Nothing of the message has come yet.
record Lacks (message : List ℕ) (head : Piece) (feeds : List Piece) (messages : List Gathered) : Type 0 where
  apart : is_awaited (key_of head) messages ≡ false
  none : (i : ℕ) → has_come (key_of head) feeds i ≡ false

-- What has come of it stands at its place, with few messages behind it.
record Holds (message : List ℕ) (head : Piece) (others : List MessageKey) (feeds : List Piece) (messages : List Gathered) : Type 0 where
  front : List Gathered
  behind : List Gathered
  is : messages ≡ front ++ entry head (marked message head feeds) ∷ behind
  apart : is_awaited (key_of head) front ≡ false
  few : Few others behind

-- one or the other
abbrev State : List ℕ → Piece → List MessageKey → List Piece → List Gathered → Type 0
State message head others feeds messages = Lacks message head feeds messages ⊎ Holds message head others feeds messages

module _ (message : List ℕ) (head : Piece) (others : List MessageKey) where
  -- ---- a piece of the message

  own_grown : (feeds : List Piece) (ms : List Gathered) (j : ℕ) → State message head others feeds ms
      → (grown (piece_of message head j) ms).slots ≡ marked message head (feeds ++ piece_of message head j ∷ [])
  own_grown feeds ms j (inl lacks) =
      let p = piece_of message head j in
      ap (λ (m : Gathered). m.slots)
      (grown_new p ms lacks.apart ∙ with_own message head feeds j (begun p) (counted_begun message head feeds j lacks.none))
  own_grown feeds ms j (inr holds) =
      let p = piece_of message head j in
      let m = entry head (marked message head feeds) in
      ap (λ (m : Gathered). m.slots)
      (ap (grown p) holds.is
      ∙ grown_at p holds.front m holds.behind holds.apart (same_key-refl (key_of head))
      ∙ with_own message head feeds j m (counted_there message head feeds j))

  own_placed : (feeds : List Piece) (ms : List Gathered) (j : ℕ) → State message head others feeds ms
      → Holds message head others (feeds ++ piece_of message head j ∷ []) (placed (piece_of message head j) ms)
  own_placed feeds ms j (inl lacks) =
      let p = piece_of message head j in
      record {
        front = ms;
        behind = [];
        is = placed_new p ms lacks.apart
            ∙ ap (λ (m : Gathered). ms ++ m ∷ []) (with_own message head feeds j (begun p) (counted_begun message head feeds j lacks.none));
        apart = lacks.apart;
        few = tt;
      }
  own_placed feeds ms j (inr holds) =
      let p = piece_of message head j in
      let m = entry head (marked message head feeds) in
      record {
        front = holds.front;
        behind = holds.behind;
        is = ap (placed p) holds.is
            ∙ placed_at p holds.front m holds.behind holds.apart (same_key-refl (key_of head))
            ∙ ap (λ (x : Gathered). holds.front ++ x ∷ holds.behind) (with_own message head feeds j m (counted_there message head feeds j));
        apart = holds.apart;
        few = holds.few;
      }

  -- few behind it: it is none of those that are dropped
  last : (feeds : List Piece) (ms : List Gathered) → length others < 8 → Holds message head others feeds ms
      → Holds message head others feeds (last_eight ms)
  last feeds ms eight holds =
      let m = entry head (marked message head feeds) in
      let n = length ms - 8 in
      let some = few_length others holds.behind holds.few in
      let long = ap length holds.is ∙ length-append holds.front (m ∷ holds.behind) in
      let within : n ≤ length holds.front = omega arith in
      record {
        front = drop n holds.front;
        behind = holds.behind;
        is = ap (drop n) holds.is ∙ drop-append-le n holds.front (m ∷ holds.behind) within;
        apart = apart_drop (key_of head) n holds.front holds.apart;
        few = holds.few;
      }

  own_whole : (feeds : List Piece) (ms : List Gathered) (j : ℕ) → State message head others feeds ms
      → is_whole (grown (piece_of message head j) ms).slots ≡ all_came message head (feeds ++ piece_of message head j ∷ [])
  own_whole feeds ms j state =
      ap is_whole (own_grown feeds ms j state) ∙ whole_marked message head (feeds ++ piece_of message head j ∷ [])

  own_after : (feeds : List Piece) (ms : List Gathered) (j : ℕ) → length others < 8 → State message head others feeds ms
      → all_came message head (feeds ++ piece_of message head j ∷ []) ≡ false
      → State message head others (feeds ++ piece_of message head j ∷ []) (fed (piece_of message head j) ms).after
  own_after feeds ms j eight state lack =
      let p = piece_of message head j in
      let not = ap (λ (step : Step). step.after) (fed-not p ms (own_whole feeds ms j state ∙ lack)) in
      inr (subst (Holds message head others (feeds ++ p ∷ [])) (sym not)
      (last (feeds ++ p ∷ []) (placed p ms) eight (own_placed feeds ms j state)))

  own_answer : (feeds : List Piece) (ms : List Gathered) (j : ℕ) → State message head others feeds ms
      → (fed (piece_of message head j) ms).whole ≡ (if all_came message head (feeds ++ piece_of message head j ∷ []) then Some message else None)
  own_answer feeds ms j state =
      let p = piece_of message head j in
      let more = feeds ++ p ∷ [] in
      elim (cases_Bool (all_came message head more)) [
        | inl so ↦
            ap (λ (step : Step). step.whole) (fed-whole p ms (own_whole feeds ms j state ∙ so))
            ∙ ap Some (ap message_of (own_grown feeds ms j state) ∙ message_marked message head more so)
            ∙ sym (cond-true (all_came message head more) (Some message) None so)
        | inr isnt ↦
            ap (λ (step : Step). step.whole) (fed-not p ms (own_whole feeds ms j state ∙ isnt))
            ∙ sym (cond-false (all_came message head more) (Some message) None isnt)
      ]

  -- ---- a piece of another key

  module _ (q : Piece) (there : is_among (key_of q) others ≡ true) (differs : same_key (key_of q) (key_of head) ≡ false) where
    moved : (feeds : List Piece) → entry head (marked message head feeds) ≡ entry head (marked message head (feeds ++ q ∷ []))
    moved feeds = ap (entry head) (sym (marked_other message head feeds q differs))

    other_placed : (feeds : List Piece) (ms : List Gathered) → Holds message head others feeds ms
        → Holds message head others (feeds ++ q ∷ []) (placed q ms)
    other_placed feeds ms holds =
        let m = entry head (marked message head feeds) in
        let isnt : is_of q m ≡ false = same_key-other (key_of q) (key_of head) differs in
        elim (cases_Bool (is_awaited (key_of q) holds.front)) [
          | inl before ↦ record {
            front = placed q holds.front;
            behind = holds.behind;
            is = ap (placed q) holds.is ∙ placed_front q holds.front (m ∷ holds.behind) before
                ∙ ap (λ (x : Gathered). placed q holds.front ++ x ∷ holds.behind) (moved feeds);
            apart = apart_placed (key_of head) q holds.front differs holds.apart;
            few = holds.few;
          }
          | inr after ↦ record {
            front = holds.front;
            behind = placed q holds.behind;
            is = ap (placed q) holds.is ∙ placed_behind q holds.front m holds.behind after isnt
                ∙ ap (λ (x : Gathered). holds.front ++ x ∷ placed q holds.behind) (moved feeds);
            apart = holds.apart;
            few = few_placed q others holds.behind there holds.few;
          }
        ]

    other_forgotten : (feeds : List Piece) (ms : List Gathered) → Holds message head others feeds ms
        → Holds message head others (feeds ++ q ∷ []) (forgotten q ms)
    other_forgotten feeds ms holds =
        let m = entry head (marked message head feeds) in
        record {
          front = forgotten q holds.front;
          behind = forgotten q holds.behind;
          is = ap (forgotten q) holds.is
              ∙ forgotten_around q holds.front m holds.behind (same_key-other (key_of q) (key_of head) differs)
              ∙ ap (λ (x : Gathered). forgotten q holds.front ++ x ∷ forgotten q holds.behind) (moved feeds);
          apart = apart_forgotten (key_of head) q holds.front holds.apart;
          few = few_forgotten q others holds.behind holds.few;
        }

    still_none : (feeds : List Piece) → ((i : ℕ) → has_come (key_of head) feeds i ≡ false)
        → (i : ℕ) → has_come (key_of head) (feeds ++ q ∷ []) i ≡ false
    still_none feeds none i = come_other (key_of head) feeds q i differs ∙ none i

    placed_state : (feeds : List Piece) (ms : List Gathered) → length others < 8 → State message head others feeds ms
        → State message head others (feeds ++ q ∷ []) (last_eight (placed q ms))
    placed_state feeds ms eight (inl lacks) = inl (record {
      apart = apart_drop (key_of head) (length (placed q ms) - 8) (placed q ms) (apart_placed (key_of head) q ms differs lacks.apart);
      none = still_none feeds lacks.none;
    })
    placed_state feeds ms eight (inr holds) = inr (last (feeds ++ q ∷ []) (placed q ms) eight (other_placed feeds ms holds))

    forgotten_state : (feeds : List Piece) (ms : List Gathered) → State message head others feeds ms
        → State message head others (feeds ++ q ∷ []) (forgotten q ms)
    forgotten_state feeds ms (inl lacks) = inl (record {
      apart = apart_forgotten (key_of head) q ms lacks.apart;
      none = still_none feeds lacks.none;
    })
    forgotten_state feeds ms (inr holds) = inr (other_forgotten feeds ms holds)

    other_after : (feeds : List Piece) (ms : List Gathered) → length others < 8 → State message head others feeds ms
        → State message head others (feeds ++ q ∷ []) (fed q ms).after
    other_after feeds ms eight state =
        elim (cases_Bool (is_whole (grown q ms).slots)) [
          | inl so ↦
              subst (State message head others (feeds ++ q ∷ [])) (sym (ap (λ (step : Step). step.after) (fed-whole q ms so))) (forgotten_state feeds ms state)
          | inr isnt ↦
              subst (State message head others (feeds ++ q ∷ [])) (sym (ap (λ (step : Step). step.after) (fed-not q ms isnt)))
              (placed_state feeds ms eight state)
        ]

  -- ---- all feeds

  lacks_before : (feeds more : List Piece) → all_came message head (feeds ++ more) ≡ false → all_came message head feeds ≡ false
  lacks_before feeds more lack =
      elim (cases_Bool (all_came message head feeds)) [
        | inl so ↦ absurd (both_ways (all_came message head (feeds ++ more)) lack (all_stays message head feeds more so))
        | inr isnt ↦ isnt
      ]

  after_one : (feeds : List Piece) (ms : List Gathered) (q : Piece) → is_among (key_of head) others ≡ false → length others < 8
      → State message head others feeds ms → IsPieceOf message head q ⊎ (is_among (key_of q) others ≡ true)
      → all_came message head (feeds ++ q ∷ []) ≡ false
      → State message head others (feeds ++ q ∷ []) (fed q ms).after
  after_one feeds ms q apart eight state (inl own) lack =
      let P : Piece → Type 0 = λ p. State message head others (feeds ++ p ∷ []) (fed p ms).after in
      subst P (sym own.2) (own_after feeds ms own.0 eight state (ap (λ (p : Piece). all_came message head (feeds ++ p ∷ [])) (sym own.2) ∙ lack))
  after_one feeds ms q apart eight state (inr there) lack =
      other_after q there (among_differs (key_of q) (key_of head) others there apart) feeds ms eight state

  after_all : (rest feeds : List Piece) (ms : List Gathered) → is_among (key_of head) others ≡ false → length others < 8
      → State message head others feeds ms → AreFeeds message head others rest → all_came message head (feeds ++ rest) ≡ false
      → State message head others (feeds ++ rest) (after_feeds rest ms)
  unfolding after_feeds
  after_all [] feeds ms apart eight state fit lack = subst (λ (f : List Piece). State message head others f ms) (sym (append-nil feeds)) state
  after_all (q ∷ rest) feeds ms apart eight state fit lack =
      let same = append_assoc feeds (q ∷ []) rest in
      let lack_then = ap (all_came message head) same ∙ lack in
      let next = after_one feeds ms q apart eight state fit.0 (lacks_before (feeds ++ q ∷ []) rest lack_then) in
      subst (λ (f : List Piece). State message head others f (after_feeds rest (fed q ms).after)) same
      (after_all rest (feeds ++ q ∷ []) (fed q ms).after apart eight next fit.1 lack_then)

pub makes_the_message : (message : List ℕ) (head : Piece) → MakesTheMessage message head
makes_the_message message head others messages feeds piece awaited apart eight fit lack own =
    let start : State message head others [] messages = inl (record { apart = awaited; none = λ i. refl }) in
    let state = after_all message head others feeds [] messages apart eight start fit lack in
    let P : Piece → Type 0 = λ p. (fed p (after_feeds feeds messages)).whole ≡ (if all_came message head (feeds ++ p ∷ []) then Some message else None) in
    subst P (sym own.2) (own_answer message head others feeds (after_feeds feeds messages) own.0 state)
