-- Requests are read as they are written.
use Rattle.std.proofs.Common.{◌≡◌, ◌≢◌, ◌⊎◌, inl, inr, ℕ, zero, suc, ◌+◌, ◌<◌, ◌≤◌, List, [], ◌∷◌, ◌++◌, length, take, drop, get_or, All, arith, refl, ap, sym}
use Rattle.std.proofs.Common.{subst, ◌∙◌, append_assoc, Some, None, Option, Result, Ok, Err, Bool, true, false, cond, not, ◌&&◌, ◌==◌, nat_lt, nat_le, is_none}
use Rattle.std.specs.List.{position_or_len}
use Rattle.std.proofs.lemmas.Bool.{and_parts, and_from, eqb-true, le-leb, lt-ltb, ltb-false, leb-true}
use Rattle.std.proofs.lemmas.List.{append-nil, length-append, take_at, drop_at}
use Rattle.nqs_base.proofs.Plain.{lt_itself}
use Rattle.nqs_base.proofs.Readings.{found}
use Rattle.nqs_base.specs.Name.{IsName, is_digit}
use Rattle.nqs_types.specs.declared.ids.Named.{Named}
use Rattle.nqs_text.specs.Number.{decimal, first_other, AreDigits}
use Rattle.nqs_words.specs.Values.{is_name, name_of, are_digits, number_of, begins_with_zero, seq_of, place_of, with_host, of_parts, split_named, named_of}
use Rattle.nqs_words.specs.declared.values.NotNamed.{NotNamed}
use Rattle.nqs_words.specs.declared.values.NotNamed.TheVariants.{BadNumber, BadName}
use Rattle.nqs_words.specs.Spelled.{IsSeq, IsAtPoint, IsFront, IsRequestOrNot, ReadsRequests}
use Rattle.nqs_words.proofs.Names.{name_passes, passing_name}

abbrev IsPlain : List ℕ → Type 0
IsPlain front = All (λ b. b ≢ 46) front

-- ---- the first point

other : (b : ℕ) → b ≢ 46 → (b == 46) ≡ false
other b h = by (b == 46) refl
  where
    by : (t : Bool) → (b == 46) ≡ t → t ≡ false
    by true is = absurd (h (eqb-true b 46 is))
    by false is = refl

plain_tail : (b : ℕ) (bs : List ℕ) → IsPlain (b ∷ bs) → IsPlain bs
plain_tail b bs h = λ i d less. h (suc i) d (omega arith)

before : (front rest : List ℕ) → IsPlain front → IsAtPoint rest → position_or_len (λ b. b == 46) (front ++ rest) ≡ length front
before [] rest h (inl none) = ap (position_or_len (λ b. b == 46)) none
before [] rest h (inr p) = ap (position_or_len (λ b. b == 46)) p.1
before (b ∷ bs) rest h at = let more = before bs rest (plain_tail b bs h) at in rw (other b (h 0 0 (omega arith))) (omega (arith, more))

place-plain : (front : List ℕ) → IsPlain front → place_of 46 front ≡ None
unfolding place_of
place-plain front h =
    let e : position_or_len (λ b. b == 46) front ≡ length front = subst (λ (l : List ℕ). position_or_len (λ b. b == 46) l ≡ length front) (append-nil front)
    (before front [] h (inl refl)) in
    rw (e, lt_itself (length front)) refl

place-point : (front behind : List ℕ) → IsPlain front → place_of 46 (front ++ 46 ∷ behind) ≡ Some (length front)
unfolding place_of
place-point front behind h =
    let e = before front (46 ∷ behind) h (inr (behind, refl)) in
    rw (e, lt-ltb (length front) (length (front ++ 46 ∷ behind)) (omega (arith, length-append front (46 ∷ behind)))) refl

named-plain : (front : List ℕ) → IsPlain front → named_of front ≡ of_parts (seq_of front) None
unfolding named_of
named-plain front h = ap (λ (o : Option ℕ). split_named o front) (place-plain front h)

named-point : (front behind : List ℕ) → IsPlain front → named_of (front ++ 46 ∷ behind) ≡ of_parts (seq_of front) (name_of behind)
unfolding named_of
named-point front behind h =
    let text = front ++ 46 ∷ behind in
    let front_is : take (length front) text ≡ front = take_at front (46 ∷ behind) (length front) refl in
    let behind_is : drop (length front + 1) text ≡ behind =
    ap (drop (length front + 1)) (sym (append_assoc front (46 ∷ []) behind))
    ∙ drop_at (front ++ 46 ∷ []) behind (length front + 1) (length-append front (46 ∷ [])) in
    ap (λ (o : Option ℕ). split_named o text) (place-point front behind h)
    ∙ (ap (λ (l : List ℕ). of_parts (seq_of l) (name_of (drop (length front + 1) text))) front_is
    ∙ ap (λ (l : List ℕ). of_parts (seq_of front) (name_of l)) behind_is)

-- ---- sequence numbers and names

seq_in : (o : Option ℕ) (x y : ℕ) → o ≡ Some x → o ≡ Some y → x ≡ y
seq_in o x y a b = let same : ◌≡◌ {A = Option ℕ} (Some x) (Some y) = sym a ∙ b in cc

none_other : (o : Option ℕ) → is_none o ≡ true → o ≡ None
none_other None h = refl
none_other (Some n) h = cc

digits_of : (text : List ℕ) → are_digits text ≡ true → AreDigits text
digits_of [] h = cc
digits_of (b ∷ bs) h = (omega arith, none_other (first_other (b ∷ bs)) h)

are : (text : List ℕ) → AreDigits text → are_digits text ≡ true
are [] h = absurd (omega (arith, h.0))
are (b ∷ bs) h = ap is_none h.1

-- a number within two bounds
pub number-is : (low high : ℕ) (text : List ℕ) (n : ℕ) → number_of low high text ≡ Some n → AreDigits text × (n ≡ decimal text) × (low ≤ n) × (n ≤ high)
unfolding number_of
number-is low high text n e =
    let d = found (are_digits text && (nat_le low (decimal text) && nat_le (decimal text) high)) (decimal text) n e in
    let p = and_parts (are_digits text) (nat_le low (decimal text) && nat_le (decimal text) high) d.0 in
    let q = and_parts (nat_le low (decimal text)) (nat_le (decimal text) high) p.1 in
    (digits_of text p.0, sym d.1, omega (arith, d.1, leb-true low (decimal text) q.0), omega (arith, d.1, leb-true (decimal text) high q.1))

pub is-number : (low high : ℕ) (text : List ℕ) (n : ℕ) → AreDigits text → n ≡ decimal text → low ≤ n → n ≤ high → number_of low high text ≡ Some n
unfolding number_of
is-number low high text n digits is above below =
    let fits : (are_digits text && (nat_le low (decimal text) && nat_le (decimal text) high)) ≡ true =
    and_from _ _ (are text digits) (and_from _ _ (le-leb low (decimal text) (omega (arith, above, is)))
    (le-leb (decimal text) high (omega (arith, below, is)))) in
    rw fits (ap (λ (m : ℕ). Some m) (sym is))

pub seq-is : (text : List ℕ) (seq : ℕ) → seq_of text ≡ Some seq → IsSeq text seq
unfolding seq_of
seq-is text seq e = by (begins_with_zero text) refl e
  where
    by : (t : Bool) → begins_with_zero text ≡ t → cond t None (number_of 1 4294967294 text) ≡ Some seq → IsSeq text seq
    by true is h = cc
    by false is h = let d = number-is 1 4294967294 text seq h in record { digits = d.0; no_zero = is; number = d.1; low = d.2; high = d.3 }

pub is-seq : (text : List ℕ) (seq : ℕ) → IsSeq text seq → seq_of text ≡ Some seq
unfolding seq_of
is-seq text seq s = rw s.no_zero (is-number 1 4294967294 text seq s.digits s.number s.low s.high)

no-seq : (text : List ℕ) → ((seq : ℕ) → IsSeq text seq → ⊥) → seq_of text ≡ None
no-seq text never = by (seq_of text) refl
  where
    by : (o : Option ℕ) → seq_of text ≡ o → o ≡ None
    by None is = refl
    by (Some n) is = absurd (never n (seq-is text n is))

pub name-is : (text name : List ℕ) → name_of text ≡ Some name → IsName text × (name ≡ text)
unfolding name_of
name-is text name e = let d = found (is_name text) text name e in (passing_name text d.0, sym d.1)

pub is-name : (text : List ℕ) → IsName text → name_of text ≡ Some text
unfolding name_of
is-name text h = rw (name_passes text h) refl

pub no-name : (text : List ℕ) → (IsName text → ⊥) → name_of text ≡ None
no-name text never = by (name_of text) refl
  where
    by : (o : Option (List ℕ)) → name_of text ≡ o → o ≡ None
    by None is = refl
    by (Some n) is = absurd (never (name-is text n is).0)

-- a word is a name, and read as itself, or it is none
pub named : (word : List ℕ) → (IsName word × (name_of word ≡ Some word)) ⊎ ((IsName word → ⊥) × (name_of word ≡ None))
named word = by (name_of word) refl
  where
    by : (o : Option (List ℕ)) → name_of word ≡ o → (IsName word × (name_of word ≡ Some word)) ⊎ ((IsName word → ⊥) × (name_of word ≡ None))
    by (Some name) is = let n = name-is word name is in inl (n.0, is-name word n.0)
    by None is = inr ((λ h. let some : ◌≡◌ {A = Option (List ℕ)} None (Some word) = sym is ∙ is-name word h in cc), is)

-- ---- requests

digit_not_point : (b : ℕ) → is_digit b ≡ true → b ≢ 46
digit_not_point b h e = let no : is_digit 46 ≡ true = subst (λ (c : ℕ). is_digit c ≡ true) e h in cc

-- how many digits stand in front
abbrev front_digits : List ℕ → ℕ
front_digits bs = position_or_len (λ b. not (is_digit b)) bs

digit_first : (t : Bool) (b : ℕ) (bs : List ℕ) (d : ℕ) → is_digit b ≡ t →
    (length bs ≤ front_digits bs → (i : ℕ) → i < length bs → is_digit (get_or bs i d) ≡ true)
    → suc (length bs) ≤ cond (not (not t)) (1 + front_digits bs) 0 → (i : ℕ) → i < suc (length bs) → is_digit (get_or (b ∷ bs) i d) ≡ true
digit_first true b bs d is others past zero less = is
digit_first true b bs d is others past (suc i) less = others (omega (arith, past)) i (omega (arith, less))
digit_first false b bs d is others past i less = absurd (omega (arith, past))

all_digits : (bs : List ℕ) (d : ℕ) → length bs ≤ front_digits bs → (i : ℕ) → i < length bs → is_digit (get_or bs i d) ≡ true
all_digits [] d past i less = absurd (omega (arith, less))
all_digits (b ∷ bs) d past i less = digit_first (is_digit b) b bs d refl (all_digits bs d) past i less

no_place : (t : Bool) (n : ℕ) → cond t (Some n) None ≡ None → t ≡ false
no_place true n e = cc
no_place false n e = refl

others_none : (bs : List ℕ) → first_other bs ≡ None → (i d : ℕ) → i < length bs → is_digit (get_or bs i d) ≡ true
unfolding first_other
others_none bs h i d less =
    all_digits bs d (ltb-false (front_digits bs) (length bs) (no_place (nat_lt (front_digits bs) (length bs)) (front_digits bs) h)) i less

seq_plain : (front : List ℕ) (seq : ℕ) → IsSeq front seq → IsPlain front
seq_plain front seq s = λ i d less. digit_not_point (get_or front i d) (others_none front s.digits.1 i d less)

-- each text has a front
front_of : (text : List ℕ) → (front : List ℕ) × (rest : List ℕ) × IsFront text front rest
front_of [] = ([], [], record { written = refl; plain = λ i d less. absurd (omega (arith, less)); point = inl refl })
front_of (b ∷ bs) = by (b == 46) refl (front_of bs)
  where
    plain : (front : List ℕ) → (b == 46) ≡ false → IsPlain front → IsPlain (b ∷ front)
    plain front is h zero d less = λ e. let no : (b == 46) ≡ true = rw e refl in cc
    plain front is h (suc i) d less = h i d (omega (arith, less))

    by : (t : Bool) → (b == 46) ≡ t → (front : List ℕ) × (rest : List ℕ) × IsFront bs front rest
        → (front : List ℕ) × (rest : List ℕ) × IsFront (b ∷ bs) front rest
    by true is more = (
      [],
      b ∷ bs,
      record {
        written = refl;
        plain = λ i d less. absurd (omega (arith, less));
        point =
            inr (bs, ap (λ (c : ℕ). c ∷ bs) (eqb-true b 46 is));
      },
    )
    by false is more = (
      b ∷ more.0,
      more.1,
      record {
        written = ap (λ (l : List ℕ). b ∷ l) more.2.written;
        plain = plain more.0 is more.2.plain;
        point =
            more.2.point;
      },
    )

-- what the parts make
parts : (text front rest : List ℕ) → IsFront text front rest
    → ((rest ≡ []) × (named_of text ≡ of_parts (seq_of front) None)) ⊎ ((behind : List ℕ) × (rest ≡ 46 ∷ behind)
    × (named_of text ≡ of_parts (seq_of front) (name_of behind)))
parts text front rest f = by f.point
  where
    by : IsAtPoint rest → ((rest ≡ []) × (named_of text ≡ of_parts (seq_of front) None))
        ⊎ ((behind : List ℕ) × (rest ≡ 46 ∷ behind) × (named_of text ≡ of_parts (seq_of front) (name_of behind)))
    by (inl none) =
        let whole : text ≡ front = f.written ∙ (ap (λ (l : List ℕ). front ++ l) none ∙ append-nil front) in
        inl (none, ap named_of whole ∙ named-plain front f.plain)
    by (inr p) = inr (p.0, p.1, ap named_of (f.written ∙ ap (λ (l : List ℕ). front ++ l) p.1) ∙ named-point front p.0 f.plain)

no_number : (host : Option (List ℕ)) → of_parts None host ≡ Err BadNumber
no_number host = refl

-- what is read is what the text is
read : (text : List ℕ) → IsRequestOrNot text (named_of text)
read text = by_front (front_of text)
  where
    by_front : (front : List ℕ) × (rest : List ℕ) × IsFront text front rest → IsRequestOrNot text (named_of text)
    by_front (front, rest, f) = by (seq_of front) refl (parts text front rest f)
      where
        none : seq_of front ≡ None → (seq : ℕ) → IsSeq front seq → ⊥
        none is seq s = let e : ◌≡◌ {A = Option ℕ} None (Some seq) = sym is ∙ is-seq front seq s in cc

        named : (seq : ℕ) (behind : List ℕ) → IsSeq front seq → rest ≡ 46 ∷ behind → (o : Option (List ℕ)) → name_of behind ≡ o
            → IsRequestOrNot text (with_host seq o)
        named seq behind s at (Some name) is =
            let n = name-is behind name is in
            record {
              front = front;
              written = f.written ∙ (ap (λ (l : List ℕ). front ++ l) at ∙ ap (λ (l : List ℕ). front ++ 46 ∷ l) (sym n.1));
              seq = s;
              host = subst IsName (sym n.1) n.0;
            }
        named seq behind s at None is = (front, rest, seq, f, s, unnamed)
          where
            unnamed : (host : List ℕ) → rest ≡ 46 ∷ host → IsName host → ⊥
            unnamed host there h =
                let same : 46 ∷ behind ≡ 46 ∷ host = sym at ∙ there in
                let behind_is : behind ≡ host = cc in
                let some : ◌≡◌ {A = Option (List ℕ)} None (Some host) = sym is ∙ (ap name_of behind_is ∙ is-name host h) in
                cc

        by : (o : Option ℕ) → seq_of front ≡ o → ((rest ≡ []) × (named_of text ≡ of_parts (seq_of front) None))
            ⊎ ((behind : List ℕ) × (rest ≡ 46 ∷ behind) × (named_of text ≡ of_parts (seq_of front) (name_of behind))) → IsRequestOrNot text (named_of text)
        by None is (inl p) = subst (IsRequestOrNot text) (sym (p.1 ∙ ap (λ (o : Option ℕ). of_parts o None) is)) (front, rest, f, none is)
        by None is (inr p) = subst (IsRequestOrNot text) (sym (p.2 ∙ ap (λ (o : Option ℕ). of_parts o (name_of p.0)) is)) (front, rest, f, none is)
        by (Some seq) is (inl p) = subst (IsRequestOrNot text) (sym (p.1 ∙ ap (λ (o : Option ℕ). of_parts o None) is))
            (front, rest, seq, f, seq-is front seq is, unnamed)
          where
            unnamed : (host : List ℕ) → rest ≡ 46 ∷ host → IsName host → ⊥
            unnamed host there h = let e : ◌≡◌ {A = List ℕ} [] (46 ∷ host) = sym p.0 ∙ there in cc
        by (Some seq) is (inr p) =
            subst (IsRequestOrNot text) (sym (p.2 ∙ ap (λ (o : Option ℕ). of_parts o (name_of p.0)) is))
            (named seq p.0 (seq-is front seq is) p.1 (name_of p.0) refl)

-- and the other way round
said : (text : List ℕ) (answer : Result Named NotNamed) → IsRequestOrNot text answer → named_of text ≡ answer
said text (Ok id) r =
    ap named_of r.written ∙ (named-point r.front id.host (seq_plain r.front id.seq r.seq)
    ∙ (ap (λ (o : Option ℕ). of_parts o (name_of id.host)) (is-seq r.front id.seq r.seq) ∙ ap (with_host id.seq) (is-name id.host r.host)))
said text (Err BadNumber) (front, rest, f, none) = by (parts text front rest f)
  where
    by : ((rest ≡ []) × (named_of text ≡ of_parts (seq_of front) None)) ⊎
        ((behind : List ℕ) × (rest ≡ 46 ∷ behind) × (named_of text ≡ of_parts (seq_of front) (name_of behind))) → named_of text ≡ Err BadNumber
    by (inl p) = p.1 ∙ ap (λ (o : Option ℕ). of_parts o None) (no-seq front none)
    by (inr p) = p.2 ∙ ap (λ (o : Option ℕ). of_parts o (name_of p.0)) (no-seq front none)
said text (Err BadName) (front, rest, seq, f, s, none) = by (parts text front rest f)
  where
    by : ((rest ≡ []) × (named_of text ≡ of_parts (seq_of front) None)) ⊎
        ((behind : List ℕ) × (rest ≡ 46 ∷ behind) × (named_of text ≡ of_parts (seq_of front) (name_of behind))) → named_of text ≡ Err BadName
    by (inl p) = p.1 ∙ ap (λ (o : Option ℕ). of_parts o None) (is-seq front seq s)
    by (inr p) = p.2 ∙ (ap (λ (o : Option ℕ). of_parts o (name_of p.0)) (is-seq front seq s) ∙ ap (with_host seq) (no-name p.0 (none p.0 p.1)))

pub requests_are_read : ReadsRequests
requests_are_read text answer = (
  (λ e. subst (IsRequestOrNot text) e (read text)),
  said text answer,
)
