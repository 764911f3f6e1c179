-- The lines of a queue's classes, with an entry more, and with one less.
use Rattle.std.proofs.Common.{◌≡◌, ℕ, ◌+◌, ◌<◌, ◌==◌, Bool, true, false, ◌&&◌, ◌||◌, List, [], ◌∷◌, ◌++◌, length, find, None, Some, position, slice_get}
use Rattle.std.proofs.Common.{refl, sym, ap, ◌∙◌, arith, if◌then◌else◌, true≢false}
use Rattle.std.specs.Prelude.{cond}
use Rattle.std.specs.List.{list_any}
use Rattle.std.specs.Option.{option_eq}
use Rattle.std.specs.Cmp.{bool_eq_equiv}
use Rattle.std.specs.Cmp.Lexicographic.{nat_list_eq_equiv, options_equiv}
use Rattle.std.proofs.Math.Bool.{beq}
use Rattle.std.proofs.lemmas.Bool.{and_parts, and_from, or_parts, lt-ltb}
use Rattle.std.proofs.lemmas.Bool.Decides.{nat_tests}
use Rattle.std.proofs.lemmas.Cmp.{nat_eq_equiv}
use Rattle.nqs_base.specs.Same.{name_eq}
use Rattle.nqs_base.proofs.Plain.{item_at}
use Rattle.nqs_base_tables.specs.Table.{change_first, without_first}
use Rattle.nqs_base_tables.proofs.KeyLemmas.{changed_at, found_behind, none_found, place_is}
use Rattle.nqs_base_tables.proofs.TableLemmas.{change_first-none}
use Rattle.nqs_types.specs.Ids.{id_eq, id_exact}
use Rattle.nqs_index.specs.declared.class.Class.{Class}
use Rattle.nqs_index.specs.declared.classes.ClassLine.{ClassLine}
use Rattle.nqs_index.specs.declared.line.Entry.{Entry}
use Rattle.nqs_index.specs.Keys.{is_before}
use Rattle.nqs_index.specs.Lines.{IsInOrder, placed, without_entry, same_key, is_entry}
use Rattle.nqs_index.specs.Classes.{class_eq, class_exact, is_class, number_in, EachLine, AreInOrder, AreFilled, AreApart, with_placed, with_taken, new_line}
use Rattle.nqs_index.specs.Classes.{PutsAt, TakesAt, with_class, entered_in, if_filled, taken_from, is_empty_line, is_left_empty, entries_of, line_of}
use Rattle.nqs_index.specs.Numbers.{number}
use Rattle.nqs_index.specs.Tallies.{one}
use Rattle.nqs_index.proofs.LineLemmas.{in_order, order_left}
use Rattle.nqs_index.proofs.Numbers.{number-cons, any_number, number_none}
use Rattle.nqs_index.proofs.OrderLemmas.{key_exact, key_itself}
use Rattle.nqs_index.proofs.PlaceLemmas.{found_at, none_placed}
use Rattle.nqs_index.proofs.RunLemmas.{id_itself}

-- a class is itself
pub class_itself : (c : Class) → class_eq c c ≡ true
class_itself c =
    and_from (name_eq c.owner c.owner) (option_eq name_eq c.forms c.forms && (c.earliest == c.earliest && beq c.far c.far)) (nat_list_eq_equiv.refl c.owner)
    (and_from (option_eq name_eq c.forms c.forms) (c.earliest == c.earliest && beq c.far c.far) ((options_equiv nat_list_eq_equiv).refl c.forms)
    (and_from (c.earliest == c.earliest) (beq c.far c.far) (nat_eq_equiv.refl c.earliest) (bool_eq_equiv.refl c.far)))

-- of two classes neither is the other, or each is
pub other_class : (a b : Class) → class_eq a b ≡ false → class_eq b a ≡ false
other_class a b other = by (class_eq b a) refl
  where
    by : (t : Bool) → class_eq b a ≡ t → t ≡ false
    by false _ = refl
    by true e = sym (class_itself a) ∙ ap (class_eq a) (sym (class_exact b a e)) ∙ other

-- one entry more, by each test
number_placed : (p : Entry → Bool) (x : Entry) (es : List Entry) → number p (placed x es) ≡ number p es + one (p x)
number_placed p x [] = number-cons p x []
number_placed p x (y ∷ ys) = by (is_before x.key y.key) (number_placed p x ys)
  where
    by : (b : Bool) → number p (placed x ys) ≡ number p ys + one (p x)
        → number p (if b then x ∷ y ∷ ys else y ∷ placed x ys) ≡ number p (y ∷ ys) + one (p x)
    by true rest = number-cons p x (y ∷ ys)
    by false rest =
        let i : number p (y ∷ placed x ys) ≡ number p (placed x ys) + one (p y) = number-cons p y (placed x ys) in
        let j : number p (y ∷ ys) ≡ number p ys + one (p y) = number-cons p y ys in
        omega (arith, rest, i, j)

placed_fills : (x : Entry) (es : List Entry) → 0 < length (placed x es)
placed_fills x [] = omega arith
placed_fills x (y ∷ ys) = by (is_before x.key y.key)
  where
    by : (b : Bool) → 0 < length (if b then x ∷ y ∷ ys else y ∷ placed x ys)
    by true = omega arith
    by false = omega arith

-- an entry is itself, and no other one is it
pub entry_itself : (x : Entry) → is_entry x x ≡ true
entry_itself x = and_from (same_key x.key x.key) (id_eq x.id x.id) (key_itself x.key) (id_itself x.id)

entry_exact : (x y : Entry) → is_entry x y ≡ true → x ≡ y
entry_exact x y h =
    let p = and_parts (same_key x.key y.key) (id_eq x.id y.id) h in
    (λ j. record { key = key_exact x.key y.key p.0 j; id = id_exact x.id y.id p.1 j })

-- one entry less, by each test
number_taken : (p : Entry → Bool) (x : Entry) (es : List Entry) → list_any (is_entry x) es ≡ true
    → number p es ≡ number p (without_entry x es) + one (p x)
number_taken p x [] h = absurd (true≢false (sym h))
number_taken p x (y ∷ ys) h = by (is_entry x y) refl (number_taken p x ys) h
  where
    by : (b : Bool) → is_entry x y ≡ b → (list_any (is_entry x) ys ≡ true → number p ys ≡ number p (without_first (is_entry x) ys) + one (p x))
        → (b || list_any (is_entry x) ys) ≡ true → number p (y ∷ ys) ≡ number p (if b then ys else y ∷ without_first (is_entry x) ys) + one (p x)
    by true e rest h = number-cons p y ys ∙ ap (λ z. number p ys + one (p z)) (sym (entry_exact x y e))
    by false e rest h =
        let k = rest h in
        let i : number p (y ∷ without_first (is_entry x) ys) ≡ number p (without_first (is_entry x) ys) + one (p y) =
        number-cons p y (without_first (is_entry x) ys) in
        let j : number p (y ∷ ys) ≡ number p ys + one (p y) = number-cons p y ys in
        omega (arith, k, i, j)

module _ (c : Class) (x : Entry) where
  -- one entry more, by each test
  pub number_entered : (test : Class → Entry → Bool) (ls : List ClassLine) → number_in test (entered_in c x ls) ≡ number_in test ls + one (test c x)
  number_entered test [] =
      let i : number (test c) (x ∷ []) ≡ 0 + one (test c x) = number-cons (test c) x [] in
      omega (arith, i)
  number_entered test (l ∷ ls) = by (class_eq c l.class) refl (number_entered test ls)
    where
      by : (b : Bool) → class_eq c l.class ≡ b → number_in test (entered_in c x ls) ≡ number_in test ls + one (test c x)
          → number_in test (if b then with_placed x l ∷ ls else l ∷ entered_in c x ls) ≡ number_in test (l ∷ ls) + one (test c x)
      by true e rest =
          let i : number (test l.class) (placed x l.line) ≡ number (test l.class) l.line + one (test l.class x) = number_placed (test l.class) x l.line in
          let j : one (test l.class x) ≡ one (test c x) = ap (λ k. one (test k x)) (sym (class_exact c l.class e)) in
          omega (arith, i, j)
      by false e rest = omega (arith, rest)

  -- what each line has that is kept by a further entry, and that a line of this one has
  each_entered : (P : List Entry → Type 0) → ((es : List Entry) → P es → P (placed x es)) → P (x ∷ []) → (ls : List ClassLine)
      → EachLine P ls → EachLine P (entered_in c x ls)
  each_entered P more first [] all = (first, tt)
  each_entered P more first (l ∷ ls) all = by (class_eq c l.class) (each_entered P more first ls all.1)
    where
      by : (b : Bool) → EachLine P (entered_in c x ls) → EachLine P (if b then with_placed x l ∷ ls else l ∷ entered_in c x ls)
      by true rest = (more l.line all.0, all.1)
      by false rest = (all.0, rest)

  pub order_entered : (ls : List ClassLine) → AreInOrder ls → AreInOrder (entered_in c x ls)
  order_entered = each_entered IsInOrder (in_order x) (tt, tt)

  pub filled_entered : (ls : List ClassLine) → AreFilled ls → AreFilled (entered_in c x ls)
  filled_entered = each_entered (λ es. 0 < length es) (λ es _. placed_fills x es) (omega arith)

  any_entered : (k : Class) (ls : List ClassLine) → class_eq k c ≡ false → list_any (is_class k) ls ≡ false → list_any (is_class k) (entered_in c x ls) ≡ false
  any_entered k [] other none = (λ j. other j || false)
  any_entered k (l ∷ ls) other none =
      let p = or_parts (class_eq k l.class) (list_any (is_class k) ls) none in
      by (class_eq c l.class) p.0 (any_entered k ls other p.1)
    where
      by : (b : Bool) → class_eq k l.class ≡ false → list_any (is_class k) (entered_in c x ls) ≡ false
          → list_any (is_class k) (if b then with_placed x l ∷ ls else l ∷ entered_in c x ls) ≡ false
      by true here rest = none
      by false here rest = (λ j. here j || list_any (is_class k) (entered_in c x ls)) ∙ rest

  pub apart_entered : (ls : List ClassLine) → AreApart ls → AreApart (entered_in c x ls)
  apart_entered [] apart = (refl, tt)
  apart_entered (l ∷ ls) apart = by (class_eq c l.class) refl (apart_entered ls apart.1)
    where
      by : (b : Bool) → class_eq c l.class ≡ b → AreApart (entered_in c x ls) → AreApart (if b then with_placed x l ∷ ls else l ∷ entered_in c x ls)
      by true e rest = apart
      by false e rest = (any_entered l.class ls (other_class c l.class e) apart.0, rest)

  -- an entry more in a line that is there, and in one that is new
  placed_there : (ls : List ClassLine) → list_any (is_class c) ls ≡ true → change_first (is_class c) (with_placed x) ls ≡ entered_in c x ls
  placed_there [] h = absurd (true≢false (sym h))
  placed_there (l ∷ ls) h = by (class_eq c l.class) (placed_there ls) h
    where
      by : (b : Bool) → (list_any (is_class c) ls ≡ true → change_first (is_class c) (with_placed x) ls ≡ entered_in c x ls)
          → (b || list_any (is_class c) ls) ≡ true
          → (if b then with_placed x l ∷ ls else l ∷ change_first (is_class c) (with_placed x) ls) ≡ (if b then with_placed x l ∷ ls else l ∷ entered_in c x ls)
      by true rest h = refl
      by false rest h = ap (λ k. l ∷ k) (rest h)

  placed_new : (ls : List ClassLine) → list_any (is_class c) ls ≡ false
      → change_first (is_class c) (with_placed x) (ls ++ new_line c ∷ []) ≡ entered_in c x ls
  placed_new [] h = ap (λ b. if b then with_placed x (new_line c) ∷ [] else new_line c ∷ []) (class_itself c)
  placed_new (l ∷ ls) h =
      let p = or_parts (class_eq c l.class) (list_any (is_class c) ls) h in
      let new = ls ++ new_line c ∷ [] in
      (λ j. if p.0 j then with_placed x l ∷ new else l ∷ change_first (is_class c) (with_placed x) new)
      ∙ ap (λ k. l ∷ k) (placed_new ls p.1)
      ∙ (λ j. if sym p.0 j then with_placed x l ∷ ls else l ∷ entered_in c x ls)

  -- an entry put at the place of its class, which has a line
  pub put_there : (ls mid new : List ClassLine) (i : ℕ) → mid ≡ with_class c ls → position (is_class c) mid ≡ Some i → i < length mid
      → PutsAt i x mid new → new ≡ entered_in c x ls
  put_there ls mid new i is at within put =
      let l = item_at mid i within in
      put l.0 l.1 ∙ changed_at (is_class c) (with_placed x) mid i l.0 at l.1 ∙ ap (change_first (is_class c) (with_placed x)) is
      ∙ by (list_any (is_class c) ls) refl
    where
      by : (b : Bool) → list_any (is_class c) ls ≡ b → change_first (is_class c) (with_placed x) (if b then ls else ls ++ new_line c ∷ []) ≡ entered_in c x ls
      by true there = placed_there ls there
      by false none = placed_new ls none

  none_in : (ls : List ClassLine) → list_any (is_class c) ls ≡ false → number_in (λ k e. class_eq c k && is_entry x e) ls ≡ 0
  none_in [] none = refl
  none_in (l ∷ ls) none =
      let p = or_parts (class_eq c l.class) (list_any (is_class c) ls) none in
      let i : number (λ e. class_eq c l.class && is_entry x e) l.line ≡ 0
      = (λ j. number (λ e. p.0 j && is_entry x e) l.line) ∙ number_none (λ _. false) (λ _. refl) l.line in
      let rest = none_in ls p.1 in
      omega (arith, i, rest)

  -- one entry less, by each test
  pub number_left : (test : Class → Entry → Bool) (ls : List ClassLine) → AreApart ls → 0 < number_in (λ k e. class_eq c k && is_entry x e) ls
      → number_in test ls ≡ number_in test (taken_from c x ls) + one (test c x)
  number_left test [] apart some = absurd (let no : ⊥ = omega arith in no)
  number_left test (l ∷ ls) apart some = by (class_eq c l.class) refl (number_left test ls apart.1)
    where
      of : (es : List Entry) → number (test l.class) l.line ≡ number (test l.class) es + one (test c x)
          → number_in test (l ∷ ls) ≡ number_in test (if_filled l.class es ls) + one (test c x)
      of [] less = omega (arith, less)
      of (e ∷ es) less = omega (arith, less)

      here : class_eq c l.class ≡ true → list_any (is_entry x) l.line ≡ true
      here e =
          let i : number (λ y. class_eq c l.class && is_entry x y) l.line ≡ number (is_entry x) l.line = (λ j. number (λ y. e j && is_entry x y) l.line) in
          let j = none_in ls (ap (λ k. list_any (is_class k) ls) (class_exact c l.class e) ∙ apart.0) in
          any_number (is_entry x) l.line ∙ lt-ltb 0 (number (is_entry x) l.line) (omega (arith, i, j, some))

      by : (b : Bool) → class_eq c l.class ≡ b
          → (0 < number_in (λ k e. class_eq c k && is_entry x e) ls → number_in test ls ≡ number_in test (taken_from c x ls) + one (test c x))
          → number_in test (l ∷ ls) ≡ number_in test (if b then if_filled l.class (without_entry x l.line) ls else l ∷ taken_from c x ls) + one (test c x)
      by true e rest =
          of (without_entry x l.line) (number_taken (test l.class) x l.line (here e)
          ∙ ap (λ k. number (test l.class) (without_entry x l.line) + one (test k x)) (sym (class_exact c l.class e)))
      by false e rest =
          let i : number (λ y. class_eq c l.class && is_entry x y) l.line ≡ 0
          = (λ j. number (λ y. e j && is_entry x y) l.line) ∙ number_none (λ _. false) (λ _. refl) l.line in
          let left = rest (omega (arith, i, some)) in
          omega (arith, left)

  -- what each line has that is kept by one entry less
  each_left : (P : List Entry → Type 0) → ((es : List Entry) → P es → 0 < length (without_entry x es) → P (without_entry x es)) → (ls : List ClassLine)
      → EachLine P ls → EachLine P (taken_from c x ls)
  each_left P less [] all = tt
  each_left P less (l ∷ ls) all = by (class_eq c l.class) (each_left P less ls all.1)
    where
      of : (es : List Entry) → (0 < length es → P es) → EachLine P (if_filled l.class es ls)
      of [] h = all.1
      of (e ∷ es) h = (h (omega arith), all.1)

      by : (b : Bool) → EachLine P (taken_from c x ls) → EachLine P (if b then if_filled l.class (without_entry x l.line) ls else l ∷ taken_from c x ls)
      by true rest = of (without_entry x l.line) (less l.line all.0)
      by false rest = (all.0, rest)

  pub order_left_in : (ls : List ClassLine) → AreInOrder ls → AreInOrder (taken_from c x ls)
  order_left_in = each_left IsInOrder (λ es order _. order_left x es order)

  pub filled_left : (ls : List ClassLine) → AreFilled ls → AreFilled (taken_from c x ls)
  filled_left = each_left (λ es. 0 < length es) (λ es _ some. some)

  any_left : (k : Class) (ls : List ClassLine) → list_any (is_class k) ls ≡ false → list_any (is_class k) (taken_from c x ls) ≡ false
  any_left k [] none = none
  any_left k (l ∷ ls) none =
      let p = or_parts (class_eq k l.class) (list_any (is_class k) ls) none in
      by (class_eq c l.class) p.0 p.1 (any_left k ls p.1)
    where
      of : (es : List Entry) → list_any (is_class k) ls ≡ false → list_any (is_class k) (if_filled l.class es ls) ≡ false
      of [] rest = rest
      of (e ∷ es) rest = none

      by : (b : Bool) → class_eq k l.class ≡ false → list_any (is_class k) ls ≡ false → list_any (is_class k) (taken_from c x ls) ≡ false
          → list_any (is_class k) (if b then if_filled l.class (without_entry x l.line) ls else l ∷ taken_from c x ls) ≡ false
      by true here others rest = of (without_entry x l.line) others
      by false here others rest = (λ j. here j || list_any (is_class k) (taken_from c x ls)) ∙ rest

  pub apart_left : (ls : List ClassLine) → AreApart ls → AreApart (taken_from c x ls)
  apart_left [] apart = tt
  apart_left (l ∷ ls) apart = by (class_eq c l.class) (apart_left ls apart.1)
    where
      of : (es : List Entry) → AreApart (if_filled l.class es ls)
      of [] = apart.1
      of (e ∷ es) = apart

      by : (b : Bool) → AreApart (taken_from c x ls) → AreApart (if b then if_filled l.class (without_entry x l.line) ls else l ∷ taken_from c x ls)
      by true rest = of (without_entry x l.line)
      by false rest = (any_left l.class ls apart.0, rest)

  -- the entry goes, and then the line if it has no other
  abbrev pub if_left_empty : List ClassLine → List ClassLine
  if_left_empty ls = if is_left_empty c ls then without_first (is_class c) ls else ls

  pub taken_is : (ls : List ClassLine) → if_left_empty (change_first (is_class c) (with_taken x) ls) ≡ taken_from c x ls
  taken_is [] = refl
  taken_is (l ∷ ls) = by (class_eq c l.class) refl (taken_is ls)
    where
      line : List Entry → ClassLine
      line es = record { class = l.class; line = es }

      first : (b : Bool) → b ≡ true → (es : List Entry)
          → (if is_empty_line (cond b (Some (line es)) (find (is_class c) ls)) then (if b then ls else line es ∷ without_first (is_class c) ls) else
          line es ∷ ls)
          ≡ if_filled l.class es ls
      first true _ [] = refl
      first true _ (e ∷ es) =
          let some : (length (e ∷ es) == 0) ≡ false = grind (arith, nat_tests) in
          (λ j. if some j then ls else line (e ∷ es) ∷ ls)
      first false h es = absurd (true≢false (sym h))

      of : (k : List ClassLine) (b : Bool) → (if b then without_first (is_class c) k else k) ≡ taken_from c x ls
          → (if b then l ∷ without_first (is_class c) k else l ∷ k) ≡ l ∷ taken_from c x ls
      of k true rest = ap (λ m. l ∷ m) rest
      of k false rest = ap (λ m. l ∷ m) rest

      later : (b : Bool) → b ≡ false → (k : List ClassLine) → if_left_empty k ≡ taken_from c x ls
          → (if is_empty_line (cond b (Some l) (find (is_class c) k)) then (if b then k else l ∷ without_first (is_class c) k) else l ∷ k)
          ≡ l ∷ taken_from c x ls
      later true h k rest = absurd (true≢false h)
      later false _ k rest = of k (is_left_empty c k) rest

      by : (b : Bool) → class_eq c l.class ≡ b → if_left_empty (change_first (is_class c) (with_taken x) ls) ≡ taken_from c x ls
          → if_left_empty (if b then with_taken x l ∷ ls else l ∷ change_first (is_class c) (with_taken x) ls)
          ≡ (if b then if_filled l.class (without_entry x l.line) ls else l ∷ taken_from c x ls)
      by true e rest = first (class_eq c l.class) e (without_entry x l.line)
      by false e rest = later (class_eq c l.class) e (change_first (is_class c) (with_taken x) ls) rest

-- the line of a class is the one at its place
pub line_found : (c : Class) (ls : List ClassLine) (i : ℕ) (l : ClassLine) → position (is_class c) ls ≡ Some i → slice_get ls i ≡ Some l → line_of c ls ≡ l.line
line_found c ls i l at there = ap entries_of (found_at (is_class c) ls l (ap (slice_get ls) (place_is (is_class c) ls i at) ∙ there))

-- a class that gets a line has nobody in it
pub line_ensured : (c : Class) (ls : List ClassLine) → line_of c (with_class c ls) ≡ line_of c ls
line_ensured c ls = by (list_any (is_class c) ls) refl
  where
    by : (b : Bool) → list_any (is_class c) ls ≡ b → line_of c (if b then ls else ls ++ new_line c ∷ []) ≡ line_of c ls
    by true there = refl
    by false none =
        ap entries_of (found_behind (is_class c) ls (new_line c) none)
        ∙ ap (λ b. entries_of (cond b (Some (new_line c)) None)) (class_itself c)
        ∙ sym (ap entries_of (none_found (is_class c) ls none))

-- an entry taken from the line at the place of its class
pub taken_there : (c : Class) (x : Entry) (ls new : List ClassLine) (i : ℕ) → position (is_class c) ls ≡ Some i → i < length ls → TakesAt i x ls new
    → new ≡ change_first (is_class c) (with_taken x) ls
taken_there c x ls new i at within take =
    let l = item_at ls i within in
    take l.0 l.1 ∙ changed_at (is_class c) (with_taken x) ls i l.0 at l.1

-- and from none where it has no place
pub taken_nowhere : (c : Class) (x : Entry) (ls : List ClassLine) → position (is_class c) ls ≡ None → ls ≡ change_first (is_class c) (with_taken x) ls
taken_nowhere c x ls none = sym (change_first-none (is_class c) (with_taken x) ls (none_placed (is_class c) ls none))
