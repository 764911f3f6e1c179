-- Classes of waiting requests, and the lines of a queue, one for each class.
use Rattle.std.specs.Prelude.{◌≡◌, ⊤, ℕ, ◌+◌, ◌<◌, Bool, true, false, ◌&&◌, ◌==◌, if◌then◌else◌, List, [], ◌∷◌, ◌++◌, length, find, Option, None, Some}
use Rattle.std.specs.Prelude.{slice_get, slice_set}
use Rattle.std.specs.List.{list_any}
use Rattle.std.specs.Option.{option_eq}
use Rattle.std.proofs.Common.{sym, true≢false}
use Rattle.std.proofs.Math.Bool.{beq}
use Rattle.std.proofs.lemmas.Bool.{and_parts}
use Rattle.nqs_base.specs.Same.{name_eq, name_exact, number_exact}
use Rattle.nqs_base_tables.specs.Table.{has_key}
use Rattle.nqs_types.specs.declared.request.Row.{Row}
use Rattle.nqs_index.specs.declared.class.Class.{Class}
use Rattle.nqs_index.specs.declared.classes.ClassLine.{ClassLine}
use Rattle.nqs_index.specs.declared.line.Entry.{Entry}
use Rattle.nqs_index.specs.Lines.{IsInOrder, placed, without_entry}
use Rattle.nqs_index.specs.Numbers.{number}

-- whether two classes are one
abbrev pub class_eq : Class → Class → Bool
class_eq a b = name_eq a.owner b.owner && (option_eq name_eq a.forms b.forms && (a.earliest == b.earliest && beq a.far b.far))

-- forms that compare alike are one
forms_exact : (a b : Option (List ℕ)) → option_eq name_eq a b ≡ true → a ≡ b
forms_exact None None h = (λ _. None)
forms_exact None (Some d) h = absurd (true≢false (sym h))
forms_exact (Some c) None h = absurd (true≢false (sym h))
forms_exact (Some c) (Some d) h = (λ j. Some (name_exact c d h j))

-- flags that compare alike are one
flag_exact : (a b : Bool) → beq a b ≡ true → a ≡ b
flag_exact true true h = (λ _. true)
flag_exact true false h = absurd (true≢false (sym h))
flag_exact false true h = absurd (true≢false (sym h))
flag_exact false false h = (λ _. false)

-- classes that compare alike are one
pub class_exact : (a b : Class) → class_eq a b ≡ true → a ≡ b
class_exact a b h =
    let p = and_parts (name_eq a.owner b.owner) (option_eq name_eq a.forms b.forms && (a.earliest == b.earliest && beq a.far b.far)) h in
    let q = and_parts (option_eq name_eq a.forms b.forms) (a.earliest == b.earliest && beq a.far b.far) p.1 in
    let r = and_parts (a.earliest == b.earliest) (beq a.far b.far) q.1 in
    (λ j. record {
      owner = name_exact a.owner b.owner p.0 j;
      forms = forms_exact a.forms b.forms q.0 j;
      earliest = number_exact a.earliest b.earliest r.0 j;
      far = flag_exact a.far b.far r.1 j;
    })

module _ {E : Type 0} where
  -- the class of a row
  abbrev pub class_of : Row E → Class
  class_of r = record { owner = r.job.owner; forms = r.job.forms; earliest = r.job.earliest; far = r.hops == 32 }

-- whether a line is this class's
abbrev pub is_class : Class → ClassLine → Bool
is_class c = has_key class_eq (λ l. l.class) c

-- how many entries of some classes' lines pass a test
abbrev pub number_in : (Class → Entry → Bool) → List ClassLine → ℕ
number_in test [] = 0
number_in test (l ∷ ls) = number (test l.class) l.line + number_in test ls

-- each line has the property
abbrev pub EachLine : (List Entry → Type 0) → List ClassLine → Type 0
EachLine P [] = ⊤
EachLine P (l ∷ ls) = P l.line × EachLine P ls

-- each line is in order
abbrev pub AreInOrder : List ClassLine → Type 0
AreInOrder = EachLine IsInOrder

-- each line has an entry
abbrev pub AreFilled : List ClassLine → Type 0
AreFilled = EachLine (λ es. 0 < length es)

-- no class has two lines
abbrev pub AreApart : List ClassLine → Type 0
AreApart [] = ⊤
AreApart (l ∷ ls) = (list_any (is_class l.class) ls ≡ false) × AreApart ls

-- a class's line with one entry more
abbrev pub with_placed : Entry → ClassLine → ClassLine
with_placed x l = record { class = l.class; line = placed x l.line }

-- a class's line without an entry
abbrev pub with_taken : Entry → ClassLine → ClassLine
with_taken x l = record { class = l.class; line = without_entry x l.line }

-- a line of a class of which nobody waits yet
abbrev pub new_line : Class → ClassLine
new_line c = record { class = c; line = [] }

-- the line at a place gets the entry, and no other one changes
abbrev pub PutsAt : ℕ → Entry → List ClassLine → List ClassLine → Type 0
PutsAt place x old new = (l : ClassLine) → slice_get old place ≡ Some l → new ≡ slice_set old place (with_placed x l)

-- the lines, with one for the class
abbrev pub with_class : Class → List ClassLine → List ClassLine
with_class c ls = if list_any (is_class c) ls then ls else ls ++ new_line c ∷ []

-- the lines, with an entry more in that of its class
abbrev pub entered_in : Class → Entry → List ClassLine → List ClassLine
entered_in c x [] = with_placed x (new_line c) ∷ []
entered_in c x (l ∷ ls) = if class_eq c l.class then with_placed x l ∷ ls else l ∷ entered_in c x ls

-- a line before others, if it has an entry
abbrev pub if_filled : Class → List Entry → List ClassLine → List ClassLine
if_filled c [] ls = ls
if_filled c (e ∷ es) ls = record { class = c; line = e ∷ es } ∷ ls

-- the lines, without an entry of that of its class, which goes where it gets empty
abbrev pub taken_from : Class → Entry → List ClassLine → List ClassLine
taken_from c x [] = []
taken_from c x (l ∷ ls) = if class_eq c l.class then if_filled l.class (without_entry x l.line) ls else l ∷ taken_from c x ls

-- whether there is a line, and it has no entry
abbrev pub is_empty_line : Option ClassLine → Bool
is_empty_line None = false
is_empty_line (Some l) = length l.line == 0

-- whether the class has a line without an entry
abbrev pub is_left_empty : Class → List ClassLine → Bool
is_left_empty c ls = is_empty_line (find (is_class c) ls)

-- the lines become those with an entry more
abbrev pub IsEntered : Class → Entry → List ClassLine → List ClassLine → Type 0
IsEntered c x old new = new ≡ entered_in c x old

-- the entries of a line, if there is one
abbrev pub entries_of : Option ClassLine → List Entry
entries_of None = []
entries_of (Some l) = l.line

-- the entries of a class's line; none where it has no line
abbrev pub line_of : Class → List ClassLine → List Entry
line_of c ls = entries_of (find (is_class c) ls)

-- the line at a place loses the entry, and no other one changes
abbrev pub TakesAt : ℕ → Entry → List ClassLine → List ClassLine → Type 0
TakesAt place x old new = (l : ClassLine) → slice_get old place ≡ Some l → new ≡ slice_set old place (with_taken x l)

-- the lines become those with an entry less
abbrev pub IsTaken : Class → Entry → List ClassLine → List ClassLine → Type 0
IsTaken c x old new = new ≡ taken_from c x old
