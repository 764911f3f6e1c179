-- What an option of a submission says is within the limits.
use Rattle.std.proofs.Common.{◌≡◌, ℕ, ◌-◌, ◌≤◌, Bool, true, false, cond, ◌&&◌, nat_le, List, [], ◌∷◌, ◌++◌, length, take, drop, not, Ok, subst, slice_range}
use Rattle.std.proofs.Common.{refl, ap}
use Rattle.std.proofs.Common.{sym, ◌∙◌, arith, Option, Some, None, unwrap_or, IfOk, codes}
use Rattle.std.proofs.Common.{true≢false}
use Rattle.std.proofs.lemmas.Bool.{and_parts, and_from, leb-true, le-leb, cond-true, not_from_false, false_from_ne_true}
use Rattle.std.proofs.lemmas.Bool.Decides.{nat_tests}
use Rattle.std.proofs.lemmas.List.{length-drop, length-append, take-append-le, drop-append-le, take-append-drop}
use Rattle.std.specs.List.{list_all}
use Rattle.nqs_base.specs.Name.{is_letter}
use Rattle.nqs_base.proofs.Readings.{found, passed}
use Rattle.nqs_base.specs.Path.{is_parent, is_path}
use Rattle.nqs_base.specs.Same.{name_exact}
use Rattle.nqs_types.specs.declared.fault.WordsCause.{WordsCause}
use Rattle.nqs_types.specs.declared.fault.WordsCause.TheVariants as cause
use Rattle.nqs_rules.specs.Sane.{is_name_byte, is_sane_name, is_sane_folder, is_path_or_none}
use Rattle.nqs_rules.specs.Step.{within}
use Rattle.nqs_rules.proofs.PathsFit.{path_within}
use Rattle.nqs_rules.proofs.Chains.{chained}
use Rattle.nqs_rules.proofs.ListFacts.{list_all-weaker}
use Rattle.nqs_words.specs.Values.{is_name_byte as is_word_byte, begins_as_name, is_name, name_of, number_of, are_digits}
use Rattle.nqs_words.specs.Amounts.{time_of, size_of}
use Rattle.nqs_words.specs.Moments.{moment_of}
use Rattle.nqs_words.specs.declared.words.Word.{Word}
use Rattle.nqs_text.specs.Number.{decimal}
use Rattle.nqs_qsub.specs.declared.token.Place.{Place}
use Rattle.nqs_qsub.specs.declared.token.Place.TheVariants.{InCommand, InScript}
use Rattle.nqs_qsub.specs.declared.token.Stated.{Stated}
use Rattle.nqs_qsub.specs.declared.options.Options.{Options}
use Rattle.nqs_qsub.specs.Tokens.{fault_at, text_of}
use Rattle.nqs_qsub.specs.declared.options.Flag.{Flag}
use Rattle.nqs_qsub.specs.declared.options.Flag.TheVariants as flag
use Rattle.nqs_qsub.specs.Options.{no_options, marked, given, path_at, valued}
use Rattle.nqs_qsub.specs.Qsub.{fits, path_text}

-- ---- names and numbers

letter_seen : (b : ℕ) → is_letter b ≡ true → is_name_byte b ≡ true
letter_seen b h = grind (arith, nat_tests)

byte_seen : (b : ℕ) → is_word_byte b ≡ true → is_name_byte b ≡ true
byte_seen b h = grind (arith, nat_tests)

name_sane : (bytes : List ℕ) → is_name bytes ≡ true → is_sane_name bytes ≡ true
unfolding is_name
name_sane [] h = h
name_sane (b ∷ bs) h =
    let whole = and_parts (begins_as_name (b ∷ bs)) (nat_le (length (b ∷ bs)) 15) h in
    let parts = and_parts (is_letter b) (list_all is_word_byte bs) whole.0 in
    let seen = and_from (is_name_byte b) (list_all is_name_byte bs) (letter_seen b parts.0) (list_all-weaker is_word_byte is_name_byte byte_seen bs parts.1) in
    chained (nat_le 1 (length (b ∷ bs))) (nat_le (length (b ∷ bs)) 15 ∷ list_all is_name_byte (b ∷ bs) ∷ [])
    (le-leb 1 (length (b ∷ bs)) (omega arith), (whole.1, (seen, tt)))

pub name_is_sane : (bytes name : List ℕ) → name_of bytes ≡ Some name → is_sane_name name ≡ true
unfolding name_of
name_is_sane bytes name e = let f = found (is_name bytes) bytes name e in ap is_sane_name (sym f.1) ∙ name_sane bytes f.0

no_parent : (name : List ℕ) → is_name name ≡ true → is_parent name ≡ false
unfolding is_name
no_parent name h = false_from_ne_true (is_parent name) (λ e. true≢false (sym h ∙ ap is_name (name_exact name (46 ∷ 46 ∷ []) e)))

pub folder_is_sane : (bytes name : List ℕ) → name_of bytes ≡ Some name → is_sane_folder (Some name) ≡ true
unfolding name_of
folder_is_sane bytes name e =
    let f = found (is_name bytes) bytes name e in
    and_from (is_sane_name name) (not (is_parent name)) (name_is_sane bytes name e)
    (not_from_false (is_parent name) (ap is_parent (sym f.1) ∙ no_parent bytes f.0))

pub number_is_between : (low high : ℕ) (bytes : List ℕ) (n : ℕ) → number_of low high bytes ≡ Some n → (nat_le low n ≡ true) × (nat_le n high ≡ true)
unfolding number_of
number_is_between low high bytes n e =
    let f = found (are_digits bytes && (nat_le low (decimal bytes) && nat_le (decimal bytes) high)) (decimal bytes) n e in
    let parts = and_parts (nat_le low (decimal bytes)) (nat_le (decimal bytes) high)
    (and_parts (are_digits bytes) (nat_le low (decimal bytes) && nat_le (decimal bytes) high) f.0).1 in
    (ap (nat_le low) (sym f.1) ∙ parts.0, ap (λ (m : ℕ). nat_le m high) (sym f.1) ∙ parts.1)

-- ---- paths

path_right : (bytes : List ℕ) → is_path bytes ≡ true → is_path_or_none bytes ≡ true
path_right [] h = refl
path_right (b ∷ bs) h = h

-- a path that is found in a part of the words and of the script is found in them
abbrev pub Carries : List (List ℕ) → List ℕ → List (List ℕ) → List ℕ → Type 0
Carries part text words script = (at : Place) → is_path (text_of part text at) ≡ true → is_path (text_of words script at) ≡ true

front_slice : (xs ys : List ℕ) (start end : ℕ) → start ≤ end → end ≤ length xs → slice_range (xs ++ ys) start end ≡ slice_range xs start end
front_slice xs ys start end order inside =
    rw (drop-append-le start xs ys (omega arith)) (take-append-le (end - start) (drop start xs) ys (omega (arith, length-drop start xs)))

-- the bytes of a word of a front stand in the whole
front_text : (part words : List (List ℕ)) (front rest : List ℕ) (word : Word) → is_path (text_of part front (InScript word)) ≡ true
    → is_path (text_of words (front ++ rest) (InScript word)) ≡ true
unfolding text_of
front_text part words front rest word = by (nat_le word.start word.end && nat_le word.end (length front)) refl
  where
    by : (t : Bool) → (nat_le word.start word.end && nat_le word.end (length front)) ≡ t → is_path (cond t (slice_range front word.start word.end) []) ≡ true
        → is_path (text_of words (front ++ rest) (InScript word)) ≡ true
    by false is p = cc
    by true is p =
        let two = and_parts (nat_le word.start word.end) (nat_le word.end (length front)) is in
        let order = leb-true word.start word.end two.0 in
        let inside = leb-true word.end (length front) two.1 in
        let stands = and_from (nat_le word.start word.end) (nat_le word.end (length (front ++ rest))) two.0
        (le-leb word.end (length (front ++ rest)) (omega (arith, length-append front rest))) in
        ap is_path (cond-true _ (slice_range (front ++ rest) word.start word.end) [] stands ∙ front_slice front rest word.start word.end order inside) ∙ p

pub carries_command : (words : List (List ℕ)) (script : List ℕ) → Carries words [] words script
unfolding text_of
carries_command words script (InCommand i) h = h
carries_command words script (InScript word) h = front_text words words [] script word h

pub carries_line : (words : List (List ℕ)) (script : List ℕ) (end : ℕ) → Carries [] (take end script) words script
unfolding text_of
carries_line words script end (InCommand i) h = cc
carries_line words script end (InScript word) h =
    subst (λ (s : List ℕ). is_path (text_of words s (InScript word)) ≡ true) (take-append-drop end script)
    (front_text [] words (take end script) (drop end script) word h)

-- ---- options

-- a path that is stated is one
abbrev pub StatesPath : List (List ℕ) → List ℕ → Option Stated → Type 0
StatesPath words script None = Unit {0}
StatesPath words script (Some path) = is_path (text_of words script path.at) ≡ true

-- what the options say is within the limits
pub record AreWithin (words : List (List ℕ)) (script : List ℕ) (o : Options) : Type 0 where
  pub name : is_sane_name (unwrap_or o.job_name (codes "STDIN")) ≡ true
  pub priority : nat_le (unwrap_or o.priority 31) 63 ≡ true
  pub out : StatesPath words script o.out
  pub error : StatesPath words script o.error
  pub folder : is_sane_folder o.folder ≡ true

pub none_sane : (words : List (List ℕ)) (script : List ℕ) → AreWithin words script no_options
none_sane words script = record { name = refl; priority = refl; out = tt; error = tt; folder = refl }

pub marked_sane : (words : List (List ℕ)) (script : List ℕ) (o : Options) (f : Flag) → AreWithin words script o → AreWithin words script (marked o f)
unfolding marked
marked_sane words script o flag.Join h = record { name = h.name; priority = h.priority; out = h.out; error = h.error; folder = h.folder }
marked_sane words script o flag.NoRerun h = record { name = h.name; priority = h.priority; out = h.out; error = h.error; folder = h.folder }
marked_sane words script o _ h = h

given_sane : {A : Type 0} (P : Options → Type 0) (found : Option A) (why : WordsCause) (set : A → Options) → ((a : A) → found ≡ Some a → P (set a))
    → IfOk (given found why set) P
given_sane P (Some a) why set h = h a refl
given_sane P None why set h = tt

path_sane : (part : List (List ℕ)) (text : List ℕ) (words : List (List ℕ)) (script : List ℕ) (at p : Stated) → Carries part text words script
    → path_at (text_of part text at.at) at ≡ Some p → StatesPath words script (Some p)
path_sane part text words script at p carries e =
    let f = found (is_path (text_of part text at.at)) at p e in
    ap (λ (q : Stated). is_path (text_of words script q.at)) (sym f.1) ∙ carries at.at f.0

pub valued_sane : (part : List (List ℕ)) (text : List ℕ) (words : List (List ℕ)) (script : List ℕ) (o : Options) (f : Flag) (at : Stated)
    → Carries part text words script → AreWithin words script o
    → IfOk (valued o f (text_of part text at.at) at) (AreWithin words script)
unfolding valued
valued_sane part text words script o flag.Queue at carries h = given_sane (AreWithin words script) (name_of (text_of part text at.at)) cause.BadName _
    (λ q e. record { name = h.name; priority = h.priority; out = h.out; error = h.error; folder = h.folder })
valued_sane part text words script o flag.Priority at carries h = given_sane (AreWithin words script)
    (number_of 0 63 (text_of part text at.at)) cause.BadNumber _
    (λ n e. record { name = h.name; priority = (number_is_between 0 63 _ n e).1; out = h.out; error = h.error; folder = h.folder })
valued_sane part text words script o flag.JobName at carries h = given_sane (AreWithin words script) (name_of (text_of part text at.at)) cause.BadName _
    (λ n e. record { name = name_is_sane _ n e; priority = h.priority; out = h.out; error = h.error; folder = h.folder })
valued_sane part text words script o flag.Earliest at carries h = given_sane (AreWithin words script) (moment_of (text_of part text at.at)) cause.BadMoment _
    (λ m e. record { name = h.name; priority = h.priority; out = h.out; error = h.error; folder = h.folder })
valued_sane part text words script o flag.Out at carries h = given_sane (AreWithin words script) (path_at (text_of part text at.at) at) cause.BadPath _
    (λ p e. record { name = h.name; priority = h.priority; out = path_sane part text words script at p carries e; error = h.error; folder = h.folder })
valued_sane part text words script o flag.Error at carries h = given_sane (AreWithin words script) (path_at (text_of part text at.at) at) cause.BadPath _
    (λ p e. record { name = h.name; priority = h.priority; out = h.out; error = path_sane part text words script at p carries e; folder = h.folder })
valued_sane part text words script o flag.Cpu at carries h = given_sane (AreWithin words script) (time_of (text_of part text at.at)) cause.BadNumber _
    (λ n e. record { name = h.name; priority = h.priority; out = h.out; error = h.error; folder = h.folder })
valued_sane part text words script o flag.Memory at carries h = given_sane (AreWithin words script) (size_of (text_of part text at.at)) cause.BadNumber _
    (λ n e. record { name = h.name; priority = h.priority; out = h.out; error = h.error; folder = h.folder })
valued_sane part text words script o flag.Forms at carries h = given_sane (AreWithin words script) (name_of (text_of part text at.at)) cause.BadName _
    (λ f e. record { name = h.name; priority = h.priority; out = h.out; error = h.error; folder = h.folder })
valued_sane part text words script o flag.Folder at carries h = given_sane (AreWithin words script) (name_of (text_of part text at.at)) cause.BadName _
    (λ f e. record { name = h.name; priority = h.priority; out = h.out; error = h.error; folder = folder_is_sane _ f e })
valued_sane part text words script o _ at carries h = h

-- ---- paths in their folder

-- what the options say is within the limits, and the paths are it in their folder
pub record AreAsked (words : List (List ℕ)) (script : List ℕ) (o : Options) : Type 0 where
  pub name : is_sane_name (unwrap_or o.job_name (codes "STDIN")) ≡ true
  pub priority : nat_le (unwrap_or o.priority 31) 63 ≡ true
  pub out : is_path_or_none (path_text words script o.folder o.out) ≡ true
  pub error : is_path_or_none (path_text words script o.folder o.error) ≡ true
  pub folder : is_sane_folder o.folder ≡ true

placed : (words : List (List ℕ)) (script : List ℕ) (folder : Option (List ℕ)) (path : Option Stated) (done : Unit {0}) → is_sane_folder folder ≡ true
    → StatesPath words script path → fits words script folder path ≡ Ok done → is_path_or_none (path_text words script folder path) ≡ true
placed words script folder None done sane right fit = refl
placed words script folder (Some path) done sane right fit =
    let text = text_of words script path.at in
    let p = passed (nat_le (length (within folder text)) 255) (fault_at path.line path.number cause.BadPath) tt done fit in
    path_right (within folder text) (path_within folder text sane right (leb-true (length (within folder text)) 255 p.0))

pub asked : (words : List (List ℕ)) (script : List ℕ) (o : Options) (first second : Unit {0}) → AreWithin words script o
    → fits words script o.folder o.out ≡ Ok first → fits words script o.folder o.error ≡ Ok second → AreAsked words script o
asked words script o first second h out error =
    record {
      name = h.name;
      priority = h.priority;
      out = placed words script o.folder o.out first h.folder h.out out;
      error = placed words script o.folder o.error second h.folder h.error error;
      folder = h.folder;
    }
