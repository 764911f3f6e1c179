-- Words that end with the folder's option and a name put outputs into the folder of that name.
use Rattle.std.proofs.Common.{◌≡◌, ◌⊎◌, inl, inr, ℕ, suc, ◌+◌, ◌<◌, ◌≤◌, List, [], ◌∷◌, ◌++◌, length, get_or, codes, Option, Some, None, Ok, Bool, true, false}
use Rattle.std.proofs.Common.{cond, nat_lt, nat_eq, refl, ap, sym, ◌∙◌, subst, arith}
use Rattle.std.proofs.lemmas.Bool.{and_parts, ltb-true, ltb-false, lt-ltb, le-ltb}
use Rattle.std.proofs.lemmas.Bool.Decides.{nat_tests}
use Rattle.std.proofs.lemmas.List.{length-append}
use Rattle.std.proofs.lemmas.Option.{same_Some, none-some}
use Rattle.std.specs.List.{list_all}
use Rattle.std.specs.Option.{option_or}
use Rattle.nqs_base.specs.Name.{is_letter}
use Rattle.nqs_base.proofs.Readings.{found}
use Rattle.nqs_words.specs.Values.{is_name_byte as is_word_byte, begins_as_name, is_name, name_of}
use Rattle.nqs_qsub.specs.declared.token.Source.TheVariants.{Command}
use Rattle.nqs_qsub.specs.declared.token.Place.{Place}
use Rattle.nqs_qsub.specs.declared.token.Place.TheVariants.{InCommand}
use Rattle.nqs_qsub.specs.declared.token.Token.{Token}
use Rattle.nqs_qsub.specs.declared.options.Flag.{Flag}
use Rattle.nqs_qsub.specs.declared.options.Flag.TheVariants as flag
use Rattle.nqs_qsub.specs.declared.options.Options.{Options}
use Rattle.nqs_qsub.specs.declared.reading.Progress.{Progress}
use Rattle.nqs_qsub.specs.Tokens.{stated, next_token, text_of}
use Rattle.nqs_qsub.specs.Options.{flag_of, no_options, takes_value, valued}
use Rattle.nqs_qsub.specs.Says.{GivesMark, GivesValue, GiveOptions, Says}
use Rattle.nqs_qsub.specs.Law.{LastFolderHolds}

dash : (b : ℕ) → is_letter b ≡ true → nat_eq 45 b ≡ false
dash b h = grind (arith, nat_tests)

-- a name is no option
no_option : (name : List ℕ) → is_name name ≡ true → flag_of name ≡ None
unfolding is_name flag_of
no_option [] h = cc
no_option (b ∷ bs) h =
    let e = dash b (and_parts (is_letter b) (list_all is_word_byte bs) (and_parts (begins_as_name (b ∷ bs)) _ h).0).0 in rw e refl

-- the last two words
last_two : (own : List (List ℕ)) (a b : List ℕ) → (get_or (own ++ a ∷ b ∷ []) (length own) [] ≡ a) × (get_or (own ++ a ∷ b ∷ []) (suc (length own)) [] ≡ b)
last_two [] a b = (refl, refl)
last_two (x ∷ own) a b = last_two own a b

module _ (own : List (List ℕ)) (name : List ℕ) (named : is_name name ≡ true) where
  abbrev Whole : List (List ℕ)
  Whole = own ++ codes "-do" ∷ name ∷ []

  -- the word at a place
  abbrev word_at : ℕ → Token
  word_at place = record { at = InCommand place; after = place + 1 }

  next_is : (place : ℕ) → place < length own + 2 → next_token Command Whole [] place ≡ Some (word_at place)
  unfolding next_token
  next_is place less =
      let size : length Whole ≡ length own + length (codes "-do" ∷ name ∷ []) = length-append own (codes "-do" ∷ name ∷ []) in
      let two : length (codes "-do" ∷ name ∷ []) ≡ 2 = refl in
      rw (lt-ltb place (length Whole) (omega (arith, size, two, less))) refl

  no_next : (place : ℕ) → length own + 2 ≤ place → next_token Command Whole [] place ≡ None
  unfolding next_token
  no_next place past =
      let size : length Whole ≡ length own + length (codes "-do" ∷ name ∷ []) = length-append own (codes "-do" ∷ name ∷ []) in
      let two : length (codes "-do" ∷ name ∷ []) ≡ 2 = refl in
      rw (le-ltb place (length Whole) (omega (arith, size, two, past))) refl

  -- the word that is read there
  is_word : (place : ℕ) (token : Token) → place < length own + 2 → next_token Command Whole [] place ≡ Some token → word_at place ≡ token
  is_word place token less next = same_Some (word_at place) token (sym (next_is place less) ∙ next)

  option_there : (place : ℕ) → place ≡ length own → flag_of (text_of Whole [] (InCommand place)) ≡ Some flag.Folder
  unfolding text_of flag_of
  option_there place is = ap (λ (k : ℕ). flag_of (get_or Whole k [])) is ∙ ap flag_of (last_two own (codes "-do") name).0

  name_there : (place : ℕ) → place ≡ suc (length own) → text_of Whole [] (InCommand place) ≡ name
  unfolding text_of
  name_there place is = ap (λ (k : ℕ). get_or Whole k []) is ∙ (last_two own (codes "-do") name).1

  -- behind the last word the options are those so far
  ends : (n place : ℕ) (o all : Options) (steps : List Progress) → length own + 2 ≤ place → GiveOptions Command Whole [] 0 n place o steps all → all ≡ o
  ends n place o all [] past h = h.1
  ends n place o all (p ∷ steps) past (gives, rest) = absurd (none-some gives.0 (sym (no_next place past) ∙ gives.1))

  -- no option begins with the name
  stuck : (n place : ℕ) (o all : Options) (steps : List Progress) → place ≡ suc (length own) → GiveOptions Command Whole [] 0 n place o steps all → ⊥
  stuck n place o all [] is h = none-some (word_at place) (sym h.0 ∙ next_is place (omega (arith, is)))
  stuck n place o all (p ∷ steps) is ((token, next, (f, says, more)), rest) =
      let word = is_word place token (omega (arith, is)) next in
      let text : text_of Whole [] token.at ≡ name = ap (λ (t : Token). text_of Whole [] t.at) (sym word) ∙ name_there place is in
      none-some f (sym (no_option name named) ∙ ap flag_of (sym text) ∙ says)

  -- the folder's option, which is the last one
  last_one : (n place : ℕ) (token : Token) (o : Options) (f : Flag) (p : Progress) → place ≡ length own → word_at place ≡ token
      → flag_of (text_of Whole [] token.at) ≡ Some f → GivesMark n token o f p ⊎ GivesValue Command Whole [] 0 n token o f p
      → (p.options.folder ≡ Some name) × (p.place ≡ length own + 2)
  unfolding takes_value valued name_of
  last_one n place token o f p is word says (inl mark) =
      let same = same_Some flag.Folder f (sym (option_there place is) ∙ ap (λ (t : Token). flag_of (text_of Whole [] t.at)) word ∙ says) in
      let no : true ≡ false = ap takes_value same ∙ mark.0 in
      cc
  last_one n place token o f p is word says (inr (takes, (value, next, (all, reads, made)))) =
      let same = same_Some flag.Folder f (sym (option_there place is) ∙ ap (λ (t : Token). flag_of (text_of Whole [] t.at)) word ∙ says) in
      let after : place + 1 ≡ token.after = ap (λ (t : Token). t.after) word in
      let second = is_word token.after value (omega (arith, is, after)) next in
      let text : text_of Whole [] value.at ≡ name =
      ap (λ (t : Token). text_of Whole [] t.at) (sym second) ∙ name_there token.after (omega (arith, is, after)) in
      let said : valued o flag.Folder name (stated value.at 0 (n + 1)) ≡ Ok all =
      ap (λ (g : Flag). valued o g name (stated value.at 0 (n + 1))) same
      ∙ ap (λ (t : List ℕ). valued o f t (stated value.at 0 (n + 1))) (sym text) ∙ reads in
      let placed : all.folder ≡ Some name = let whole = rw named at said in cc in
      let behind : token.after + 1 ≡ value.after = ap (λ (t : Token). t.after) second in
      let place_is : p.place ≡ value.after = ap (λ (q : Progress). q.place) made in
      (ap (λ (q : Progress). q.options.folder) made ∙ placed, omega (arith, is, after, behind, place_is))

  -- how far an option reaches
  reach : (n place : ℕ) (token : Token) (o : Options) (f : Flag) (p : Progress) → place < length own → word_at place ≡ token
      → GivesMark n token o f p ⊎ GivesValue Command Whole [] 0 n token o f p → (p.place ≤ length own) ⊎ (p.place ≡ suc (length own))
  reach n place token o f p less word (inl mark) =
      let after : place + 1 ≡ token.after = ap (λ (t : Token). t.after) word in
      let place_is : p.place ≡ token.after = ap (λ (q : Progress). q.place) mark.1 in
      inl (omega (arith, less, after, place_is))
  reach n place token o f p less word (inr (takes, (value, next, (all, reads, made)))) =
      let after : place + 1 ≡ token.after = ap (λ (t : Token). t.after) word in
      let second = is_word token.after value (omega (arith, less, after)) next in
      let behind : token.after + 1 ≡ value.after = ap (λ (t : Token). t.after) second in
      let place_is : p.place ≡ value.after = ap (λ (q : Progress). q.place) made in
      by (nat_lt (suc place) (length own)) refl after behind place_is
    where
      by : (t : Bool) → nat_lt (suc place) (length own) ≡ t → place + 1 ≡ token.after → token.after + 1 ≡ value.after → p.place ≡ value.after
          → (p.place ≤ length own) ⊎ (p.place ≡ suc (length own))
      by true e after behind place_is = let l = ltb-true (suc place) (length own) e in inl (omega (arith, l, after, behind, place_is))
      by false e after behind place_is = let l = ltb-false (suc place) (length own) e in inr (omega (arith, l, less, after, behind, place_is))

  holds : (n place : ℕ) (o all : Options) (steps : List Progress) → place ≤ length own → GiveOptions Command Whole [] 0 n place o steps all
      → all.folder ≡ Some name
  holds n place o all [] inside h = absurd (none-some (word_at place) (sym h.0 ∙ next_is place (omega (arith, inside))))
  holds n place o all (p ∷ steps) inside ((token, next, (f, says, (may, how))), rest) =
      by (λ within. holds p.number p.place p.options all steps within rest) (nat_lt place (length own)) refl (is_word place token (omega (arith, inside)) next)
    where
      on : (p.place ≤ length own) ⊎ (p.place ≡ suc (length own)) → ((p.place ≤ length own) → all.folder ≡ Some name) → all.folder ≡ Some name
      on (inl within) go = go within
      on (inr past) go = absurd (stuck p.number p.place p.options all steps past rest)

      by : ((p.place ≤ length own) → all.folder ≡ Some name) → (t : Bool) → nat_lt place (length own) ≡ t → word_at place ≡ token → all.folder ≡ Some name
      by go true e word = on (reach n place token o f p (ltb-true place (length own) e) word how) go
      by go false e word =
          let l = ltb-false place (length own) e in
          let last = last_one n place token o f p (omega (arith, l, inside)) word says how in
          ap (λ (q : Options). q.folder) (ends p.number p.place p.options all steps (omega (arith, last.1)) rest) ∙ last.0

pub last_folder_holds : LastFolderHolds
unfolding name_of
last_folder_holds own name script o is (short, (command, (steps, gives), (scripted, reads, (fit, all)))) =
    let named = (found (is_name name) name name is).0 in
    let folder = holds own name named 1 0 no_options command steps (omega arith) gives in
    ap (λ (q : Options). q.folder) all ∙ ap (λ (f : Option (List ℕ)). option_or f scripted.folder) folder
