-- The first fault of a line, apart from how lines are read: up to its place the words stand as a
-- line of the table has them, and the word there isn't what that line wants next.
use Rattle.std.specs.Prelude.{◌≡◌, ◌⊎◌, ℕ, ◌+◌, ◌<◌, true, false, List, [], ◌∷◌, length, Option, Some, None, is_some, Err, slice_range}
use Rattle.nqs_types.specs.declared.ids.Named.{Named}
use Rattle.nqs_types.specs.declared.ids.NamedDest.{NamedDest}
use Rattle.nqs_types.specs.declared.fault.GrammarFault.{GrammarFault}
use Rattle.nqs_types.specs.declared.fault.GrammarFault.TheVariants as fault
use Rattle.nqs_words.specs.Words.{next_word}
use Rattle.nqs_words.specs.Values.{name_of, named_of, number_of, dest_of}
use Rattle.nqs_words.specs.Keywords.{keyword_of}
use Rattle.nqs_words.specs.declared.words.Word.{Word}
use Rattle.nqs_words.specs.declared.words.Gaps.TheVariants.{SpacesAndTabs}
use Rattle.nqs_words.specs.declared.keyword.Keyword.{Keyword}
use Rattle.nqs_words.specs.declared.keyword.Keyword.TheVariants as k
use Rattle.nqs_words.specs.declared.keywords.NoKeyword.{NoKeyword}
use Rattle.nqs_words.specs.declared.keywords.NoKeyword.TheVariants.{Unknown, Ambiguous}
use Rattle.nqs_words.specs.declared.values.NotNamed.{NotNamed}
use Rattle.nqs_words.specs.declared.values.NotNamed.TheVariants.{BadNumber, BadName}
use Rattle.nqs_qmgr.specs.declared.head.Head.{Head}
use Rattle.nqs_qmgr.specs.declared.value.Amount.{Amount}
use Rattle.nqs_qmgr.specs.declared.options.Settings.{Settings}
use Rattle.nqs_qmgr.specs.Heads.{word_text, stem_of, limit_of}
use Rattle.nqs_qmgr.specs.Options.{no_settings}
use Rattle.nqs_qmgr.specs.Lines.{verbs, nouns, shape_of}
use Rattle.nqs_qmgr.specs.Shapes.{Shape, nothing, one_name, number, name_value, number_and_name, limit_and_name, two_names, dest_and_name, one_request}
use Rattle.nqs_qmgr.specs.Shapes.{request_and_name, request_and_priority, name_and_forms, made_queue}
use Rattle.nqs_qmgr.specs.Says.{HasHead, HasNoValue, Given, Ends, NameIs, RequestIs, GivesOption}

-- ---- the word at the fault

-- no word is left where one must stand
abbrev pub NoWord : List ℕ → ℕ → GrammarFault → Type 0
NoWord line place f = Ends line place × (f ≡ fault.Missing (length line))

-- a word stands where none may
abbrev pub WordTooMany : List ℕ → ℕ → GrammarFault → Type 0
WordTooMany line place f = (word : Word) × (next_word SpacesAndTabs line place ≡ Some word) × (f ≡ fault.Extra word.start)

-- why a word names no keyword, as a fault at its place
abbrev pub unnamed : NoKeyword → ℕ → GrammarFault
unnamed Unknown place = fault.UnknownWord place
unnamed Ambiguous place = fault.Ambiguous place

-- the word names none of the keywords, or more than one
abbrev pub NamesNone : List Keyword → List ℕ → Word → GrammarFault → Type 0
NamesNone keywords line word f = (why : NoKeyword) × (keyword_of keywords (slice_range line word.start (stem_of line word)) ≡ Err why)
    × (f ≡ unnamed why word.start)

-- a word stands next, and names none of the keywords, or more than one
abbrev pub NoKeywordThere : List Keyword → List ℕ → ℕ → GrammarFault → Type 0
NoKeywordThere keywords line place f = (word : Word) × (next_word SpacesAndTabs line place ≡ Some word) × NamesNone keywords line word f

-- one of the keywords must stand next, and doesn't
abbrev pub NoHead : List Keyword → List ℕ → ℕ → GrammarFault → Type 0
NoHead keywords line place f = NoWord line place f ⊎ NoKeywordThere keywords line place f

-- a name must stand next, and doesn't
abbrev pub NoName : List ℕ → ℕ → GrammarFault → Type 0
NoName line place f = NoWord line place f ⊎ ((word : Word) × (next_word SpacesAndTabs line place ≡ Some word)
    × ((name_of (word_text line word) ≡ None) × (f ≡ fault.BadName word.start)))

-- why a word is no request, as a fault at its place
abbrev pub unread_request : NotNamed → ℕ → GrammarFault
unread_request BadNumber place = fault.BadNumber place
unread_request BadName place = fault.BadName place

-- a request must stand next, and doesn't
abbrev pub NoRequest : List ℕ → ℕ → GrammarFault → Type 0
NoRequest line place f =
    NoWord line place f ⊎ ((word : Word) × (next_word SpacesAndTabs line place ≡ Some word)
    × ((why : NotNamed) × (named_of (word_text line word) ≡ Err why) × (f ≡ unread_request why word.start)))

-- the keyword has a `=`, and behind it its value
abbrev pub HasValue : Head → Type 0
HasValue head = head.stem < head.word.end

-- the keyword takes no value, and has a `=`
abbrev pub ValueTooMany : Head → GrammarFault → Type 0
ValueTooMany head f = HasValue head × (f ≡ fault.Extra head.word.start)

-- the keyword takes a value, and has no `=`, or its value's text doesn't read
abbrev pub NoValue : {A : Type 0} → (List ℕ → Option A) → (ℕ → GrammarFault) → List ℕ → Head → GrammarFault → Type 0
NoValue read bad line head f =
    (HasNoValue head × (f ≡ fault.Missing head.word.end)) ⊎ (HasValue head
    × ((read (slice_range line (head.stem + 1) head.word.end) ≡ None) × (f ≡ bad (head.stem + 1))))

-- ---- what each line of the table wants

-- what the value behind a keyword is
pub data Value : Type 0 where
  a_number : ℕ → ℕ → Value
  a_limit : Amount → Value
  a_name : Value
  a_dest : Value

-- what stands behind the second keyword
pub data Rest : Type 0 where
  -- nothing
  the_end : Rest
  -- a name, and what follows it
  a_name_then : Rest → Rest
  -- SEQ.HOST, and what follows it
  a_request_then : Rest → Rest
  -- KEYWORD=VALUE, and nothing more
  a_setting : Keyword → Value → Rest
  -- options of these keywords, up to the line's end
  some_options : List Keyword → Rest

-- the value of the second keyword, where it takes one
abbrev pub value_of : Shape → Option Value
value_of (number low high f) = Some (a_number low high)
value_of (name_value f) = Some a_name
value_of (number_and_name low high f) = Some (a_number low high)
value_of (limit_and_name amount f) = Some (a_limit amount)
value_of (two_names f) = Some a_name
value_of (dest_and_name f) = Some a_dest
value_of _ = None

-- what stands behind the second keyword in a line of this shape
abbrev pub rest_of : Shape → Rest
rest_of (one_name f) = a_name_then the_end
rest_of (number_and_name low high f) = a_name_then the_end
rest_of (limit_and_name _ f) = a_name_then the_end
rest_of (two_names f) = a_name_then the_end
rest_of (dest_and_name f) = a_name_then the_end
rest_of (one_request f) = a_request_then the_end
rest_of (request_and_name f) = a_request_then (a_name_then the_end)
rest_of (request_and_priority f) = a_request_then (a_setting k.Priority (a_number 0 63))
rest_of (name_and_forms f) = a_name_then (a_setting k.Forms a_name)
rest_of (made_queue keywords f) = a_name_then (some_options keywords)
rest_of _ = the_end

-- the keyword stands with its value, or without one where it takes none
abbrev pub Stands : Option Value → List ℕ → Head → Type 0
Stands None line head = HasNoValue head
Stands (Some (a_number low high)) line head = (n : ℕ) × Given (number_of low high) line head n
Stands (Some (a_limit amount)) line head = (limit : Option ℕ) × Given (limit_of amount) line head limit
Stands (Some a_name) line head = (name : List ℕ) × Given name_of line head name
Stands (Some a_dest) line head = (dest : NamedDest) × Given dest_of line head dest

-- the keyword doesn't
abbrev pub Misstands : Option Value → List ℕ → Head → GrammarFault → Type 0
Misstands None line head f = ValueTooMany head f
Misstands (Some (a_number low high)) line head f = NoValue (number_of low high) fault.BadNumber line head f
Misstands (Some (a_limit amount)) line head f = NoValue (limit_of amount) fault.BadNumber line head f
Misstands (Some a_name) line head f = NoValue name_of fault.BadName line head f
Misstands (Some a_dest) line head f = NoValue dest_of fault.BadName line head f

-- ---- options

-- an option that was given before, or one whose value doesn't stand
abbrev pub Misgiven : List ℕ → Head → Settings → Keyword → GrammarFault → Type 0
Misgiven line head s k.Priority f = ((is_some s.priority ≡ true) × (f ≡ fault.Extra head.word.start))
    ⊎ ((is_some s.priority ≡ false) × NoValue (number_of 0 63) fault.BadNumber line head f)
Misgiven line head s k.RunLimit f = ((is_some s.run_limit ≡ true) × (f ≡ fault.Extra head.word.start))
    ⊎ ((is_some s.run_limit ≡ false) × NoValue (number_of 0 10000) fault.BadNumber line head f)
Misgiven line head s k.PipeOnly f = ((s.pipe_only ≡ true) × (f ≡ fault.Extra head.word.start)) ⊎ ((s.pipe_only ≡ false) × ValueTooMany head f)
Misgiven line head s k.Destination f = ((is_some s.destination ≡ true) × (f ≡ fault.Extra head.word.start))
    ⊎ ((is_some s.destination ≡ false) × NoValue dest_of fault.BadName line head f)
Misgiven line head s _ f = f ≡ fault.UnknownWord head.word.start

-- the next word is no option, or one that may not stand there
abbrev pub NoOption : List Keyword → List ℕ → ℕ → Settings → GrammarFault → Type 0
NoOption keywords line place s f = NoKeywordThere keywords line place f ⊎
    ((head : Head) × HasHead keywords line place head × Misgiven line head s head.keyword f)

-- behind these options, one after another, comes the fault
abbrev pub FaultsBehind : List Keyword → List ℕ → ℕ → Settings → List Head → GrammarFault → Type 0
FaultsBehind keywords line place s [] f = NoOption keywords line place s f
FaultsBehind keywords line place s (head ∷ heads) f =
    HasHead keywords line place head × ((more : Settings) × GivesOption line head s head.keyword more × FaultsBehind keywords line head.word.end more heads f)

-- a fault in the options of these keywords, where none is given yet
abbrev pub FaultsOptions : List Keyword → List ℕ → ℕ → GrammarFault → Type 0
FaultsOptions keywords line place f = (heads : List Head) × FaultsBehind keywords line place no_settings heads f

-- ---- lines

-- a fault in what stands behind the second keyword
abbrev pub FaultsRest : Rest → List ℕ → ℕ → GrammarFault → Type 0
FaultsRest the_end line place f = WordTooMany line place f
FaultsRest (a_name_then rest) line place f = NoName line place f ⊎ ((after : ℕ) × ((q : List ℕ) × NameIs line place (q, after)) × FaultsRest rest line after f)
FaultsRest (a_request_then rest) line place f = NoRequest line place f ⊎ ((after : ℕ) × ((r : Named) × RequestIs line place (r, after))
    × FaultsRest rest line after f)
FaultsRest (a_setting keyword value) line place f =
    NoHead (keyword ∷ []) line place f ⊎ ((head : Head) × HasHead (keyword ∷ []) line place head
    × (Misstands (Some value) line head f ⊎ (Stands (Some value) line head × WordTooMany line head.word.end f)))
FaultsRest (some_options keywords) line place f = FaultsOptions keywords line place f

-- a fault from a keyword on: of the keyword, or of what stands behind it
abbrev pub FaultsFrom : Option Value → Rest → List ℕ → Head → GrammarFault → Type 0
FaultsFrom value rest line head f = Misstands value line head f ⊎ (Stands value line head × FaultsRest rest line head.word.end f)

-- a fault from the second keyword on, where the table wants this shape
abbrev pub FaultsShape : Shape → List ℕ → Head → GrammarFault → Type 0
FaultsShape nothing line head f = f ≡ fault.UnknownWord head.word.start
FaultsShape shape line head f = FaultsFrom (value_of shape) (rest_of shape) line head f

-- a fault behind the verb
abbrev pub FaultsNoun : List ℕ → ℕ → Keyword → GrammarFault → Type 0
FaultsNoun line place verb f = NoHead (nouns verb) line place f ⊎ ((head : Head) × HasHead (nouns verb) line place head
    × FaultsShape (shape_of verb head.keyword) line head f)

-- a fault from the verb on: `shutdown` stands alone, behind any other comes a second keyword
abbrev pub FaultsVerb : List ℕ → Head → Keyword → GrammarFault → Type 0
FaultsVerb line verb k.Shutdown f = FaultsFrom None the_end line verb f
FaultsVerb line verb keyword f = ValueTooMany verb f ⊎ (HasNoValue verb × FaultsNoun line verb.word.end keyword f)

-- the line has this first fault
abbrev pub Faults : List ℕ → GrammarFault → Type 0
Faults line f = NoHead verbs line 0 f ⊎ ((verb : Head) × HasHead verbs line 0 verb × FaultsVerb line verb verb.keyword f)
