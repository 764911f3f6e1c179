-- How requests are written, apart from how they are read.
use Rattle.std.specs.Prelude.{◌≡◌, ◌≢◌, ◌⊎◌, ◌↔◌, ◌≤◌, ℕ, false, List, [], ◌∷◌, ◌++◌, All, Ok, Err}
use Rattle.std.specs.declared.result.Result.{Result}
use Rattle.nqs_base.specs.Name.{IsName}
use Rattle.nqs_types.specs.declared.ids.Named.{Named}
use Rattle.nqs_text.specs.Number.{decimal, AreDigits}
use Rattle.nqs_words.specs.Values.{begins_with_zero, named_of}
use Rattle.nqs_words.specs.declared.values.NotNamed.{NotNamed}
use Rattle.nqs_words.specs.declared.values.NotNamed.TheVariants.{BadNumber, BadName}

-- digits without a zero in front, which write a number from 1 to 4,294,967,294
pub record IsSeq (text : List ℕ) (seq : ℕ) : Type 0 where
  pub digits : AreDigits text
  pub no_zero : begins_with_zero text ≡ false
  pub number : seq ≡ decimal text
  pub low : 1 ≤ seq
  pub high : seq ≤ 4294967294

-- a sequence number, a point and a name
pub record IsRequest (text : List ℕ) (id : Named) : Type 0 where
  pub front : List ℕ
  pub written : text ≡ front ++ 46 ∷ id.host
  pub seq : IsSeq front id.seq
  pub host : IsName id.host

-- nothing, or what begins with a point
abbrev pub IsAtPoint : List ℕ → Type 0
IsAtPoint rest = (rest ≡ []) ⊎ ((behind : List ℕ) × (rest ≡ 46 ∷ behind))

-- the text up to its first point, the whole text where there is none
pub record IsFront (text front rest : List ℕ) : Type 0 where
  pub written : text ≡ front ++ rest
  pub plain : All (λ b. b ≢ 46) front
  pub point : IsAtPoint rest

-- what stands before the first point is no sequence number
abbrev pub HasNoSeq : List ℕ → Type 0
HasNoSeq text = (front : List ℕ) × (rest : List ℕ) × IsFront text front rest × ((seq : ℕ) → IsSeq front seq → ⊥)

-- it is one, but no point and name follow
abbrev pub HasNoHost : List ℕ → Type 0
HasNoHost text = (front : List ℕ) × (rest : List ℕ) × (seq : ℕ) × IsFront text front rest × IsSeq front seq
    × ((host : List ℕ) → rest ≡ 46 ∷ host → IsName host → ⊥)

-- a text is a request, or isn't, for one of two reasons
abbrev pub IsRequestOrNot : List ℕ → Result Named NotNamed → Type 0
IsRequestOrNot text (Ok id) = IsRequest text id
IsRequestOrNot text (Err BadNumber) = HasNoSeq text
IsRequestOrNot text (Err BadName) = HasNoHost text

-- a text is read as what it is, and each is just one of these
abbrev pub ReadsRequests : Type 0
ReadsRequests = (text : List ℕ) (answer : Result Named NotNamed) → named_of text ≡ answer ↔ IsRequestOrNot text answer
