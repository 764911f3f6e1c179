-- What the words of a line say, by their places, with the first cause why not.
use Rattle.std.specs.Prelude.{ℕ, Bool, ◌||◌, nat_lt, List, length, take, drop, codes, Option, Some, None, is_some, if◌then◌else◌, Ok, Err, slice_get}
use Rattle.std.specs.List.{position}
use Rattle.std.specs.declared.result.Result.{Result}
pub use Rattle.nqs_base.specs.Reads.{◌>>=◌, or_fault}
use Rattle.nqs_base.specs.Same.{name_eq}
use Rattle.nqs_types.specs.declared.ids.HostId.{HostId}
use Rattle.nqs_types.specs.declared.ids.RequestId.{RequestId}
use Rattle.nqs_types.specs.declared.ids.Named.{Named}
use Rattle.nqs_types.specs.declared.world.Which.{Which}
use Rattle.nqs_types.specs.declared.world.Which.TheVariants as which
use Rattle.nqs_base.specs.declared.tear.Tear.{Tear}
use Rattle.nqs_base.specs.declared.tear.Tear.TheVariants as tear
use Rattle.nqs_words.specs.Values.{name_of, named_of, number_of}
use Rattle.nqs_words.specs.declared.values.NotNamed.{NotNamed}
use Rattle.nqs_schedule.specs.declared.cause.Cause.{Cause}
use Rattle.nqs_schedule.specs.declared.cause.Cause.TheVariants as cause
use Rattle.nqs_schedule.specs.declared.words.LineWord.{LineWord}
use Rattle.nqs_schedule.specs.declared.words.LineWords.{LineWords}

-- what a part of a line gives, or the first cause why it is bad
abbrev pub Read : Type 0 → Type 0
Read A = Result A Cause

-- why there is no further word
abbrev pub no_word : Bool → Cause
no_word bad = if bad then cause.BadQuote else cause.MissingWord

-- the bytes of a word, or why there is none
abbrev pub text_or : Option LineWord → Bool → Read (List ℕ)
text_or (Some word) bad = Ok word.text
text_or None bad = Err (no_word bad)

-- the bytes of the word at a place
unfoldable pub text_at : LineWords → ℕ → Read (List ℕ)
text_at ws i = text_or (slice_get ws.words i) ws.bad

-- a word stands there
unfoldable pub text_there : LineWords → ℕ → Read (Unit {0})
text_there ws i = do
  text ← text_at ws i
  Ok tt

-- the name at a place
unfoldable pub name_at : LineWords → ℕ → Read (List ℕ)
name_at ws i = do
  text ← text_at ws i
  or_fault (name_of text) cause.BadName

-- the number at a place, within two bounds
unfoldable pub number_at : ℕ → ℕ → LineWords → ℕ → Read ℕ
number_at low high ws i = do
  text ← text_at ws i
  or_fault (number_of low high text) cause.BadNumber

-- a place of the site, which has at most 16 hosts
abbrev pub as_host : Option ℕ → Read HostId
as_host (Some i) = if nat_lt i 16 then Ok (record { 0 = i }) else Err cause.NoSuchHost
as_host None = Err cause.NoSuchHost

-- the host of a name, by its place in the site
unfoldable pub host_of : List (List ℕ) → List ℕ → Read HostId
host_of site name = as_host (position (name_eq name) site)

-- the host at a place
unfoldable pub host_at : List (List ℕ) → LineWords → ℕ → Read HostId
host_at site ws i = do
  name ← name_at ws i
  host_of site name

-- the request that a word names, or that it names none
abbrev pub or_bad_request : Result Named NotNamed → Read Named
or_bad_request (Ok id) = Ok id
or_bad_request (Err why) = Err cause.BadRequest

-- the request at a place, whose host is of the site
unfoldable pub request_at : List (List ℕ) → LineWords → ℕ → Read RequestId
request_at site ws i = do
  text ← text_at ws i
  id ← or_bad_request (named_of text)
  host ← host_of site id.host
  Ok (record { seq = id.seq; host = host })

-- the disk of a word
unfoldable pub disk_of : List ℕ → Option Which
disk_of text =
    if name_eq (codes "root") text then Some which.Root else
    (if name_eq (codes "first") text then Some which.First else
    (if name_eq (codes "second") text then Some which.Second else
    (if name_eq (codes "spool") text then Some which.Spool else None)))

-- the disk at a place
unfoldable pub disk_at : LineWords → ℕ → Read Which
disk_at ws i = do
  text ← text_at ws i
  or_fault (disk_of text) cause.UnknownWord

-- what stands behind `mixed:`
unfoldable pub mixed_of : List ℕ → Option (List ℕ)
mixed_of text = if name_eq (codes "mixed:") (take 6 text) then Some (drop 6 text) else None

-- the tear of this number, where it is one of 64 bits
abbrev pub as_mixed : Option (List ℕ) → Read Tear
as_mixed None = Err cause.UnknownWord
as_mixed (Some number) = or_fault (number_of 0 18446744073709551615 number) cause.BadNumber >>= (λ n. Ok (tear.Mixed n))

-- which image a word says that a stop leaves
unfoldable pub tear_of : List ℕ → Read Tear
tear_of text =
    if name_eq (codes "old") text then Ok tear.Old else
    (if name_eq (codes "new") text then Ok tear.New else as_mixed (mixed_of text))

-- which image the word at a place says that a stop leaves
unfoldable pub tear_at : LineWords → ℕ → Read Tear
tear_at ws i = do
  text ← text_at ws i
  tear_of text

-- a word that is too long, where one stands there
abbrev pub short_enough : Option LineWord → Bool → Read (Unit {0})
short_enough (Some word) bad = if nat_lt 16384 (length word.text) then Err cause.OutputTooLong else Ok tt
short_enough None bad = if bad then Err cause.BadQuote else Ok tt

-- an output, where one stands there
unfoldable pub output_at : LineWords → ℕ → Read (Unit {0})
output_at ws i = short_enough (slice_get ws.words i) ws.bad

-- no word stands there, not even a badly quoted one
unfoldable pub nothing_at : LineWords → ℕ → Read (Unit {0})
nothing_at ws i = if is_some (slice_get ws.words i) || ws.bad then Err cause.ExtraWord else Ok tt

-- the other words are good, however many there are
unfoldable pub all_good : LineWords → Read (Unit {0})
all_good ws = if ws.bad then Err cause.BadQuote else Ok tt
