-- Keywords of qmgr, and which of them a word names.
use Rattle.std.specs.Prelude.{ℕ, ◌+◌, Bool, true, false, ◌&&◌, ◌==◌, nat_lt, nat_le, List, [], ◌∷◌, length, codes, if◌then◌else◌, Ok, Err, find, count_by}
use Rattle.std.specs.Option.{option_map_or}
use Rattle.std.specs.declared.result.Result.{Result}
use Rattle.nqs_base.specs.Same.{name_eq}
use Rattle.nqs_words.specs.declared.keyword.Keyword.{Keyword}
use Rattle.nqs_words.specs.declared.keyword.Keyword.TheVariants as k
use Rattle.nqs_words.specs.declared.keywords.NoKeyword.{NoKeyword}
use Rattle.nqs_words.specs.declared.keywords.NoKeyword.TheVariants.{Unknown, Ambiguous}

-- how a keyword is written in full
abbrev pub spelling : Keyword → List ℕ
spelling k.Abort = codes "abort"
spelling k.Add = codes "add"
spelling k.Create = codes "create"
spelling k.Delete = codes "delete"
spelling k.Disable = codes "disable"
spelling k.Enable = codes "enable"
spelling k.First = codes "first"
spelling k.Hold = codes "hold"
spelling k.Modify = codes "modify"
spelling k.Move = codes "move"
spelling k.Purge = codes "purge"
spelling k.Release = codes "release"
spelling k.Remove = codes "remove"
spelling k.Set = codes "set"
spelling k.Show = codes "show"
spelling k.Shutdown = codes "shutdown"
spelling k.Start = codes "start"
spelling k.Stop = codes "stop"
spelling k.BatchQueue = codes "batch_queue"
spelling k.Complex = codes "complex"
spelling k.ComplexLimit = codes "complex_limit"
spelling k.Complexes = codes "complexes"
spelling k.CpuLimit = codes "cpu_limit"
spelling k.DefaultQueue = codes "default_queue"
spelling k.Destination = codes "destination"
spelling k.Device = codes "device"
spelling k.DeviceQueue = codes "device_queue"
spelling k.Devices = codes "devices"
spelling k.Forms = codes "forms"
spelling k.GlobalLimit = codes "global_limit"
spelling k.Manager = codes "manager"
spelling k.Managers = codes "managers"
spelling k.MemoryLimit = codes "memory_limit"
spelling k.NoAccess = codes "no_access"
spelling k.NoDefaultQueue = codes "no_default_queue"
spelling k.Operator = codes "operator"
spelling k.Parameters = codes "parameters"
spelling k.Patience = codes "patience"
spelling k.PipeOnly = codes "pipeonly"
spelling k.PipeQueue = codes "pipe_queue"
spelling k.Priority = codes "priority"
spelling k.Queue = codes "queue"
spelling k.Queues = codes "queues"
spelling k.Request = codes "request"
spelling k.RetryWait = codes "retry_wait"
spelling k.RunLimit = codes "run_limit"
spelling k.UnrestrictedAccess = codes "unrestricted_access"
spelling k.User = codes "user"
spelling k.UserLimit = codes "user_limit"
spelling k.Why = codes "why"

-- two keywords are the same one: they are written alike
abbrev pub is_same : Keyword → Keyword → Bool
is_same a b = name_eq (spelling a) (spelling b)

-- an upper case letter in lower case
abbrev pub lower : ℕ → ℕ
lower b = if nat_le 65 b && nat_le b 90 then b + 32 else b

-- the word, in lower case, begins the text
abbrev pub begins : List ℕ → List ℕ → Bool
begins [] text = true
begins (b ∷ bs) [] = false
begins (b ∷ bs) (t ∷ ts) = lower b == t && begins bs ts

-- the word begins the keyword, in whatever case it is written
abbrev pub shortens : List ℕ → Keyword → Bool
shortens word keyword = begins word (spelling keyword)

-- the word is the whole keyword, in whatever case it is written
abbrev pub is_whole : List ℕ → Keyword → Bool
is_whole word keyword = length word == length (spelling keyword) && shortens word keyword

-- the one keyword that a word of two letters or more shortens
abbrev pub shortened : List Keyword → List ℕ → Result Keyword NoKeyword
shortened keywords word =
    if nat_lt (length word) 2 then Err Unknown
    else (if count_by (shortens word) keywords == 0 then Err Unknown
    else (if count_by (shortens word) keywords == 1 then option_map_or (λ keyword. Ok keyword) (find (shortens word) keywords) (Err Unknown)
    else Err Ambiguous))

-- the keyword that a word names among these: a whole one, or the only one that it shortens
unfoldable pub keyword_of : List Keyword → List ℕ → Result Keyword NoKeyword
keyword_of keywords word = option_map_or (λ keyword. Ok keyword) (find (is_whole word) keywords) (shortened keywords word)
