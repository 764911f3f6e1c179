-- Tests by key: the one queue, row, hand .. that is meant.
use Rattle.std.specs.Prelude.{ℕ, Bool, ◌==◌, List}
use Rattle.nqs_base.specs.Same.{name_eq}
use Rattle.nqs_types.specs.Ids.{id_eq, peer_number_eq, hand_key, promise_key, stage_key}
use Rattle.nqs_base_tables.specs.Table.{has_key}
use Rattle.nqs_types.specs.declared.ids.RequestId.{RequestId}
use Rattle.nqs_types.specs.declared.ids.PeerNumber.{PeerNumber}
use Rattle.nqs_types.specs.declared.queue.QueueDef.{QueueDef}
use Rattle.nqs_types.specs.declared.queue.ComplexDef.{ComplexDef}
use Rattle.nqs_types.specs.declared.queue.DeviceDef.{DeviceDef}
use Rattle.nqs_types.specs.declared.request.Row.{Row}
use Rattle.nqs_types.specs.declared.request.Hand.{Hand}
use Rattle.nqs_types.specs.declared.request.Promise.{Promise}
use Rattle.nqs_types.specs.declared.request.Stage.{Stage}
use Rattle.nqs_types.specs.declared.request.FileOut.{FileOut}

-- whether a queue has this name
abbrev pub is_queue : List ℕ → QueueDef → Bool
is_queue name = has_key name_eq (λ q. q.name) name

-- whether a complex has this name
abbrev pub is_complex : List ℕ → ComplexDef → Bool
is_complex name = has_key name_eq (λ c. c.name) name

-- whether a device has this name
abbrev pub is_device : List ℕ → DeviceDef → Bool
is_device name = has_key name_eq (λ d. d.name) name

-- whether a hand has this peer and number
abbrev pub is_hand : PeerNumber → Hand → Bool
is_hand k = has_key peer_number_eq hand_key k

module _ {E : Type 0} where
  -- whether a row is this request's
  abbrev pub is_row : RequestId → Row E → Bool
  is_row id = has_key id_eq (λ r. r.id) id

  -- whether a promise has this peer and number
  abbrev pub is_promise : PeerNumber → Promise E → Bool
  is_promise k = has_key peer_number_eq promise_key k

  -- whether a stage has this peer and number
  abbrev pub is_stage : PeerNumber → Stage E → Bool
  is_stage k = has_key peer_number_eq stage_key k

  -- whether a file has this number
  abbrev pub is_file : ℕ → FileOut E → Bool
  is_file n = has_key (λ a b. a == b) (λ f. f.number) n
