-- Waits, one receive after another.
use Rattle.std.proofs.Common.{◌≡◌, ℕ, ◌+◌, Bool, true, false, List, [], ◌∷◌, ◌++◌, length, ◌<◌, Ok, Err, refl, sym, ◌∙◌, subst, length-append}
use Rattle.std.proofs.Common.{arith}
use Rattle.std.specs.List.{list_any}
use Rattle.std.specs.declared.option.Option.{Option}
use Rattle.std.specs.declared.result.Result.{Result}
use Rattle.std.proofs.lemmas.List.{append-nil, flat_map_more}
use Rattle.std.proofs.lemmas.List.Folds.{list_any-append}
use Rattle.nqs_outside.specs.Asked.{Arrival, Packet, Traffic, inbound, outbound}
use Rattle.nqs_outside.specs.Told.{Extends}
use Rattle.nqs_outside.proofs.Told.{extends_none, extends_then, extends_same}
use Rattle.nqs_clients.specs.Datagrams.{Receives, StopsFor, UpTo}
use Rattle.nqs_clients.specs.Shepherd.{stopped, rounds, EndsWith, Waits}
use Rattle.nqs_clients.specs.declared.datagram.WaitStop.{WaitStop}
use Rattle.nqs_clients.specs.declared.datagram.WaitStop.TheVariants as stop
use Rattle.nqs_clients.specs.declared.shepherding.ShepherdEnd.TheVariants.{Told, NoAnswer}

pub none_more : (test : Arrival → Bool) (arrivals : List Arrival) (a : Arrival) → list_any test arrivals ≡ false → test a ≡ false
    → list_any test (arrivals ++ a ∷ []) ≡ false
none_more test arrivals a none other = rw (list_any-append test arrivals (a ∷ []), none, other) refl

pub length_more : {A : Type 0} (xs : List A) (x : A) (n : ℕ) → length xs ≡ n → length (xs ++ x ∷ []) ≡ n + 1
length_more xs x n same = rw (length-append xs (x ∷ []), same) refl

-- one receive more, after fewer than ten that didn't bring what is waited for
pub up_to : (test : Arrival → Bool) (arrivals : List Arrival) (a : Arrival) (n : ℕ) → n < 10 → list_any test arrivals ≡ false → length arrivals ≡ n
    → UpTo test (arrivals ++ a ∷ []) a
up_to test arrivals a n few none same = let more = length_more arrivals a n same in (arrivals, refl, omega (arith, more, few), none)

-- a receive behind sends
pub behind : {A : Type 0} (sends : List Traffic) (what : Arrival → A) (was mid now : Option (List Traffic)) (answer : A)
    → Extends was mid sends → Receives [] what mid now (Ok answer) → Receives sends what was now (Ok answer)
behind {A} sends what was mid now answer sent (a, came, is) = (a, extends_then was mid now sends (inbound a ∷ []) sent came, is)

pub stops_behind : {A B : Type 0} (sends : List Traffic) (what : Arrival → A) (other : Arrival → B) (was mid now : Option (List Traffic)) (why : WaitStop)
    → Extends was mid sends → Receives [] what mid now (Err why) → Receives sends other was now (Err why)
stops_behind {A} {B} sends what other was mid now stop.Fault sent came =
    extends_same was now _ _ (append-nil sends) (extends_then was mid now sends [] sent came)
stops_behind {A} {B} sends what other was mid now (stop.Unread unread) sent (a, came) = (a, extends_then was mid now sends (inbound a ∷ []) sent came)
stops_behind {A} {B} sends what other was mid now (stop.Memory memory) sent never = absurd never

-- the datagram once more, and what came then
rounds_more : (told : Packet) (arrivals : List Arrival) (a : Arrival) → rounds told arrivals ++ outbound told ∷ inbound a ∷ []
    ≡ rounds told (arrivals ++ a ∷ [])
rounds_more told arrivals a = flat_map_more (λ b. outbound told ∷ inbound b ∷ []) [] arrivals a

round : (told : Packet) (was mid now : Option (List Traffic)) (arrivals : List Arrival) (a : Arrival) → Extends was mid (rounds told arrivals)
    → Extends mid now (outbound told ∷ inbound a ∷ []) → Extends was now (rounds told (arrivals ++ a ∷ []))
round told was mid now arrivals a first then =
    extends_same was now _ _ (rounds_more told arrivals a) (extends_then was mid now (rounds told arrivals) (outbound told ∷ inbound a ∷ []) first then)

-- nothing behind it
alone : (was now : Option (List Traffic)) (passed : List Traffic) → Extends was now passed → Extends was now (passed ++ [])
alone was now passed told = extends_same was now _ _ (sym (append-nil passed)) told

-- so many receives brought no acknowledgement, and the datagram was sent before each
abbrev pub IsWaiting : (Arrival → Bool) → Packet → Option (List Traffic) → Option (List Traffic) → ℕ → Type 0
IsWaiting test told was now n =
    (arrivals : List Arrival) × Extends was now (rounds told arrivals) × (list_any test arrivals ≡ false) × (length arrivals ≡ n)

pub waiting_first : (test : Arrival → Bool) (told : Packet) (was : Option (List Traffic)) → IsWaiting test told was was 0
waiting_first test told was = ([], extends_none was, refl, refl)

pub waiting_more : (test : Arrival → Bool) (told : Packet) (was mid now : Option (List Traffic)) (n : ℕ) (b : Bool)
    → IsWaiting test told was mid n → Receives (outbound told ∷ []) test mid now (Ok b) → b ≡ false → IsWaiting test told was now (n + 1)
waiting_more test told was mid now n b so_far (a, came, is) not_it = (
  so_far.0 ++ a ∷ [],
  round told was mid now so_far.0 a so_far.1 came,
  none_more test so_far.0 a so_far.2 (sym is ∙ not_it),
  length_more so_far.0 a n so_far.3,
)

pub waits_told : (test : Arrival → Bool) (told : Packet) (was mid now : Option (List Traffic)) (n : ℕ) (b : Bool)
    → n < 10 → IsWaiting test told was mid n → Receives (outbound told ∷ []) test mid now (Ok b) → b ≡ true → Waits test told was now Told
waits_told test told was mid now n b few so_far (a, came, is) is_it = (
  so_far.0 ++ a ∷ [],
  alone was now _ (round told was mid now so_far.0 a so_far.1 came),
  (a, up_to test so_far.0 a n few so_far.2 so_far.3, sym is ∙ is_it),
)

pub waits_stopped : (test : Arrival → Bool) (told : Packet) (was mid now : Option (List Traffic)) (n : ℕ) (why : WaitStop)
    → n < 10 → IsWaiting test told was mid n → Receives {A = Bool} (outbound told ∷ []) test mid now (Err why) → Waits test told was now (stopped why)
waits_stopped test told was mid now n stop.Fault few so_far came =
    (so_far.0, extends_then was mid now (rounds told so_far.0) (outbound told ∷ []) so_far.1 came, (omega (arith, so_far.3, few), so_far.2))
waits_stopped test told was mid now n (stop.Unread unread) few so_far (a, came) = (
  so_far.0 ++ a ∷ [],
  alone was now _ (round told was mid now so_far.0 a so_far.1 came),
  (a, up_to test so_far.0 a n few so_far.2 so_far.3),
)
waits_stopped test told was mid now n (stop.Memory memory) few so_far never = absurd never

pub waits_none : (test : Arrival → Bool) (told : Packet) (was now : Option (List Traffic)) (n : ℕ) → n ≡ 10 → IsWaiting test told was now n
    → Waits test told was now NoAnswer
waits_none test told was now n all so_far = (so_far.0, alone was now _ so_far.1, (so_far.3 ∙ all, so_far.2))

-- where no receive had failed before, the wait stops as its last receive does
pub stops_then : {A : Type 0} (before mid now : ℕ) (result : Result A WaitStop) → mid ≡ before → StopsFor mid now result → StopsFor before now result
stops_then {A} before mid now result none then = subst (λ k. StopsFor k now result) none then

pub ends_with : (before now : ℕ) (why : WaitStop) → StopsFor {A = Bool} before now (Err why) → EndsWith before now (stopped why)
ends_with before now stop.Fault cause = cause
ends_with before now (stop.Unread unread) cause = cause
ends_with before now (stop.Memory memory) cause = cause
