-- Datagrams with a keyed tag behind them: how they are sealed and opened.
use Rattle.std.specs.Prelude.{ℕ, ◌-◌, Bool, ◌&&◌, nat_le, if◌then◌else◌, List, [], ◌∷◌, ◌++◌, length, take, drop, bytes_eq, true, false}
use Rattle.std.specs.List.{flat_map}
use Rattle.std.specs.declared.option.Option.{Option}
use Rattle.std.specs.declared.option.Option.TheVariants.{None}
use Rattle.nqs_outside.specs.Asked.{came, quiet, packet, Traffic, inbound, outbound}
use Rattle.nqs_seal.specs.Hmac.{hmac}

-- the bytes with their tag behind them
abbrev pub sealed : List ℕ → List ℕ → List ℕ
sealed key bytes = bytes ++ hmac key bytes

-- what stands before the last 32 bytes
abbrev pub body_of : List ℕ → List ℕ
body_of bytes = take (length bytes - 32) bytes

-- the bytes end with the tag of what stands before it
abbrev pub is_sealed : List ℕ → List ℕ → Bool
is_sealed key bytes = nat_le 32 (length bytes) && bytes_eq (drop (length bytes - 32) bytes) (hmac key (body_of bytes))

-- What passed a wire in one call, opened: of what came a datagram with a true tag, without it, and
-- no other datagram; what was sent, without its tag.
unfoldable pub opened_one : List ℕ → Traffic → List Traffic
opened_one key (inbound (came bytes)) = if is_sealed key bytes then inbound (came (body_of bytes)) ∷ [] else []
opened_one key (inbound quiet) = inbound quiet ∷ []
opened_one key (outbound sent) = outbound (packet sent.to (body_of sent.bytes)) ∷ []

-- what passed a wire, opened, in the order of the calls
abbrev pub opened : List ℕ → List Traffic → List Traffic
opened key traffic = flat_map (opened_one key) traffic

-- what is told, unless it is no more
unfoldable pub unless : {A : Type 0} → Bool → Option A → Option A
unless true told = None
unless false told = told
