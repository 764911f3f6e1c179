-- What the wires of a site tell: under its key, and open or under it.
use Rattle.std.specs.Prelude.{◌≡◌, ℕ, ◌+◌, List, [], ◌∷◌, false}
use Rattle.std.specs.Option.{option_map}
use Rattle.std.specs.declared.option.Option.{Option}
use Rattle.nqs_outside.specs.Asked.{packet, Traffic, outbound}
use Rattle.nqs_outside.specs.Told.{Extends}
use Rattle.nqs_outside.specs.declared.wire.Address.{Address}
use Rattle.nqs_outside.specs.declared.wire.Wire as wires
use Rattle.nqs_seal.specs.Sealed.{opened, sealed, unless}
use Rattle.nqs_seal.specs.declared.sealed.SealedWire.{SealedWire}
use Rattle.nqs_seal.specs.declared.site.SiteKey.{SiteKey}
use Rattle.nqs_seal.specs.declared.site.SiteKey.TheVariants as keys
use Rattle.nqs_seal.specs.declared.site.SiteWire.{SiteWire}
use Rattle.nqs_seal.specs.declared.site.SiteWire.TheVariants.{Open, Sealed}

module _ {W : Type 0} {g : wires.Ghosts W} where
  -- under a key: what the wire below it told, opened, until memory was wanting for a send
  abbrev pub opened_of : SealedWire W g → Option (List Traffic)
  opened_of wire = unless wire.starved (option_map (opened wire.key.bytes) (g.traffic wire.inner))

  -- failed receives: those of the wire below it, and its own
  abbrev pub receives_of : SealedWire W g → ℕ
  receives_of wire = g.receive_faults wire.inner + wire.receive_faults

  -- failed sends: those of the wire below it, and its own
  abbrev pub sends_of : SealedWire W g → ℕ
  sends_of wire = g.send_faults wire.inner + wire.send_faults

  -- the wire below it was told to send these bytes, sealed, and nothing else
  abbrev pub SendsSealed : SealedWire W g → SealedWire W g → Address → List ℕ → Type 0
  SendsSealed old new to bytes =
      Extends (g.traffic old.inner) (g.traffic new.inner) (outbound (packet to (sealed old.key.bytes bytes)) ∷ [])

  -- of a site: as it passed, or opened
  abbrev pub site_traffic : SiteWire W g → Option (List Traffic)
  site_traffic (Open wire) = g.traffic wire
  site_traffic (Sealed wire) = opened_of wire

  -- failed receives of a site's wire
  abbrev pub site_receives : SiteWire W g → ℕ
  site_receives (Open wire) = g.receive_faults wire
  site_receives (Sealed wire) = receives_of wire

  -- failed sends of a site's wire
  abbrev pub site_sends : SiteWire W g → ℕ
  site_sends (Open wire) = g.send_faults wire
  site_sends (Sealed wire) = sends_of wire

  -- of a site whose key's file says this, over this wire: the wire itself, or a new one under the key
  abbrev pub IsUnder : SiteKey → W → SiteWire W g → Type 0
  IsUnder keys.Open inner (Open wire) = wire ≡ inner
  IsUnder keys.Open inner (Sealed wire) = ⊥
  IsUnder (keys.Sealed key) inner (Open wire) = ⊥
  IsUnder (keys.Sealed key) inner (Sealed wire) =
      (wire.inner ≡ inner) × (wire.key ≡ key) × (wire.starved ≡ false) × (wire.receive_faults ≡ 0) × (wire.send_faults ≡ 0)
