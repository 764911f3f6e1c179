-- Whom a site hears: what the file of its key says, where it is kept well.
use Rattle.std.specs.Prelude.{◌≡◌, ◌<◌, true, false, ⊤, List, All}
use Rattle.std.specs.declared.result.Result.{Result}
use Rattle.std.specs.declared.result.Result.TheVariants.{Ok, Err}
use Rattle.nqs_real.specs.declared.key.KeyFile.{KeyFile}
use Rattle.nqs_real.specs.declared.site.SiteHost.{SiteHost}
use Rattle.nqs_seal.specs.Keys.{IsKeyFile}
use Rattle.nqs_seal.specs.declared.sealed.Key.{Key}
use Rattle.nqs_seal.specs.declared.site.SiteKey.{SiteKey}
use Rattle.nqs_seal.specs.declared.site.SiteKey.TheVariants.{Open, Sealed}
use Rattle.nqs_cli.specs.declared.key.KeyFault.{KeyFault}
use Rattle.nqs_cli.specs.declared.key.KeyFault.TheVariants.{NoForm, Shared, Foreign}

-- the file says a key, and not the word
abbrev pub HasKey : KeyFile → Type 0
HasKey file = (key : Key) × IsKeyFile file.bytes.items (Sealed key)

-- it is kept so that what it says counts: the word however, a key only among its own
abbrev pub IsKept : KeyFile → SiteKey → Type 0
IsKept file Open = ⊤
IsKept file (Sealed key) = (file.is_private ≡ true) × (file.is_own ≡ true)

-- whom the file says are heard; where it says nobody, the first thing that is wrong with it
abbrev pub Hears : KeyFile → Result SiteKey KeyFault → Type 0
Hears file (Ok key) = IsKeyFile file.bytes.items key × IsKept file key
Hears file (Err NoForm) = (key : SiteKey) → IsKeyFile file.bytes.items key → ⊥
Hears file (Err Shared) = HasKey file × (file.is_private ≡ false)
Hears file (Err Foreign) = HasKey file × (file.is_private ≡ true) × (file.is_own ≡ false)

-- under a key no host has a port that any user of its machine can have while its daemon is down
abbrev pub HasOwnPorts : List SiteHost → SiteKey → Type 0
HasOwnPorts site Open = ⊤
HasOwnPorts site (Sealed key) = All (λ host. host.port < 1024) site
