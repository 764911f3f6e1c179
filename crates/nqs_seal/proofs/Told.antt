-- Told lists of what another told, and of what tells nothing from a moment on.
use Rattle.std.proofs.Common.{◌≡◌, List, ap, sym, refl, ◌∙◌, Bool, true, false}
use Rattle.std.proofs.lemmas.Grind.{flat_map-append}
use Rattle.std.proofs.lemmas.Option.{none-some}
use Rattle.std.specs.List.{flat_map}
use Rattle.std.specs.Option.{option_map}
use Rattle.std.specs.declared.option.Option.{Option}
use Rattle.std.specs.declared.option.Option.TheVariants.{None, Some}
use Rattle.nqs_outside.specs.Told.{Extends}
use Rattle.nqs_seal.specs.Sealed.{unless}

abbrev value_or : {A : Type 0} → A → Option A → A
value_or x None = x
value_or x (Some y) = y

pub extends_flat : {A B : Type 0} (f : A → List B) (was now : Option (List A)) (more : List A)
    → Extends was now more → Extends (option_map (flat_map f) was) (option_map (flat_map f) now) (flat_map f more)
extends_flat f was None more told l e = absurd (none-some l e)
extends_flat f was (Some xs) more told l e =
    let one = told xs refl in (
      flat_map f one.0,
      ap (option_map (flat_map f)) one.1,
      sym (ap (value_or (flat_map f xs)) e) ∙ ap (flat_map f) one.2 ∙ flat_map-append f one.0 more,
    )

pub extends_unless : {A : Type 0} (b : Bool) (was now : Option (List A)) (more : List A)
    → Extends was now more → Extends (unless b was) (unless b now) more
unfolding unless
extends_unless true was now more told l e = absurd (none-some l e)
extends_unless false was now more told l e = told l e

pub starved_tells_none : {A : Type 0} (b : Bool) (told was : Option (List A)) (more : List A)
    → b ≡ true → Extends was (unless b told) more
unfolding unless
starved_tells_none true told was more e l said = absurd (none-some l said)
starved_tells_none false told was more e l said = absurd (let no : ⊥ = cc in no)
