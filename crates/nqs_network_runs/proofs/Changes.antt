-- What holds of each change that is kept, by what each of the laws of changes says of it.
use Rattle.std.proofs.Common.{ℕ, List, [], ◌∷◌}
use Rattle.nqs_state.specs.State.{Plain}
use Rattle.nqs_types.specs.declared.ids.HostId.{HostId}
use Rattle.nqs_rules.specs.Applied.{applied}
use Rattle.nqs_rules.specs.Edits.{change_at}
use Rattle.nqs_laws.specs.AtOnce.{LeavesNone, TakesBackAll}
use Rattle.nqs_laws.specs.Closed.{HasState, IsClosedBy, MayClose, ClosesOwn}
use Rattle.nqs_laws.specs.Each.{OfChange, EachKept}
use Rattle.nqs_laws.specs.HeldBy.{HoldsForCause}
use Rattle.nqs_rules.specs.Notes.{Note, Saw, Kept}
use Rattle.nqs_laws.specs.Numbers.{NumbersMove, NewAreNumbered}
use Rattle.nqs_network_runs.specs.Headline.{GoesOutForAReason, ChangeKeeps}

-- a change closes the number of the promise that it ends
abbrev pub ClosesItsOwn : OfChange
ClosesItsOwn states h why c = (t : Plain) → HasState states h t → ClosesOwn c t

-- and no others but those that it may close
abbrev pub ClosesNoOther : OfChange
ClosesNoOther states h why c = (t : Plain) → HasState states h t → (from : HostId) (number : ℕ) → IsClosedBy c from number t → MayClose c states h from number

pub each_keeps : (states : List Plain) (ns : List Note)
    → EachKept (λ s h why c. NumbersMove s h c) states ns → EachKept (λ s h why c. NewAreNumbered s h c) states ns
    → EachKept LeavesNone states ns → EachKept TakesBackAll states ns → EachKept HoldsForCause states ns → EachKept GoesOutForAReason states ns
    → EachKept ClosesItsOwn states ns → EachKept ClosesNoOther states ns
    → EachKept ChangeKeeps states ns
each_keeps states [] numbers new none silent cause out own only = tt
each_keeps states (Saw x ∷ ns) numbers new none silent cause out own only = each_keeps states ns numbers new none silent cause out own only
each_keeps states (Kept h why c ∷ ns) numbers new none silent cause out own only = (
  record {
    numbers = numbers.0;
    new = new.0;
    none = none.0;
    silent = silent.0;
    cause = cause.0;
    out = out.0;
    closes = λ t here. (own.0 t here, only.0 t here);
  },
  each_keeps (change_at h.0 (applied c) states) ns numbers.1 new.1 none.1 silent.1 cause.1 out.1 own.1 only.1,
)
