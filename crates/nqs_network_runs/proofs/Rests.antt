-- What the last event leaves to start.
use Rattle.std.proofs.Common.{ℕ, List, [], ◌∷◌, ◌++◌, sym, subst}
use Rattle.nqs_rules.specs.World.{Act}
use Rattle.nqs_laws.specs.Sane.{AreSane, IsSite}
use Rattle.nqs_network_runs.specs.Headline.{RestsAfter, LastTakerRests}

pub last_taker_rests : (site : List (List ℕ)) (acts : List Act) → IsSite site → AreSane acts
    → ((site : List (List ℕ)) (acts : List Act) (a : Act) → IsSite site → AreSane (acts ++ a ∷ []) → RestsAfter site acts a (acts ++ a ∷ []))
    → LastTakerRests site acts
last_taker_rests site acts right sane law before last split =
    subst (RestsAfter site before last) (sym split) (law site before last right (subst AreSane split sane))
