-- Short schedules in which several handovers are open at once from one host to another.
use Rattle.std.specs.Prelude.{ℕ, false, List, [], ◌∷◌, ◌++◌, map, replicate, codes}
use Rattle.nqs_rules.specs.World.{Act, Asks, Delivers, Ticks, Clock, Crashes, Boots, Shows}
use Rattle.nqs_worked.specs.ScheduleWords.{host, named, edits, submits, with_link}
use Rattle.nqs_worked.specs.Waits.{asks_why}
use Rattle.nqs_types.specs.declared.event.Command.TheVariants.{Delete}
use Rattle.nqs_types.specs.declared.edit.Edit.TheVariants.{Conf}
use Rattle.nqs_types.specs.declared.edit.ConfEdit.TheVariants.{SetRunLimit}

-- a pipe queue to the other host, of which so many requests may be on their way
abbrev pub with_link_for : ℕ → List Act
with_link_for n = with_link ++ edits (Conf (SetRunLimit n (codes "link"))) ∷ []

-- so many submissions to it, one after the other
abbrev pub submitted : ℕ → List Act
submitted n = replicate n (submits (codes "ann") (codes "link"))

-- packets arrive, by their numbers
abbrev pub delivered : List ℕ → List Act
delivered packets = map Delivers packets

-- three requests are on their way at once, and their offers come in the order 3, 1
abbrev pub offers_cross : List Act
offers_cross = with_link_for 3 ++ submitted 3 ++ delivered (3 ∷ 4 ∷ 5 ∷ 1 ∷ 6 ∷ []) ++ Shows ∷ []

-- eight of nine requests are on their way, their offers are answered in the worst order, and the
-- ninth goes as the first of these handovers is over
abbrev pub ninth_waits : List Act
ninth_waits =
    with_link_for 9 ++ submitted 9 ++ asks_why (codes "ann") 9 ∷ delivered (8 ∷ 7 ∷ 6 ∷ 5 ∷ 4 ∷ 3 ∷ 2 ∷ 1 ∷ 9 ∷ 17 ∷ 18 ∷ 19 ∷ 8 ∷ []) ++ Shows ∷ []

-- three of five offers are taken back, which were silent for too long, and what comes of them
-- behind a later one is over
abbrev pub silent_offers_are_passed : List Act
silent_offers_are_passed =
    with_link_for 5 ++ submitted 3 ++ Clock 30 ∷ submitted 2 ++ Clock 60 ∷ Ticks (host 0) ∷ delivered (2 ∷ 6 ∷ 1 ∷ 2 ∷ 8 ∷ 12 ∷ 4 ∷ 9 ∷ []) ++ Shows ∷ []

-- the second of three requests is deleted behind its promise
abbrev pub one_of_three_is_deleted : List Act
one_of_three_is_deleted =
    with_link_for 3 ++ submitted 3 ++ delivered (2 ∷ []) ++ Asks (host 0) (codes "ann") (Delete (named 2 (codes "alpha")) false)
    ∷ delivered (4 ∷ 5 ∷ 2 ∷ 6 ∷ 3 ∷ 1 ∷ []) ++ Shows ∷ []

-- either host stops while handovers are promised, committed and closed above the floor
abbrev pub several_outlive_boots : List Act
several_outlive_boots =
    with_link_for 3 ++ submitted 3 ++ delivered (3 ∷ 4 ∷ 5 ∷ []) ++ Crashes (host 1) ∷ Boots (host 1) ∷ delivered (1 ∷ 3 ∷ 5 ∷ [])
    ++ Crashes (host 0) ∷ Boots (host 0) ∷ Delivers 7 ∷ Ticks (host 0) ∷ Delivers 6 ∷ Delivers 12 ∷ Ticks (host 0) ∷ delivered (15 ∷ 10 ∷ []) ++ Shows ∷ []
