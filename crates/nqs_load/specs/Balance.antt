-- The edits that put a pipe queue's destinations into an order, and what they are for.
use Rattle.std.specs.Prelude.{◌≡◌, ℕ, ◌≤◌, Bool, true, false, ◌&&◌, nat_lt, List, []}
use Rattle.std.specs.Prelude.{◌∷◌, map, reverse, fold, Option, None, Some, slice_get, slice_index_or, length}
use Rattle.std.specs.List.{list_any, list_all}
use Rattle.std.specs.List.Sorted.{IsPermutation}
use Rattle.nqs_base.specs.Same.{name_eq}
use Rattle.nqs_state.specs.State.{State}
use Rattle.nqs_rules.specs.Applied.{edit_applied}
use Rattle.nqs_rules.specs.Find.{find_queue}
use Rattle.nqs_rules.specs.Fits.{edit_fits}
use Rattle.nqs_rules.specs.InOrder.{are_distinct}
use Rattle.nqs_rules.specs.Tests.{same_dest}
use Rattle.nqs_types.specs.declared.edit.Edit.{Edit}
use Rattle.nqs_types.specs.declared.edit.Edit.TheVariants.{Conf}
use Rattle.nqs_types.specs.declared.edit.ConfEdit.TheVariants.{FirstDestination}
use Rattle.nqs_types.specs.declared.ids.Dest.{Dest}
use Rattle.nqs_types.specs.declared.ids.NamedDest.{NamedDest}
use Rattle.nqs_types.specs.declared.queue.QueueDef.{QueueDef}
use Rattle.nqs_load.specs.Load.{is_before}
use Rattle.nqs_load.specs.declared.order.Load.{Load}

-- whether the load's host has a place in a site of so many hosts
abbrev pub is_of_site : ℕ → Load → Bool
is_of_site hosts load = nat_lt load.dest.host.0 hosts

-- a destination as it is typed, its host by the name that the site has for it
abbrev pub named_dest : List (List ℕ) → Dest → NamedDest
named_dest site dest = record { queue = dest.queue; host = slice_index_or site dest.host.0 [] }

-- the edit by which a load's destination becomes the first of a queue
abbrev pub first_edit : List ℕ → List (List ℕ) → Load → Edit
first_edit pipe site load = Conf (FirstDestination (named_dest site load.dest) pipe)

-- the edits that put a queue's destinations into an order, from the last of it to the first
abbrev pub order_edits : List ℕ → List (List ℕ) → List Load → List Edit
order_edits pipe site order = map (first_edit pipe site) (reverse order)

-- the destinations of loads
abbrev pub dests_in : List Load → List Dest
dests_in loads = map (λ l. l.dest) loads

-- a queue with these destinations
abbrev pub with_dests : List Dest → QueueDef → QueueDef
with_dests dests d = record d { dests = dests }

module _ {E : Type 0} where
  -- what edits make of a state, one after the other
  abbrev pub edits_applied : List Edit → State E → State E
  edits_applied edits s = fold (λ t e. edit_applied e t) s edits

  -- whether none of the edits is refused, each at the state that those before it leave
  abbrev pub are_fitting : List Edit → State E → Bool
  are_fitting [] s = true
  are_fitting (e ∷ es) s = edit_fits e s && are_fitting es (edit_applied e s)

  -- The queue has just these destinations, in any order and none of them twice. Their hosts are of
  -- the site, where no two have one name.
  pub record HasJust (pipe : List ℕ) (loads : List Load) (s : State E) : Type 0 where
    pub queue : QueueDef
    pub found : find_queue pipe s ≡ Some queue
    pub same : IsPermutation (dests_in loads) queue.dests
    pub once : are_distinct same_dest queue.dests ≡ true
    pub of_site : list_all (is_of_site (length s.site)) loads ≡ true
    pub names : are_distinct name_eq s.site ≡ true

-- A load that passes the test stands at this place of the order. Each that passes stands there or
-- further behind, and none of them is before it.
pub record IsLeastAt (may : Load → Bool) (order : List Load) (place : ℕ) : Type 0 where
  pub least : Load
  pub there : slice_get order place ≡ Some least
  pub passes : may least ≡ true
  pub first : (k : ℕ) (other : Load) → slice_get order k ≡ Some other → may other ≡ true → place ≤ k
  pub fewest : (k : ℕ) (other : Load) → slice_get order k ≡ Some other → may other ≡ true → is_before other least ≡ false

-- the place of the least that passes, and none only where none passes
abbrev pub ChoosesLeast : (Load → Bool) → List Load → Option ℕ → Type 0
ChoosesLeast may order None = list_any may order ≡ false
ChoosesLeast may order (Some place) = IsLeastAt may order place
