-- What of a change doesn't depend on its extents.
use Rattle.std.proofs.Common.{◌≡◌, ◌≤◌, List, [], ◌∷◌, ◌&&◌, nat_le, map, length, refl, sym, ap, subst, ◌∙◌}
use Rattle.std.specs.List.{list_all}
use Rattle.std.proofs.lemmas.List.{length-map}
use Rattle.nqs_state.specs.Room.{HasRoom}
use Rattle.nqs_state.specs.State.{State}
use Rattle.nqs_base.specs.declared.extent.Extent.{Extent}
use Rattle.nqs_state.specs.declared.state.HostState.{HostState}
use Rattle.nqs_types.specs.declared.change.OutPart.{OutPart}
use Rattle.nqs_types.specs.declared.change.Change.{Change}
use Rattle.nqs_types.specs.declared.change.Change.TheVariants.{Ended, Boot}
use Rattle.nqs_rules.specs.Fits.{fits}
use Rattle.nqs_rules.specs.Sane.{has_path, is_sane_change}
use Rattle.nqs_rules.specs.Stepped.{map_part, map_change, no_extent}
use Rattle.nqs_rules.proofs.FitsPlain.{fits-change}

-- a change without its extents
abbrev pub bare : {E : Type 0} → Change E → Change Extent
bare c = map_change (λ _. no_extent) c

parts_alike : {E : Type 0} (parts : List (OutPart E)) → length (map (map_part (λ _. no_extent)) parts) ≡ length parts
parts_alike parts = length-map parts (map_part (λ _. no_extent))

paths_alike : {E : Type 0} (parts : List (OutPart E)) → list_all has_path (map (map_part (λ _. no_extent)) parts) ≡ list_all has_path parts
paths_alike [] = refl
paths_alike (part ∷ parts) = ap (λ b. has_path part && b) (paths_alike parts)

room_bare : (c : Change Extent) (h : HostState) → HasRoom c h → HasRoom (bare c) h
room_bare (Ended id parts) h room = (
  subst (λ n. n ≤ h.files.spare) (sym (parts_alike parts)) room.0,
  subst (λ n. n ≤ h.stages.spare)
      (sym (parts_alike parts)) room.1,
)
room_bare Boot h room = room
room_bare c h room = room

bare_room : (c : Change Extent) (h : HostState) → HasRoom (bare c) h → HasRoom c h
bare_room (Ended id parts) h room = (subst (λ n. n ≤ h.files.spare) (parts_alike parts) room.0, subst (λ n. n ≤ h.stages.spare) (parts_alike parts) room.1)
bare_room Boot h room = room
bare_room c h room = room

pub sane_bare : {E : Type 0} (c : Change E) → is_sane_change (bare c) ≡ is_sane_change c
sane_bare (Ended id parts) = λ j. nat_le (parts_alike parts j) 2 && paths_alike parts j
sane_bare Boot = refl
sane_bare c = refl

module _ (c d : Change Extent) (shape : bare d ≡ bare c) where
  pub same_fit : (s : State Extent) → fits d s ≡ fits c s
  same_fit s = sym (fits-change (λ _. no_extent) d s) ∙ ap (λ x. fits x s) shape ∙ fits-change (λ _. no_extent) c s

  pub same_sane : is_sane_change d ≡ is_sane_change c
  same_sane = sym (sane_bare d) ∙ ap is_sane_change shape ∙ sane_bare c

  pub same_room : (h : HostState) → HasRoom c h → HasRoom d h
  same_room h room = bare_room d h (subst (λ x. HasRoom x h) (sym shape) (room_bare c h room))
