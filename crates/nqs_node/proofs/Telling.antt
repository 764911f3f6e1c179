-- What a node tells, where nothing happened to it, and whether what it tells halts.
use Rattle.std.proofs.Common.{◌≡◌, ℕ, IsTrue, false, List, [], Option, option_map, Some, None, refl, sym, ap, subst, ◌∙◌}
use Rattle.nqs_state.specs.State.{Plain}
use Rattle.nqs_types.specs.declared.change.Change.{Change}
use Rattle.nqs_base.specs.declared.extent.Extent.{Extent}
use Rattle.nqs_types.specs.declared.world.Which.{Which}
use Rattle.nqs_types.specs.declared.event.Event.{Event}
use Rattle.nqs_types.specs.declared.event.Plan.{Plan}
use Rattle.nqs_rules.specs.Start.{start}
use Rattle.nqs_rules.specs.Step.{step}
use Rattle.nqs_rules.specs.Stepped.{Stepped, quiet, map_stepped, plan_of}
use Rattle.nqs_rules.proofs.StepPlain.{step-map}
use Rattle.nqs_outside.specs.declared.disk.Disk as disk
use Rattle.nqs_store.specs.Stores as store
use Rattle.nqs_store.specs.Told.{Host}
use Rattle.nqs_node.specs.Carried.{Kept, started, IsOneOrOther}
use Rattle.nqs_node.specs.Nodes.{history_of, active_of, content_of, bytes_of, plain_of, bare, is_stopped, Tells}
use Rattle.nqs_node.specs.Planned.{IsKeptWith, Does}
use Rattle.nqs_node.specs.declared.node.Node.{Node}
use Rattle.nqs_node.proofs.Performing.{still_one, same_plain}
use Rattle.nqs_node.proofs.Planning.{IsNext, started_is, does}

pub kept_from : (one other : Option (Change Extent)) (a b : List (List ℕ)) (kept : Kept) → one ≡ other → a ≡ b → IsKeptWith other b kept → IsKeptWith one a kept
kept_from one other a b kept same e with =
    subst (λ (change : Option (Change Extent)). IsKeptWith change a kept) (sym same)
    (subst (λ (bytes : List (List ℕ)). IsKeptWith other bytes kept) (sym e) with)

module _ {D : Type 0} {g : disk.Ghosts D} (old : Node D g) (s : Plain) (told : Tells old s) where
  pub tells_still : (now : Node D g) → content_of now ≡ content_of old → ((which : Which) → history_of now which ≡ history_of old which)
      → ((host : Host) → store.Tells old.store host → store.Tells now.store host) → is_stopped now ≡ false → Tells now s
  tells_still now content same tells running = record {
    is = same_plain old.store now.store same (content_of now) ∙ ap (store.plain_of old.store) content ∙ told.is;
    told = subst (store.Tells now.store) (sym content) (tells (content_of old) told.told);
    running = running;
  }

  pub one_still : IsTrue g.tells → (kept : Kept) → IsOneOrOther (active_of old) (history_of old) (history_of old) kept s
  one_still telling kept = subst (λ (p : Plain). IsOneOrOther (active_of old) (history_of old) (history_of old) kept p) told.is
      (still_one old.store old.store (λ which. refl) (content_of old) telling told.told kept)

  -- a step without the stored bytes halts where one of what is told does
  pub halts_told : (e : Event) → (step e (bare old)).halts ≡ (step e s).halts
  halts_told e =
      ap (λ (x : Stepped (List ℕ)). x.halts) (step-map {E = Extent} {F = List ℕ} (λ _. []) e (content_of old))
      ∙ sym (ap (λ (x : Stepped (List ℕ)). x.halts) (step-map (bytes_of old) e (content_of old)))
      ∙ ap (λ (t : Plain). (step e t).halts) told.is

  -- the plan of what is done at a host does what is done at the plain state
  pub done_here : (F : Plain → Stepped (List ℕ)) (done : Stepped Extent) (plan : Plan) → plan ≡ plan_of done
      → F (plain_of old) ≡ map_stepped (bytes_of old) done → Does (bytes_of old) plan (F s)
  done_here F done plan is law = subst (λ (x : Stepped (List ℕ)). Does (bytes_of old) plan x) (sym law ∙ ap F told.is) (does done plan is (bytes_of old))

  module _ (now : ℕ) (alike : start now (plain_of old) ≡ option_map (map_stepped (bytes_of old)) (start now (content_of old))) where
    pub does_next : (plan : Plan) (next : IsNext now (content_of old) plan) → Does (bytes_of old) plan (started now s)
    does_next plan next =
        done_here (started now) next.done plan next.is
        (started_is now (plain_of old) (Some (map_stepped (bytes_of old) next.done)) (alike ∙ ap (option_map (map_stepped (bytes_of old))) next.picked))

    -- none is next
    pub quiet_next : start now (content_of old) ≡ None → started now s ≡ quiet
    quiet_next none = started_is now s None (ap (start now) (sym told.is) ∙ alike ∙ ap (option_map (map_stepped (bytes_of old))) none)
