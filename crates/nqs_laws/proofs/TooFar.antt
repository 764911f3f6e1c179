-- A start that holds a request holds one that came 32 hops far.
use Rattle.std.proofs.Common.{◌≡◌, ℕ, Bool, true, false, ◌==◌, if◌then◌else◌, List, slice_get, Option, None, Some, Result, Ok, Err, refl, sym, ap, ◌∙◌}
use Rattle.std.proofs.lemmas.Option.{same_Some, none-some}
use Rattle.std.specs.Option.{option_map, option_and_then, IfSome}
use Rattle.nqs_state.specs.State.{Plain}
use Rattle.nqs_types.specs.Ids.{id_eq, id_exact}
use Rattle.nqs_types.specs.declared.ids.RequestId.{RequestId}
use Rattle.nqs_types.specs.declared.ids.Dest.{Dest}
use Rattle.nqs_types.specs.declared.request.Peer.{Peer}
use Rattle.nqs_types.specs.declared.refusal.Refusal.{Refusal}
use Rattle.nqs_types.specs.declared.queue.Kind.{Kind}
use Rattle.nqs_types.specs.declared.queue.Kind.TheVariants.{Batch, Device, Pipe}
use Rattle.nqs_types.specs.declared.queue.QueueDef.{QueueDef}
use Rattle.nqs_types.specs.declared.rule.Choice.{Choice}
use Rattle.nqs_types.specs.declared.rule.Choice.TheVariants as choice
use Rattle.nqs_types.specs.declared.change.Change.{Change}
use Rattle.nqs_types.specs.declared.change.Change.TheVariants.{Started, HandOpened, MovedLocal, HeldFar}
use Rattle.nqs_rules.specs.Causes.{first_refusal}
use Rattle.nqs_rules.proofs.RowFacts.{same_id}
use Rattle.nqs_rules.specs.Find.{find_row, find_peer}
use Rattle.nqs_rules.specs.Devices.{free_device}
use Rattle.nqs_rules.specs.Routing.{destination}
use Rattle.nqs_rules.specs.Order.{is_local, print_on, move_to, choice_for, pick}
use Rattle.nqs_rules.specs.Picked.{IsPicked, PlainRow}
use Rattle.nqs_rules.specs.Handover.{opened_with, open_hand}
use Rattle.nqs_rules.specs.Start.{launching, printing, holding, moving_by, moving, local_causes, with_row, device_at, dest_at, started, start_by, start}
use Rattle.nqs_rules.specs.Stepped.{Stepped}
use Rattle.nqs_rules.proofs.ListFacts.{found_again}
use Rattle.nqs_rules.proofs.StartIs.{IsSteady}
use Rattle.nqs_rules.proofs.PickLaws.{picked_is}
use Rattle.nqs_laws.proofs.Sent.{mapped}

-- a choice of a row that came too far
far_of : (k : Kind) (d : QueueDef) (now : ℕ) (s : Plain) (at : ℕ) (r : PlainRow) (place : ℕ) → choice_for k d now s at r ≡ Some (choice.TooFar place)
    → (r.hops == 32) ≡ true
far_of Batch d now s at r place e = absurd (let f : choice.Launch at ≡ choice.TooFar place = same_Some _ _ e in let no : ⊥ = cc in no)
far_of Device d now s at r place e = of (free_device d r.job.forms s) e
  where
    of : (o : Option ℕ) → print_on at o ≡ Some (choice.TooFar place) → (r.hops == 32) ≡ true
    of None e = absurd (none-some _ e)
    of (Some n) e = absurd (let f : choice.Print at n ≡ choice.TooFar place = same_Some _ _ e in let no : ⊥ = cc in no)
far_of Pipe d now s at r place e = by (r.hops == 32) refl (destination d now s r) e
  where
    local : (n : ℕ) (b : Bool) → (if b then Some (choice.Local at n) else Some (choice.Hand at n)) ≡ Some (choice.TooFar place) → (r.hops == 32) ≡ true
    local n true e = absurd (let g : choice.Local at n ≡ choice.TooFar place = same_Some _ _ e in let no : ⊥ = cc in no)
    local n false e = absurd (let g : choice.Hand at n ≡ choice.TooFar place = same_Some _ _ e in let no : ⊥ = cc in no)

    by : (b : Bool) → (r.hops == 32) ≡ b → (o : Option ℕ) → (if b then Some (choice.TooFar at) else move_to at d s o) ≡ Some (choice.TooFar place)
        → (r.hops == 32) ≡ true
    by true f o e = f
    by false f None e = absurd (none-some _ e)
    by false f (Some n) e = local n (is_local n d s) e

module _ (now : ℕ) (s : Plain) (st : IsSteady s) (x : Stepped (List ℕ)) (id : RequestId) (holds : x.change ≡ Some (HeldFar id)) where
  abbrev pub IsFar : Type 0
  IsFar = (r : PlainRow) × (find_row id s ≡ Some r) × ((r.hops == 32) ≡ true)

  other_change : (y : Stepped (List ℕ)) (c : Change (List ℕ)) → y.change ≡ Some c → y ≡ x → c ≡ HeldFar id
  other_change y c made is = same_Some c (HeldFar id) (sym made ∙ (ap (λ (z : Stepped (List ℕ)). z.change) is ∙ holds))

  row_done : (place : ℕ) (f : PlainRow → Option (Stepped (List ℕ))) → ((r : PlainRow) → slice_get s.rows place ≡ Some r → f r ≡ Some x → IsFar)
      → with_row place s f ≡ Some x → IsFar
  row_done place f k e = at (slice_get s.rows place) refl e
    where
      at : (o : Option PlainRow) → slice_get s.rows place ≡ o → option_and_then f o ≡ Some x → IsFar
      at None there e = absurd (none-some x e)
      at (Some r) there e = k r there e

  moved_far : (o : Result (Unit {0}) Refusal) (q : List ℕ) (r : PlainRow) → moving_by o q r ≡ x → IsFar
  moved_far (Ok u) q r is = absurd (let f = other_change (moving_by (Ok u) q r) (MovedLocal r.id q) refl is in let no : ⊥ = cc in no)
  moved_far (Err refusal) q r is = absurd (let f = other_change (moving_by (Err refusal) q r) _ refl is in let no : ⊥ = cc in no)

  opened_far : (r : PlainRow) (dest : Dest) → (p : Option Peer) → opened_with p dest now s r ≡ x → IsFar
  opened_far r dest None is = absurd (none-some _ (ap (λ (z : Stepped (List ℕ)). z.change) is ∙ holds))
  opened_far r dest (Some p) is = absurd (let f = other_change (opened_with (Some p) dest now s r) (HandOpened dest.host p.next r.id dest.queue now) refl is in
      let no : ⊥ = cc in no)

  picked_far : (c : Choice) → IsPicked now s c → started c now s ≡ Some x → IsFar
  picked_far (choice.Launch place) p e = row_done place (λ r. Some (launching r s))
      (λ r at e. absurd (let f = other_change (launching r s) (Started r.id None) refl (same_Some _ x e) in let no : ⊥ = cc in no)) e
  picked_far (choice.Print place device) p e =
      row_done place (λ r. option_map (λ d. printing d r s) (device_at device r s))
      (λ r at e. let k = mapped x (λ d. printing d r s) (device_at device r s) e in
      absurd (let f = other_change (printing k.0 r s) (Started r.id (Some k.0)) refl k.1 in let no : ⊥ = cc in no)) e
  picked_far (choice.TooFar place) p e =
      row_done place (λ r. Some (holding r)) (λ r at e.
      let same : p.row ≡ r = same_Some p.row r (sym p.first.at ∙ at) in
      let f : HeldFar r.id ≡ HeldFar id = other_change (holding r) (HeldFar r.id) refl (same_Some _ x e) in
      let name : r.id ≡ id = cc in
      let found : find_row r.id s ≡ Some r = found_again id_eq (λ (q : PlainRow). q.id) id_exact same_id s.rows place r st.ids at in (
        r,
        ap (λ i. find_row i s) (sym name) ∙ found,
        ap (λ (q : PlainRow). q.hops == 32) (sym same)
            ∙ far_of p.queue.kind p.queue now s place p.row place p.way,
      )) e
  picked_far (choice.Local place dest) p e =
      row_done place (λ r. option_map (λ d. moving d s r) (dest_at dest r s))
      (λ r at e. let k = mapped x (λ d. moving d s r) (dest_at dest r s) e in moved_far (first_refusal (local_causes k.0.queue s r)) k.0.queue r k.1) e
  picked_far (choice.Hand place dest) p e =
      row_done place (λ r. option_map (λ d. open_hand d now s r) (dest_at dest r s))
      (λ r at e. let k = mapped x (λ d. open_hand d now s r) (dest_at dest r s) e in opened_far r k.0 (find_peer k.0.host s) k.1) e

  -- what is held came too far
  pub holds_far : start now s ≡ Some x → IsFar
  holds_far = of (pick now s) (picked_is now s)
    where
      of : (o : Option Choice) → IfSome o (IsPicked now s) → start_by o now s ≡ Some x → IsFar
      of None p e = absurd (none-some x e)
      of (Some c) p e = picked_far c p e
