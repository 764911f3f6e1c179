-- Where something is picked, something is started.
use Rattle.std.proofs.Common.{◌≡◌, ℕ, Bool, true, false, ◌==◌, slice_get, List, Option, None, Some, is_some, option_map, true≢false, refl, sym, ap, subst, ◌∙◌}
use Rattle.std.proofs.Common.{if◌then◌else◌}
use Rattle.std.proofs.lemmas.Option.{same_Some, none-some}
use Rattle.std.specs.List.{list_any}
use Rattle.std.specs.Option.{IfSome, option_and_then}
use Rattle.nqs_base.proofs.Plain.{is_some-option_map}
use Rattle.nqs_state.specs.State.{Plain}
use Rattle.nqs_types.specs.declared.queue.Kind.{Kind}
use Rattle.nqs_types.specs.declared.queue.Kind.TheVariants.{Batch, Device, Pipe}
use Rattle.nqs_types.specs.declared.queue.QueueDef.{QueueDef}
use Rattle.nqs_types.specs.declared.rule.Choice.{Choice}
use Rattle.nqs_types.specs.declared.rule.Choice.TheVariants.{Launch, Print, TooFar, Local, Hand}
use Rattle.nqs_rules.specs.Devices.{is_free_device, free_device}
use Rattle.nqs_rules.specs.Routing.{may_try, destination}
use Rattle.nqs_rules.specs.Handover.{open_hand}
use Rattle.nqs_rules.specs.Order.{is_local, print_on, move_to, choice_for, pick}
use Rattle.nqs_rules.specs.Picked.{PlainRow, may_start, row_place, IsPicked}
use Rattle.nqs_rules.specs.Start.{launching, printing, moving, holding, device_at, dest_at, with_row, started, start_by, start}
use Rattle.nqs_rules.specs.Stepped.{Stepped}
use Rattle.nqs_rules.proofs.ListFacts.{position_at}
use Rattle.nqs_rules.proofs.PickLaws.{picked_is, picked_is_some}
use Rattle.nqs_rules.proofs.StartIs.{IsSteady, queue_found}

-- the device or destination that a choice names is one of the queue's list
abbrev IsListed : QueueDef → Choice → Type 0
IsListed d (Print row device) = is_some (slice_get d.devices device) ≡ true
IsListed d (Local row dest) = is_some (slice_get d.dests dest) ≡ true
IsListed d (Hand row dest) = is_some (slice_get d.dests dest) ≡ true
IsListed d c = Unit {0}

listed : (k : Kind) (d : QueueDef) (now : ℕ) (s : Plain) (place : ℕ) (r : PlainRow) → IfSome (choice_for k d now s place r) (IsListed d)
listed Batch d now s place r = tt
listed Device d now s place r = of (free_device d r.job.forms s) refl
  where
    of : (o : Option ℕ) → free_device d r.job.forms s ≡ o → IfSome (print_on place o) (IsListed d)
    of None e = tt
    of (Some n) e = ap is_some (position_at (is_free_device r.job.forms s) d.devices n e).at
listed Pipe d now s place r = by (r.hops == 32) (destination d now s r) refl
  where
    at : (n : ℕ) (b : Bool) → is_some (slice_get d.dests n) ≡ true → IfSome (if b then Some (Local place n) else Some (Hand place n)) (IsListed d)
    at n true e = e
    at n false e = e

    by : (b : Bool) (o : Option ℕ) → destination d now s r ≡ o → IfSome (if b then Some (TooFar place) else move_to place d s o) (IsListed d)
    by true o e = tt
    by false None e = tt
    by false (Some n) e = at n (is_local n d s) (ap is_some (position_at (may_try now s r) d.dests n e).at)

module _ (now : ℕ) (s : Plain) (steady : IsSteady s) (c : Choice) (p : IsPicked now s c) where
  abbrev d : QueueDef
  d = p.queue

  abbrev r : PlainRow
  r = p.row

  is_listed : IsListed d c
  is_listed = of (choice_for d.kind d now s (row_place c) r) (listed d.kind d now s (row_place c) r) p.way
    where
      of : (o : Option Choice) → IfSome o (IsListed d) → o ≡ Some c → IsListed d c
      of None k e = absurd (none-some c e)
      of (Some x) k e = subst (IsListed d) (same_Some x c e) k

  -- what is made of the picked row
  of_row : (f : PlainRow → Option (Stepped (List ℕ))) → is_some (f r) ≡ true → is_some (with_row (row_place c) s f) ≡ true
  of_row f e = ap (λ o. is_some (option_and_then f o)) p.first.at ∙ e

  at_device : (device : ℕ) → is_some (slice_get d.devices device) ≡ true → is_some (option_map (λ n. printing n r s) (device_at device r s)) ≡ true
  at_device device e = is_some-option_map (λ n. printing n r s) (device_at device r s)
      ∙ ap (λ o. is_some (option_and_then (λ q. slice_get q.devices device) o)) (queue_found now s steady c p) ∙ e

  at_dest : (f : _ → Stepped (List ℕ)) (dest : ℕ) → is_some (slice_get d.dests dest) ≡ true → is_some (option_map f (dest_at dest r s)) ≡ true
  at_dest f dest e = is_some-option_map f (dest_at dest r s)
      ∙ ap (λ o. is_some (option_and_then (λ q. slice_get q.dests dest) o)) (queue_found now s steady c p) ∙ e

begins : (now : ℕ) (s : Plain) → IsSteady s → (c : Choice) → IsPicked now s c → is_some (started c now s) ≡ true
begins now s steady (Launch row) p = of_row now s steady (Launch row) p (λ q. Some (launching q s)) refl
begins now s steady (Print row device) p = of_row now s steady (Print row device) p (λ q. option_map (λ n. printing n q s) (device_at device q s))
    (at_device now s steady (Print row device) p device (is_listed now s steady (Print row device) p))
begins now s steady (TooFar row) p = of_row now s steady (TooFar row) p (λ q. Some (holding q)) refl
begins now s steady (Local row dest) p = of_row now s steady (Local row dest) p (λ q. option_map (λ n. moving n s q) (dest_at dest q s))
    (at_dest now s steady (Local row dest) p (λ n. moving n s p.row) dest (is_listed now s steady (Local row dest) p))
begins now s steady (Hand row dest) p = of_row now s steady (Hand row dest) p (λ q. option_map (λ n. open_hand n now s q) (dest_at dest q s))
    (at_dest now s steady (Hand row dest) p (λ n. open_hand n now s p.row) dest (is_listed now s steady (Hand row dest) p))

-- where nothing starts, no queue may start a row
pub none_may_start : (now : ℕ) (s : Plain) → IsSteady s → start now s ≡ None → list_any (may_start now s) s.queues ≡ false
none_may_start now s steady none = sym (picked_is_some now s) ∙ of (pick now s) refl (picked_is now s)
  where
    of : (o : Option Choice) → pick now s ≡ o → IfSome o (IsPicked now s) → is_some o ≡ false
    of None e p = refl
    of (Some c) e p = absurd (true≢false (sym (begins now s steady c p) ∙ ap (λ o. is_some (start_by o now s)) (sym e) ∙ ap is_some none))
