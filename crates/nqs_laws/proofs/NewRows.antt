-- The new row of a change passes a test, where what is submitted does and what offers carry.
use Rattle.std.proofs.Common.{◌≡◌, ℕ, ◌+◌, Bool, true, false, List, Some, refl, sym, ap, subst, ◌∙◌, if◌then◌else◌}
use Rattle.std.proofs.lemmas.Option.{same_Some}
use Rattle.std.specs.List.{list_all}
use Rattle.nqs_state.specs.State.{Plain}
use Rattle.nqs_types.specs.declared.ids.HostId.{HostId}
use Rattle.nqs_types.specs.declared.request.Job.{Job}
use Rattle.nqs_types.specs.declared.request.Carried.{Carried}
use Rattle.nqs_types.specs.declared.change.Change.{Change}
use Rattle.nqs_types.specs.declared.change.Change.TheVariants.{Submitted, Deleted, Doomed, Boot, OldPromised, Promised}
use Rattle.nqs_types.specs.declared.message.Message.{Message}
use Rattle.nqs_types.specs.declared.message.Body.{Body}
use Rattle.nqs_types.specs.declared.message.Body.TheVariants as body
use Rattle.nqs_types.specs.declared.event.Command.{Command}
use Rattle.nqs_types.specs.declared.event.Command.TheVariants as command
use Rattle.nqs_types.specs.declared.event.Event.{Event}
use Rattle.nqs_types.specs.declared.event.Event.TheVariants as event
use Rattle.nqs_rules.specs.Tests.{is_running}
use Rattle.nqs_rules.specs.Applied.{new_row, first_carried, next_id}
use Rattle.nqs_rules.specs.Step.{completed, step}
use Rattle.nqs_rules.specs.InOrder.{IsInOrder}
use Rattle.nqs_rules.proofs.KeyFacts.{all_get}
use Rattle.nqs_rules.proofs.StartIs.{StartsRow, start_is}
use Rattle.nqs_rules.proofs.Until.{steady}
use Rattle.nqs_rules.specs.Picked.{PlainRow}
use Rattle.nqs_laws.specs.Words.{body_passes, offers_pass}
use Rattle.nqs_laws.proofs.Frame.{WasSent, Comes, Way, Taken, Begun, Booted, change_by}
use Rattle.nqs_laws.proofs.RowTests.{NewPasses}
use Rattle.nqs_laws.proofs.Sound.{some-if}
use Rattle.nqs_laws.proofs.Makes.{Answers, Obeys, Follows, step_makes}

module _ (t : PlainRow → Bool) (h : HostId) (s : Plain) (packets : List Message)
    (offered : (x : Message) → WasSent x packets → (n low : ℕ) (queue : List ℕ) (c : Carried) (script : List ℕ) → x.body ≡ body.Offer n low queue c script
    → t (new_row c queue (s.arrivals + 1) script) ≡ true)
    (ch : Change (List ℕ)) (submitted : (queue : List ℕ) (job : Job) (script : List ℕ) → ch ≡ Submitted queue job script
    → t (new_row (first_carried (next_id s) job) queue (s.arrivals + 1) script) ≡ true) where
  begun_passes : (r : PlainRow) (c : Change (List ℕ)) → StartsRow s r c → NewPasses t c s
  begun_passes r (Submitted queue job script) starts = absurd starts
  begun_passes r (OldPromised peer n queue c script) starts = absurd starts
  begun_passes r (Promised peer n low queue c script) starts = absurd starts
  begun_passes r c starts = tt

  answered_passes : (x : Message) → WasSent x packets → (b : Body) → x.body ≡ b → Answers b x.from s ch → NewPasses t ch s
  answered_passes x sent (body.Offer n low queue c script) e a = subst (λ y. NewPasses t y s) (sym a.0) (offered x sent n low queue c script e)
  answered_passes x sent (body.Ready n) e a = subst (λ y. NewPasses t y s) (sym a.0) tt
  answered_passes x sent (body.Refused n refusal) e a = subst (λ y. NewPasses t y s) (sym a.0) tt
  answered_passes x sent (body.Commit n) e a = subst (λ y. NewPasses t y s) (sym a.0) tt
  answered_passes x sent (body.Done n) e a = subst (λ y. NewPasses t y s) (sym a.0) tt
  answered_passes x sent (body.Inquire n) e a = subst (λ y. NewPasses t y s) (sym a.0) tt
  answered_passes x sent (body.Abort n) e a = subst (λ y. NewPasses t y s) (sym a.0) tt
  answered_passes x sent (body.Stage n path bytes) e a = subst (λ y. NewPasses t y s) (sym a.1) tt
  answered_passes x sent (body.Staged n) e a = subst (λ y. NewPasses t y s) (sym a) tt
  answered_passes x sent b e a = absurd a

  obeyed_passes : (now : ℕ) (c : Command) → Obeys now c s ch → NewPasses t ch s
  obeyed_passes now (command.Submit sub) o = subst (λ y. NewPasses t y s) (sym o.1) (submitted o.0 (completed (s.seq + 1) sub.folder sub.job) sub.script o.1)
  obeyed_passes now (command.Edit e) o = subst (λ y. NewPasses t y s) (sym o) tt
  obeyed_passes now (command.Delete id forced) o = subst (λ y. NewPasses t y s) (sym o.is) (by (is_running o.row.state))
    where
      by : (b : Bool) → NewPasses t (if b then Doomed o.row.id else Deleted o.row.id) s
      by true = tt
      by false = tt
  obeyed_passes now command.Tick o = subst (λ y. NewPasses t y s) (sym o.1) tt
  obeyed_passes now c o = absurd o

  followed_passes : (e : Event) → Comes packets h e → Follows e s ch → NewPasses t ch s
  followed_passes (event.Ask now port token user c) comes f = obeyed_passes now c f
  followed_passes (event.Arrived now x) comes f = answered_passes x comes.1 x.body refl f
  followed_passes (event.Ended now port id start status output error) comes f = subst (λ y. NewPasses t y s) (sym f.4) tt
  followed_passes (event.Unlaunched now id start) comes f = subst (λ y. NewPasses t y s) (sym f.3) tt
  followed_passes (event.Written now file) comes f = subst (λ y. NewPasses t y s) (sym f) tt
  followed_passes (event.Unwritten now file) comes f = absurd f
  followed_passes (event.Tick now) comes f = subst (λ y. NewPasses t y s) (sym f.1) tt

  pub row_passes : IsInOrder s → (way : Way packets h s) → change_by way ≡ Some ch → NewPasses t ch s
  row_passes o (Taken e comes) is = followed_passes e comes (some-if (Follows e s) (step e s).change ch (step_makes s e) is)
  row_passes o (Begun now x begins) is =
      let started = start_is now s x (steady s o) begins in
      subst (λ y. NewPasses t y s) (same_Some started.change ch (sym started.makes ∙ is)) (begun_passes started.row started.change started.starts)
  row_passes o Booted is = subst (λ y. NewPasses t y s) (same_Some Boot ch is) tt

-- what a sent offer carries passes the test that all offers pass
pub carried_passes : (test : Carried → Bool) (packets : List Message) → list_all (offers_pass test) packets ≡ true → (x : Message) → WasSent x packets
    → (n low : ℕ) (queue : List ℕ) (c : Carried) (script : List ℕ) → x.body ≡ body.Offer n low queue c script → test c ≡ true
carried_passes test packets all x sent n low queue c script e = let passes : body_passes test x.body ≡ true =
    all_get (offers_pass test) packets sent.0 x all sent.1 in ap (body_passes test) (sym e) ∙ passes
