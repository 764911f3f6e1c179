-- In every world that a run reaches, a half done handover comes to its end event by event.
use Rattle.std.proofs.Common.{◌≡◌, ℕ, ◌⊎◌, Bool, true, false, ◌||◌, List, is_some, true≢false, refl, sym, subst, ◌∙◌}
use Rattle.std.proofs.lemmas.Bool.{or_right, false_from_ne_true}
use Rattle.nqs_state.specs.State.{Plain}
use Rattle.nqs_types.specs.declared.ids.HostId.{HostId}
use Rattle.nqs_types.specs.declared.message.Message.{Message}
use Rattle.nqs_types.specs.declared.message.Body.{Body}
use Rattle.nqs_types.specs.declared.message.Body.TheVariants as body
use Rattle.nqs_types.specs.declared.event.Event.TheVariants as event
use Rattle.nqs_rules.specs.Find.{has_promise, find_hand}
use Rattle.nqs_rules.specs.Starts.{after_step}
use Rattle.nqs_rules.specs.Step.{step, on_message}
use Rattle.nqs_rules.specs.World.{World, Act, new_world}
use Rattle.nqs_rules.specs.Run.{run}
use Rattle.nqs_rules.specs.Net.{is_committed_to}
use Rattle.nqs_laws.specs.Sane.{AreSane, IsSite}
use Rattle.nqs_laws.specs.Handovers.{IsStateOf, WasSent, is_open, is_closed_for, is_taken_for, IsTrueOf}
use Rattle.nqs_laws.specs.Sending.{word, Sends}
use Rattle.nqs_laws.proofs.Sound.{IsHost, run_sound}
use Rattle.nqs_laws.proofs.HandoverLaws.{given_hand, all_in_step, all_true}
use Rattle.nqs_laws.proofs.HealSteps.{tick_asks, tick_commits, inquiry_answered, commit_answered, commit_ends, abort_ends, done_ends}

module _ (site : List (List ℕ)) (few : IsSite site) (acts : List Act) (sane : AreSane acts) where
  abbrev world : World
  world = (run acts (new_world site)).world

  host_at_end : (h : HostId) (s : Plain) → IsStateOf world h s → IsHost site h.0 s
  host_at_end h s at = (run_sound site few.1 acts sane).hosts h.0 s at

  me_at_end : (h : HostId) (s : Plain) → IsStateOf world h s → s.me ≡ h
  me_at_end h s at = λ j. ((host_at_end h s at).head j).0

  pub asks : (h from : HostId) (s : Plain) → IsStateOf world h s → (now n : ℕ) → has_promise from n s ≡ true
      → Sends (step (event.Tick now) s) (word h from (body.Inquire n))
  asks h from s at now n k = tick_asks h s (me_at_end h s at) now from n k

  pub commits : (h to : HostId) (s : Plain) → IsStateOf world h s → (now n : ℕ) → is_committed_to to n s ≡ true
      → Sends (step (event.Tick now) s) (word h to (body.Commit n))
  commits h to s at now n k = tick_commits h s (me_at_end h s at) now to n (given_hand to n s k)

  -- a message that came, by its body
  module _ (m : Message) (b : Body) (is : m.body ≡ b) (s t : Plain) (sat : IsStateOf world m.from s) (tat : IsStateOf world m.to t)
      (sent : WasSent world m) where
    true_of : IsTrueOf b m.from m.to s t
    true_of = subst (λ x. IsTrueOf x m.from m.to s t) is (all_true site few acts sane m sent s t sat tat)

  pub inquiry : (m : Message) (n : ℕ) → WasSent world m → m.body ≡ body.Inquire n → (s t : Plain) → IsStateOf world m.from s → IsStateOf world m.to t
      → (now : ℕ) → (Sends (step (event.Arrived now m) t) (word m.to m.from (body.Commit n)))
      ⊎ (Sends (step (event.Arrived now m) t) (word m.to m.from (body.Abort n)))
  inquiry m n sent is s t sat tat now =
      let given = (all_in_step site few acts sane m.to m.from t s tat sat).numbered n (true_of m (body.Inquire n) is s t sat tat sent) in
      subst (λ b. (Sends (on_message m.from b t) (word m.to m.from (body.Commit n))) ⊎ (Sends (on_message m.from b t) (word m.to m.from (body.Abort n))))
      (sym is) (inquiry_answered m.to t (me_at_end m.to t tat) m.from n given)

  pub commit : (m : Message) (n : ℕ) → WasSent world m → m.body ≡ body.Commit n → (s t : Plain) → IsStateOf world m.from s → IsStateOf world m.to t → (now : ℕ)
      → Sends (step (event.Arrived now m) t) (word m.to m.from (body.Done n))
  commit m n sent is s t sat tat now =
      subst (λ b. Sends (on_message m.from b t) (word m.to m.from (body.Done n))) (sym is)
      (commit_answered m.to t (me_at_end m.to t tat) m.from n (by (is_committed_to m.to n s) refl (true_of m (body.Commit n) is s t sat tat sent)))
    where
      by : (c : Bool) → is_committed_to m.to n s ≡ c → (c || is_closed_for m.from n t) ≡ true → is_taken_for m.from n t ≡ true
      by true e k = (all_in_step site few acts sane m.from m.to s t sat tat).given n e
      by false e k = or_right (has_promise m.from n t) (is_closed_for m.from n t) k

  pub commit_leaves : (m : Message) (n : ℕ) → m.body ≡ body.Commit n → (t : Plain) → IsStateOf world m.to t → (now : ℕ)
      → has_promise m.from n (after_step (step (event.Arrived now m) t) t) ≡ false
  commit_leaves m n is t tat now = subst (λ b. has_promise m.from n (after_step (on_message m.from b t) t) ≡ false) (sym is)
      (commit_ends t (host_at_end m.to t tat).order m.from n)

  pub abort_leaves : (m : Message) (n : ℕ) → m.body ≡ body.Abort n → (t : Plain) → IsStateOf world m.to t → (now : ℕ)
      → has_promise m.from n (after_step (step (event.Arrived now m) t) t) ≡ false
  abort_leaves m n is t tat now = subst (λ b. has_promise m.from n (after_step (on_message m.from b t) t) ≡ false) (sym is)
      (abort_ends t (host_at_end m.to t tat).order m.from n)

  pub done_leaves : (m : Message) (n : ℕ) → WasSent world m → m.body ≡ body.Done n → (s t : Plain) → IsStateOf world m.from s → IsStateOf world m.to t
      → (now : ℕ) → is_some (find_hand m.from n (after_step (step (event.Arrived now m) t) t)) ≡ false
  done_leaves m n sent is s t sat tat now =
      let closed = true_of m (body.Done n) is s t sat tat sent in
      let shut = false_from_ne_true (is_open m.from n t) (λ k. true≢false
      (sym closed ∙ (all_in_step site few acts sane m.to m.from t s tat sat).offered n k)) in
      subst (λ b. is_some (find_hand m.from n (after_step (on_message m.from b t) t)) ≡ false) (sym is)
      (done_ends t (host_at_end m.to t tat).order m.from n shut)
