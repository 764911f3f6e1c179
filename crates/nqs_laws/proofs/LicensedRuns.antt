-- In the history of a run each change is licensed by its cause.
use Rattle.std.proofs.Common.{◌≡◌, ℕ, ◌⊎◌, List, [], ◌∷◌, ◌++◌, Option, None, Some, refl, sym, ap, subst, ◌∙◌}
use Rattle.std.proofs.lemmas.Option.{same_Some}
use Rattle.nqs_state.specs.State.{Plain}
use Rattle.nqs_types.specs.declared.ids.HostId.{HostId}
use Rattle.nqs_types.specs.declared.change.Change.{Change}
use Rattle.nqs_types.specs.declared.world.Seen.{Seen}
use Rattle.nqs_rules.specs.Edits.{change_at}
use Rattle.nqs_rules.specs.Applied.{applied}
use Rattle.nqs_rules.specs.InOrder.{IsInOrder}
use Rattle.nqs_rules.specs.Net.{is_table, entry_of}
use Rattle.nqs_rules.specs.World.{Act, new_world}
use Rattle.nqs_rules.specs.Run.{run, states_of}
use Rattle.nqs_rules.specs.Notes.{Note, Saw, Kept, saws}
use Rattle.nqs_laws.specs.History.{history}
use Rattle.nqs_laws.specs.Sane.{AreSane, IsSite}
use Rattle.nqs_laws.specs.Words.{replayed}
use Rattle.nqs_laws.specs.Licensed.{LiesWith, IsLicensed, AreLicensed}
use Rattle.nqs_laws.proofs.Frame.{Moment, moment, put_state, Way, change_by, why_by, kept_of}
use Rattle.nqs_laws.proofs.Told.{at-value, leads_frames}
use Rattle.nqs_laws.proofs.Sound.{IsSound, Keeps, Suits, host_kept, hosts_put, runs_keep}
use Rattle.nqs_laws.proofs.After.{Request}
use Rattle.nqs_laws.proofs.Paired.{At, IsPaired}
use Rattle.nqs_laws.proofs.PairedRuns.{paired_keeps}
use Rattle.nqs_laws.proofs.TabledRuns.{IsNet, Advanced, net_keeps, new_net, advance}
use Rattle.nqs_laws.proofs.Entries.{entry_at, one_place, entry_is}
use Rattle.nqs_laws.proofs.EntrySteps.{TurnStep, entry_step, licensed_step, lies_here}
use Rattle.nqs_laws.proofs.Away.{IsAway, away_keeps, new_away}

licensed-append : (a b : List Note) (states : List Plain) → AreLicensed states a → AreLicensed (replayed a states) b → AreLicensed states (a ++ b)
licensed-append [] b states p q = q
licensed-append (Saw x ∷ a) b states p q = licensed-append a b states p q
licensed-append (Kept h why c ∷ a) b states p q = (p.0, p.1, licensed-append a b (change_at h.0 (applied c) states) p.2 q)

sights_licensed : (xs : List Seen) (states : List Plain) → AreLicensed states (saws xs)
sights_licensed [] states = tt
sights_licensed (x ∷ xs) states = sights_licensed xs states

module _ (site : List (List ℕ)) (m : Moment) (sound : IsSound site m) (net : IsNet m) (away : IsAway m) (h : HostId) (s : Plain) (there : At m.states h s)
    (way : Way m.packets h s) (c : Change (List ℕ)) (is : change_by way ≡ Some c) (suits : Suits s c) where
  -- the states after a change are those of hosts in order
  pub later_sound : (a : HostId) (u : Plain) → At (put_state h (applied c s) m.states) a u → IsInOrder u
  later_sound a u at = (hosts_put site m.states h s (applied c s) there sound.hosts
      (host_kept site h.0 s (sound.hosts h.0 s there) c suits.fit suits.sane suits.short) a.0 u at).order

  later_paired : IsPaired (put_state h (applied c s) m.states) m.packets
  later_paired = (paired_keeps site).kept m sound h s there way c is suits net.paired

  abbrev advanced : Advanced m.states h s c net.table
  advanced = advance site m sound net.paired h s there net.table net.told way c is suits

  entry_before : (x : Request) → entry_of x m.states ≡ entry_at (net.table x)
  entry_before x = entry_is m.states net.table net.told (λ b u at. (sound.hosts b.0 u at).order) x

  entry_later : (x : Request) → entry_of x (put_state h (applied c s) m.states) ≡ entry_at (advanced.then_table x)
  entry_later x = entry_is (put_state h (applied c s) m.states) advanced.then_table advanced.told later_sound x

  -- what a change makes of an entry
  pub turn_is : (x : Request) → TurnStep c s x (entry_of x m.states) (entry_of x (put_state h (applied c s) m.states))
  turn_is x =
      let host = sound.hosts h.0 s there in
      subst (λ e. TurnStep c s x e (entry_of x (put_state h (applied c s) m.states))) (sym (entry_before x))
      (subst (TurnStep c s x (entry_at (net.table x))) (sym (entry_later x))
      (entry_step h s (λ j. (host.head j).0) host.order host.calm (away.hands h s there) c suits.fit x (net.table x) (advanced.then_table x)
      (net.told.rows h s there x) (advanced.steps x)))

  with_host : (x : Request) → (entry_of x (put_state h (applied c s) m.states) ≡ entry_of x m.states) ⊎ LiesWith s.me (entry_of x m.states)
  with_host x =
      let me : s.me ≡ h = λ j. ((sound.hosts h.0 s there).head j).0 in
      subst (λ e. (entry_of x (put_state h (applied c s) m.states) ≡ e) ⊎ LiesWith s.me e) (sym (entry_before x))
      (subst (λ e. (e ≡ entry_at (net.table x)) ⊎ LiesWith s.me (entry_at (net.table x))) (sym (entry_later x))
      (subst (λ i. (entry_at (advanced.then_table x) ≡ entry_at (net.table x)) ⊎ LiesWith i (entry_at (net.table x))) (sym me)
      (lies_here c h s x (net.table x) (advanced.then_table x) (advanced.steps x))))

  -- one kept change
  pub change_licensed : (xs : List Seen) → AreLicensed m.states (Kept h (why_by way) c ∷ saws xs)
  change_licensed xs =
      let host = sound.hosts h.0 s there in
      let same : put_state h (applied c s) m.states ≡ change_at h.0 (applied c) m.states = sym (at-value h.0 (applied c) s m.states there) in (
        ap is_table (sym same) ∙ one_place (put_state h (applied c s) m.states) advanced.then_table advanced.told later_sound,
        λ t at x.
            let equal : s ≡ t = same_Some s t (sym there ∙ at) in
            subst (λ v. IsLicensed (why_by way) v x (entry_of x m.states) (entry_of x (change_at h.0 (applied c) m.states))) equal
            (subst (λ l. IsLicensed (why_by way) s x (entry_of x m.states) (entry_of x l)) same
            (licensed_step s host.order x way c is (entry_of x m.states) (entry_of x (put_state h (applied c s) m.states)) (turn_is x) (with_host x))),
        sights_licensed xs (change_at h.0 (applied c) m.states),
      )

-- all that the laws of histories stand on
pub record IsHistory (first : List Plain) (m : Moment) : Type 0 where
  pub net : IsNet m
  pub away : IsAway m
  pub leads : replayed m.notes first ≡ m.states
  pub licensed : AreLicensed first m.notes

module _ (site : List (List ℕ)) (first : List Plain) where
  more_licensed : (m : Moment) (ns : List Note) → IsHistory first m → AreLicensed m.states ns → AreLicensed first (m.notes ++ ns)
  more_licensed m ns k l = licensed-append m.notes ns first k.licensed (subst (λ states. AreLicensed states ns) (sym k.leads) l)

  made_licensed : (m : Moment) → IsSound site m → (h : HostId) (s : Plain) → At m.states h s → (way : Way m.packets h s)
      → ((c : Change (List ℕ)) → change_by way ≡ Some c → Suits s c) → IsHistory first m → (xs : List Seen) (o : Option (Change (List ℕ))) → change_by way ≡ o
      → AreLicensed m.states (kept_of h (why_by way) o ++ saws xs)
  made_licensed m sound h s there way suits k xs None is = sights_licensed xs m.states
  made_licensed m sound h s there way suits k xs (Some c) is = change_licensed site m sound k.net k.away h s there way c is (suits c is) xs

  pub history_keeps : Keeps site (IsHistory first)
  history_keeps = record {
    idle = λ m x sound idle k. record {
      net = (net_keeps site).idle m x sound idle k.net;
      away = (away_keeps site).idle m x sound idle k.away;
      leads = (leads_frames first).idle m x idle k.leads;
      licensed = more_licensed m (Saw x ∷ []) k tt;
    };
    kept = λ m sound h s there way c is suits k. record {
      net = (net_keeps site).kept m sound h s there way c is suits k.net;
      away = (away_keeps site).kept m sound h s there way c is suits k.away;
      leads = (leads_frames first).kept m h s there way c is k.leads;
      licensed = more_licensed m (Kept h (why_by way) c ∷ []) k (change_licensed site m sound k.net k.away h s there way c is suits []);
    };
    made = λ m sound h s there way suits k. record {
      net = (net_keeps site).made m sound h s there way suits k.net;
      away = (away_keeps site).made m sound h s there way suits k.away;
      leads = (leads_frames first).made m h s there way k.leads;
      licensed = more_licensed m _ k (made_licensed m sound h s there way suits k _ (change_by way) refl);
    };
  }

pub run_history : (site : List (List ℕ)) → IsSite site → (acts : List Act) → AreSane acts
    → IsHistory (states_of (new_world site)) (moment (run acts (new_world site)).world (history acts (new_world site)))
run_history site few acts sane =
    runs_keep site (IsHistory (states_of (new_world site))) (history_keeps site (states_of (new_world site))) few.1
    (record { net = new_net site; away = new_away site; leads = refl; licensed = tt }) acts sane
