-- What is true of each handover of a host stays so under each change.
use Rattle.std.proofs.Common.{◌≡◌, ℕ, Bool, true, false, not, List, [], ◌∷◌, ◌++◌, Option, None, Some, true≢false, sym, subst, ◌∙◌, if◌then◌else◌}
use Rattle.std.specs.List.{list_all}
use Rattle.nqs_state.specs.State.{Plain}
use Rattle.nqs_state.specs.Keys.{is_hand}
use Rattle.nqs_types.specs.declared.ids.PeerNumber.{PeerNumber}
use Rattle.nqs_types.specs.declared.request.Hand.{Hand}
use Rattle.nqs_types.specs.declared.request.Phase.TheVariants.{Offered}
use Rattle.nqs_types.specs.declared.request.Promise.{Promise}
use Rattle.nqs_types.specs.declared.change.Change.{Change}
use Rattle.nqs_types.specs.declared.change.Change.TheVariants.{Site, Deleted, Ended, Edited, HandOpened, HandCommitted, HandRefused, HandsSilent, HandDone}
use Rattle.nqs_types.specs.declared.change.Change.TheVariants.{OldPromised, Promised, Accepted, Dropped, StageGot}
use Rattle.nqs_rules.specs.Find.{peer_number, has_row, find_hand, find_promise}
use Rattle.nqs_rules.specs.Applied.{applied, is_offered_for, committed, hand_committed, hand_refused, hand_silent, hands_silent, drop_promise, requeued_row}
use Rattle.nqs_rules.specs.Applied.{accepted}
use Rattle.nqs_rules.specs.Fits.{fits}
use Rattle.nqs_rules.proofs.ListFacts.{list_all-changed, list_all-found}
use Rattle.nqs_rules.proofs.KeyFacts.{all-added}
use Rattle.nqs_rules.proofs.Sublists.{part_all, without_part, filter_part}
use Rattle.nqs_laws.proofs.Turns.{Ties, quiet_ties}

module _ (test : Hand → Bool) where
  -- a handover that the change opens passes
  abbrev pub Opens : Change (List ℕ) → Type 0
  Opens (HandOpened peer number id queue since) = test (record { peer = peer; number = number; id = id; queue = queue; since = since; phase = Offered }) ≡ true
  Opens c = Unit {0}

module _ (test : Hand → Bool) where
  pub silents_pass : (until : ℕ) (ks : List PeerNumber) (s : Plain) → list_all test s.hands ≡ true → list_all test (hands_silent until ks s).hands ≡ true
  silents_pass until [] s k = k
  silents_pass until (n ∷ ks) s k = silents_pass until ks (hand_silent until n (find_hand n.peer n.number s) s) (of (find_hand n.peer n.number s))
    where
      of : (o : Option Hand) → list_all test (hand_silent until n o s).hands ≡ true
      of None = k
      of (Some y) = part_all test (without_part (is_hand n) s.hands) k

module _ (test : Hand → Bool) (still : (y : Hand) → test (committed y) ≡ test y) where
  pub hands_kept : (c : Change (List ℕ)) (s : Plain) → fits c s ≡ true → Opens test c → list_all test s.hands ≡ true → list_all test (applied c s).hands ≡ true
  hands_kept (Site me site) s fit opens k = absurd (true≢false (sym fit))
  hands_kept (Deleted id) s fit opens k = part_all test (filter_part (λ y. not (is_offered_for id y)) s.hands) k
  hands_kept (HandOpened peer number id queue since) s fit opens k = all-added test s.hands _ k opens
  hands_kept (HandCommitted peer number) s fit opens k = of (find_hand peer number s)
    where
      of : (o : Option Hand) → list_all test (hand_committed (peer_number peer number) o s).hands ≡ true
      of None = k
      of (Some y) = list_all-changed test (is_hand (peer_number peer number)) committed s.hands k
          (λ z found. still z ∙ list_all-found test (is_hand (peer_number peer number)) s.hands z k found)
  hands_kept (HandRefused peer number refusal) s fit opens k = of (find_hand peer number s)
    where
      of : (o : Option Hand) → list_all test (hand_refused (peer_number peer number) refusal o s).hands ≡ true
      of None = k
      of (Some y) = part_all test (without_part (is_hand (peer_number peer number)) s.hands) k
  hands_kept (HandsSilent until ks) s fit opens k = silents_pass test until ks s k
  hands_kept (HandDone peer number) s fit opens k = part_all test (without_part (is_hand (peer_number peer number)) s.hands) k
  hands_kept (OldPromised peer number queue c script) s fit opens k = k
  hands_kept (Promised peer number low queue c script) s fit opens k = k
  hands_kept (Accepted peer number) s fit opens k = of (find_promise peer number s)
    where
      of : (o : Option (Promise (List ℕ))) → list_all test (accepted (peer_number peer number) o s).hands ≡ true
      of None = k
      of (Some p) = by (has_row p.row.id s)
        where
          by : (z : Bool) → list_all test (if z then drop_promise (peer_number peer number) s else
              record (drop_promise (peer_number peer number) s) { rows = s.rows ++ requeued_row p.row ∷ [] }).hands ≡ true
          by true = k
          by false = k
  hands_kept (Dropped peer number) s fit opens k = k
  hands_kept (Edited e) s fit opens k = subst (λ (l : Ties). list_all test l.0 ≡ true) (sym (quiet_ties (Edited e) s fit tt).0) k
  hands_kept (Ended id parts) s fit opens k = subst (λ (l : Ties). list_all test l.0 ≡ true) (sym (quiet_ties (Ended id parts) s fit tt).0) k
  hands_kept (StageGot peer number path bytes) s fit opens k = subst (λ (l : Ties). list_all test l.0 ≡ true)
      (sym (quiet_ties (StageGot peer number path bytes) s fit tt).0) k
  hands_kept c s fit opens k = k
