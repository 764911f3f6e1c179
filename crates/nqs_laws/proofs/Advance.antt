-- The table that the hosts tell, after each change.
use Rattle.std.proofs.Common.{◌≡◌, ℕ, ◌+◌, ◌<◌, ◌≤◌, ◌⊎◌, inl, inr, Bool, true, false, ◌&&◌, ◌==◌, nat_le, nat_lt, List, [], ◌∷◌, ◌++◌, find, slice_get, Option}
use Rattle.std.proofs.Common.{None, Some}
use Rattle.std.proofs.Common.{true≢false, refl, sym, ap, subst, ◌∙◌, arith, if◌then◌else◌}
use Rattle.std.proofs.lemmas.Bool.{and_parts, leb-true}
use Rattle.std.proofs.lemmas.Option.{same_Some}
use Rattle.std.specs.List.{list_all}
use Rattle.nqs_state.specs.State.{Plain}
use Rattle.nqs_base_tables.specs.Table.{without_first}
use Rattle.nqs_state.specs.Keys.{is_row, is_hand}
use Rattle.nqs_types.specs.declared.ids.HostId.{HostId}
use Rattle.nqs_types.specs.declared.ids.PeerNumber.{PeerNumber}
use Rattle.nqs_types.specs.declared.request.Hand.{Hand}
use Rattle.nqs_types.specs.declared.edit.ConfEdit.{ConfEdit}
use Rattle.nqs_types.specs.declared.edit.ConfEdit.TheVariants.{PurgeQueue}
use Rattle.nqs_types.specs.declared.edit.LimitsEdit.{LimitsEdit}
use Rattle.nqs_types.specs.declared.edit.LimitsEdit.TheVariants.{SetGlobalLimit}
use Rattle.nqs_types.specs.declared.edit.AccessEdit.{AccessEdit}
use Rattle.nqs_types.specs.declared.edit.AccessEdit.TheVariants.{AddManager}
use Rattle.nqs_types.specs.declared.edit.DevicesEdit.{DevicesEdit}
use Rattle.nqs_types.specs.declared.edit.DevicesEdit.TheVariants.{DeleteDevice}
use Rattle.nqs_types.specs.declared.edit.RowsEdit.TheVariants.{AbortQueue, HoldRequest, ReleaseRequest, MoveRequest, ModifyRequest}
use Rattle.nqs_types.specs.declared.edit.Edit.{Edit}
use Rattle.nqs_types.specs.declared.edit.Edit.TheVariants.{Conf, Limits as LimitsOf, Access as AccessOf, Devices as DevicesOf, Rows as RowsOf}
use Rattle.nqs_types.specs.declared.change.Change.{Change}
use Rattle.nqs_types.specs.declared.change.Change.TheVariants.{Site, Submitted, Deleted, Ended, Edited, HandOpened, HandCommitted, HandRefused, HandsSilent}
use Rattle.nqs_types.specs.declared.change.Change.TheVariants.{HandDone, OldPromised, Promised, Accepted, Dropped, StageGot}
use Rattle.nqs_types.specs.declared.message.Message.{Message}
use Rattle.nqs_state.proofs.LeastLemmas.{found_id}
use Rattle.nqs_rules.specs.Tests.{same_host}
use Rattle.nqs_rules.specs.Find.{peer_number, has_row, find_row, find_hand, find_promise, meant_request}
use Rattle.nqs_rules.specs.Conf.{conf_applied}
use Rattle.nqs_rules.specs.Limits.{limits_applied}
use Rattle.nqs_rules.specs.Devices.{devices_applied}
use Rattle.nqs_rules.specs.Rows.{change_meant, next_arrival, held_row, released_row, moved_row, with_priority}
use Rattle.nqs_rules.specs.Edits.{drop_row, change_peer}
use Rattle.nqs_rules.specs.Applied.{applied, edit_applied, access_applied, next_id, requeued_row, hand_committed, hand_refused, hand_silent, hands_silent}
use Rattle.nqs_rules.specs.Applied.{drop_promise, accepted}
use Rattle.nqs_rules.specs.Fits.{fits}
use Rattle.nqs_rules.specs.InOrder.{IsInOrder, IsConsistent, is_row_right}
use Rattle.nqs_rules.proofs.Chains.{implied}
use Rattle.nqs_rules.proofs.ListFacts.{list_all-found, list_all-weaker}
use Rattle.nqs_rules.proofs.RowFacts.{row_is}
use Rattle.nqs_rules.proofs.StateFacts.{keys_are}
use Rattle.nqs_rules.proofs.PeersOrder.{get-other}
use Rattle.nqs_rules.proofs.HandoversOrder.{not_committed, still_offered, silent_one}
use Rattle.nqs_rules.proofs.ConsistentOrder.{silent_calm_one}
use Rattle.nqs_rules.proofs.OutputsKept.{file_keeps, outputs_keep}
use Rattle.nqs_rules.proofs.OutputsOrder.{put_twice}
use Rattle.nqs_rules.specs.Picked.{PlainRow}
use Rattle.nqs_laws.specs.Loads.{Load, sent_load}
use Rattle.nqs_laws.proofs.Frame.{put_state, put-same}
use Rattle.nqs_laws.proofs.Sound.{get-here}
use Rattle.nqs_laws.proofs.After.{Request, changed_at, after, row_after, silent_found}
use Rattle.nqs_laws.proofs.Spares.{IsNew, changed_none, grows}
use Rattle.nqs_laws.proofs.Pair.{Move, Stays, Withdraws, Finishes, Pledges, Drops}
use Rattle.nqs_laws.proofs.Views.{Pledging, has_number_key, host_exact, host_same}
use Rattle.nqs_laws.proofs.Turns.{to_move, from_move, deleted_move, offers_by, promised_move}
use Rattle.nqs_laws.proofs.Targets.{IsLowRight}
use Rattle.nqs_laws.proofs.Paired.{At, IsPaired, Turn, GuardsOf, IsOne, turn_of, turn_paired}
use Rattle.nqs_laws.proofs.PairedRuns.{one_side, silent_guards, silent_turn}
use Rattle.nqs_laws.proofs.Tabled.{Place, Nowhere, Sits, Arrives, row_in, Table, IsTabled, IsHeldMove, held_or, updated, placed_at, rows_tabled}

-- the last number given grows

meant_seq : (o : Option Request) (f : PlainRow → PlainRow) (s : Plain) → (change_meant o f s).seq ≡ s.seq
meant_seq None f s = refl
meant_seq (Some id) f s = refl

conf_seq : (e : ConfEdit) (s : Plain) → (conf_applied e s).seq ≡ s.seq
conf_seq (PurgeQueue q) s = refl
conf_seq e s = refl

limits_seq : (e : LimitsEdit) (s : Plain) → (limits_applied e s).seq ≡ s.seq
limits_seq (SetGlobalLimit n) s = refl
limits_seq e s = refl

access_seq : (e : AccessEdit) (s : Plain) → (access_applied e s).seq ≡ s.seq
access_seq (AddManager user) s = refl
access_seq e s = refl

devices_seq : (e : DevicesEdit) (s : Plain) → (devices_applied e s).seq ≡ s.seq
devices_seq (DeleteDevice d) s = refl
devices_seq e s = refl

edit_seq : (e : Edit) (s : Plain) → (edit_applied e s).seq ≡ s.seq
edit_seq (Conf e) s = conf_seq e s
edit_seq (LimitsOf e) s = limits_seq e s
edit_seq (AccessOf e) s = access_seq e s
edit_seq (DevicesOf e) s = devices_seq e s
edit_seq (RowsOf (AbortQueue q)) s = refl
edit_seq (RowsOf (HoldRequest id)) s = meant_seq (meant_request id s) held_row s
edit_seq (RowsOf (ReleaseRequest id)) s = meant_seq (meant_request id s) released_row s
edit_seq (RowsOf (MoveRequest id q)) s = meant_seq (meant_request id s) (moved_row q (s.arrivals + 1)) (next_arrival s)
edit_seq (RowsOf (ModifyRequest id n)) s = meant_seq (meant_request id s) (with_priority n) s

silents_seq : (until : ℕ) (ks : List PeerNumber) (s : Plain) → (hands_silent until ks s).seq ≡ s.seq
silents_seq until [] s = refl
silents_seq until (k ∷ ks) s = silents_seq until ks (hand_silent until k (find_hand k.peer k.number s) s) ∙ of (find_hand k.peer k.number s)
  where
    of : (x : Option Hand) → (hand_silent until k x s).seq ≡ s.seq
    of None = refl
    of (Some y) = refl

-- a submission gives one number, and no other change gives any
abbrev pub NumberAfter : Change (List ℕ) → Plain → ℕ
NumberAfter (Submitted queue job script) s = s.seq + 1
NumberAfter c s = s.seq

pub seq_after : (c : Change (List ℕ)) (s : Plain) → fits c s ≡ true → (applied c s).seq ≡ NumberAfter c s
seq_after (Site me site) s fit = absurd (true≢false (sym fit))
seq_after (Edited e) s fit = edit_seq e s
seq_after (Ended id parts) s fit = outputs_keep (λ u. u.seq) (λ u fs n. refl) (λ u ts ps. refl) id parts (drop_row id s)
seq_after (HandCommitted peer number) s fit = of (find_hand peer number s)
  where
    of : (x : Option Hand) → (hand_committed (peer_number peer number) x s).seq ≡ s.seq
    of None = refl
    of (Some y) = refl
seq_after (HandRefused peer number refusal) s fit = of (find_hand peer number s)
  where
    of : (x : Option Hand) → (hand_refused (peer_number peer number) refusal x s).seq ≡ s.seq
    of None = refl
    of (Some y) = refl
seq_after (HandsSilent until ks) s fit = silents_seq until ks s
seq_after (Accepted peer number) s fit = of (find_promise peer number s)
  where
    of : (x : Option Pledging) → (accepted (peer_number peer number) x s).seq ≡ s.seq
    of None = refl
    of (Some p) = by (has_row p.row.id s)
      where
        by : (z : Bool) → (if z then drop_promise (peer_number peer number) s else
            record (drop_promise (peer_number peer number) s) { rows = s.rows ++ requeued_row p.row ∷ [] }).seq ≡ s.seq
        by true = refl
        by false = refl
seq_after (StageGot peer number path bytes) s fit = file_keeps (λ u. u.seq) (λ u fs n. refl) (λ u ts ps. refl) (record { path = path; bytes = bytes })
    (change_peer peer (λ p. record p { stage_got = number }) s)
seq_after c s fit = refl

pub seq_grows : (c : Change (List ℕ)) (s : Plain) → fits c s ≡ true → s.seq ≤ (applied c s).seq
seq_grows c s fit = let e = seq_after c s fit in by c e
  where
    by : (c : Change (List ℕ)) → (applied c s).seq ≡ NumberAfter c s → s.seq ≤ (applied c s).seq
    by (Submitted queue job script) e = omega (arith, e)
    by c e = omega (arith, e)

-- places twice changed

pub updated_twice : (h : HostId) (o p : Option PlainRow) (t : Place) → updated h p (updated h o t) ≡ updated h p t
updated_twice h o p Nowhere = of o
  where
    of : (o : Option PlainRow) → updated h p (placed_at h o) ≡ placed_at h p
    of None = refl
    of (Some r) = ap (λ b. if b then placed_at h p else Sits h r) (host_same h)
updated_twice h o p (Sits g r) = by (same_host g h) refl o
  where
    by : (b : Bool) → same_host g h ≡ b → (o : Option PlainRow) → updated h p (if b then placed_at h o else Sits g r) ≡ (if b then placed_at h p else Sits g r)
    by true e None = refl
    by true e (Some q) = ap (λ b. if b then placed_at h p else Sits h q) (host_same h)
    by false e o = ap (λ b. if b then placed_at h p else Sits g r) e
updated_twice h o p (Arrives a b n r) = refl

pub updated_same : (h : HostId) (t : Place) → updated h (row_in h t) t ≡ t
updated_same h Nowhere = refl
updated_same h (Sits g r) = by (same_host g h) refl
  where
    by : (b : Bool) → same_host g h ≡ b → (if b then placed_at h (row_in h (Sits g r)) else Sits g r) ≡ Sits g r
    by true e =
        let same : g ≡ h = host_exact g h e in
        ap (placed_at h) ((λ j. row_in h (Sits (same j) r)) ∙ ap (λ b. if b then Some r else None) (host_same h)) ∙ (λ j. Sits (sym same j) r)
    by false e = refl
updated_same h (Arrives a b n r) = refl

same_table : (states : List Plain) (t u : Table) → ((x : Request) → t x ≡ u x) → IsTabled states t → IsTabled states u
same_table states t u e k = subst (IsTabled states) (λ j x. e x j) k

-- the table after the rows of one host have changed
abbrev pub row_table : HostId → Plain → Table → Table
row_table h s' table x = updated h (find_row x s') (table x)

-- neither committed nor accepted
abbrev pub IsInHost : Change (List ℕ) → Type 0
IsInHost (HandCommitted peer number) = ⊥
IsInHost (Accepted peer number) = ⊥
IsInHost c = Unit {0}

host_new : (c : Change (List ℕ)) (s : Plain) (x : Request) → IsInHost c → IsNew c s x → x ≡ next_id s
host_new (Submitted queue job script) s x k new = new
host_new (Accepted peer number) s x k new = absurd k
host_new c s x k new = absurd new

held_to : (c : Change (List ℕ)) (s : Plain) (b : HostId) (n : ℕ) → IsInHost c → IsHeldMove (to_move c s b n)
held_to (Deleted id) s b n k = of (find_hand b n s)
  where
    of : (x : Option Hand) → IsHeldMove (deleted_move id x)
    of None = tt
    of (Some y) = held_or _ Withdraws tt
held_to (HandOpened peer number id queue since) s b n k = by (has_number_key b n (peer_number peer number)) (find_row id s)
  where
    by : (z : Bool) (o : Option PlainRow) → IsHeldMove (if z then offers_by queue o else Stays)
    by true None = tt
    by true (Some r) = tt
    by false o = tt
held_to (HandCommitted peer number) s b n k = absurd k
held_to (HandRefused peer number refusal) s b n k = held_or (has_number_key b n (peer_number peer number)) Withdraws tt
held_to (HandDone peer number) s b n k = held_or (has_number_key b n (peer_number peer number)) Finishes tt
held_to c s b n k = tt

held_promised : (peer : HostId) (number low : ℕ) (load : Load) (a : HostId) (n : ℕ) → IsHeldMove (promised_move peer number low load a n)
held_promised peer number low load a n = by (has_number_key a n (peer_number peer number)) (same_host a peer && nat_lt n low)
  where
    by : (c d : Bool) → IsHeldMove (if c then Pledges load else (if d then Drops else Stays))
    by true d = tt
    by false true = tt
    by false false = tt

held_from : (c : Change (List ℕ)) (a : HostId) (n : ℕ) → IsInHost c → IsHeldMove (from_move c a n)
held_from (OldPromised peer number queue c script) a n k = held_promised peer number number (sent_load queue c script) a n
held_from (Promised peer number low queue c script) a n k = held_promised peer number low (sent_load queue c script) a n
held_from (Accepted peer number) a n k = absurd k
held_from (Dropped peer number) a n k = held_or (has_number_key a n (peer_number peer number)) Drops tt
held_from c a n k = tt

module _ (states : List Plain) (packets : List Message) (paired : IsPaired states packets) (h : HostId) (s : Plain) (there : At states h s) (me : s.me ≡ h)
    (o : IsInOrder s) (calm : IsConsistent s) (table : Table) (told : IsTabled states table) where
  -- no row of a number that wasn't given
  fresh_row : (s' : Plain) → IsInOrder s' → s'.me ≡ s.me → ((x : Request) → find_row x s ≡ None → (find_row x s' ≡ None) ⊎ (x ≡ next_id s))
      → (x : Request) (u' : Plain) → At (put_state h s' states) x.host u' → u'.seq < x.seq → find_row x s' ≡ None
  fresh_row s' o' me' new x u' at below = by (same_host x.host h) refl
    where
      none : (y : Option PlainRow) → find_row x s' ≡ y → x.host ≡ h → s'.seq < x.seq → y ≡ None
      none None e here few = refl
      none (Some r) e here few =
          let id : x ≡ r.id = found_id x s'.rows r e in
          let given = (row_is s' r (list_all-found (is_row_right s') (is_row x) s'.rows r o'.rows e)).given in
          let mine : same_host s'.me r.id.host ≡ true = ap (same_host s'.me) (sym (me' ∙ (me ∙ (sym here ∙ ap (λ (i : Request). i.host) id))))
          ∙ host_same s'.me in
          let low : r.id.seq ≤ s'.seq = leb-true r.id.seq s'.seq (implied (same_host s'.me r.id.host) (nat_le r.id.seq s'.seq) given mine) in
          let number : x.seq ≡ r.id.seq = ap (λ (i : Request). i.seq) id in
          absurd (omega (arith, low, few, number))

      by : (c : Bool) → same_host x.host h ≡ c → find_row x s' ≡ None
      by true e =
          let here : x.host ≡ h = host_exact x.host h e in
          let same : s' ≡ u' = same_Some s' u' (sym (get-here h.0 s' s states there)
          ∙ (ap (λ (i : HostId). slice_get (put_state h s' states) i.0) (sym here) ∙ at)) in
          let n : s'.seq ≡ u'.seq = ap (λ (v : Plain). v.seq) same in
          none (find_row x s') refl here (omega (arith, n, below))
      by false e =
          let before : At states x.host u' = sym (get-other h.0 x.host.0 (λ _. s') states
          (λ same. true≢false (sym (ap (λ n. n == h.0) (sym same) ∙ host_same h) ∙ e))) ∙ at in
          let nowhere = told.given x u' before below in
          of (new x (told.rows h s there x ∙ ap (row_in h) nowhere))
        where
          of : (find_row x s' ≡ None) ⊎ (x ≡ next_id s) → find_row x s' ≡ None
          of (inl k) = k
          of (inr k) = absurd (true≢false (sym (ap (λ i. same_host i h) (ap (λ (i : Request). i.host) k ∙ me) ∙ host_same h) ∙ e))

  -- a row appears only where its request was nowhere
  row_grows : (s' : Plain) → ((x : Request) → find_row x s ≡ None → (find_row x s' ≡ None) ⊎ (x ≡ next_id s)) → (x : Request) → find_row x s ≡ None
      → (table x ≡ Nowhere → ⊥) → find_row x s' ≡ None
  row_grows s' new x none some = of (new x none)
    where
      of : (find_row x s' ≡ None) ⊎ (x ≡ next_id s) → find_row x s' ≡ None
      of (inl k) = k
      of (inr k) = absurd (some (told.given x s (ap (λ (i : HostId). slice_get states i.0) (ap (λ (i : Request). i.host) k ∙ me) ∙ there)
          (let n : x.seq ≡ s.seq + 1 = ap (λ (i : Request). i.seq) k in omega (arith, n))))

  -- a change in a host
  pub host_tabled : (c : Change (List ℕ)) → fits c s ≡ true → IsLowRight c → IsOne c → IsInHost c → IsInOrder (applied c s) → (applied c s).me ≡ s.me
      → GuardsOf states h s c
      → IsTabled (put_state h (applied c s) states) (row_table h (applied c s) table)
  host_tabled c fit right one inside o' me' guards =
      let turn : Turn s (applied c s) (to_move c s) (from_move c) = turn_of c s o calm fit right one (paired.wide h s there) (one_side c s) in
      let new : (x : Request) → find_row x s ≡ None → (find_row x (applied c s) ≡ None) ⊎ (x ≡ next_id s) = λ x none. new_row x none in
      rows_tabled states packets paired h s (applied c s) there (to_move c s) (from_move c) turn guards table told (seq_grows c s fit)
      (λ b n. held_to c s b n inside) (λ a n. held_from c a n inside) (row_grows (applied c s) new) (fresh_row (applied c s) o' me' new)
    where
      new_row : (x : Request) → find_row x s ≡ None → (find_row x (applied c s) ≡ None) ⊎ (x ≡ next_id s)
      new_row x none = by (grows c s x)
        where
          by : (after c s x None ≡ None) ⊎ IsNew c s x → (find_row x (applied c s) ≡ None) ⊎ (x ≡ next_id s)
          by (inl k) = inl (row_after x c s o fit ∙ (ap (after c s x) none ∙ k))
          by (inr k) = inr (host_new c s x inside k)

-- silent offers that are taken back one after the other
pub silent_tabled : (until : ℕ) (ks : List PeerNumber) (states : List Plain) (packets : List Message) (h : HostId) (s : Plain) → At states h s → s.me ≡ h
    → IsInOrder s → IsConsistent s → list_all (λ k. not_committed (find_hand k.peer k.number s)) ks ≡ true → IsPaired states packets
    → (table : Table) → IsTabled states table → IsTabled (put_state h (hands_silent until ks s) states) (row_table h (hands_silent until ks s) table)
silent_tabled until [] states packets h s there me o calm fit k table told =
    same_table (put_state h s states) table (row_table h s table) (λ x. sym
    (ap (λ y. updated h y (table x)) (told.rows h s there x) ∙ updated_same h (table x)))
    (subst (λ l. IsTabled l table) (sym (put-same h.0 s states there)) told)
silent_tabled until (n ∷ ks) states packets h s there me o calm fit k table told =
    let p = and_parts (not_committed (find_hand n.peer n.number s)) (list_all (λ l. not_committed (find_hand l.peer l.number s)) ks) fit in
    of (find_hand n.peer n.number s) refl p.0 p.1 (silent_tabled until ks)
  where
    of : (x : Option Hand) → find_hand n.peer n.number s ≡ x → not_committed x ≡ true → list_all (λ l. not_committed (find_hand l.peer l.number s)) ks ≡ true
        → ((states : List Plain) (packets : List Message) (h : HostId) (s : Plain) → At states h s → s.me ≡ h → IsInOrder s → IsConsistent s
        → list_all (λ k. not_committed (find_hand k.peer k.number s)) ks ≡ true → IsPaired states packets → (table : Table) → IsTabled states table
        → IsTabled (put_state h (hands_silent until ks s) states) (row_table h (hands_silent until ks s) table))
        → IsTabled (put_state h (hands_silent until ks (hand_silent until n x s)) states) (row_table h (hands_silent until ks (hand_silent until n x s)) table)
    of None e opens rest again = again states packets h s there me o calm rest k table told
    of (Some y) e opens rest again =
        let u : Plain = hand_silent until n (Some y) s in
        let z : Plain = hands_silent until ks u in
        let to : HostId → ℕ → Move = λ b i. if has_number_key b i n then Withdraws else Stays in
        let from : HostId → ℕ → Move = λ a i. Stays in
        let turn : Turn s u to from = silent_turn until s o calm (k.wide h s there) n y e opens in
        let guards = silent_guards until states packets h s there o k n y e opens in
        let new : (x : Request) → find_row x s ≡ None → (find_row x u ≡ None)
        ⊎ (x ≡ next_id s) = λ x none. inl (silent_found x until n (Some y) s (keys_are s o.keys).rows ∙ gone x none) in
        let o' = silent_one s o n y e opens until in
        let first = rows_tabled states packets k h s u there to from turn guards table told (omega arith)
        (λ b i. held_or (has_number_key b i n) Withdraws tt) (λ a i. tt)
        (row_grows states packets k h s there me o calm table told u new) (fresh_row states packets k h s there me o calm table told u o' refl new) in
        let rest_told = again (put_state h u states) packets h u (get-here h.0 u s states there) me o' (silent_calm_one s o calm n y e opens until)
        (list_all-weaker (λ l. not_committed (find_hand l.peer l.number s)) (λ l. not_committed (find (is_hand l) (without_first (is_hand n) s.hands)))
        (λ l. still_offered s o n l) ks rest) (turn_paired states packets h s u there to from turn guards k) (row_table h u table) first in
        same_table (put_state h z states) (row_table h z (row_table h u table)) (row_table h z table)
        (λ x. updated_twice h (find_row x u) (find_row x z) (table x))
        (subst (λ l. IsTabled l (row_table h z (row_table h u table))) (put_twice h.0 (λ _. u) z states) rest_told)
      where
        gone : (x : Request) → find_row x s ≡ None → changed_at y.id requeued_row x (find_row x s) ≡ None
        gone x none = ap (changed_at y.id requeued_row x) none ∙ changed_none y.id requeued_row x
