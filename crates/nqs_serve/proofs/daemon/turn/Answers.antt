use Rattle.std.proofs.Common.{◌≡◌, ℕ, refl, ap, sym, subst, ◌∙◌, ◌++◌, [], ◌∷◌, List, length, map, arith, inl, inr, Some, None, Err, IsTrue}
use Rattle.std.specs.Option.{option_to_list}
use Rattle.nqs_rules.specs.Sane.{is_sane_event}
use Rattle.nqs_rules.specs.Stepped.{Stepped}
use Rattle.nqs_node.specs.Carried.{Kept}
use Rattle.nqs_serve.specs.Events.{Here, stops_by}
use Rattle.nqs_serve.specs.Gathers.{heard, taken_by, IfTaken}
use Rattle.nqs_serve.specs.Keeping.{Keeps, KeepsTill, KeptBehind}
use Rattle.nqs_serve.specs.Steps.{after_event, calls}
use Rattle.nqs_serve.specs.Runs.{received, took, turn, idle, none_begun, begun, event_back, run_calls}
use Rattle.nqs_serve.specs.Ends.{Ends, Receives, stops, cuts_off}
use Rattle.nqs_serve.proofs.Acts.{ran_received, ran_cut, ran_then, tended_grew, ran_turn, turn_stops, turn_calls, one_heard}
use Rattle.nqs_serve.proofs.Ending.{one_receive, cut_ends, cut_early, disk_cut, wire_no_disk, memory_no_disk}
use Rattle.nqs_serve.proofs.Tellings.{adds_none}
use Rattle.nqs_serve.proofs.Keeping.{kept_none, kept_both, kept_then, behind_both}
use Rattle.nqs_serve.proofs.Leaving.{none_left, then_left, left_as, left_by, no_error}
use Rattle.nqs_serve.specs.Sends.{is_right_event}
use Rattle.nqs_serve.proofs.daemon.turn.Goals as goal

pub returns-in-Ok-Ignored-clause-ok : goal.returns-in-Ok-Ignored-clause-ok
returns-in-Ok-Ignored-clause-ok g c = λ s here knows same.
    let came = c.in-Ok-Ignored.ensures.came in
    let at : List (List ℕ) → Here = λ names. record { me = c.args.me; site = names } in
    let is_here : at c.as_slice-site.result.now ≡ here = ap at (c.as_slice-site.ensures ∙ ap (λ h. h.site) c.state.ensures) ∙ sym same in
    let g0 = c.args.room.now.gather in
    let none : None ≡ (heard here g0 came.0).event = sym (ap taken_by c.in-Ok-Ignored.field-0-is) ∙ came.1 ∙ ap (λ h. (heard h g0 came.0).event) is_here in
    let were = one_heard here g0 _ came.0 None [] none (came.2 ∙ ap (λ h. (heard h g0 came.0).gathered) is_here) refl in (
      received came.0 None ∷ [],
      s,
      knows,
      refl,
      were.0,
      were.1,
      ran_received here s came.0 None _ _ (tended_grew here came.0 None _ _ _ came.3 c.ignored.ensures.asked),
      kept_none c.args.node.now s knows,
    )

pub returns-in-Ok-Piece-clause-ok : goal.returns-in-Ok-Piece-clause-ok
returns-in-Ok-Piece-clause-ok g c = λ s here knows same.
    let came = c.in-Ok-Piece.ensures.came in
    let at : List (List ℕ) → Here = λ names. record { me = c.args.me; site = names } in
    let is_here : at c.as_slice-site.result.now ≡ here = ap at (c.as_slice-site.ensures ∙ ap (λ h. h.site) c.state.ensures) ∙ sym same in
    let g0 = c.args.room.now.gather in
    let none : None ≡ (heard here g0 came.0).event = sym (ap taken_by c.in-Ok-Piece.field-0-is) ∙ came.1 ∙ ap (λ h. (heard h g0 came.0).event) is_here in
    let were = one_heard here g0 _ came.0 None [] none (came.2 ∙ ap (λ h. (heard h g0 came.0).gathered) is_here) refl in (
      received came.0 None ∷ [],
      s,
      knows,
      refl,
      were.0,
      were.1,
      ran_received here s came.0 None _ _ (tended_grew here came.0 None _ _ _ came.3 (adds_none _)),
      kept_none c.args.node.now s knows,
    )

pub returns-in-Err-Wire-clause-err : goal.returns-in-Err-Wire-clause-err
returns-in-Err-Wire-clause-err g c = λ s here knows same.
    let lost = c.in-Err-Wire.ensures.lost (ap Err c.in-Err-Wire.field-0-is) in
    let kept = kept_none c.args.node.now s knows in (
      [],
      idle s,
      none_begun,
      tt,
      ran_cut here (idle s) none_begun _ _ lost.0,
      (refl, refl, knows.1, refl, omega arith, kept.0),
    )

pub returns-in-Err-Memory-clause-err : goal.returns-in-Err-Memory-clause-err
returns-in-Err-Memory-clause-err g c = λ s here knows same.
    let came = c.in-Err-Memory.ensures.cut (ap Err c.in-Err-Memory.field-0-is) in
    let kept = kept_none c.args.node.now s knows in
    let e = (heard here c.args.room.now.gather came.0).event in (
      received came.0 e ∷ [],
      turn s (option_to_list e),
      none_begun,
      (refl, tt),
      ran_received here s came.0 e _ _ came.1,
      ((s, knows.1, inl (refl, refl, kept.0)), one_receive (stops_by e s)),
    )

pub take_event-taken-requires-clause-sane : goal.take_event-taken-requires-clause-sane
take_event-taken-requires-clause-sane g c =
    let some : IsTrue (is_sane_event (length c.as_slice-site.result.now) c.in-Ok-Event.event) =
    subst (λ o. IfTaken o (λ e. IsTrue (is_sane_event (length c.as_slice-site.result.now) e))) c.in-Ok-Event.field-0-is c.in-Ok-Event.ensures.sane in
    subst (λ (names : List (List ℕ)). IsTrue (is_sane_event (length names) c.in-Ok-Event.event))
    (c.as_slice-site.ensures ∙ ap (λ h. h.site) c.state.ensures) some

pub take_event-taken-requires-clause-right : goal.take_event-taken-requires-clause-right
take_event-taken-requires-clause-right g c =
    let some : IsTrue (is_right_event (length c.as_slice-site.result.now) c.in-Ok-Event.event) =
    subst (λ o. IfTaken o (λ e. IsTrue (is_right_event (length c.as_slice-site.result.now) e))) c.in-Ok-Event.field-0-is c.in-Ok-Event.ensures.right in
    subst (λ (names : List (List ℕ)). IsTrue (is_right_event (length names) c.in-Ok-Event.event))
    (c.as_slice-site.ensures ∙ ap (λ h. h.site) c.state.ensures) some

pub returns-in-Err-clause-err : goal.returns-in-Err-clause-err
returns-in-Err-clause-err g c = λ s here knows same.
    let e = c.in-Ok-Event.event in
    let came = c.in-Ok-Event.ensures.came in
    let at : List (List ℕ) → Here = λ names. record { me = c.args.me; site = names } in
    let is_here : at c.as_slice-site.result.now ≡ here = ap at (c.as_slice-site.ensures ∙ ap (λ h. h.site) c.state.ensures) ∙ sym same in
    let g0 = c.args.room.now.gather in
    let some : Some e ≡ (heard here g0 came.0).event = sym (ap taken_by c.in-Ok-Event.field-0-is) ∙ came.1 ∙ ap (λ h. (heard h g0 came.0).event) is_here in
    let cut = c.in-Err.ensures.cut s here knows same in
    let bs = stops_by (Some e) s ∷ [] in
    let old = c.args.node.now in
    let new = c.take_event-taken.new.node in
    let t = turn s (e ∷ []) in (
      received came.0 (Some e) ∷ [],
      t,
      begun cut.0 cut.1,
      (some, tt),
      ran_then here (received came.0 (Some e) ∷ []) [] (idle s) t _ (begun cut.0 cut.1) _ _ _
          (ran_received here s came.0 (Some e) _ _ (tended_grew here came.0 (Some e) _ _ _ came.3 c.tend_at.ensures.asked))
          (ran_cut here t (begun cut.0 cut.1) _ _ cut.4),
      subst (λ f. Ends old s [] f 1 bs t (begun cut.0 cut.1) new) (sym c.end_of.ensures)
          (cut_ends c.in-Err.cut bs t (begun cut.0 cut.1) old new s [] (KeepsTill old new s) (λ done failed kept. kept)
          (λ memory. let known = cut.2 (ap Err memory) in (known.1.0, known.1.1.1, inr (e, [], cut.0, refl, ap (begun cut.0) known.0, known.1.2)))
          (λ which disk. (e, [], cut.0, cut.1, refl, refl, cut.3 which (ap Err disk)))
          (one_receive (stops_by (Some e) s))),
    )

pub returns-in-Err-take_back-clause-err : goal.returns-in-Err-take_back-clause-err
returns-in-Err-take_back-clause-err g c = λ s here knows same.
    let e = c.in-Ok-Event.event in
    let came = c.in-Ok-Event.ensures.came in
    let at : List (List ℕ) → Here = λ names. record { me = c.args.me; site = names } in
    let is_here : at c.as_slice-site.result.now ≡ here = ap at (c.as_slice-site.ensures ∙ ap (λ h. h.site) c.state.ensures) ∙ sym same in
    let g0 = c.args.room.now.gather in
    let some : Some e ≡ (heard here g0 came.0).event = sym (ap taken_by c.in-Ok-Event.field-0-is) ∙ came.1 ∙ ap (λ h. (heard h g0 came.0).event) is_here in
    let ok = c.in-Ok.ensures.ok s here knows same in
    let cut = c.in-Err-take_back.ensures.cut (after_event ok.0 e s) here ok.3 (same ∙ ap at (sym c.in-Ok.ensures.leaves.site)) in
    let acts = received came.0 (Some e) ∷ took ok.0 ok.1 ∷ cut.0 in
    let one = turn_stops here s came.0 (Some e) ok.0 ok.1 cut.0 cut.3 in
    let bs = stops here (idle s) acts in
    let old = c.args.node.now in
    let mid = c.take_event-taken.new.node in
    let new = c.take_back.new.node in
    let back = c.take_event-taken.new.outbox.back.items in
    let ys = run_calls here (turn (after_event ok.0 e s) (map event_back back)) cut.0 in
    let xs = run_calls here (idle s) acts in
    let all : xs ≡ calls ok.0 e s ++ ys = turn_calls here came.0 ok.0 ok.1 cut.0 s e c.clear.new.self.items back c.clear.ensures.items ok.2 in
    let lift : (done : List (Stepped (List ℕ))) (failed : Kept) → KeptBehind mid new (after_event ok.0 e s) ys done failed
    → KeptBehind old new s xs done failed =
    λ done failed kept.
    behind_both old new s xs (calls ok.0 e s) ys done failed all (kept_then old mid new s (calls ok.0 e s) (ys ++ done) failed ok.6 kept) in (
      acts,
      cut.1,
      cut.2,
      (one_heard here g0 _ came.0 (Some e) (took ok.0 ok.1 ∷ cut.0) some refl cut.3).0,
      ran_turn here came.0 ok.0 ok.1 cut.0 s e c.clear.new.self.items _ cut.1 cut.2 _ _ _ _ c.clear.ensures.items ok.2 ok.4
          (tended_grew here came.0 (Some e) _ _ _ came.3 c.tend_at.ensures.asked) ok.5 cut.6,
      subst (λ f. Ends old s xs f 1 bs cut.1 cut.2 new) (sym c.end_of-in-Err-take_back.ensures)
          (cut_ends c.in-Err-take_back.cut bs cut.1 cut.2 old new s xs (KeptBehind mid new (after_event ok.0 e s) ys) lift
          (λ memory. let known = cut.4 (ap Err memory) in (known.0, known.1.1, known.2))
          (λ which disk. cut.5 which (ap Err disk))
          (subst (λ l. Receives 1 l) (sym one) (one_receive (stops_by (Some e) s)))),
    )

-- a cut is the end

pub returns-in-Err-clause-early : goal.returns-in-Err-clause-early
returns-in-Err-clause-early g c = subst (λ f. IsTrue (cuts_off f)) (sym c.end_of.ensures) (cut_early c.in-Err.cut)

pub returns-in-Err-take_back-clause-early : goal.returns-in-Err-take_back-clause-early
returns-in-Err-take_back-clause-early g c = subst (λ f. IsTrue (cuts_off f)) (sym c.end_of-in-Err-take_back.ensures) (cut_early c.in-Err-take_back.cut)

-- what each way out leaves

pub returns-in-Ok-Ignored-clause-leaves : goal.returns-in-Ok-Ignored-clause-leaves
returns-in-Ok-Ignored-clause-leaves g c = none_left _ _ _ (λ which. no_error _ _) c.requires.sound c.requires.running

pub returns-in-Ok-Piece-clause-leaves : goal.returns-in-Ok-Piece-clause-leaves
returns-in-Ok-Piece-clause-leaves g c = none_left _ _ _ (λ which. no_error _ _) c.requires.sound c.requires.running

pub returns-in-Err-Wire-clause-leaves : goal.returns-in-Err-Wire-clause-leaves
returns-in-Err-Wire-clause-leaves g c = none_left _ _ _ wire_no_disk c.requires.sound c.requires.running

pub returns-in-Err-Memory-clause-leaves : goal.returns-in-Err-Memory-clause-leaves
returns-in-Err-Memory-clause-leaves g c = none_left _ _ _ (memory_no_disk _) c.requires.sound c.requires.running

pub returns-in-Err-clause-leaves : goal.returns-in-Err-clause-leaves
returns-in-Err-clause-leaves g c = left_by _ _ _ _ _ _ (λ which is. disk_cut which c.in-Err.cut (sym c.end_of.ensures ∙ is)) c.in-Err.ensures.leaves

pub returns-in-Err-take_back-clause-leaves : goal.returns-in-Err-take_back-clause-leaves
returns-in-Err-take_back-clause-leaves g c =
    left_by _ _ _ _ _ _ (λ which is. disk_cut which c.in-Err-take_back.cut (sym c.end_of-in-Err-take_back.ensures ∙ is))
    (then_left _ _ _ _ _ _ c.in-Ok.ensures.leaves c.in-Err-take_back.ensures.leaves)

pub returns-clause-leaves : goal.returns-clause-leaves
returns-clause-leaves g c = left_as _ _ _ _ _ _ (λ which. no_error _ _) (then_left _ _ _ _ _ _ c.in-Ok.ensures.leaves c.in_default.ensures.leaves)

pub returns-clause-ok : goal.returns-clause-ok
returns-clause-ok g c = λ s here knows same.
    let e = c.in-Ok-Event.event in
    let came = c.in-Ok-Event.ensures.came in
    let at : List (List ℕ) → Here = λ names. record { me = c.args.me; site = names } in
    let is_here : at c.as_slice-site.result.now ≡ here = ap at (c.as_slice-site.ensures ∙ ap (λ h. h.site) c.state.ensures) ∙ sym same in
    let g0 = c.args.room.now.gather in
    let some : Some e ≡ (heard here g0 came.0).event = sym (ap taken_by c.in-Ok-Event.field-0-is) ∙ came.1 ∙ ap (λ h. (heard h g0 came.0).event) is_here in
    let ok = c.in-Ok.ensures.ok s here knows same in
    let rest = c.in_default.ensures.ok (after_event ok.0 e s) here ok.3 (same ∙ ap at (sym c.in-Ok.ensures.leaves.site)) in
    let old = c.args.node.now in
    let mid = c.take_event-taken.new.node in
    let new = c.take_back.new.node in
    let back = c.take_event-taken.new.outbox.back.items in
    let ys = run_calls here (turn (after_event ok.0 e s) (map event_back back)) rest.0 in
    let grown = came.2 ∙ ap (λ h. (heard h g0 came.0).gathered) is_here in
    let were = one_heard here g0 _ came.0 (Some e) (took ok.0 ok.1 ∷ rest.0) some grown rest.2 in (
      received came.0 (Some e) ∷ took ok.0 ok.1 ∷ rest.0,
      rest.1,
      rest.3,
      turn_stops here s came.0 (Some e) ok.0 ok.1 rest.0 rest.2 ∙ ap (λ b. b ∷ []) (sym (c.in-Ok.ensures.halts s knows)),
      were.0,
      were.1,
      ran_turn here came.0 ok.0 ok.1 rest.0 s e c.clear.new.self.items _ (idle rest.1) none_begun _ _ _ _ c.clear.ensures.items ok.2 ok.4
          (tended_grew here came.0 (Some e) _ _ _ came.3 c.tend_at.ensures.asked) ok.5 rest.4,
      subst (λ (l : List (Stepped (List ℕ))). Keeps old new s l)
          (sym (turn_calls here came.0 ok.0 ok.1 rest.0 s e c.clear.new.self.items back c.clear.ensures.items ok.2))
          (kept_both old mid new s (calls ok.0 e s) ys ok.6 rest.5),
    )
