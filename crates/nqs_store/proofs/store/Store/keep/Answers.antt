use Rattle.std.proofs.Common.{◌∙◌, sym, subst}
use Rattle.nqs_state.specs.State.{content}
use Rattle.nqs_snapshot.specs.Spelling.{state_field}
use Rattle.nqs_store.specs.Steps.{IsTextOf}
use Rattle.nqs_store.specs.declared.fault.StoreFault.TheVariants.{Disk}
use Rattle.nqs_rules.specs.Filled.{filled}
use Rattle.nqs_store.proofs.Composed.{here_spelled, there_spelled}
use Rattle.nqs_store.proofs.Kept.{idle_commits, turn_commits, here_commits, here_keeps, there_commits, there_keeps, stops_since}
use Rattle.nqs_store.proofs.Asking.{none_then}
use Rattle.nqs_store.proofs.store.Store.keep.Goals as goal
use Rattle.nqs_store.proofs.store.Store.keep.Goals.{After-turn_over}
use Rattle.nqs_store.proofs.store.Store.keep.Given.{Over}

pub returns-then-not-due-clause-keeps : goal.returns-then-not-due-clause-keeps
returns-then-not-due-clause-keeps g c = here_keeps c.args.self.now c.keep_change.new.self c.args.change.now c.args.puts.now (content c.args.state.now) Disk
    c.keep_change.result c.keep_change.new.change (sym c.due.ensures ∙ c.if-not-due.true) c.keep_change.ensures.keeps

pub returns-then-not-due-clause-calls : goal.returns-then-not-due-clause-calls
returns-then-not-due-clause-calls g c = here_commits c.args.self.now c.keep_change.new.self c.args.change.now c.args.puts.now (content c.args.state.now) Disk
    c.keep_change.result (sym c.due.ensures ∙ c.if-not-due.true) c.keep_change.ensures.calls

pub returns-in-Err-clause-calls : goal.returns-in-Err-clause-calls
returns-in-Err-clause-calls g c = idle_commits c.args.self.now c.args.self.now c.args.change.now c.args.puts.now (content c.args.state.now) Disk _
    (λ w. Rattle.std.proofs.Common.refl) (λ which is. let no : ⊥ = cc in no)

pub returns-in-Err-turn_over-clause-calls : goal.returns-in-Err-turn_over-clause-calls
returns-in-Err-turn_over-clause-calls g c =
    let host = content c.args.state.now in
    turn_commits c.args.self.now c.turn_over.new.self c.args.change.now c.args.puts.now host Disk _ c.deref.result.now (state_field host)
    (sym c.due.ensures ∙ c.if-not-due.false) (subst (λ t. IsTextOf t (state_field host)) (sym c.deref.ensures.value) c.in-Ok.ensures.text) c.in-Ok.ensures.reads
    c.in-Err-turn_over.ensures.turns

-- the text of the checkpoint is that of the host
text_of : (g : Over) (c : After-turn_over g) → IsTextOf c.deref.result.now (state_field (content c.args.state.now))
text_of g c = subst (λ t. IsTextOf t (state_field (content c.args.state.now))) (sym c.deref.ensures.value) c.in-Ok.ensures.text

pub returns-clause-stops : goal.returns-clause-stops
returns-clause-stops g c =
    let now = c.keep_change-in-Ok-turn_over in
    let t = c.turn_over.ensures.stops in
    stops_since c.args.self.now c.turn_over.new.self now.new.self Disk now.result t.later t.fuse now.ensures.stops

pub returns-clause-keeps : goal.returns-clause-keeps
returns-clause-keeps g c =
    let k = (goal.at.returns-clause-keeps g c).After-turn_over in
    let host = content c.args.state.now in
    let now = c.keep_change-in-Ok-turn_over in
    there_keeps c.args.self.now now.new.self c.args.change.now c.args.puts.now host Disk now.result c.turn_over.new.self c.deref.result.now (state_field host)
    (sym c.due.ensures ∙ c.if-not-due.false) (text_of g k) c.in-Ok.ensures.reads c.in-Ok-turn_over.ensures.turns c.turn_over.ensures.stops.fuse
    now.new.change now.ensures.keeps

pub returns-clause-calls : goal.returns-clause-calls
returns-clause-calls g c =
    let k = (goal.at.returns-clause-calls g c).After-turn_over in
    let host = content c.args.state.now in
    let now = c.keep_change-in-Ok-turn_over in
    there_commits c.args.self.now now.new.self c.args.change.now c.args.puts.now host Disk now.result c.turn_over.new.self c.deref.result.now (state_field host)
    (sym c.due.ensures ∙ c.if-not-due.false) (text_of g k) c.in-Ok.ensures.reads c.in-Ok-turn_over.ensures.turns c.turn_over.ensures.stops.fuse
    now.ensures.calls

pub returns-then-not-due-clause-spelled : goal.returns-then-not-due-clause-spelled
returns-then-not-due-clause-spelled g c = λ told tells.
    here_spelled c.keep_change.result c.args.self.now c.keep_change.new.self (filled c.args.change.now c.args.puts.now)
    (sym c.due.ensures ∙ c.if-not-due.true) (c.keep_change.ensures.spelled told tells)

pub returns-clause-spelled : goal.returns-clause-spelled
returns-clause-spelled g c =
    let k = (goal.at.returns-clause-spelled g c).After-turn_over in
    let host = content c.args.state.now in
    let now = c.keep_change-in-Ok-turn_over in
    let turns = c.in-Ok-turn_over.ensures.turns in
    λ told tells.
    there_spelled now.result c.args.self.now now.new.self (filled c.args.change.now c.args.puts.now) c.turn_over.new.self host (state_field host)
    (sym c.due.ensures ∙ c.if-not-due.false) turns.active (turns.made told (state_field host) host (text_of g k))
    (now.ensures.spelled told (turns.told told (state_field host) host (text_of g k) c.in-Ok.ensures.reads tells))

pub returns-clause-unread : goal.returns-clause-unread
returns-clause-unread g c =
    none_then c.args.self.now c.turn_over.new.self c.keep_change-in-Ok-turn_over.new.self c.turn_over.ensures.unread
    c.keep_change-in-Ok-turn_over.ensures.unread

pub returns-in-Err-clause-unread : goal.returns-in-Err-clause-unread
returns-in-Err-clause-unread g c = λ yes which. Rattle.std.proofs.Common.refl
