use Rattle.std.proofs.Common.{◌∙◌, refl, ap}
use Rattle.std.proofs.lemmas.Result.{err_from_is_err_and}
use Rattle.nqs_state.specs.State.{content}
use Rattle.nqs_rules.specs.Filled.{filled}
use Rattle.nqs_store.specs.Active.{ready, recorded}
use Rattle.nqs_store.specs.Stores.{history_of}
use Rattle.nqs_store.specs.declared.fault.StoreFault.TheVariants.{Disk, Stopped}
use Rattle.nqs_store.proofs.Kept.{idle_commits, only_memory}
use Rattle.nqs_store.proofs.Rooms.{same_histories}
use Rattle.nqs_store.proofs.EachDisk.{each_disk}
use Rattle.nqs_store.proofs.Asking.{none_same, none_after}
use Rattle.nqs_store.proofs.Prepared.{tells_same, is_left, stops_from, keeps_from, spelled_from, commits_from}
use Rattle.nqs_store.proofs.store.Store.commit.Goals as goal

pub returns-then-self-clause-calls : goal.returns-then-self-clause-calls
returns-then-self-clause-calls g c = idle_commits c.args.self.now c.args.self.now c.args.change.now c.args.puts.now (content c.args.state.now) Disk Stopped
    (λ w. refl) (λ which is. let no : ⊥ = cc in no)

pub returns-in_err-text-clause-memory : goal.returns-in_err-text-clause-memory
returns-in_err-text-clause-memory g c = λ is. (
  is_left c.args.self.now _ refl refl refl refl c.prepared.ensures.same refl
      (λ host tells. tells_same c.args.self.now _ refl refl refl refl c.prepared.ensures.same host c.prepared.ensures.tells tells),
  refl,
)

pub returns-in_err-text-clause-calls : goal.returns-in_err-text-clause-calls
returns-in_err-text-clause-calls g c =
    let o = c.args.self.now in
    let p = err_from_is_err_and c.from_residual.result c.from_residual.ensures.1 in
    rw p.1 (idle_commits o _ c.args.change.now c.args.puts.now (content c.args.state.now) Disk _
    (same_histories (history_of o) _ refl refl refl (ap g.D.Disk.history c.prepared.ensures.same)) (only_memory _ (p.2 ∙ c.in_err-text.ensures.fault)))

pub returns-clause-stops : goal.returns-clause-stops
returns-clause-stops g c = stops_from c.args.self.now _ refl refl refl refl c.prepared.ensures.same Disk c.keep.result c.keep.new.self c.keep.ensures.stops

pub returns-clause-keeps : goal.returns-clause-keeps
returns-clause-keeps g c =
    let o = c.args.self.now in
    let host = content c.args.state.now in
    keeps_from o _ refl refl refl refl c.prepared.ensures.same Disk c.keep.result c.keep.new.self c.args.change.now c.args.puts.now host
    (tells_same o _ refl refl refl refl c.prepared.ensures.same host c.prepared.ensures.tells) c.keep.new.change (λ a. recorded (ready a)) c.keep.ensures.keeps

pub returns-clause-calls : goal.returns-clause-calls
returns-clause-calls g c =
    let o = c.args.self.now in
    let host = content c.args.state.now in
    commits_from o _ refl refl refl refl c.prepared.ensures.same Disk c.keep.result c.keep.new.self c.args.change.now c.args.puts.now host
    (tells_same o _ refl refl refl refl c.prepared.ensures.same host c.prepared.ensures.tells) c.keep.ensures.calls

pub returns-in_err-text-clause-spelled : goal.returns-in_err-text-clause-spelled
returns-in_err-text-clause-spelled g c = λ told tells.
    let p = err_from_is_err_and c.from_residual.result c.from_residual.ensures.1 in
    rw p.1 tt

pub returns-clause-spelled : goal.returns-clause-spelled
returns-clause-spelled g c =
    let o = c.args.self.now in
    let host = content c.args.state.now in
    spelled_from o _ refl refl refl refl c.prepared.ensures.same Disk c.keep.result c.keep.new.self c.args.change.now c.args.puts.now host
    (tells_same o _ refl refl refl refl c.prepared.ensures.same host c.prepared.ensures.tells) (filled c.args.change.now c.args.puts.now)
    c.keep.ensures.spelled

pub returns-in_err-text-clause-unread : goal.returns-in_err-text-clause-unread
returns-in_err-text-clause-unread g c = none_same c.args.self.now _ (each_disk _ refl refl refl c.prepared.ensures.same)

pub returns-clause-unread : goal.returns-clause-unread
returns-clause-unread g c = none_after c.args.self.now _ c.keep.new.self c.keep.ensures.unread (each_disk _ refl refl refl c.prepared.ensures.same)

pub returns-then-self-clause-unread : goal.returns-then-self-clause-unread
returns-then-self-clause-unread g c = λ yes which. refl
