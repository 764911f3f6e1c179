use Rattle.std.proofs.Common.{◌≡◌, false, subst}
use Rattle.nqs_journal.specs.Open.{is_stopped}
use Rattle.nqs_store.specs.Stores.{pick}
use Rattle.nqs_store.proofs.Records.{append_done, append_failed}
use Rattle.nqs_store.proofs.record.append_to.Goals as goal

pub returns-in-Ok-clause-appends : goal.returns-in-Ok-clause-appends
returns-in-Ok-clause-appends g c =
    let e = c.in-Ok.ensures in
    rw c.if-on_second.true (append_done c.args.second.now c.append.new.self c.args.text.now
    e.running e.counted e.old e.made e.due e.any_moment e.acknowledged e.fuse e.later e.unread)

pub returns-in-Err-clause-appends : goal.returns-in-Err-clause-appends
returns-in-Err-clause-appends g c =
    let e = c.in-Err.ensures in
    let running = subst (λ b. is_stopped (pick b c.args.first.now c.args.second.now) ≡ false) c.if-on_second.true c.requires.running in
    rw c.if-on_second.true (append_failed c.args.second.now c.append.new.self c.args.text.now _ c.requires.short running c.in-Err.field-0
    e.only e.too_long e.stopped e.disk e.broken e.exact e.any_moment e.until_third e.at_the_gate e.fuse e.later e.unread)

pub returns-in-Ok-append-clause-appends : goal.returns-in-Ok-append-clause-appends
returns-in-Ok-append-clause-appends g c =
    let e = c.in-Ok-append.ensures in
    rw c.if-on_second.false (append_done c.args.first.now c.append-else-on_second.new.self c.args.text.now
    e.running e.counted e.old e.made e.due e.any_moment e.acknowledged e.fuse e.later e.unread)

pub returns-in-Err-append-clause-appends : goal.returns-in-Err-append-clause-appends
returns-in-Err-append-clause-appends g c =
    let e = c.in-Err-append.ensures in
    let running = subst (λ b. is_stopped (pick b c.args.first.now c.args.second.now) ≡ false) c.if-on_second.false c.requires.running in
    rw c.if-on_second.false (append_failed c.args.first.now c.append-else-on_second.new.self c.args.text.now _ c.requires.short running
    c.in-Err-append.field-0 e.only e.too_long e.stopped e.disk e.broken e.exact e.any_moment e.until_third e.at_the_gate e.fuse e.later e.unread)
