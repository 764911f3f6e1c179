use Rattle.std.proofs.Common.{◌++◌, ap, ◌∙◌, List, ℕ}
use Rattle.std.specs.Prelude.{codes}
use Rattle.std.proofs.lemmas.Result.{err_from_is_err_and, on_err_weaker}
use Rattle.nqs_rules.specs.Text.{id_text}
use Rattle.nqs_put.proofs.Fronts.{same_put, first_put, behind_two}
use Rattle.nqs_query.proofs.Texts.{behind_three, behind_four}
use Rattle.nqs_query.proofs.reply.put_submitted.Goals as goal

pub returns-in_err-put_text-clause-front : goal.returns-in_err-put_text-clause-front
returns-in_err-put_text-clause-front c =
    let p = err_from_is_err_and c.from_residual.result c.from_residual.ensures.1 in
    let id = id_text c.args.site.now c.args.id in
    let word = codes "Request " in
    let to = codes " submitted to queue: " in
    rw p.1 (first_put _ (word ++ id ++ to ++ c.args.queue.now) (codes ".") _ (first_put _ (word ++ id ++ to) c.args.queue.now _
    (first_put _ (word ++ id) to _ (first_put _ word id _ c.in_err-put_text.ensures.front))))

pub returns-in_err-put_text-2-clause-front : goal.returns-in_err-put_text-2-clause-front
returns-in_err-put_text-2-clause-front c =
    let p = err_from_is_err_and c.from_residual-in_err-put_text-2.result c.from_residual-in_err-put_text-2.ensures.1 in
    let id = id_text c.args.site.now c.args.id in
    let word = codes "Request " in
    let to = codes " submitted to queue: " in
    rw p.1 (first_put _ (word ++ id ++ to ++ c.args.queue.now) (codes ".") _ (first_put _ (word ++ id ++ to) c.args.queue.now _
    (behind_two c.args.out.now.items word id to c.put_text.new.out.items c.put_id.new.out.items c.put_text-2.new.out.items
    c.in_ok-put_text.ensures.put c.in_ok-put_id.ensures.put c.in_err-put_text-2.ensures.front)))

pub returns-in_err-put_text-3-clause-front : goal.returns-in_err-put_text-3-clause-front
returns-in_err-put_text-3-clause-front c =
    let p = err_from_is_err_and c.from_residual-in_err-put_text-3.result c.from_residual-in_err-put_text-3.ensures.1 in
    let id = id_text c.args.site.now c.args.id in
    let word = codes "Request " in
    let to = codes " submitted to queue: " in
    rw p.1 (first_put _ (word ++ id ++ to ++ c.args.queue.now) (codes ".") _
    (behind_three c.args.out.now.items word id to c.args.queue.now c.put_text.new.out.items c.put_id.new.out.items c.put_text-2.new.out.items
    c.put_text-3.new.out.items c.in_ok-put_text.ensures.put c.in_ok-put_id.ensures.put c.in_ok-put_text-2.ensures.put
    (same_put _ c.as_bytes.result.now c.args.queue.now _ c.as_bytes.ensures.bytes c.in_err-put_text-3.ensures.front)))

pub returns-clause-front : goal.returns-clause-front
returns-clause-front c =
    let id = id_text c.args.site.now c.args.id in
    let word = codes "Request " in
    let to = codes " submitted to queue: " in
    on_err_weaker c.put_text-4.result
    (behind_four c.args.out.now.items word id to c.args.queue.now (codes ".") c.put_text.new.out.items c.put_id.new.out.items
    c.put_text-2.new.out.items c.put_text-3.new.out.items c.put_text-4.new.out.items c.in_ok-put_text.ensures.put c.in_ok-put_id.ensures.put
    c.in_ok-put_text-2.ensures.put
    (c.in_ok-put_text-3.ensures.put ∙ ap (λ (l : List ℕ). c.put_text-2.new.out.items ++ l) c.as_bytes.ensures.bytes))
    c.put_text-4.ensures.front
