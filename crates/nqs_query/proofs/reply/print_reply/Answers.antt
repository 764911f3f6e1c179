use Rattle.std.proofs.Common.{◌≡◌, ◌++◌, ◌∷◌, [], List, ℕ, sym, ap, refl, ◌∙◌, append_assoc}
use Rattle.std.proofs.lemmas.Result.{err_from_is_err_and, on_ok_weaker, on_err_weaker}
use Rattle.nqs_rules.specs.Transcript.{reply_text}
use Rattle.nqs_put.proofs.Fronts.{same_put, first_put, behind_put}
use Rattle.nqs_query.specs.Replies.{reply_line}
use Rattle.nqs_query.proofs.Lines.{one_line}
use Rattle.nqs_query.proofs.reply.print_reply.Goals as goal

pub returns-in_err-put_one_line-clause-front : goal.returns-in_err-put_one_line-clause-front
returns-in_err-put_one_line-clause-front c =
    let p = err_from_is_err_and c.from_residual.result c.from_residual.ensures.1 in
    let site = c.args.site.now in
    let reply = c.args.reply.now in
    rw p.1 (same_put _ (reply_line site reply ++ 10 ∷ []) (reply_text site reply) _ (sym (one_line site reply c.in_default.not-Lines))
    (first_put _ (reply_line site reply) (10 ∷ []) _ c.in_err-put_one_line.ensures.front))

pub returns-clause-put : goal.returns-clause-put
returns-clause-put c =
    let site = c.args.site.now in
    let reply = c.args.reply.now in
    on_ok_weaker c.put_line_end.result
    (λ put. put ∙ ap (λ (l : List ℕ). l ++ 10 ∷ []) c.in_ok-put_one_line.ensures.put
    ∙ append_assoc c.args.out.now.items (reply_line site reply) (10 ∷ [])
    ∙ ap (λ (l : List ℕ). c.args.out.now.items ++ l) (sym (one_line site reply c.in_default.not-Lines)))
    c.put_line_end.ensures.put

pub returns-clause-front : goal.returns-clause-front
returns-clause-front c =
    let site = c.args.site.now in
    let reply = c.args.reply.now in
    on_err_weaker c.put_line_end.result
    (λ by. same_put _ (reply_line site reply ++ 10 ∷ []) (reply_text site reply) _ (sym (one_line site reply c.in_default.not-Lines))
    (behind_put c.args.out.now.items (reply_line site reply) (10 ∷ []) c.put_one_line.new.out.items c.put_line_end.new.out.items
    c.in_ok-put_one_line.ensures.put by))
    c.put_line_end.ensures.front
