use Rattle.std.proofs.Common.{◌≡◌, ℕ, List, ◌++◌, codes, ap, ◌∙◌}
use Rattle.std.proofs.lemmas.List.{append-nil}
use Rattle.std.proofs.lemmas.Result.{err_from_is_err_and, on_err_weaker}
use Rattle.std.specs.Option.{option_copied}
use Rattle.nqs_put.proofs.Fronts.{same_put, first_put, behind_put, behind_two}
use Rattle.nqs_rules.specs.Why.{forms_text}
use Rattle.nqs_reasons.proofs.text.put_no_device.Goals as goal

pub returns-in_err-put_about-clause-front : goal.returns-in_err-put_about-clause-front
returns-in_err-put_about-clause-front c =
    let p = err_from_is_err_and c.from_residual.result c.from_residual.ensures.1 in
    let about = codes "no device of queue " ++ c.args.queue.now in
    let forms = forms_text (option_copied c.args.forms) in
    rw p.1 (first_put _ (about ++ forms) (codes " is free") _
    (first_put _ about forms _ (same_put _ _ about _ (append-nil about) c.in_err-put_about.ensures.front)))

pub returns-in_err-put_forms-clause-front : goal.returns-in_err-put_forms-clause-front
returns-in_err-put_forms-clause-front c =
    let p = err_from_is_err_and c.from_residual-in_err-put_forms.result c.from_residual-in_err-put_forms.ensures.1 in
    let about = codes "no device of queue " ++ c.args.queue.now in
    let forms = forms_text (option_copied c.args.forms) in
    let whole : c.put_about.new.out.items ≡ c.args.out.now.items ++ about =
    c.in_ok-put_about.ensures.put ∙ ap (λ (l : List ℕ). c.args.out.now.items ++ l) (append-nil about) in
    rw p.1 (first_put _ (about ++ forms) (codes " is free") _ (behind_put _ about forms _ _ whole c.in_err-put_forms.ensures.front))

pub returns-clause-front : goal.returns-clause-front
returns-clause-front c =
    let about = codes "no device of queue " ++ c.args.queue.now in
    let forms = forms_text (option_copied c.args.forms) in
    let whole : c.put_about.new.out.items ≡ c.args.out.now.items ++ about =
    c.in_ok-put_about.ensures.put ∙ ap (λ (l : List ℕ). c.args.out.now.items ++ l) (append-nil about) in
    on_err_weaker c.put_text.result
    (behind_two c.args.out.now.items about forms (codes " is free") c.put_about.new.out.items c.put_forms.new.out.items c.put_text.new.out.items
    whole c.in_ok-put_forms.ensures.put)
    c.put_text.ensures.front
