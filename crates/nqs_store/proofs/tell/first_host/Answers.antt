use Rattle.std.proofs.Common.{◌≡◌, ◌∙◌, true, [], refl, ap, sym, subst, Ok, Some, None}
use Rattle.nqs_changes.specs.Running.{runs_only}
use Rattle.nqs_store.specs.Told.{read_taken}
use Rattle.nqs_store.specs.Sound.{IsSoundHost}
use Rattle.nqs_records.specs.Changes.{MayStand}
use Rattle.nqs_store.proofs.Formatted.{formatted_sound}
use Rattle.nqs_store.proofs.tell.first_host.Goals as goal

pub returns-in-Site-clause-told : goal.returns-in-Site-clause-told
returns-in-Site-clause-told c =
    let read = c.in_ok-me.ensures.ok in
    let is = c.in-Site.is in
    let now = c.in_ok-formatted-in-Site.ensures in
    record {
      ok = (
        ap (λ r. read_taken r None) (read.0 ∙ ap Ok is) ∙ ap Some (sym now),
        subst IsSoundHost (sym now) (formatted_sound c.in-Site.me c.in-Site.site (subst MayStand is read.1)),
      );
      err = tt;
    }

pub returns-in-Site-clause-none : goal.returns-in-Site-clause-none
returns-in-Site-clause-none c = subst (λ s. runs_only [] s ≡ true) (sym c.in_ok-formatted-in-Site.ensures) refl
