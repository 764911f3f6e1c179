use Rattle.std.proofs.Common.{rules, ◌≡◌, ◌∙◌, ◌++◌, Some, ap, subst}
use Rattle.nqs_state.specs.State.{content}
use Rattle.nqs_spool.specs.Extents.{AreSound}
use Rattle.nqs_store.specs.Live.{live}
use Rattle.nqs_store.specs.Told.{told_by}
use Rattle.nqs_store.proofs.reading.reread_host.Goals as goal

pub returns : goal.returns
returns g c = record {
  host = record {
    found = λ told.
        let f = c.in-Ok.ensures.stands told in
        let host = content c.in_ok-state-in-Ok.state in
        let front = c.deref.ensures.value ∙ f.5 ∙ ap (λ l. l ++ f.1) c.new-snapshot.ensures.items in
        let all = c.deref-in-Ok.ensures.value ∙ f.6 ∙ ap (λ l. l ++ f.2) c.new-found.ensures.items in
        let e = c.in_ok-state-in-Ok.ensures.read.extents in
        record {
          form = f.0;
          snapshot = f.1;
          payloads = f.2;
          stands = f.4;
          tells = subst (λ v. told_by v f.1 f.2 ≡ Some host) f.3 (subst (λ s. told_by c.in-Ok.version s f.2 ≡ Some host) front
              (subst (λ ps. told_by c.in-Ok.version c.deref.result.now ps ≡ Some host) all c.in_ok-state-in-Ok.ensures.read.host.0));
          sound = subst (λ n. AreSound n (live host)) (e.3 told) e.2;
        };
    sound = search rules;
    extents = search rules;
    fault = λ told. tt;
    failed = search rules;
    active = search rules;
    spool = search rules;
    twice = search rules;
    once = search rules;
  };
  stays = search rules;
  tells = search rules;
  kept = search rules;
}
