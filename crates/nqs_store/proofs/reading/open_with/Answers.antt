use Rattle.std.proofs.Common.{rules, ◌≡◌, ◌∙◌, ◌++◌, ◌≤◌, ◌+◌, Some, length, sym, ap, subst, arith, length-append}
use Rattle.std.specs.List.{AllByRecursion}
use Rattle.nqs_state.specs.State.{content}
use Rattle.nqs_outside.specs.History.{IsQuiet, content as bytes_now}
use Rattle.nqs_outside.specs.Reads.{OnlyReads}
use Rattle.nqs_spool.specs.Extents.{past}
use Rattle.nqs_store.specs.Live.{live}
use Rattle.nqs_store.specs.Told.{told_by}
use Rattle.nqs_store.proofs.reading.open_with.Goals as goal

pub open_rest-requires : goal.open_rest-requires
open_rest-requires g c = λ told.
    let e = c.in-Ok-host_in.ensures.extents in
    let same = c.host_in.ensures.reads.same told in
    (omega (arith, e.4, e.3 told, ap (λ h. length (bytes_now h)) same), subst IsQuiet (sym same) (c.requires told).1)

pub returns-in-Err-open_rest : goal.returns-in-Err-open_rest
returns-in-Err-open_rest g c =
    let back = c.close-in-Err-open_rest.ensures in
    let e = c.in-Ok.ensures in
    record {
      opened = λ told. tt;
      running = tt;
      sound = tt;
      extents = tt;
      fault = search rules;
      failed = search rules;
      active = subst (OnlyReads g.D.Disk c.args.active) (sym back) e.reads;
      resting = search rules;
      spool = search rules;
      twice = λ told. subst (λ d. g.D.Disk.reads d ≤ g.D.Disk.reads c.args.active + 2) (sym back) (e.twice told);
      once = λ told. subst (λ d. g.D.Disk.reads d ≤ g.D.Disk.reads c.args.spool + 1) (sym c.in-Err-open_rest.ensures.same.1) (c.host_in.ensures.once told);
    }

pub returns : goal.returns
returns g c = record {
  opened = λ told.
      let t = c.in-Ok.ensures.tells told in
      let host = content c.in-Ok-host_in.state in
      let front = c.deref.ensures.value ∙ t.7 ∙ ap (λ l. l ++ t.1) c.new-snapshot.ensures.items in
      let all = c.deref-in-Ok.ensures.value ∙ t.8 ∙ ap (λ l. l ++ t.2) c.new-found.ensures.items in
      let e = c.in-Ok-host_in.ensures in
      let size = e.extents.3 told ∙ ap (λ h. length (bytes_now h)) (sym (c.host_in.ensures.reads.same told)) in
      record {
        form = t.0;
        snapshot = t.1;
        payloads = t.2;
        is = t.5;
        journal = t.6;
        many = omega (arith, c.in-Ok.ensures.counted, ap length t.8, length-append c.new-found.result.items t.2);
        old = t.4;
        records = subst (λ v. told_by v t.1 t.2 ≡ Some host) t.3 (subst (λ s. told_by c.in-Ok.version s t.2 ≡ Some host) front
            (subst (λ ps. told_by c.in-Ok.version c.deref.result.now ps ≡ Some host) all c.in-Ok-host_in.ensures.host.0));
        spool = c.in-Ok-open_rest.ensures.tells (live host) e.host.2
            (λ _. subst (λ n. AllByRecursion (λ x. past x ≤ n) (live host)) size e.extents.2.within);
      };
  running = search rules;
  sound = search rules;
  extents = search rules;
  fault = λ told. tt;
  failed = tt;
  active = c.in-Ok.ensures.reads;
  resting = search rules;
  spool = search rules;
  twice = c.in-Ok.ensures.twice;
  once = λ told. subst (λ d. g.D.Disk.reads d ≤ g.D.Disk.reads c.args.spool + 1) (sym c.in-Ok-open_rest.ensures.same.1) (c.host_in.ensures.once told);
}
