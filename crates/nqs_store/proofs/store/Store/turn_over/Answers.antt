use Rattle.std.proofs.Common.{rules, ◌∙◌, refl, sym, ap}
use Rattle.nqs_types.specs.declared.world.Which.TheVariants.{Root}
use Rattle.nqs_journal.specs.Open as journal
use Rattle.nqs_store.proofs.Asking.{none_by}
use Rattle.nqs_store.proofs.Changed.{same_which}
use Rattle.nqs_store.proofs.Turned.{other_failed, other_cut, root_failed, root_cut, all_turned, turned_tells, turned_clear, other_at, root_at}
use Rattle.nqs_store.proofs.store.Store.turn_over.Goals as goal

pub returns-in-Err-clause-turns : goal.returns-in-Err-clause-turns
returns-in-Err-clause-turns g c = record {
  spool = refl;
  active = tt;
  told = λ told snapshot host is reads tells. tt;
  made = λ told snapshot host is. tt;
  past = λ told. tt;
  broken_off = λ told snapshot host is.
      other_failed c.args.self.now _ c.args.text.now snapshot host is c.begin_other.ensures.rest refl told refl c.in-Err.ensures.begins.short;
  cut = λ told snapshot host is reads tells which at.
      other_at c.args.self.now _ _ which (sym c.journal_disk.ensures ∙ same_which _ which at)
      (other_cut c.args.self.now _ c.args.text.now snapshot host is c.begin_other.ensures.rest refl told refl c.in-Err.ensures.begins.short tells);
}

pub returns-in-Err-name_journal-clause-turns : goal.returns-in-Err-name_journal-clause-turns
returns-in-Err-name_journal-clause-turns g c = record {
  spool = refl;
  active = tt;
  told = λ told snapshot host is reads tells. tt;
  made = λ told snapshot host is. tt;
  past = λ told. tt;
  broken_off = λ told snapshot host is.
      let broken = c.in-Err-name_journal.ensures.broken told in
      root_failed c.args.self.now _ c.args.text.now snapshot host is c.begin_other.ensures.rest refl told c.in-Ok.ensures.begins.done broken.0 broken.1
      broken.2;
  cut = λ told snapshot host is reads tells which at.
      let broken = c.in-Err-name_journal.ensures.broken told in
      root_at c.args.self.now _ _ which (same_which Root which at)
      (root_cut c.args.self.now _ c.args.text.now snapshot host is c.begin_other.ensures.rest refl told c.in-Ok.ensures.begins.done _ _ broken.0 broken.1
      broken.2 reads tells (c.in-Err-name_journal.ensures.exact told));
}

pub returns-in-Ok-name_journal-clause-turns : goal.returns-in-Ok-name_journal-clause-turns
returns-in-Ok-name_journal-clause-turns g c = record {
  spool = refl;
  active = search rules;
  told = λ told snapshot host is reads tells.
      turned_tells c.args.self.now _ c.args.text.now snapshot host is c.begin_other.ensures.rest refl told c.in-Ok.ensures.begins.done
      (c.in-Ok-name_journal.ensures.made told) refl reads tells;
  made = λ told snapshot host is.
      all_turned c.args.self.now _ c.args.text.now snapshot host is c.begin_other.ensures.rest refl told c.in-Ok.ensures.begins.done
      (c.in-Ok-name_journal.ensures.made told);
  past = λ told. record { other = turned_clear c.args.self.now (c.in-Ok.ensures.begins.done.clear told); root = c.in-Ok-name_journal.ensures.clear told };
  broken_off = λ told snapshot host is. tt;
  cut = λ told snapshot host is reads tells which at. absurd (let no : ⊥ = cc in no);
}

pub returns-in-Err-clause-unread : goal.returns-in-Err-clause-unread
returns-in-Err-clause-unread g c = none_by c.args.self.now _ c.args.self.now.on_second (λ yes. refl)
    (λ yes. ap (λ j. g.D.Disk.reads (journal.disk_of j)) c.begin_other.ensures.rest) c.begin_other.ensures.begins.unread (λ yes. refl)

pub returns-in-Err-name_journal-clause-unread : goal.returns-in-Err-name_journal-clause-unread
returns-in-Err-name_journal-clause-unread g c = none_by c.args.self.now _ c.args.self.now.on_second c.name_journal.ensures.unread
    (λ yes. ap (λ j. g.D.Disk.reads (journal.disk_of j)) c.begin_other.ensures.rest) c.begin_other.ensures.begins.unread (λ yes. refl)

pub returns-in-Ok-name_journal-clause-unread : goal.returns-in-Ok-name_journal-clause-unread
returns-in-Ok-name_journal-clause-unread g c = none_by c.args.self.now _ c.args.self.now.on_second c.name_journal.ensures.unread
    (λ yes. ap (λ j. g.D.Disk.reads (journal.disk_of j)) c.begin_other.ensures.rest) c.begin_other.ensures.begins.unread (λ yes. refl)
